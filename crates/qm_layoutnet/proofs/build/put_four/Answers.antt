use Rattle.{std.proofs.Common.rules, def_layout.specs.Gluings.south, def_layout.specs.Gluings.east}
use Rattle.{def_layout.specs.Gluings.north, def_layout.specs.Gluings.west, layout_laws.proofs.Uses.read_side}
use Rattle.qm_layoutnet.proofs.build.put_four.Goals as goal

pub put_ends-requires : goal.put_ends-requires
put_ends-requires c = search (rules, read_side, c.requires.uses south)

pub put_ends-requires-2 : goal.put_ends-requires-2
put_ends-requires-2 c = search (rules, read_side, c.requires.uses east)

pub put_ends-requires-3 : goal.put_ends-requires-3
put_ends-requires-3 c = search (rules, read_side, c.requires.uses north)

pub put_ends-requires-4 : goal.put_ends-requires-4
put_ends-requires-4 c = search (rules, read_side, c.requires.uses west)
