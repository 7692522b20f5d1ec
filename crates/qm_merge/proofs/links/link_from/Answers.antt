use Rattle.std.proofs.Common.{rules}
use Rattle.std.proofs.{Common.sym, Common.◌∙◌, lemmas.Bool.false≢true}
use Rattle.qm_merge.proofs.Linked.{sides_more, sides_same}
use Rattle.qm_merge.proofs.links.link_from.Goals as goal

pub returns-then-is_corner-clause-sides : goal.returns-then-is_corner-clause-sides
returns-then-is_corner-clause-sides c = search (rules, sides_more)

pub returns-else-is_corner-clause-sides : goal.returns-else-is_corner-clause-sides
returns-else-is_corner-clause-sides c = search (rules, sides_same c.requires.dart c.requires.sides)
