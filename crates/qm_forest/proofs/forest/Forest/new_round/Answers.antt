use Rattle.std.proofs.Common.{rules, ◌/◌, ◌∙◌, false, None, length, ap, arith}
use Rattle.{std.proofs.lemmas.List.length-replicate, def_forest.specs.Tables.ForestTables}
use Rattle.qm_forest.proofs.{Chosens.if_both, Chosens.round_begins, Withins.laminar, Withins.sound}
use Rattle.qm_forest.proofs.forest.Forest.new_round.Goals as goal

pub returns-clause-room : goal.returns-clause-room
returns-clause-room c =
    let near = ap (λ (t : ForestTables). length t.near) c.self.view_is in
    let up = ap (λ (t : ForestTables). length t.up) c.self.view_is in
    let made = c.empty_round.ensures in
    if_both c.empty_round.result made.marks made.left_out (λ round marks left. record {
      laminar = rw c.self.view_is at (laminar c.self.invariant);
      sound = (c.requires.0, sound c.requires.1 c.requires.2);
      marks = (let size = ap length marks ∙ length-replicate (c.len.result / 2) false in
          omega (arith, near, c.requires.2.darts, c.len.ensures, c.self.inside.tree.near.ok.0));
      left_out = ap length left ∙ (length-replicate c.len-2.result None
          ∙ omega (arith, up, c.len-2.ensures, c.self.inside.rings.up.ok.0));
    })

pub returns-clause-begun : goal.returns-clause-begun
returns-clause-begun c = search (rules, round_begins)
