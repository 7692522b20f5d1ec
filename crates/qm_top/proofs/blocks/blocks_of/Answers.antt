use Rattle.std.proofs.{Common.sym, Common.◌∙◌, Common.refl, lemmas.List.length-map}
use Rattle.qm_top.proofs.blocks.blocks_of.Goals as goal

pub invariant_of-result : goal.invariant_of-result
invariant_of-result c =
    let links = rw c.cut.ensures at c.in_ok-links.ensures in
    record {
      linked = sym (length-map c.in_ok-links.links.items (λ links. links.items)) ∙ links.blocks;
      even = c.requires.even;
    }

pub returns : goal.returns
returns c = record { told = refl; parts = refl; points = refl; links = rw c.cut.ensures at c.in_ok-links.ensures }
