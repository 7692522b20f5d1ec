use Rattle.std.proofs.Common.{sym, ◌∙◌, length, ap}
use Rattle.qm_stages.proofs.Positions.{arcs_long}
use Rattle.qm_stages.proofs.regridded.Regridded.new.Goals as goal

pub placer-requires : goal.placer-requires
placer-requires c = record {
  layout = rw (c.mesh.ensures, c.layout.ensures.layout) c.layout.ensures.laid;
  long = arcs_long c.layout.result.now c.layout.ensures.layout
      (ap length (sym c.requires.lengths) ∙ c.requires.numbering.long);
  lengths = rw (c.requires.lengths, ← c.layout.ensures.layout) at c.requires.numbering.lengths;
  few = rw (c.requires.lengths, ← c.layout.ensures.layout) at c.requires.numbering.few;
}

pub returns : goal.returns
returns c = λ i. record {
  soup = c.args.cut.soup;
  layout = c.args.cut.layout;
  lengths = c.requires.lengths i;
  shares = c.in_ok-places.ensures.shares i;
}
