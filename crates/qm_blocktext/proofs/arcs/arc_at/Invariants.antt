use Rattle.std.proofs.Common.{◌≡◌, drop}
use Rattle.{qm_blocktext.specs.Gridded.arcs_of, std.specs.Prelude.slice_get}

abbrev pub invariant-loop-side : Rattle.qm_blocktext.proofs.arcs.arc_at.Given.invariant-loop-side
invariant-loop-side l = slice_get (arcs_of (drop l.side-index l.sides)) l.left ≡ slice_get (arcs_of l.sides) l.at
