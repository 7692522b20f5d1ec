use Rattle.def_remesh.specs.Numberings.{tables_of, AreRunStarts}
use Rattle.qm_stitch.specs.Sizes.{product_by}

abbrev pub invariant-loop-patch : Rattle.qm_stitch.proofs.build.patch_starts.Given.invariant-loop-patch
invariant-loop-patch l = AreRunStarts (product_by (tables_of l.sides) l.less) l.patch l.starts.begin.items
