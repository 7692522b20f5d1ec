use Rattle.std.proofs.{Common.◌≡◌, Common.length, Common.ap, Common.subst, Common.inl, Common.inr, Common.arith}
use Rattle.std.proofs.{lemmas.Bool.cases_lt, lemmas.List.length-map}
use Rattle.def_layout.specs.Layouts.{gluing_of, Layout}
use Rattle.{def_cut.specs.Grids.rectangle, def_remesh.specs.NewPoints.lengths_in, mesh_tests.specs.Fits.AreEven}
use Rattle.mesh_tests.proofs.lengths.are_even.Goals as goal

pub is_even-requires-clause-patch : goal.is_even-requires-clause-patch
is_even-requires-clause-patch c = omega (
  arith,
  c.loop-patch-test.true,
  c.len-patch-end.ensures,
  c.layout.result.now.patches.ok.0,
  ap (λ (p : Layout). length p.patches) c.layout.ensures.layout,
  length-map c.layout.result.now.patches.items rectangle,
)

pub loop-patch-preserved : goal.loop-patch-preserved
loop-patch-preserved c patch low = elim (cases_lt patch c.loop-patch.patch) [
  | inl less ↦ c.loop-patch.invariant patch less
  | inr more ↦
      let same : c.loop-patch.patch ≡ patch = omega arith in
      subst (AreEven (gluing_of c.args.cut.now.layout) (lengths_in c.args.lengths.now)) same
      (c.is_even.ensures c.if-not-is_even.false)
]

pub returns : goal.returns
returns c on patch low = c.loop-patch.invariant patch (omega (
  arith,
  low,
  c.loop-patch-test.false,
  c.len-patch-end.ensures,
  c.layout.result.now.patches.ok.0,
  ap (λ (p : Layout). length p.patches) c.layout.ensures.layout,
  length-map c.layout.result.now.patches.items rectangle,
))
