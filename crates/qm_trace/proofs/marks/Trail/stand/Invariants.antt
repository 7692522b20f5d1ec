use Rattle.std.proofs.Common.{◌≡◌, ◌||◌, eqb, ℕ, length, take}
use Rattle.{std.specs.List.list_any, def_mesh.specs.Darts.to_of, def_cut.specs.FullCut.is_on}

abbrev pub invariant-loop-d : Rattle.qm_trace.proofs.marks.Trail.stand.Given.invariant-loop-d
invariant-loop-d l = record {
  long : length l.stood.items ≡ length l.initial.stood.items;
  each : (v : ℕ) → is_on l.stood.items v ≡ (is_on l.initial.stood.items v
      || list_any (λ d. eqb (to_of l.self.mesh.now d) v) (take l.d-index l.self.darts.now));
}
