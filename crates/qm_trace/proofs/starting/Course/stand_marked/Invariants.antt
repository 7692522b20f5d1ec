use Rattle.std.proofs.Common.{◌≡◌, ◌&&◌, ◌||◌, ℕ, length}
use Rattle.std.specs.List.{list_any, range_with_len}
use Rattle.{def_mesh.specs.Kinds.is_end, def_cut.specs.FullCut.is_on}

abbrev pub invariant-loop-d : Rattle.qm_trace.proofs.starting.Course.stand_marked.Given.invariant-loop-d
invariant-loop-d l = record {
  long : length l.stood.items ≡ length l.initial.stood.items;
  each : (v : ℕ) → is_on l.stood.items v ≡ (is_on l.initial.stood.items v
      || list_any (λ d. is_on l.self.marks.now d && is_end l.self.mesh.now v d) (range_with_len 0 l.d));
}
