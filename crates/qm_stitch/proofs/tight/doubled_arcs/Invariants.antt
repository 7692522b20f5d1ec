use Rattle.std.proofs.Common.{◌≡◌, ◌↔◌, ◌<◌, ℕ, true, false, length, get_or}
use Rattle.qm_stitch.specs.{Lengthened.gluing_in, Lengthened.lengths_by, Tight.IsDoubledOn}

abbrev pub invariant-loop-arc : Rattle.qm_stitch.proofs.tight.doubled_arcs.Given.invariant-loop-arc
invariant-loop-arc l = record {
  long : length l.on.items ≡ l.arc;
  each : (a : ℕ) → a < l.arc
      → (get_or l.on.items a false ≡ true) ↔ IsDoubledOn (gluing_in l.keyed.numbered) (lengths_by l.keyed.numbered) a;
}
