use Rattle.std.proofs.Common.{◌≡◌, ◌<◌, ◌||◌, ℕ, suc, false, length, take, get_or}
use Rattle.std.specs.{Prelude.◌==◌, List.list_any}

abbrev pub invariant-loop-corner : Rattle.qm_obj.proofs.used.mark_face.Given.invariant-loop-corner
invariant-loop-corner l = (k : ℕ) → k < length l.initial.marks → get_or l.marks k false
    ≡ (get_or l.initial.marks k false || list_any (λ corner. corner == suc k) (take l.corner-index l.face))
