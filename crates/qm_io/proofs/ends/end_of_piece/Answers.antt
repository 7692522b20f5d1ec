use Rattle.std.proofs.Common.{rules, List, arith, drop, length, length-drop, suc, take, ℕ, ◌+◌, ◌-◌, ◌<◌, ◌∷◌, ◌≡◌}
use Rattle.std.proofs.{lemmas.List.drop-drop, lemmas.List.take_rest}
use Rattle.memchr.specs.Find.{NoneBefore, Nowhere, Passes, is_byte}
use Rattle.{def_io.specs.Lines.pieces, qm_io.proofs.Cuts.pieces-first, qm_io.proofs.Cuts.pieces-none}
use Rattle.qm_io.proofs.ends.end_of_piece.Goals as goal

-- The piece ends behind the LF that was found.
ends_behind : (bs rest : List ℕ) (start k n : ℕ) → rest ≡ drop start bs
    → NoneBefore (Passes (is_byte 10) rest) 0 (length rest) k × Passes (is_byte 10) rest k → n ≡ start + k + 1
    → pieces (drop start bs) ≡ take (n - start) (drop start bs) ∷ pieces (drop n bs)
ends_behind bs rest start k n is found end =
    let many : n - start ≡ suc k = omega arith in
    let place : start + suc k ≡ n = omega arith in
    let first = pieces-first rest k found.0.high found.1 (λ j m. found.0.before j (omega arith) m) in
    cc (first, is, many, drop-drop (suc k) start bs, place)

pub returns-in-Some-clause-first : goal.returns-in-Some-clause-first
returns-in-Some-clause-first c = search (rules, ends_behind, take_rest)

pub returns-in-None-clause-first : goal.returns-in-None-clause-first
returns-in-None-clause-first c = search (rules, length-drop, pieces-none, take_rest)
