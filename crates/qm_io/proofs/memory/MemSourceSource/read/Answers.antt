use Rattle.std.proofs.Common.{rules, List, ap, arith, drop, length, min, sym, take, ℕ, ◌++◌, ◌+◌, ◌-◌, ◌∙◌, ◌≡◌}
use Rattle.std.proofs.lemmas.List.{drop-drop, length-take-le, take-append-drop, take_rest}
use Rattle.std.proofs.Math.Seq.{take-append_seam}

-- What was copied to the front of the buffer, and the rest behind it, are what was left.
given : (bytes rest copied buf : List ℕ) (at n m : ℕ) → rest ≡ drop at bytes → n ≡ min m (length rest)
    → copied ≡ take n rest → drop at bytes ≡ take n (copied ++ drop n buf) ++ drop (at + n) bytes
given bytes rest copied buf at n m is few copy =
    let long : length copied ≡ n = ap length copy ∙ length-take-le n rest (omega arith) in
    let prefix : take n (copied ++ drop n buf) ≡ copied = search (rules, take, drop, take-append_seam) in
    cc (is, take-append-drop n rest, prefix, copy, drop-drop n at bytes)

pub returns-clause-gives : Rattle.qm_io.proofs.memory.MemSourceSource.read.Goals.returns-clause-gives
returns-clause-gives c = search (rules, take_rest, given)
