use Rattle.std.proofs.Common.{◌≡◌, ◌<◌, ℕ, false, get_or, eqb}

abbrev pub invariant-loop-i : Rattle.qm_scan.proofs.bytes.find_byte.Given.invariant-loop-i
invariant-loop-i l = (k : ℕ) → k < l.i → eqb (get_or l.text k 0) l.wanted ≡ false
