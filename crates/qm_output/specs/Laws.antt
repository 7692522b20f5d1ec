-- What holds of one piece holds of pieces that are put one after the other.
use Rattle.std.proofs.Common.{◌≡◌, ℕ, ◌+◌, [], ◌∷◌, ◌++◌, length, Some}
use Rattle.std.proofs.Common.{None, add-zero, refl, sym, ◌∙◌, ap, subst, append_assoc, length-append}
use Rattle.std.proofs.lemmas.List.{append-nil}
use Rattle.std.proofs.Math.Nat.{add_assoc}
use Rattle.def_io.specs.Bytes.{Bytes, Told}
use Rattle.def_io.specs.Faults.{Rose}
use Rattle.def_io.specs.Moves.{took}
use Rattle.def_output.specs.Buffered.{Buffered, BrokeOff, PassedOn}
use Rattle.def_output.specs.Compared.{Compared, Differs, IsAlike}

-- Nothing more was taken.
took_nothing : (told : Told) → told ≡ took told []
took_nothing None = refl
took_nothing (Some all) = ap Some (sym (append-nil all))

-- Two pieces that were taken one after the other are one piece.
took_more : (told : Told) (s t : Bytes) → took (took told s) t ≡ took told (s ++ t)
took_more None s t = refl
took_more (Some all) s t = ap Some (append_assoc all s t)

-- What was sent of a text, and then of one behind it, was sent of both.
both_sent : (held kept s t sent more left : Bytes) → held ++ s ≡ sent ++ kept → kept ++ t ≡ more ++ left
    → held ++ (s ++ t) ≡ (sent ++ more) ++ left
both_sent held kept s t sent more left first second =
    sym (append_assoc held s t)
    ∙ ap (λ (xs : Bytes). xs ++ t) first
    ∙ append_assoc sent kept t
    ∙ ap (λ (xs : Bytes). sent ++ xs) second
    ∙ sym (append_assoc sent more left)

pub passed_nothing : (b : Buffered) → PassedOn b b []
passed_nothing b = record { sent = []; whole = append-nil b.held; moved = took_nothing b.taken; calm = refl }

pub passed_more : (a b c : Buffered) (s t : Bytes) → PassedOn a b s → PassedOn b c t → PassedOn a c (s ++ t)
passed_more a b c s t p q = record {
  sent = p.sent ++ q.sent;
  whole = both_sent a.held b.held s t p.sent q.sent c.held p.whole q.whole;
  moved = q.moved ∙ ap (λ (told : Told). took told q.sent) p.moved ∙ took_more a.taken p.sent q.sent;
  calm = q.calm ∙ p.calm;
}

pub broke_later : (a b c : Buffered) (s t : Bytes) → PassedOn a b s → BrokeOff b c t → BrokeOff a c (s ++ t)
broke_later a b c s t p q = record {
  sent = p.sent ++ q.sent;
  lost = q.lost;
  whole = both_sent a.held b.held s t p.sent q.sent q.lost p.whole q.whole;
  moved = q.moved ∙ ap (λ (told : Told). took told q.sent) p.moved ∙ took_more a.taken p.sent q.sent;
  fault = subst (λ (n : ℕ). Rose n c.faults) p.calm q.fault;
}

pub broke_before : (a b : Buffered) (s t : Bytes) → BrokeOff a b s → BrokeOff a b (s ++ t)
broke_before a b s t p = record {
  sent = p.sent;
  lost = p.lost ++ t;
  whole = sym (append_assoc a.held s t) ∙ ap (λ (xs : Bytes). xs ++ t) p.whole ∙ append_assoc p.sent p.lost t;
  moved = p.moved;
  fault = p.fault;
}

-- The number of bytes of two pieces.
both_counted : (a b c : ℕ) (s t : Bytes) → b ≡ a + length s → c ≡ b + length t → c ≡ a + length (s ++ t)
both_counted a b c s t first second =
    second
    ∙ ap (λ (n : ℕ). n + length t) first
    ∙ add_assoc a (length s) (length t)
    ∙ ap (λ (n : ℕ). a + n) (sym (length-append s t))

pub alike_nothing : (a : Compared) → IsAlike a a []
alike_nothing a = record { alike = refl; counted = sym (add-zero a.at) }

pub alike_more : (a b c : Compared) (s t : Bytes) → IsAlike a b s → IsAlike b c t → IsAlike a c (s ++ t)
alike_more a b c s t p q = record {
  alike = p.alike ∙ ap (λ (xs : Bytes). s ++ xs) q.alike ∙ sym (append_assoc s t c.rest);
  counted = both_counted a.at b.at c.at s t p.counted q.counted;
}

pub differs_later : (a b c : Compared) (s t : Bytes) → IsAlike a b s → Differs b c t → Differs a c (s ++ t)
differs_later a b c s t p q = record {
  prefix = s ++ q.prefix;
  byte = q.byte;
  more = q.more;
  said = ap (λ (xs : Bytes). s ++ xs) q.said ∙ sym (append_assoc s q.prefix (q.byte ∷ q.more));
  alike = p.alike ∙ ap (λ (xs : Bytes). s ++ xs) q.alike ∙ sym (append_assoc s q.prefix c.rest);
  lacks = q.lacks;
  counted = both_counted a.at b.at c.at s q.prefix p.counted q.counted;
}

pub differs_before : (a b : Compared) (s t : Bytes) → Differs a b s → Differs a b (s ++ t)
differs_before a b s t p = record {
  prefix = p.prefix;
  byte = p.byte;
  more = p.more ++ t;
  said = ap (λ (xs : Bytes). xs ++ t) p.said ∙ append_assoc p.prefix (p.byte ∷ p.more) t;
  alike = p.alike;
  lacks = p.lacks;
  counted = p.counted;
}

pub grown_nothing : (a : Bytes) → a ≡ a ++ []
grown_nothing a = sym (append-nil a)

pub grown_more : (a b c s t : Bytes) → b ≡ a ++ s → c ≡ b ++ t → c ≡ a ++ (s ++ t)
grown_more a b c s t p q = q ∙ ap (λ (xs : Bytes). xs ++ t) p ∙ append_assoc a s t
