-- Texts that grow at their end.
use Rattle.std.proofs.Common.{◌≡◌, ℕ, ◌+◌, List, [], ◌∷◌, ◌++◌, sym}
use Rattle.std.proofs.{lemmas.List.append_assoc, lemmas.List.append-nil, lemmas.Grind.flat_map-append}
use Rattle.{std.specs.List.flat_map, std.specs.List.range_with_len, list_laws.proofs.Filters.range_more}

-- Text b is text a with ys behind it.
pub behind : (t xs ys : List ℕ) {a b : List ℕ} → a ≡ t ++ xs → b ≡ a ++ ys → b ≡ t ++ (xs ++ ys)
behind t xs ys p q = cc (q, p, append_assoc t xs ys)

-- A text is itself with nothing behind it.
pub nothing_behind : (t : List ℕ) → t ≡ t ++ []
nothing_behind t = sym (append-nil t)

-- Text b has one piece more than text a.
pub piece_behind : (f : ℕ → List ℕ) (n : ℕ) (t : List ℕ) {a b : List ℕ}
    → a ≡ t ++ flat_map f (range_with_len 0 n) → b ≡ a ++ f n → b ≡ t ++ flat_map f (range_with_len 0 (n + 1))
piece_behind f n t p q = cc (behind t (flat_map f (range_with_len 0 n)) (f n) p q, more)
  where
    more : flat_map f (range_with_len 0 (n + 1)) ≡ flat_map f (range_with_len 0 n) ++ f n
    more = cc (range_more n, flat_map-append f (range_with_len 0 n) (n ∷ []), append-nil (f n))
