-- What waits names vertices alone, also when one is taken and when one more waits.
use Rattle.std.proofs.Common.{◌≡◌, ℕ, List, ◌∷◌, Option, Some, None, Result, Ok, Err, IsPermutation, IfNone, IfSome}
use Rattle.std.proofs.lemmas.List.Elements.{All-cons, All-same, All-tail}
use Rattle.std.specs.{Prelude.OnOk, Prelude.OnErr, List.All, declared.cmp.Reverse.Reverse}
use Rattle.{std.proofs.lemmas.List.Sorted.All-permutation, qm_fraction.specs.Known.IsKey}

module _ (Q : Type 0) (n : ℕ) (old new : List (Reverse ℕ × ℕ)) (keys : All (IsKey n) old) where
  pub keys_left : (popped : Option (Reverse ℕ × ℕ)) → IfSome popped (λ x. IsPermutation old (x ∷ new))
      → IfNone popped ((new ≡ old) × Q) → All (IsKey n) new
  keys_left (Some x) moved same = All-tail (IsKey n) x new (All-permutation (IsKey n) _ _ moved keys)
  keys_left None moved same = All-same (IsKey n) new old same.0 keys

  pub keys_more : {A B : Type 0} (x : Reverse ℕ × ℕ) (pushed : Result A B) → IsKey n x
      → OnOk pushed (IsPermutation (x ∷ old) new) → OnErr pushed ((new ≡ old) × Q) → All (IsKey n) new
  keys_more x (Ok a) low moved same = All-permutation (IsKey n) _ _ moved (All-cons (IsKey n) x old low keys)
  keys_more x (Err b) low moved same = All-same (IsKey n) new old same.0 keys
