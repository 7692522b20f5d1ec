-- What taking, giving and writing a node do to the identities that are not live.
use Rattle.std.proofs.{lemmas.Grind.common_steps, Math.ListN.set, lemmas.List.get_or-replicate}
use Rattle.std.proofs.{lemmas.List.length-replicate, lemmas.List.Sums.sum_by-set, lemmas.List.Folds.sum_by-replicate}
use Rattle.std.proofs.Common.{rules, ◌≡◌, ℕ, ◌+◌, ◌-◌, ◌<◌, ◌≤◌, ◌^◌, List, length, get_or, cond, count_by, is_some}
use Rattle.std.proofs.Common.{Option, Some, None, replicate, arith}
use Rattle.std.proofs.lemmas.Option.{slice_get_within, get_or_from_slice_get, slice_get-get_or}
use Rattle.{std.specs.Prelude.slice_get, qm_pool.specs.Free.AreFree, qm_pool.specs.declared.pool.Node.Node}

-- 1 for a node, 0 for none.
abbrev number_of : Option Node → ℕ
number_of o = cond (is_some o) 1 0

-- How a write changes the number of places with a node.
pub count_by-set : (nodes : List (Option Node)) (k : ℕ) (y : Option Node) → k < length nodes
    → count_by is_some (set nodes k y) + number_of (get_or nodes k None) ≡ count_by is_some nodes + number_of y
count_by-set nodes k y low = sum_by-set number_of nodes k y None low

-- A place with a node counts.
pub some_live : (nodes : List (Option Node)) (k : ℕ) (n : Node) → k < length nodes → get_or nodes k None ≡ Some n
    → 1 ≤ count_by is_some nodes
some_live nodes k n low is = grind (arith, common_steps)

-- There is room on the stack for an identity that ends.
pub left_low : (nodes : List (Option Node)) (free : List ℕ) (left k : ℕ) (n : Node) → AreFree nodes free left
    → slice_get nodes k ≡ Some (Some n) → left < length free
left_low nodes free left k n are at = search (rules, some_live, slice_get_within, get_or_from_slice_get)

-- A node that is written over another leaves the same identities free.
pub still_free : (nodes : List (Option Node)) (free : List ℕ) (left k : ℕ) (old new : Node) → AreFree nodes free left
    → slice_get nodes k ≡ Some (Some old) → AreFree (set nodes k (Some new)) free left
still_free nodes free left k old new are at = search (rules, slice_get_within, get_or_from_slice_get, count_by-set)

-- Taking the last identity of the stack.
pub taken_free : (nodes : List (Option Node)) (free : List ℕ) (left id : ℕ) (n : Node) → AreFree nodes free left
    → 0 < left → id ≡ get_or free (left - 1) 0 → AreFree (set nodes id (Some n)) free (left - 1)
taken_free nodes free left id n are some id_is = search (rules, count_by-set)

-- An identity that ends goes onto the stack.
pub given_free : (nodes : List (Option Node)) (free : List ℕ) (left id : ℕ) (n : Node) → AreFree nodes free left
    → slice_get nodes id ≡ Some (Some n) → AreFree (set nodes id None) (set free left id) (left + 1)
given_free nodes free left id n are at = search (rules, count_by-set, slice_get_within, get_or_from_slice_get)

-- All identities of a new pool.
pub fresh_free : (nodes : List (Option Node)) (free : List ℕ) (room : ℕ) → room < 2 ^ 32 → nodes ≡ replicate room None
    → length free ≡ room → ((k : ℕ) → k < room → get_or free k 0 ≡ k) → AreFree nodes free room
fresh_free nodes free room few is size each = search (rules, length-replicate, sum_by-replicate, get_or-replicate)

-- What is found at an identity that is taken.
pub taken_empty : (nodes : List (Option Node)) (free : List ℕ) (left id : ℕ) → AreFree nodes free left → 0 < left
    → id ≡ get_or free (left - 1) 0 → slice_get nodes id ≡ Some None
taken_empty nodes free left id are some id_is = search (rules, slice_get-get_or)
