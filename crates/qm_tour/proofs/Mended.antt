-- What a change of one key leaves of a tournament tree.
use Rattle.std.proofs.Common.{◌≡◌, ◌≢◌, ℕ, ◌+◌, ◌-◌, ◌*◌, ◌/◌, ◌^◌, ◌<◌, ◌≤◌, ◌⊎◌, List, length, get_or, sym, ◌∙◌, set}
use Rattle.std.proofs.Common.{replicate, drop, subst, ap, min, inl, inr, arith, zero, suc, refl}
use Rattle.std.proofs.lemmas.List.{drop-set-add, ext_get_or, get_or-drop, get_or-replicate, get_or-set_other}
use Rattle.std.proofs.lemmas.List.{get_or-set_same, length-drop, length-set, length-replicate}
use Rattle.std.proofs.{lemmas.Bool.cases_eq, lemmas.Bool.cases_lt, lemmas.Grind.get_or_default_zero}
use Rattle.qm_tour.specs.Trees.{HasSameLeaves, IsLeastBelow, IsTree, IsTreeBut, parent}

-- The least of some keys and one more is at most each.
pub low_more : (keys : List ℕ) {from k least new : ℕ} → ((j : ℕ) → from ≤ j → j < k → least ≤ get_or keys j 0)
    → new ≡ min least (get_or keys k 0) → (j : ℕ) → from ≤ j → j < k + 1 → new ≤ get_or keys j 0
low_more keys {from} {k} {least} {new} low is j high less = by_last (cases_lt j k)
  where
    by_last : (j < k) ⊎ (k ≤ j) → new ≤ get_or keys j 0
    by_last (inl lt) = let h : least ≤ get_or keys j 0 = low j high lt in omega (arith, is)
    by_last (inr ge) = let e : get_or keys j 0 ≡ get_or keys k 0 = ap (λ i. get_or keys i 0) (omega arith) in
        omega (arith, is)

-- It is one of them.
pub one_more : (keys : List ℕ) {from k least new : ℕ} → ((j : ℕ) × (from ≤ j) × (j < k) × (get_or keys j 0 ≡ least))
    → from ≤ k → new ≡ min least (get_or keys k 0) → (j : ℕ) × (from ≤ j) × (j < k + 1) × (get_or keys j 0 ≡ new)
one_more keys {from} {k} {least} {new} one high is = elim (cases_lt (get_or keys k 0) least) [
  | inl lt ↦ (k, high, omega arith, omega arith)
  | inr ge ↦ (one.0, one.1, omega (arith, one.2), one.3 ∙ omega arith)
]

-- Of a node that is not above the place of the new key, the key is the least as before.
pub still_least : {keys : List ℕ} (at value : ℕ) {k key : ℕ} → IsLeastBelow keys k key → parent at ≢ k
    → IsLeastBelow (set keys at value) k key
still_least {keys} at value {k} {key} least other =
    let size = length-set keys at value in
    let same = λ (child : ℕ) (is : parent child ≡ k). get_or-set_other keys at child value 0
    (λ e. other (ap parent (sym e) ∙ is)) in
    record {
      low = λ child low is. omega (arith, same child is, least.low child (omega arith) is);
      from = (least.from.0, omega (arith, least.from.1), least.from.2, same least.from.0 least.from.2 ∙ least.from.3);
    }

-- A new leaf leaves all nodes but that above it in order.
pub leaf_changed : {first : ℕ} {keys : List ℕ} → IsTree first keys → (at value : ℕ) → first ≤ at
    → IsTreeBut first (parent at) (set keys at value)
leaf_changed {first} {keys} tree at value high =
    let size = length-set keys at value in
    record {
      root = tree.root;
      few = omega (arith, tree.few);
      some = omega (arith, tree.some);
      wide = omega (arith, tree.wide);
      narrow = omega (arith, tree.narrow);
      nodes = λ k root low other. rw (get_or-set_other keys at k value 0 (omega arith))
          (still_least at value (tree.nodes k root low) (λ e. other (sym e)));
    }

-- So does a node that is mended.
pub node_mended : {first node least : ℕ} {keys : List ℕ} → IsTreeBut first node keys → IsLeastBelow keys node least
    → 5 ≤ node → node < first → IsTreeBut first (parent node) (set keys node least)
node_mended {first} {node} {least} {keys} tree is root low =
    let size = length-set keys node least in
    record {
      root = tree.root;
      few = omega (arith, tree.few);
      some = omega (arith, tree.some);
      wide = omega (arith, tree.wide);
      narrow = omega (arith, tree.narrow);
      nodes = λ k high less other. elim (cases_eq k node) [
        | inl e ↦ rw (e, get_or-set_same keys node least 0 (omega (arith, tree.some)))
            (still_least node least is (omega arith))
        | inr ne ↦ rw (get_or-set_other keys node k least 0 ne)
            (still_least node least (tree.nodes k high less ne) (λ e. other (sym e)))
      ];
    }

-- It changes no leaf.
pub leaves_kept : {first node : ℕ} (value : ℕ) {old keys : List ℕ} → HasSameLeaves first old keys → node < first
    → HasSameLeaves first old (set keys node value)
leaves_kept {first} {node} value {old} {keys} same low = record {
  size = length-set keys node value ∙ same.size;
  each = λ k high. get_or-set_other keys node k value 0 (omega (arith, high, low)) ∙ same.each k high;
}

-- The list of leaves with a new key.
pub leaf_set : {first : ℕ} (keys : List ℕ) {new : List ℕ} (leaf value : ℕ)
    → HasSameLeaves first (set keys (first + leaf) value) new → drop first new ≡ set (drop first keys) leaf value
leaf_set {first} keys {new} leaf value same = ext_get_or 0 (drop first new) (drop first changed) (length-drop first new
    ∙ (ap (λ n. n - first) same.size ∙ sym (length-drop first changed))) (λ k low. get_or-drop first new k 0
    ∙ (same.each (first + k) (omega arith) ∙ sym (get_or-drop first changed k 0))) ∙ drop-set-add first keys leaf value
  where
    changed : List ℕ
    changed = set keys (first + leaf) value

-- With the last node all are in order.
pub whole : {first but : ℕ} {keys : List ℕ} → IsTreeBut first but keys
    → (5 ≤ but → but < first → IsLeastBelow keys but (get_or keys but 0)) → IsTree first keys
whole {first} {but} {keys} tree at_but = record {
  root = tree.root;
  few = tree.few;
  some = tree.some;
  wide = tree.wide;
  narrow = tree.narrow;
  nodes = λ k high low. elim (cases_eq k but) [
    | inl e ↦ rw e (at_but (omega arith) (omega arith))
    | inr ne ↦ tree.nodes k high low ne
  ];
}

-- A tree without keys is in order.
pub blank : (room none : ℕ) → 1 ≤ room → room ≤ 2 ^ 32
    → IsTree ((room + 40) / 7) (replicate ((room + 40) / 7 + room) none)
blank room none some few = record {
  root = omega arith;
  few = subst (λ n. n ≤ 2 ^ 33) (sym size) (omega arith);
  some = subst (λ n. first < n) (sym size) (omega arith);
  wide = subst (λ n. n + 33 < 8 * first) (sym size) (omega arith);
  narrow = subst (λ n. 8 * first < n + 42) (sym size) (omega arith);
  nodes = λ k high low. subst (IsLeastBelow keys k) (sym (read k (omega arith))) (record {
    low = λ child less is. omega (arith, read child (subst (λ n. child < n) size less));
    from = (
      8 * k - 34,
      subst (λ n. 8 * k - 34 < n) (sym size) (omega arith),
      omega arith,
      read (8 * k - 34) (omega arith),
    );
  });
}
  where
    first : ℕ
    first = (room + 40) / 7

    keys : List ℕ
    keys = replicate (first + room) none

    size : length keys ≡ first + room
    size = length-replicate (first + room) none

    read : (i : ℕ) → i < first + room → get_or keys i 0 ≡ none
    read i low = get_or-replicate (first + room) i none 0 low

-- The root's key is at most each leaf's.

root_low : (fuel first : ℕ) (keys : List ℕ) → IsTree first keys → (k : ℕ) → k ≤ fuel → 5 ≤ k → k < length keys
    → get_or keys 5 0 ≤ get_or keys k 0
root_low zero first keys tree k l some low = absurd (omega arith)
root_low (suc fuel) first keys tree k l some low = elim (cases_eq k 5) [
  | inl e ↦ omega (arith, ap (λ j. get_or keys j 0) e)
  | inr ne ↦ (let node = (tree.nodes (parent k) (omega arith) (omega (arith, tree.wide))).low k low refl in
      omega (arith, root_low fuel first keys tree (parent k) (omega arith) (omega arith) (omega arith)))
]

-- The leaf that the root's key came from has the least key.
pub leaf_least : (first : ℕ) (keys leaves : List ℕ) → IsTree first keys → leaves ≡ drop first keys → (p : ℕ)
    → first ≤ p → p < length keys → get_or keys p 0 ≡ get_or keys 5 0 → (k d : ℕ) → k < length leaves
    → get_or leaves (p - first) 0 ≤ get_or leaves k d
leaf_least first keys leaves tree is p high low least k d lk =
    let size : length leaves + first ≡ length keys = ap (λ (xs : List ℕ). length xs + first) is
    ∙ omega (arith, length-drop first keys, tree.some) in
    let left : get_or leaves (p - first) 0 ≡ get_or keys p 0 = ap (λ (xs : List ℕ). get_or xs (p - first) 0) is
    ∙ (get_or-drop first keys (p - first) 0 ∙ ap (λ j. get_or keys j 0) (let e : first + (p - first) ≡ p =
    omega arith in e)) in
    let right : get_or leaves k d ≡ get_or keys (first + k) 0 = get_or_default_zero leaves k d lk
    ∙ (ap (λ (xs : List ℕ). get_or xs k 0) is ∙ get_or-drop first keys k 0) in
    let root : get_or keys 5 0 ≤ get_or keys (first + k) 0 =
    root_low (first + k) first keys tree (first + k) (omega arith) (omega (arith, tree.root)) (omega arith) in
    omega arith
