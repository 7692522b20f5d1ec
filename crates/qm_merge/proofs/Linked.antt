-- What lies across the side of a corner, where that is the whole of a side too.
use Rattle.std.proofs.Common.{rules}
use Rattle.std.proofs.Common.{◌≡◌, ◌↔◌, ℕ, suc, ◌-◌, Bool, true, false, not, Some, None, sym, ◌∙◌, ap, arith, Option}
use Rattle.std.proofs.Common.{refl, true≢false, ◌≢◌, ◌⊎◌, ◌+◌, ◌<◌, ◌≤◌, inl, inr, ◌*◌, List, length, get_or, set}
use Rattle.std.{proofs.Common.subst, proofs.Common.below_more, specs.Prelude.IfNone}
use Rattle.std.proofs.lemmas.List.{get_or_default, get_or-set_other, get_or-set_same, length-set}
use Rattle.std.proofs.lemmas.{Bool.false≢true, Bool.cases_eq, Bool.cases_lt, Option.same_Some}
use Rattle.{def_mesh.specs.HalfEdges.HalfEdges, def_mesh.specs.HalfEdges.IsQuadManifold, cut_laws.proofs.Rows.endless}
use Rattle.def_cut.specs.{Cuts.Cut, Cuts.IsCorner, Cuts.IsCut, Steps.easts}
use Rattle.def_merge.specs.Joins.{AreGlued, IsOnArc, IsWithout, IsJoinable, IsWholeSide}
use Rattle.merge_laws.proofs.{Sides.one_size, Sides.side_link, Joins.other_without, Joins.turned_arc}
use Rattle.qm_merge.specs.Links.{AreLinks, IsRound, at, AreSides, HasRoom, IsJoined}
use Rattle.qm_merge.specs.{Walks.IsNextCorner, declared.links.Links.Links, declared.links.Round.Round}
use Rattle.qm_merge.proofs.Rejoined.{corner_was, fourths_differ, near_closes, near_side, side_stays}
use Rattle.qm_merge.proofs.Rounds.{closes, next_is_corner, one_before}

-- A test of the contrary.
pub contrary : {P : Type 0} (b : Bool) → ((b ≡ true) ↔ P) → (not b ≡ true) ↔ (P → ⊥)
contrary true is = (λ y p. true≢false (sym y), λ none. absurd (none (is.0 refl)))
contrary false is = (λ y p. false≢true (is.1 p), λ none. refl)

module _ {mesh : HalfEdges} (laws : IsQuadManifold mesh) {cut : Cut} (full : IsCut mesh cut) {s t n : ℕ}
    (glued : AreGlued mesh cut s t n) {u : ℕ} (twin : mesh.twin s ≡ Some u) where
  -- The far side ends behind the twin.
  far_end : IsNextCorner mesh cut t (mesh.next u)
  far_end = grind (arith, glued.across 0 (n - 1))

  pub far_corner : IsCorner mesh cut (mesh.next u)
  far_corner = next_is_corner laws full far_end

  module _ {round : Round} (is : IsRound mesh cut (mesh.next u) round) where
    -- It begins at the corner before.
    pub far_is : round.fourth ≡ t
    far_is = one_before laws full (closes laws full is) far_end

    pub same_size : (links : Links) → AreLinks mesh cut links
        → at links.long.items round.fourth ≡ at links.long.items s
    same_size links are = ap (at links.long.items) far_is ∙ (one_size laws full
        (are.side t glued.far.corner.0 glued.far.corner) glued.far
        ∙ one_size laws full glued.near (are.side s glued.near.corner.0 glued.near.corner))

-- A fact for want of a value.
pub none_then : {X P Q : Type 0} (r : Option X) → IfNone r P → (P → Q) → IfNone r Q
none_then None h f = f h
none_then (Some x) h f = tt

-- An arc leaves dart by dart.

-- The first k of n edges have left: those are off, and others are as before.
pub record HaveLeft (mesh : HalfEdges) (cut rest : Cut) (s t n k : ℕ) : Type 0 where
  pub gone : (i j : ℕ) → i < k → i + suc j ≡ n → (rest (easts mesh s i) ≡ false) × (rest (easts mesh t j) ≡ false)
  pub kept : (d : ℕ) → ¬ IsOnArc mesh s t n d → rest d ≡ cut d

-- What one edge less is: d and its twin are off, and others are as before.
pub record IsLess (mesh : HalfEdges) (rest less : Cut) (d : ℕ) : Type 0 where
  pub gone : less d ≡ false
  pub twin : (e : ℕ) → mesh.twin d ≡ Some e → less e ≡ false
  pub off : (e : ℕ) → rest e ≡ false → less e ≡ false
  pub kept : (e : ℕ) → e ≢ d → mesh.twin d ≢ Some e → less e ≡ rest e

pub all_left : {mesh : HalfEdges} {cut rest : Cut} {s t n : ℕ} → HaveLeft mesh cut rest s t n n
    → IsWithout mesh cut rest s t n
all_left {mesh} {rest} {s} {t} {n} left = record { gone = λ d o. gone d _ o.1 o.2; kept = λ d l none. left.kept d none }
  where
    gone : (d k : ℕ) → k < n → (d ≡ easts mesh s k) ⊎ (d ≡ easts mesh t k) → rest d ≡ false
    gone d k l (inl e) = ap rest e ∙ (left.gone k (n - suc k) l (omega arith)).0
    gone d k l (inr e) = ap rest e ∙ (left.gone (n - suc k) k (omega arith) (omega arith)).1

module _ {mesh : HalfEdges} (laws : IsQuadManifold mesh) {cut : Cut} (full : IsCut mesh cut) {s t n : ℕ}
    (glued : AreGlued mesh cut s t n) where
  pub left_more : {rest less : Cut} {d k : ℕ} → k < n → d ≡ easts mesh s k → HaveLeft mesh cut rest s t n k
      → IsLess mesh rest less d → HaveLeft mesh cut less s t n (k + 1)
  left_more {less} {d} {k} l at left is = record {
    gone = λ i j li sum. elim (cases_eq i k) [
      | inl e ↦ (cc (e, at, is.gone), is.twin (easts mesh t j) (across j (omega arith)))
      | inr ne ↦ grind (arith, left.gone i j, is.off (easts mesh s i), is.off (easts mesh t j))
    ];
    kept = λ e none. is.kept e (λ same. none (k, l, inl (same ∙ at))) (λ tw.
        let far = same_Some e (easts mesh t (n - suc k)) (sym tw ∙ across (n - suc k) (omega arith)) in
        none (n - suc k, omega arith, inr far)) ∙ left.kept e none;
  }
    where
      across : (j : ℕ) → k + suc j ≡ n → mesh.twin d ≡ Some (easts mesh t j)
      across j e = cc (at, glued.across k j e)

  pub edge_twin : {d k : ℕ} → k < n → d ≡ easts mesh s k → (e : ℕ) × (mesh.twin d ≡ Some e)
  edge_twin {k} l at = (easts mesh t (n - suc k), cc (at, glued.across k (n - suc k) (omega arith)))

  pub leads_to : {d k : ℕ} → suc k < n → d ≡ easts mesh s k → (e : ℕ) × (mesh.twin (mesh.next d) ≡ Some e)
  leads_to {k} l at = (mesh.prev (easts mesh s (suc k)), cc (at, side_link laws full glued.near k l))

-- Tables of linked corners: how they are filled, and how they follow an arc that leaves.

-- What is read at a place of a table.
pub read_at : (xs : List ℕ) (d : ℕ) {r : ℕ} → r ≡ get_or xs d r → d < length xs → r ≡ at xs d
read_at xs d is l = is ∙ get_or_default xs d _ 0 l

module _ {mesh : HalfEdges} {cut : Cut} {next long : List ℕ} {c : ℕ} (low : c < mesh.count)
    (sides : AreSides mesh cut next long c) where
  -- One corner more, or a dart that is none.
  pub sides_more : {x m : ℕ} → IsWholeSide mesh cut c m → x ≡ mesh.next (easts mesh c (m - 1))
      → AreSides mesh cut (set next c x) (set long c m) (c + 1)
  sides_more {x} {m} side end = search rules

  pub sides_same : (IsCorner mesh cut c → ⊥) → AreSides mesh cut next long (c + 1)
  sides_same none = search rules

module _ {mesh : HalfEdges} (laws : IsQuadManifold mesh) {cut : Cut} (full : IsCut mesh cut) where
  -- No side is much longer than there are darts.
  pub side_few : {c n : ℕ} → IsWholeSide mesh cut c n → n ≤ mesh.count + 1
  side_few {c} {n} side = elim (cases_lt (mesh.count + 1) n) [
    | inl l ↦ absurd (endless laws full c side.corner.0 side.corner.2 (λ k h. side.inside k (omega (arith, h, l))))
    | inr h ↦ h
  ]

  module _ (links : Links) (are : AreLinks mesh cut links) where
    pub linked : (c : ℕ) → IsCorner mesh cut c → IsNextCorner mesh cut c (at links.next.items c)
    linked c corner = grind (arith, are.side c corner.0 corner)

    -- The tables have room for the corners of two patches that become one.
    pub has_room : {s t : ℕ} {near far : Round} → IsRound mesh cut s near → IsRound mesh cut t far → (limit : ℕ)
        → 2 * mesh.count + 2 < limit → HasRoom links near far limit
    has_room {near} {far} ones others limit few =
        let near_second = next_is_corner laws full ones.second in
        let far_second = next_is_corner laws full others.second in
        let near_fourth = next_is_corner laws full ones.fourth in
        let far_fourth = next_is_corner laws full others.fourth in
        let few_at : (c : ℕ) → IsCorner mesh cut c → at links.long.items c ≤ mesh.count + 1 =
        λ c corner. side_few (are.side c corner.0 corner) in
        omega (arith, few_at _ near_fourth, few_at _ far_second, few_at _ far_fourth, few_at _ near_second)

-- What stands in a table in which two places were set.
two_set : (xs : List ℕ) {ys : List ℕ} {a b x y : ℕ} → ys ≡ set (set xs a x) b y → (a ≡ b → ⊥) → a < length xs
    → b < length xs → (at ys a ≡ x) × (at ys b ≡ y) × ((c : ℕ) → (c ≡ a → ⊥) → (c ≡ b → ⊥) → at ys c ≡ at xs c)
two_set xs {a = a} {b} {x} {y} is ne la lb = search rules

-- When an arc leaves, its patches become one.

-- A side goes on over the end of the arc, and is as long as both.
grown : {mesh : HalfEdges} (laws : IsQuadManifold mesh) {cut rest : Cut} (full : IsCut mesh cut) {s t n : ℕ}
    → IsJoinable mesh cut s t n → IsWithout mesh cut rest s t n → {near far : Round} → IsRound mesh cut s near
    → IsRound mesh cut t far → (links : Links) → AreLinks mesh cut links → IsWholeSide mesh rest near.fourth
    (at links.long.items near.fourth + at links.long.items far.second) × (far.third ≡ mesh.next (easts mesh near.fourth
    (at links.long.items near.fourth + at links.long.items far.second - 1)))
grown laws full arc without {near} {far} ones others links are =
    let corner = next_is_corner laws full ones.fourth in
    let second = next_is_corner laws full others.second in
    near_side laws full arc without ones others (at links.long.items near.fourth) (at links.long.items far.second)
    (are.side near.fourth corner.0 corner) (are.side far.second second.0 second)

module _ {mesh : HalfEdges} (laws : IsQuadManifold mesh) {cut rest : Cut} (full : IsCut mesh cut) {s t n : ℕ}
    (arc : IsJoinable mesh cut s t n) (without : IsWithout mesh cut rest s t n) {near far : Round}
    (ones : IsRound mesh cut s near) (others : IsRound mesh cut t far) {old new : Links}
    (are : AreLinks mesh cut old) (joined : IsJoined old new near far) where
  -- The side from c as the new tables have it.
  there : (c : ℕ) → IsCorner mesh rest c → IsWholeSide mesh rest c (at new.long.items c)
      × (at new.next.items c ≡ mesh.next (easts mesh c (at new.long.items c - 1)))
  there c corner =
      let back = turned_arc laws full arc in
      let back_without = other_without without in
      let differ = fourths_differ laws full arc without ones others in
      let near_low = (next_is_corner laws full ones.fourth).0 in
      let far_low = (next_is_corner laws full others.fourth).0 in
      let long = two_set _ joined.long differ (omega (arith, are.longs)) (omega (arith, are.longs)) in
      let next = two_set _ joined.next differ (omega (arith, are.nexts)) (omega (arith, are.nexts)) in
      elim (cases_eq c near.fourth) [
        | inl e ↦ rw (e, long.0, next.0) (grown laws full arc without ones others old are)
        | inr a ↦ elim (cases_eq c far.fourth) [
          | inl e ↦ rw (e, long.1, next.1) (grown laws full back back_without others ones old are)
          | inr b ↦
              let was = corner_was laws full arc without c corner in
              rw (long.2 c a b, next.2 c a b) (
                side_stays laws full arc without c (at old.long.items c) corner (are.side c was.0 was)
                    (λ next. a (one_before laws full next (near_closes laws full arc without ones others)))
                    (λ next. b (one_before laws full next (near_closes laws full back back_without others ones))),
                are.after c was.0 was,
              )
        ]
      ]

  pub links_after : AreLinks mesh rest new
  links_after = search (rules, there)
