-- A vertex is inner where the two edges at each of its corners have two darts.
use Rattle.std.proofs.Common.{rules, ◌≡◌, ℕ, ◌<◌, Bool, true, false, not, ◌||◌, cond, List, length, get_or, Some, None}
use Rattle.std.proofs.Common.{eqb, is_some, sym, ◌∙◌, inl, inr, arith, refl, zero, suc, ◌+◌, ◌≤◌, ap}
use Rattle.std.proofs.lemmas.Bool.{cases_Bool, or_left, or_right, or_cases, eqb-true, eq-eqb, ne_eqb}
use Rattle.std.proofs.lemmas.Bool.{false≢true, false_from_ne_true}
use Rattle.std.proofs.{lemmas.List.FromFn.length-range_with_len, lemmas.List.FromFn.get_or-range_with_len}
use Rattle.std.proofs.{lemmas.List.Sums.list_all-from_AllPass, lemmas.List.Folds.list_all_at, lemmas.Grind.common_steps}
use Rattle.def_mesh.specs.Manifold.{HasEdgesOnce, IsManifold, IsRepeatFree, Chain, HasOneFan}
use Rattle.def_mesh.specs.Darts.{darts, all_darts, next_of, prev_of, twin_of, from_of, IsTwin}
use Rattle.def_mesh.specs.{Faces.Faces, Kinds.is_end, Kinds.is_inner, Faults.IsFirstTwoFans}
use Rattle.qm_mesh.specs.Pairs.{ArePartners, AreAllPaired, HasAlone, IsPaired, IsAlone, IsPartner}
use Rattle.qm_mesh.specs.Turns.{behind, beside_of, IsSeen, Reaches, IsVisit}
use Rattle.qm_mesh.specs.Tables.{HasTables, NamesBelow}
use Rattle.mesh_laws.proofs.Chains.{before_from, twin_differs, Step, neighbour_step, step_back, step_vertex}
use Rattle.mesh_laws.proofs.Chains.{step_neighbour, step_once, chain_low, chain_vertex, chain_join, chain_back}
use Rattle.mesh_laws.proofs.Chains.{next_of_low, prev_of_low, prev_of-next_of, next_of-prev_of, IsFan, twin_found}
use Rattle.mesh_laws.proofs.Chains.{twin_none}
use Rattle.{std.specs.Bool.MatchBool, list_laws.proofs.Filters.last_or, smallvec.specs.SmallVec.SmallVec}

or_if : (a b : Bool) → (a ≡ true → b ≡ true) → (not a || b) ≡ true
or_if a b h = grind arith

-- What the table has for a dart.
pub partner_is : (faces : Faces) → IsRepeatFree faces → HasEdgesOnce faces → (d t : ℕ) → d < darts faces
    → IsPartner faces d t → twin_of faces d ≡ cond (eqb t d) None (Some t)
partner_is faces free once d t l (inl is) = search (rules, twin_found)
partner_is faces free once d t l (inr none) = rw (eq-eqb t d none.0) (twin_none faces d none.1)

module _ {faces : Faces} {twins : List ℕ} (m : IsManifold faces) (p : ArePartners faces twins) where
  twin_by : (d : ℕ) → d < darts faces → twin_of faces d ≡ cond (eqb (get_or twins d 0) d) None (Some (get_or twins d 0))
  twin_by d l = partner_is faces m.repeat_free m.edges_once d (get_or twins d 0) l (p.each d l)

  paired : (d : ℕ) → d < darts faces → IsPaired twins d → is_some (twin_of faces d) ≡ true
  paired d l ne = rw (twin_by d l, ne_eqb (get_or twins d 0) d ne) refl

  not_inner : (v d : ℕ) → d < darts faces → is_end faces v d ≡ true → IsAlone twins d → is_inner faces v ≡ false
  not_inner v d l e alone =
      let at : get_or (all_darts faces) d 0 ≡ d = get_or-range_with_len 0 (darts faces) d 0 l ∙ omega arith in
      let none : is_some (twin_of faces d) ≡ false = rw (twin_by d l, eq-eqb (get_or twins d 0) d alone) refl in
      list_all_at (λ k. not (is_end faces v k) || is_some (twin_of faces k)) (all_darts faces) d 0
      (omega (arith, length-range_with_len 0 (darts faces))) (rw (at, e, none) refl)

  pub inner_is : (v : ℕ) (fan : List ℕ) → IsFan faces v fan → (b : Bool)
      → MatchBool b (AreAllPaired twins fan) (HasAlone twins fan) → b ≡ is_inner faces v
  inner_is v fan h true all =
      sym (list_all-from_AllPass (λ d. not (is_end faces v d) || is_some (twin_of faces d)) (all_darts faces) (λ k x n.
      let l : k < darts faces = omega (arith, length-range_with_len 0 (darts faces)) in
      let at : get_or (all_darts faces) k x ≡ k = get_or-range_with_len 0 (darts faces) k x l ∙ omega arith in
      rw at (or_if (is_end faces v k) _ (λ e. elim (or_cases _ _ e) [
        | inl s ↦ let q = h.place k l (eqb-true _ _ s) in
            rw (← q.2) (paired (get_or fan q.0 0) (h.dart q.0 q.1) (all q.0 q.1).0)
        | inr s ↦ let q = h.place (next_of k) (next_of_low faces k l) (eqb-true _ _ s) in
            rw (← prev_of-next_of k, ← q.2) (paired (prev_of (get_or fan q.0 0))
            (prev_of_low faces _ (h.dart q.0 q.1)) (all q.0 q.1).1)
      ]))))
  inner_is v fan h false (t, l, one) = sym (elim one [
    | inl a ↦ not_inner v (get_or fan t 0) (h.dart t l) (or_left _ _ (eq-eqb _ _ (h.leaves t l))) a
    | inr a ↦ not_inner v (prev_of (get_or fan t 0)) (prev_of_low faces _ (h.dart t l))
        (or_right _ _ (eq-eqb _ _ (before_from faces (get_or fan t 0) ∙ h.leaves t l))) a
  ])

-- Reaches by the table of partners against chains of neighbours: a vertex has one fan where turns from one corner reach
-- all.

-- A corner that is found behind an edge is there by the edge's twin.
crossed : (faces : Faces) (left : Bool) (edge t e : ℕ) → IsPartner faces edge t → behind left edge t ≡ Some e
    → IsTwin faces edge t × (cond left t (next_of t) ≡ e)
crossed faces left h1 h2 = search (rules, eq-eqb)

module _ {faces : Faces} {twins : List ℕ} (p : ArePartners faces twins) where
  -- What the table of partners says is beside a corner is beside it, and all that.
  beside_found : (left : Bool) (d e : ℕ) → d < darts faces → beside_of left twins d ≡ Some e
      → Step faces left d e × (e < darts faces)
  beside_found true d e l b =
      let (is, s) = crossed faces true (prev_of d) _ e (p.each (prev_of d) (prev_of_low faces d l)) b in
      rw (← s) (is, is.0)
  beside_found false d e l b =
      let t = get_or twins d 0 in
      let (is, s) = crossed faces false d t e (p.each d l) b in
      let back : prev_of e ≡ t = ap prev_of (sym s) ∙ prev_of-next_of t in
      (rw back (l, sym is.2, sym is.1), rw (← s) (next_of_low faces t is.0))

  module _ (once : HasEdgesOnce faces) where
    -- The twin of a dart is its partner, and another dart.
    partner_of : (d e : ℕ) → d < darts faces → IsTwin faces d e → get_or twins d 0 ≡ e
    partner_of d e l is = elim (p.each d l) [
      | inl q ↦ once (get_or twins d 0) e q.0 is.0 (q.1 ∙ sym is.1, q.2 ∙ sym is.2)
      | inr none ↦ absurd (none.1 e is)
    ]

    beside_all : IsRepeatFree faces → (left : Bool) (d e : ℕ) → d < darts faces → e < darts faces
        → Step faces left d e → beside_of left twins d ≡ Some e
    beside_all free true d e l h s =
        let low = prev_of_low faces d l in
        rw (partner_of (prev_of d) e low s, ne_eqb e (prev_of d) (twin_differs faces free (prev_of d) e low s)) refl
    beside_all free false d e l h s =
        let is : IsTwin faces d (prev_of e) = (prev_of_low faces e h, sym s.2, sym s.1) in
        rw (partner_of d (prev_of e) l is, ne_eqb (prev_of e) d (twin_differs faces free d (prev_of e) l is))
        (ap Some (next_of-prev_of e))

  -- Turns are a chain.
  turns_chain : (d e n : ℕ) → d < darts faces → Reaches twins d e n → (k : ℕ) × Chain faces d e k
  turns_chain d e zero l t = (0, t)
  turns_chain d e (suc n) l t =
      let c = turns_chain d t.0 n l t.1 in
      let s = beside_found t.2.0 t.0 e (chain_low faces d t.0 c.0 l c.1) t.2.1 in
      (suc c.0, (t.0, c.1, s.1, step_vertex faces t.2.0 t.0 e s.0, step_neighbour faces t.2.0 t.0 e s.0))

-- The vertices before v have one fan each, and only their corners are marked.
pub record AreChecked (faces : Faces) (v : ℕ) (seen : List Bool) : Type 0 where
  pub long : length seen ≡ darts faces
  pub marks : (d : ℕ) → d < darts faces → IsSeen seen d → from_of faces d < v
  pub one_fan : (u : ℕ) → u < v → HasOneFan faces u

-- No corner at v is marked before its visit.
pub not_seen : (faces : Faces) (v : ℕ) (seen : List Bool) → AreChecked faces v seen → (d : ℕ) → d < darts faces
    → from_of faces d ≡ v → get_or seen d false ≡ false
not_seen faces v seen c d l e = false_from_ne_true (get_or seen d false) (λ t. absurd (omega (arith, c.marks d l t, e)))

-- What a visit of the vertex v found, against the faces.
module _ {faces : Faces} {fans : List (SmallVec ℕ)} {twins table : List ℕ} {v : ℕ} {fan : List ℕ} {old new : List Bool}
    (tables : HasTables faces fans twins) (is_fan : IsFan faces v fan) (used : 0 < length fan)
    (before : AreChecked faces v old) (long : length new ≡ darts faces) (table_is : table ≡ twins)
    (found : IsVisit table (get_or fan 0 0) old new) where
  visit : IsVisit twins (get_or fan 0 0) old new
  visit = rw table_is at found

  low : get_or fan 0 0 < darts faces
  low = is_fan.dart 0 used

  -- A chain from the first corner stays within the marks.
  stays : (e n : ℕ) → Chain faces (get_or fan 0 0) e n → IsSeen new e
  stays e zero c = rw (← c) visit.started
  stays e (suc n) c =
      let (k, chain, high, same, near) = c in
      let l = chain_low faces (get_or fan 0 0) k n low chain in
      let s = stays k n chain in
      let at = sym (chain_vertex faces (get_or fan 0 0) k n chain) ∙ is_fan.leaves 0 used in
      elim (neighbour_step faces tables.once k e l high same near) [
        | inl q ↦ rw (← q) s
        | inr t ↦ elim (visit.closed t.0 k s (not_seen faces v old before k l at)) [
          | inl closed ↦ closed e (beside_all tables.partners tables.once tables.repeat_free t.0 k e l high t.1)
          | inr h ↦
              let m = seen_low faces new h.0 long h.1 in
              let f = beside_found tables.partners (not t.0) h.0 k m h.2 in
              rw (← step_once faces tables.once t.0 k h.0 e l m high (step_back faces t.0 h.0 k f.0) t.1) h.1
        ]
      ]
    where
      seen_low : (faces : Faces) (seen : List Bool) (d : ℕ) → length seen ≡ darts faces → IsSeen seen d
          → d < darts faces
      seen_low faces seen d e s = grind (arith, common_steps)

  -- A vertex with one fan: all of it is marked.
  pub checked_more : ((t : ℕ) → t < length fan → IsSeen new (get_or fan t 0)) → AreChecked faces (v + 1) new
  checked_more all = record {
    long = long;
    marks = λ d l s. elim (cases_Bool (get_or old d false)) [
      | inl o ↦ omega (arith, before.marks d l o)
      | inr o ↦ let k = reached d s o in
          omega (arith, chain_vertex faces (get_or fan 0 0) d k.0 k.1, is_fan.leaves 0 used)
    ];
    one_fan = λ u l. elim (last_or v u l) [
      | inl b ↦ before.one_fan u b
      | inr s ↦ rw s (λ d e l high at end.
          let a = at_v d l at in
          let b = at_v e high end in
          let c = chain_back faces (get_or fan 0 0) d a.0 low a.1 in
          chain_join faces d (get_or fan 0 0) e c.0 b.0 c.1 b.1)
    ];
  }
    where
      reached : (d : ℕ) → IsSeen new d → get_or old d false ≡ false → (k : ℕ) × Chain faces (get_or fan 0 0) d k
      reached d s o = let t = visit.reached d s o in turns_chain tables.partners (get_or fan 0 0) d t.0 low t.1

      at_v : (d : ℕ) → d < darts faces → from_of faces d ≡ v → (k : ℕ) × Chain faces (get_or fan 0 0) d k
      at_v d l e = let p = is_fan.place d l e in
          reached d (rw (← p.2) (all p.0 p.1)) (not_seen faces v old before d l e)

  -- A vertex with more: some of its fan is not.
  pub two_fans_first : (t : ℕ) × (t < length fan) × (get_or new (get_or fan t 0) false ≡ false) → IsFirstTwoFans faces v
  two_fans_first (t, l, unseen) = record {
    two_fans = λ one. let c = one (get_or fan 0 0) (get_or fan t 0) low (is_fan.dart t l)
        (is_fan.leaves 0 used) (is_fan.leaves t l) in
        false≢true (sym unseen ∙ stays (get_or fan t 0) c.0 c.1);
    least = before.one_fan;
  }

-- Vertices past the last have no corners.
pub one_fan_all : (faces : Faces) (n v : ℕ) (seen : List Bool) → NamesBelow n faces → n ≤ v → AreChecked faces v seen
    → (u : ℕ) → HasOneFan faces u
one_fan_all faces n v seen within l c u d e low high at end =
    c.one_fan u (omega (arith, within d low, at)) d e low high at end
