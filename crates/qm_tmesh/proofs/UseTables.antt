-- The uses of arcs: a side as it grows, and the table of where they begin.
use Rattle.std.proofs.lemmas.Grind.{common_steps}
use Rattle.std.proofs.Common.{rules, ◌≡◌, ◌⊎◌, ℕ, zero, suc, ◌+◌, ◌-◌, ◌<◌, ◌≤◌, Bool, true, false, List, [], ◌∷◌, ◌++◌}
use Rattle.std.proofs.Common.{length, get_or, set, Option, Some, None, ◌∙◌, ap, refl, subst, inl, inr, arith}
use Rattle.std.proofs.lemmas.List.{get_or_append_left, get_or_push, get_or-set_same, get_or-set_other, length_push}
use Rattle.std.proofs.{lemmas.List.length-set, lemmas.Bool.cases_eq, lemmas.Bool.cases_lt}
use Rattle.def_layout.specs.{Arcs.Path, Arcs.long_at, Arcs.IsRun, Arcs.path_at, Arcs.dart_at, Arcs.name_at, Arcs.LiesAt}
use Rattle.def_layout.specs.{declared.tmesh.SideArc.SideArc, Nodes.is_node}
use Rattle.qm_tmesh.specs.{Uses.use_in, Uses.AreNamed, Uses.HasUsesBelow, Uses.HasUses, Sides.reach_in, Sides.IsSplit}
use Rattle.qm_tmesh.specs.{Sides.IsSideSoFar, Tables.IsMarked, Tables.IsNamedRun, Arcs.AreArcsBelow}
use Rattle.def_mesh.specs.{Faces.Faces, Darts.darts, Darts.from_of, Darts.twin_of, HalfEdges.HalfEdges}
use Rattle.def_mesh.specs.{HalfEdges.half_edges}
use Rattle.def_cut.specs.{FullCut.is_on, Grids.Rectangle, Grids.IsPartition, Steps.easts}
use Rattle.cut_laws.proofs.{Folds.twin_same, Pigeon.increasing_place}
use Rattle.layout_laws.specs.Named.{run_name}
use Rattle.layout_laws.proofs.{Borders.each_in_run, Runs.none_or, Runs.run_low, Runs.run_inner, Runs.same_place}
use Rattle.layout_laws.proofs.{Runs.same_length, Runs.back_run, Uses.run_long, Uses.run_entry, Uses.named_or_back}
use Rattle.qm_tmesh.proofs.{ArcTables.named_low, ArcTables.named_some, Walks.name_dart, Walks.name_low}
use Rattle.{sum_laws.proofs.Sums.count_below_same, list_laws.proofs.Filters.last_or}

use_front : (used : List SideArc) (u : SideArc) (k : ℕ) → k < length used → use_in (used ++ u ∷ []) k ≡ use_in used k
use_front used u k l = get_or_append_left used (u ∷ []) _ k l

use_end : (used : List SideArc) (u : SideArc) → use_in (used ++ u ∷ []) (length used) ≡ u
use_end used u = get_or_push used u _ (length used) refl

reach_front : (arcs : List Path) (used : List SideArc) (u : SideArc) (k : ℕ) → k ≤ length used
    → reach_in arcs (used ++ u ∷ []) k ≡ reach_in arcs used k
reach_front arcs used u k h = search (rules, count_below_same, use_front)

reach_end : (arcs : List Path) (used : List SideArc) (u : SideArc)
    → reach_in arcs (used ++ u ∷ []) (length (used ++ u ∷ [])) ≡ reach_in arcs used (length used) + long_at arcs u.arc
reach_end arcs used u = search (rules, length_push, use_end, reach_front)

pub side_more : {arcs : List Path} {uses : List SideArc} {line : List ℕ} {begins : ℕ → Bool} {t next : ℕ}
    {used : List SideArc} {u : SideArc} → IsSplit arcs uses line begins → IsSideSoFar arcs uses line begins t used
    → t < length line → u ≡ use_in uses (get_or line t 0) → next ≡ t + long_at arcs u.arc
    → IsSideSoFar arcs uses line begins next (used ++ u ∷ [])
side_more {arcs} {uses} {line} {begins} {t} {next} {used} {u} split so l is on =
    search (rules, reach_end, reach_front, use_front, length_push, use_end)

-- One dart lies at each place of a list of darts, or of their twins.
lies_once : (mesh : HalfEdges) (darts : List ℕ) (f : Bool) (k d e : ℕ) → LiesAt mesh darts f k d
    → LiesAt mesh darts f k e → e ≡ d
lies_once mesh darts true k d e p q = cc
lies_once mesh darts _ k d e p q = cc

-- The table of uses.

module _ {faces : Faces} {cut marks : List Bool} (marked : IsMarked faces cut marks) where
  abbrev mesh : HalfEdges
  mesh = half_edges faces

  -- The runs along an arc and against another are different arcs: each name would be less than the other.
  pub clash : (s n r m : ℕ) → IsNamedRun faces cut s n → IsNamedRun faces cut r m
      → twin_of faces (easts mesh r (m - 1)) ≡ Some s → ⊥
  clash s n r m one two tw =
      let (b, back) = back_run _ marked.laws _ marked.full _ marked.stand r m two.run (m - 1) s (omega arith) tw in
      let start : b ≡ s = cc (back.twin (m - 1) 0 (omega (arith, two.run.some))) in
      let same = same_length _ marked.laws _ marked.full _ marked.stand s n m one.run (rw start at back.run) in
      let (i, li, of_r) = name_dart marked r m two in
      let (j, lj, of_s) = name_dart marked s n one in
      let over = marked.laws.twin_twin (easts mesh r i) (easts mesh b (m - suc i)) (run_low _ marked.laws _ marked.full
      _ marked.stand r m two.run i li) (back.twin i (m - suc i) (omega arith)) in
      omega (
        arith,
        one.named (m - suc i) (run_name mesh r m) (omega (arith, same)) (cc),
        two.named (m - suc j) (run_name mesh s n) (omega (arith, same)) (cc (back.twin (m - suc j) j (omega arith))),
      )

  module _ {arcs : List Path} (named : AreNamed faces cut arcs) where
    -- Arcs with a dart in common are one.
    same_arc : (a b k j : ℕ) → a < length arcs → b < length arcs → k < long_at arcs a → j < long_at arcs b
        → dart_at arcs a k ≡ dart_at arcs b j → a ≡ b
    same_arc a b k j la lb lk lj e =
        let (s, one, is) = named.each a la in
        let (r, two, also) = named.each b lb in
        let start = (same_place _ marked.laws _ marked.full _ marked.stand s _ r _ one.run two.run k j lk lj
        (cc (run_entry mesh s (long_at arcs a) k lk, run_entry mesh r (long_at arcs b) j lj))).0 in
        let size = same_length _ marked.laws _ marked.full _ marked.stand r _ _ (rw start at one.run) two.run in
        let name : name_at arcs a ≡ name_at arcs b = cc in
        increasing_place (name_at arcs) (length arcs) (record { step = named.ordered }) a b la lb name

    -- No dart begins an arc and the way back along another.
    one_way : (a b e : ℕ) → a < length arcs → b < length arcs → LiesAt mesh (path_at arcs a).darts true 0 e
        → LiesAt mesh (path_at arcs b).darts false 0 e → ⊥
    one_way a b e la lb p q =
        let (s, one, is) = named.each a la in
        let (r, two, also) = named.each b lb in
        clash s _ r _ one two (grind (arith, common_steps, run_entry mesh r (long_at arcs b) (long_at arcs b - 1)))

    -- A dart begins one use alone.
    one_use : (a b e : ℕ) (f g : Bool) → a < length arcs → b < length arcs → LiesAt mesh (path_at arcs a).darts f 0 e
        → LiesAt mesh (path_at arcs b).darts g 0 e → (a ≡ b) × (f ≡ g)
    one_use a b e true true la lb p q =
        (same_arc a b 0 0 la lb (named_some marked named a la) (named_some marked named b lb) (cc), refl)
    one_use a b e false false la lb p q =
        let ka : long_at arcs a - 1 - 0 < long_at arcs a = omega (arith, named_some marked named a la) in
        let kb : long_at arcs b - 1 - 0 < long_at arcs b = omega (arith, named_some marked named b lb) in
        let same = twin_same marked.laws _ _ e (named_low marked named a _ la ka) (named_low marked named b _ lb kb) p
        q in
        (same_arc a b _ _ la lb ka kb same, refl)
    one_use a b e true false la lb p q = absurd (one_way a b e la lb p q)
    one_use a b e false true la lb p q = absurd (one_way b a e lb la q p)

    -- The entries of one arc more.
    module _ {a first : ℕ} {last : Option ℕ} {uses one new : List SideArc} (la : a < length arcs)
        (so : HasUsesBelow faces arcs a uses) (first_at : first ≡ get_or (path_at arcs a).darts 0 0)
        (last_at : last ≡ twin_of faces (get_or (path_at arcs a).darts (long_at arcs a - 1) 0))
        (put : one ≡ set uses first (record { arc = a; forward = true })) (low : first < darts faces)
        (on : (t : ℕ) → last ≡ Some t → new ≡ set one t (record { arc = a; forward = false }))
        (off : last ≡ None → new ≡ one) where
      -- The table has the uses of this kind.
      abbrev Has : (P : ℕ → Bool → Type 0) (table : List SideArc) → Type 0
      Has P table = (length table ≡ darts faces) × ((b e : ℕ) (g : Bool) → P b g → b < length arcs
          → LiesAt mesh (path_at arcs b).darts g 0 e → use_in table e ≡ record { arc = b; forward = g })

      -- A use of arc a is written where it begins.
      written : (P : ℕ → Bool → Type 0) (old : List SideArc) (f : Bool) (d : ℕ) → Has P old → d < darts faces
          → LiesAt mesh (path_at arcs a).darts f 0 d
          → Has (λ b g. P b g ⊎ ((b ≡ a) × (g ≡ f))) (set old d (record { arc = a; forward = f }))
      written P old f d (long, has) ld here = (
        length-set old d _ ∙ long,
        λ b e g which lb lies. elim (cases_eq e d) [
          | inl s ↦ let same = one_use b a e g f lb la lies (rw s here) in
              rw (s, same.0, same.1) (get_or-set_same old d _ _ (omega (arith, long)))
          | inr ne ↦ get_or-set_other old d e _ _ ne ∙ elim which [
            | inl was ↦ has b e g was lb lies
            | inr same ↦ absurd (ne (lies_once mesh _ f 0 d e here (rw (same.0, same.1) at lies)))
          ]
        ],
      )

      which : (b : ℕ) (f : Bool) → b < a + 1 → ((b < a) ⊎ ((b ≡ a) × (f ≡ true))) ⊎ ((b ≡ a) × (f ≡ false))
      which b true l = elim (last_or a b l) [ inl less ↦ inl (inl less) | inr s ↦ inl (inr (s, refl)) ]
      which b false l = elim (last_or a b l) [ inl less ↦ inl (inl less) | inr s ↦ inr (s, refl) ]

      pub uses_more : HasUsesBelow faces arcs (a + 1) new
      uses_more =
          let end : long_at arcs a - 1 - 0 ≡ long_at arcs a - 1 = omega arith in
          let forth = written (λ b g. b < a) uses true first (so.long, λ b e g less. so.each b e g less) low first_at in
          elim (none_or last) [
            | inl is ↦ rw (off is, put) (record {
              long = forth.0;
              each = λ b e f lb l lies. elim (which b f lb) [
                | inl at ↦ forth.1 b e f at l lies
                | inr at ↦ absurd (let there = rw (at.0, at.1) at lies in cc)
              ];
            })
            | inr (t, is) ↦
                let t_low = marked.laws.twin_low _ t (named_low marked named a (long_at arcs a - 1) la
                (omega (arith, named_some marked named a la))) (cc) in
                let both = written _ _ false t forth t_low (cc) in
                rw (on t is, put)
                (record { long = both.0; each = λ b e f lb l lies. both.1 b e f (which b f lb) l lies })
          ]

  -- At the end each dart of the cut that leaves a node begins a use.
  module _ {nodes : List ℕ} {m : ℕ} {arcs : List Path} (far : darts faces ≤ m)
      (so : AreArcsBelow faces cut nodes m arcs) where
    -- Each dart of the cut lies on an arc, one way or the other: at its begin, if it leaves a node.
    pub lies_in : {ps : List Rectangle} {face : ℕ → ℕ} → IsPartition mesh (is_on cut) face ps → (d : ℕ)
        → d < darts faces → is_on cut d ≡ true → (a : ℕ) × (k : ℕ) × (f : Bool) × (a < length arcs)
        × (k < long_at arcs a) × LiesAt mesh (path_at arcs a).darts f k d
        × (is_node faces cut (from_of faces d) ≡ true → k ≡ 0)
    lies_in {ps} {face} parts d l on =
        let (s, n, k, run, lk, e) = each_in_run _ marked.laws _ marked.full _ marked.stand face ps parts d l on in
        elim (named_or_back _ marked.laws _ marked.full _ marked.stand s n run) [
          | inl named ↦
              let (a, la, is) = so.all s n named (omega (arith, name_low marked s n named)) in
              let long : long_at arcs a ≡ n = ap length is ∙ run_long mesh s n in
              (a, k, true, la, omega (arith, lk, long), cc (run_entry mesh s n k lk), first s n k run lk e)
          | inr (r, back, named) ↦
              let (a, la, is) = so.all r n named (omega (arith, name_low marked r n named)) in
              let long : long_at arcs a ≡ n = ap length is ∙ run_long mesh r n in
              let place : long_at arcs a - 1 - k ≡ n - suc k = omega arith in
              let low = run_low _ marked.laws _ marked.full _ marked.stand s n run k lk in
              let there = marked.laws.twin_twin _ _ low (back.twin k (n - suc k) (omega arith)) in
              let end = run_entry mesh r n (n - suc k) (omega arith) in
              (a, k, false, la, omega (arith, lk, long), cc, first s n k run lk e)
        ]
      where
        first : (s n k : ℕ) → IsRun mesh (is_on cut) (is_node faces cut) s n → k < n → easts mesh s k ≡ d
            → is_node faces cut (from_of faces d) ≡ true → k ≡ 0
        first s n zero run lk e begins = refl
        first s n (suc k) run lk e begins =
            absurd (cc (run_inner _ marked.laws _ marked.full _ marked.stand s n run k lk))

    pub uses_done : {uses : List SideArc} {ps : List Rectangle} {face : ℕ → ℕ} → HasUsesBelow faces arcs (length arcs)
        uses → IsPartition mesh (is_on cut) face ps → HasUses faces cut arcs uses
    uses_done {uses} table parts d l on begins =
        let (a, k, f, la, lk, lies, first) = lies_in parts d l on in
        let there = subst (λ (x : ℕ). LiesAt mesh (path_at arcs a).darts f x d) (first begins) lies in
        rw (table.each a d f la la there) (la, there)

  -- The list of arcs is one of named runs.
  pub to_named : {nodes : List ℕ} {m : ℕ} {arcs : List Path} → AreArcsBelow faces cut nodes m arcs
      → AreNamed faces cut arcs
  to_named so = record { each = λ a l. grind (arith, so.each a l); ordered = so.ordered }

  -- There are no more arcs than darts, since their names differ.
  pub arcs_few : {nodes : List ℕ} {m : ℕ} {arcs : List Path} → AreArcsBelow faces cut nodes m arcs → length arcs ≤ m
  arcs_few {m = m} {arcs = arcs} so = grind (arith, high m)
    where
      high : (a : ℕ) → a < length arcs → a ≤ name_at arcs a
      high zero l = omega arith
      high (suc a) l = omega (arith, high a (omega arith), so.ordered a l)
