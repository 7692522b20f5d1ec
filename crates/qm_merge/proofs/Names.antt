-- The set of names: one put in, one taken out, and which ones are put in.
use Rattle.std.proofs.Common.{◌≡◌, ℕ, zero, suc, ◌+◌, ◌<◌, ◌≤◌, Bool, true, false, cond, List, [], ◌∷◌, length, set}
use Rattle.std.proofs.Common.{rules, sym, ◌∙◌, refl, inl, inr, arith}
use Rattle.std.proofs.lemmas.Bool.{cases_eq, false≢true, Decides.nat_tests}
use Rattle.std.proofs.lemmas.List.{get_or-set_other, get_or-set_same, length-set}
use Rattle.std.specs.{Ordering.nat_cmp, BTreeSet.BTreeSet, BTreeMap.is_at}
use Rattle.def_mesh.specs.HalfEdges.{HalfEdges, IsQuadManifold}
use Rattle.def_cut.specs.{Cuts.Cut, Cuts.IsCut, FullCut.is_on, Steps.easts}
use Rattle.merge_laws.proofs.Decided.{one_arc, one_far, one_name, name_other}
use Rattle.merge_laws.proofs.{Sides.StandsOn, Sides.one_place, Joins.on_low, Joins.turned_arc}
use Rattle.def_merge.specs.Joins.{IsJoinable, IsOnArc, IsNameOf, Leave}
use Rattle.qm_merge.specs.Waiting.{AreBelow, FreeWait, IsNoted, Waits, mark_count}
use Rattle.qm_merge.specs.{Seams.IsSeam, Links.at, Links.AreStarts, declared.seams.Seam.Seam}
use Rattle.std.specs.BTreeSet as sorted

-- A set that grew by a number that was new or not.
pub few_more : (b : Bool) (old new : ℕ) → new ≡ old + cond b 1 0 → new ≤ old + 1
few_more b old new e = grind arith

module _ (old new : BTreeSet ℕ) (k : ℕ) (b : Bool) (up : sorted.Updates nat_cmp old new k b) where
  other : (name : ℕ) → (name ≡ k → ⊥) → sorted.contains nat_cmp new name ≡ sorted.contains nat_cmp old name
  other name ne = search (rules, nat_tests)

  -- A name still waits, unless it is taken out.
  pub still_waits : (name : ℕ) → (name ≡ k → b ≡ true) → Waits old name → Waits new name
  still_waits name stays w = search rules

  pub still_below : (count : ℕ) → (b ≡ true → k < count) → AreBelow old count → AreBelow new count
  still_below count low below name w = search rules

-- No name gets too great when one is taken out.
pub taken_below : (old new : BTreeSet ℕ) (k count : ℕ) → sorted.Updates nat_cmp old new k false
    → AreBelow old count → AreBelow new count
taken_below old new k count up = still_below old new k false up count (λ f. absurd (false≢true f))

-- No name waits in an empty set.
pub none_waits : (keys : List ℕ) (name : ℕ) → (0 < length keys → ⊥) → Waits (record { keys = keys }) name → ⊥
none_waits [] name none w = false≢true w
none_waits (x ∷ keys) name none w = none (omega arith)

-- An arc is noted from either side.
pub other_noted : (names : BTreeSet ℕ) (starts : List ℕ) (s t name : ℕ) → IsNoted names starts s t name
    → IsNoted names starts t s name
other_noted names starts s t name is = (is.0, elim is.1 [ inl e ↦ inr e | inr e ↦ inl e ])

module _ {mesh : HalfEdges} (laws : IsQuadManifold mesh) {cut : Cut} (full : IsCut mesh cut) where
  -- A seam has the name of each joinable arc that begins there.
  pub seam_name : {s : ℕ} {seam : Seam} → IsSeam mesh cut s seam → {t n name : ℕ} → IsJoinable mesh cut s t n
      → IsNameOf mesh s t n name → seam.name ≡ name
  seam_name {s} {seam} is {t} {n} {name} arc named =
      grind (arith, one_far laws full is.joinable.glued arc.glued, one_name mesh s t n seam.name name)

  -- A seam may leave where each joinable arc may that begins there.
  pub seam_free : (may : Leave) {s : ℕ} {seam : Seam} → IsSeam mesh cut s seam → {t n : ℕ} → IsJoinable mesh cut s t n
      → may s t n ≡ true → may s seam.far seam.long ≡ true
  seam_free may is arc free = let far = one_far laws full is.joinable.glued arc.glued in rw (far.1, far.0) free

  -- A name is taken out that no joinable arc has which may leave and begins at its start.
  pub free_still : (may : Leave) → ((a b c : ℕ) → may a b c ≡ true → may b a c ≡ true) → (old new : BTreeSet ℕ)
      (starts : List ℕ) (k : ℕ) → sorted.Updates nat_cmp old new k false → FreeWait mesh cut may old starts
      → ((t n : ℕ) → IsJoinable mesh cut (at starts k) t n → may (at starts k) t n ≡ true
      → IsNameOf mesh (at starts k) t n k → ⊥) → FreeWait mesh cut may new starts
  free_still may turn old new starts k up wait none s t n name arc free named =
      let w = wait s t n name arc free named in
      let from : (c b : ℕ) → at starts name ≡ c → IsJoinable mesh cut c b n → may c b n ≡ true
      → IsNameOf mesh c b n name → name ≡ k → ⊥ = λ c b e joined y is same.
      none b n (rw (← same, e) joined) (rw (← same, e) y) (rw (← same, e) is) in
      let apart : name ≡ k → ⊥ = elim w.1 [
        | inl e ↦ from s t e arc free named
        | inr e ↦ from t s e (turned_arc laws full arc) (turn s t n free) (name_other mesh s t n name named)
      ] in
      (still_waits old new k false up name (λ same. absurd (apart same)) w.0, w.1)

  -- A joinable arc over d begins, on one side, where the side of d does: it is noted where that start is.
  pub noted_over : {start m k d : ℕ} → StandsOn mesh cut start m k d → (names : BTreeSet ℕ) (starts : List ℕ)
      → ((t n name : ℕ) → IsJoinable mesh cut start t n → IsNameOf mesh start t n name
      → IsNoted names starts start t name) → {s t n name : ℕ} → IsJoinable mesh cut s t n → IsOnArc mesh s t n d
      → IsNameOf mesh s t n name → IsNoted names starts s t name
  noted_over {start} {k = k} {d} on names starts noted {s} {t} {n} {name} arc o named =
      let from : (c b j : ℕ) → j < n → d ≡ easts mesh c j → IsJoinable mesh cut c b n → IsNameOf mesh c b n name
      → IsNoted names starts c b name = λ c b j l e joined is.
      let same : c ≡ start = sym (one_place laws full k j on.side joined.glued.near on.low l (on.at ∙ e)).0 in
      rw same (noted b n name (rw same at joined) (rw same at is)) in
      elim o.2 [
        | inl e ↦ from s t o.0 o.1 e arc named
        | inr e ↦ other_noted names starts t s name (search (rules, turned_arc, name_other))
      ]

  -- One arc more is noted.
  module _ {s : ℕ} {seam : Seam} (is : IsSeam mesh cut s seam) where
    pub seam_low : seam.name < mesh.count
    seam_low = on_low laws full is.joinable.glued seam.name is.named.on

    module _ (starts : List ℕ) (are : AreStarts starts mesh.count) where
      here : at (set starts seam.name s) seam.name ≡ s
      here = get_or-set_same starts seam.name s 0 (omega (arith, seam_low, are.0))

      -- Each start is still a dart.
      pub noted_start : s < mesh.count → AreStarts (set starts seam.name s) mesh.count
      noted_start low = (
        length-set starts seam.name s ∙ are.0,
        λ d l. grind (arith, cases_eq d seam.name, here, get_or-set_other starts seam.name d s 0, are.1 d),
      )

      module _ (old new : BTreeSet ℕ) (updates : sorted.Updates nat_cmp old new seam.name true) where
        pub noted_new : (t n name : ℕ) → IsJoinable mesh cut s t n → IsNameOf mesh s t n name
            → IsNoted new (set starts seam.name s) s t name
        noted_new t n name arc named = rw (← seam_name is arc named) (updates.1, inl here)

        pub noted_still : (r u m name : ℕ) → IsJoinable mesh cut r u m → IsNameOf mesh r u m name
            → IsNoted old starts r u name → IsNoted new (set starts seam.name s) r u name
        noted_still r u m name arc named noted = (
          still_waits old new seam.name true updates name (λ same. refl) noted.0,
          elim (cases_eq name seam.name) [
            | inl e ↦ rw (e, here) (elim (one_arc laws full name is.joinable.glued arc.glued
                (rw e is.named.on) named.on).0 [ inl p ↦ inl p.0 | inr p ↦ inr p.0 ])
            | inr ne ↦ rw (get_or-set_other starts seam.name name s 0 ne) noted.1
          ],
        )

pub fewer_marks : (old new : List Bool) → length new ≡ length old → ((d : ℕ) → is_on new d ≡ true → is_on old d ≡ true)
    → (mark_count new ≤ mark_count old)
    × ((d : ℕ) → is_on old d ≡ true → is_on new d ≡ false → mark_count new + 1 ≤ mark_count old)
fewer_marks (a ∷ old) (b ∷ new) e less =
    let rest = fewer_marks old new (omega arith) (λ d. less (suc d)) in
    grind (arith, less 0)
fewer_marks [] [] e less = (omega arith, λ d on off. absurd (false≢true on))
fewer_marks _ _ e less = absurd (omega arith)
