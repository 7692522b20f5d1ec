-- A face without a repeated vertex has four different corners.
use Rattle.std.proofs.Common.{rules, ◌≡◌, ◌≢◌, ℕ, zero, suc, ◌<◌, Bool, false, cond, eqb, List, [], ◌∷◌, length, get_or}
use Rattle.std.proofs.Common.{Option, Some, None, arith, refl, Result, Err, IfErr}
use Rattle.std.proofs.lemmas.Bool.{or_parts, or_from, ne_eqb, eqb-false}
use Rattle.{std.specs.List.list_any, qm_mesh.specs.Refusals.IsRefusal, qm_mesh.specs.declared.fail.MeshFail.MeshFail}
use Rattle.def_mesh.specs.Faults.{repeat_after, repeat_in, IsFirstFault}
use Rattle.def_mesh.specs.declared.Place.TheVariants.{Repeated, TwoFans}
use Rattle.def_mesh.specs.{Faces.Faces, Manifold.IsRepeatFree, Manifold.IsManifold, declared.Place.Place}
use Rattle.qm_mesh.specs.declared.fail.MeshFail.TheVariants.{NotManifold, Memory}

none_by : (b : Bool) (v : ℕ) (o : Option ℕ) → cond b (Some v) o ≡ None → (b ≡ false) × (o ≡ None)
none_by b v o e = grind arith

-- Where nothing is told to be repeated, no vertex stands among those seen before,
fresh : (seen vs : List ℕ) → repeat_after seen vs ≡ None → (j : ℕ) → j < length vs
    → list_any (λ u. eqb u (get_or vs j 0)) seen ≡ false
fresh seen [] e j l = absurd (omega arith)
fresh seen (v ∷ vs) e zero l = (none_by _ v _ e).0
fresh seen (v ∷ vs) e (suc j) l = (or_parts _ _ (fresh (v ∷ seen) vs (none_by _ v _ e).1 j (omega arith))).1

-- and no two places have the same.
apart : (seen vs : List ℕ) → repeat_after seen vs ≡ None → (i j : ℕ) → i < j → j < length vs
    → get_or vs i 0 ≢ get_or vs j 0
apart seen [] e i j less l = absurd (omega arith)
apart seen (v ∷ vs) e i zero less l = absurd (omega arith)
apart seen (v ∷ vs) e zero (suc j) less l =
    eqb-false v _ (or_parts _ _ (fresh (v ∷ seen) vs (none_by _ v _ e).1 j (omega arith))).0
apart seen (v ∷ vs) e (suc i) (suc j) less l =
    apart (v ∷ seen) vs (none_by _ v _ e).1 i j (omega arith) (omega arith)

pub repeat_free_from : (faces : Faces) → ((f : ℕ) → f < length faces → length (get_or faces f []) ≡ 4)
    → ((f : ℕ) → f < length faces → repeat_in (get_or faces f []) ≡ None) → IsRepeatFree faces
repeat_free_from faces four none f i j low l m = search (rules, apart)

-- And the other way round.
none_from : (seen vs : List ℕ) → ((j : ℕ) → j < length vs → list_any (λ u. eqb u (get_or vs j 0)) seen ≡ false)
    → ((i j : ℕ) → i < j → j < length vs → get_or vs i 0 ≢ get_or vs j 0) → repeat_after seen vs ≡ None
none_from seen [] out differ = refl
none_from seen (v ∷ vs) out differ = rw (out 0 (omega arith)) (none_from (v ∷ seen) vs
    (λ j l. or_from _ _ (ne_eqb v (get_or vs j 0) (differ 0 (suc j) (omega arith) (omega arith)))
    (out (suc j) (omega arith))) (λ i j less l. differ (suc i) (suc j) (omega arith) (omega arith)))

-- A face of four that names a vertex twice.
pub not_repeat_free : (faces : Faces) (f v : ℕ) → f < length faces → length (get_or faces f []) ≡ 4
    → repeat_in (get_or faces f []) ≡ Some v → ¬ IsRepeatFree faces
not_repeat_free faces f v l four e free = search (rules, none_from)

pub refused_result : {M : Type 0} (faces : Faces) → ((f : ℕ) → f < length faces → length (get_or faces f []) ≡ 4)
    → (r : Result M MeshFail) → IfErr r (IsRefusal faces) → IfErr r (λ e. e ≢ Memory → ¬ IsManifold faces)
refused_result faces four (Err (NotManifold (Repeated f v))) r = search (rules, not_repeat_free)
refused_result faces four (Err (NotManifold (TwoFans v))) r = λ ne m. r.2.two_fans (m.one_fan v)
refused_result faces four _ r = search rules

-- A refusal for a place is that place.
pub refused_place : {M : Type 0} (faces : Faces) (p : Place) (r : Result M MeshFail) → IfErr r (IsRefusal faces)
    → r ≡ Err (NotManifold p) → IsFirstFault faces p
refused_place faces h1 h2 = search rules
