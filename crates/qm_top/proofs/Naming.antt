-- Where the faces of a soup first fail to be a manifold, each vertex has a number.
use Rattle.std.proofs.Common.{rules, ◌≡◌, ℕ, suc, ◌+◌, ◌*◌, ◌%◌, ◌<◌, Bool, true, false, cond, eqb, ltb, List, [], ◌∷◌}
use Rattle.std.proofs.Common.{length, get_or, Some, subst, ap, ◌∙◌, refl, inl, inr, arith}
use Rattle.std.proofs.lemmas.Bool.{and_from, cases_lt, lt-ltb}
use Rattle.def_mesh.specs.declared.Place.TheVariants.{Repeated, EdgeTwice, TwoFans}
use Rattle.def_mesh.specs.{Faces.corner, Faces.face_at, Darts.from_of, Faults.repeat_after, Faults.IsFirstFault}
use Rattle.{std.proofs.lemmas.Option.none-some, std.proofs.lemmas.Option.same_Some, def_mesh.specs.declared.Place.Place}
use Rattle.{std.specs.List.list_all, std.specs.List.list_any, def_text.specs.FaceSet.FaceSet}
use Rattle.{def_text.specs.FaceSet.IsSoup, def_written.specs.Laws.AreQuads, qm_mesh.proofs.Vertices.below_from}
use Rattle.{qm_mesh.specs.Tables.NamesBelow, qm_top.specs.Named.IsNamed}

-- What is repeated stands in the list.
repeat_low : (n : ℕ) (seen vs : List ℕ) (v : ℕ) → repeat_after seen vs ≡ Some v
    → ((j : ℕ) → j < length vs → get_or vs j 0 < n) → v < n
repeat_low n seen [] v is low = absurd (none-some v is)
repeat_low n seen (x ∷ xs) v is low = by_test (list_any (λ u. eqb u x) seen) is
    (λ e. repeat_low n (x ∷ seen) xs v e (λ j l. low (suc j) (omega (arith, l))))
  where
    by_test : (b : Bool) → cond b (Some x) (repeat_after (x ∷ seen) xs) ≡ Some v
        → (repeat_after (x ∷ seen) xs ≡ Some v → v < n) → v < n
    by_test true e later = subst (λ k. k < n) (same_Some x v e) (low 0 (omega arith))
    by_test false e later = later e

module _ (s : FaceSet) (soup : IsSoup s) (quads : AreQuads s.faces) where
  within : NamesBelow (length s.pos) s.faces
  within = below_from s.faces quads (length s.pos) soup.in_range

  -- One vertex of the soup has a number.
  one_named : (v : ℕ) → v < length s.pos → list_all (λ u. ltb u (length s.names)) (v ∷ []) ≡ true
  one_named v l = and_from _ _ (lt-ltb v (length s.names) (omega (arith, l, soup.named))) refl

  -- Each vertex of the first fault has a number.
  pub named_where : (place : Place) → IsFirstFault s.faces place → IsNamed s.names place
  named_where (Repeated f v) fault =
      one_named v (repeat_low (length s.pos) [] (face_at s.faces f) v fault.repeated (λ j l.
      let four : length (face_at s.faces f) ≡ 4 = quads f fault.is_face in
      let e : from_of s.faces (4 * f + j) ≡ get_or (face_at s.faces f) j 0 =
      ap (λ g. corner s.faces g ((4 * f + j) % 4)) (omega (arith, l, four))
      ∙ ap (corner s.faces f) (omega (arith, l, four)) in
      subst (λ k. k < length s.pos) e (within (4 * f + j) (omega (arith, l, four, fault.is_face)))))
  named_where (EdgeTwice from to face1 face2) (free, (d, e, twice)) = search (rules, within)
  named_where (TwoFans v) fault = elim (cases_lt v (length s.pos)) [
    | inl l ↦ one_named v l
    | inr high ↦ absurd (fault.2.two_fans (λ d e ld le is other. absurd (omega (arith, high, is, within d ld))))
  ]
