-- The number of vertices, and the length of a fan.
use Rattle.std.proofs.Common.{rules, ◌≡◌, ℕ, zero, suc, ◌+◌, ◌*◌, ◌%◌, ◌<◌, true, IsTrue, eqb, List, [], length, get_or}
use Rattle.std.proofs.Common.{ap, ◌∙◌, refl, arith, ◌∷◌, ◌++◌, set}
use Rattle.std.proofs.lemmas.{List.get_or-map, List.get_or_default, List.length-map, Bool.eqb-true}
use Rattle.std.proofs.{lemmas.List.Sums.AllPass-from_list_all, lemmas.List.Folds.Any-from_list_any}
use Rattle.{std.specs.List.list_any, smallvec.specs.SmallVec.SmallVec, list_laws.proofs.Filters.filter_range_more}
use Rattle.def_mesh.specs.{Faces.Faces, Faces.corner, Darts.darts, Darts.next_of, Darts.to_of, Darts.from_of}
use Rattle.def_mesh.specs.{Vertices.vertex_count, Vertices.fan_of, Vertices.names_below, Vertices.UsesEach}
use Rattle.qm_mesh.specs.Tables.{NamesBelow, HasCorners, fan_lists, fan_at, HoldDarts, AreFans}
use Rattle.mesh_laws.proofs.{Chains.next_of_low, Chains.IsFan, Chains.is_fan, Flood.all_below, Flood.count_least}

-- Where a dart ends is a vertex.
pub end_low : (faces : Faces) (n d : ℕ) → NamesBelow n faces → d < darts faces → to_of faces d < n
end_low faces n d within l = within (next_of d) (next_of_low faces d l)

-- Where the vertices below n are the used ones, n is their number.
pub count_is : (faces : Faces) (n : ℕ) → NamesBelow n faces → HasCorners n faces → vertex_count faces ≡ n
count_is faces zero within used = omega (arith, count_least faces zero within)
count_is faces (suc m) within used =
    let h : IsFan faces m (fan_of faces m) = is_fan faces m (fan_of faces m) refl in
    let u : 0 < length (fan_of faces m) = used m (omega arith) in
    let low = all_below faces (get_or (fan_of faces m) 0 0) (h.dart 0 u) in
    omega (arith, count_least faces (suc m) within, h.leaves 0 u)

-- The two conditions of a build, by darts.
pub below_from : (faces : Faces) → ((f : ℕ) → f < length faces → length (get_or faces f []) ≡ 4) → (n : ℕ)
    → IsTrue (names_below n faces) → NamesBelow n faces
below_from faces four n all d l = search (rules, AllPass-from_list_all)

pub corners_from : (faces : Faces) → ((f : ℕ) → f < length faces → length (get_or faces f []) ≡ 4) → (n : ℕ)
    → UsesEach n faces → HasCorners n faces
corners_from faces four n used v l =
    let (f, face, low, is, t) = Any-from_list_any (λ face. list_any (λ u. eqb u v) face) faces (used v l) in
    let there : list_any (λ u. eqb u v) (get_or faces f []) ≡ true = rw (get_or_default faces f [] face low ∙ is) t in
    let (i, u, m, in_face, same) = Any-from_list_any (λ u. eqb u v) (get_or faces f []) there in
    let four_long = four f low in
    let e : from_of faces (4 * f + i) ≡ v = ap (λ g. corner faces g ((4 * f + i) % 4)) (omega arith) ∙ ap
    (corner faces f) (omega arith) ∙ get_or_default (get_or faces f []) i 0 u (omega arith) ∙ in_face
    ∙ eqb-true u v same in
    let p = (is_fan faces v (fan_of faces v) refl).place (4 * f + i) (omega arith) e in
    omega (arith, p.1)

-- A fan that was read from the table.
pub fan_read : (fans : List (SmallVec ℕ)) (v : ℕ) (fan : SmallVec ℕ) → v < length fans → fan ≡ get_or fans v fan
    → fan.items ≡ fan_at fans v
fan_read fans v fan l e = search (rules, get_or-map)

-- The fan at v, with k put at the end where k leaves v.
pub hold_more : (faces : Faces) (n k v : ℕ) (fans more : List (SmallVec ℕ)) → HoldDarts faces n k fans
    → v ≡ from_of faces k → v < n → fan_lists more ≡ set (fan_lists fans) v (fan_at fans v ++ k ∷ [])
    → HoldDarts faces n (k + 1) more
hold_more faces n k v fans more h e low put = search (rules, filter_range_more)

-- The fan that was read is that of its vertex.
pub fan_found : (faces : Faces) (n v : ℕ) (fans : List (SmallVec ℕ)) (fan : SmallVec ℕ) → AreFans faces n fans
    → v < length fans → fan ≡ get_or fans v fan → fan.items ≡ fan_of faces v
fan_found faces n v fans fan h l e = fan_read fans v fan l e
    ∙ h.each v (omega (arith, h.long, length-map fans (λ (f : SmallVec ℕ). f.items)))
