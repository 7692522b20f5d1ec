-- The used positions and the faces over them are a soup.
use Rattle.std.proofs.lemmas.List.{Sums.count_by-le-length, Kept.IsStrictlyIncreasing-filter, Elements.filter-append}
use Rattle.std.proofs.lemmas.List.{get_or_append_left, length-append, Sums.length-filter, Elements.filter_passes}
use Rattle.std.proofs.lemmas.List.{get_or_push, length_push, length-map, take_more_set, drop_more, map_push}
use Rattle.std.proofs.lemmas.Bool.{Decides.nat_tests, cases_eq, cases_lt, false≢true}
use Rattle.std.proofs.Common.{rules, Bool, List, None, arith, cond, false, get_or, length, nat_lt, refl, true, zero, []}
use Rattle.std.proofs.Common.{eqb, ◌&&◌, leb, ltb, map, suc, sym, ℕ, ◌++◌, ◌+◌, ◌-◌, ◌<◌, ◌∷◌, ◌≡◌, ◌≤◌, drop, set}
use Rattle.qm_obj.specs.Kept.{are_numbers, first_late, IsCounted, IsKept, IsMarked, chosen}
use Rattle.def_text.specs.Text.{line_vertex, numbers_to, position_of, face_set, used_to}
use Rattle.std.specs.{Prelude.IsTrue, List.Sorted.IsStrictlyIncreasing, List.list_all, List.list_any}
use Rattle.def_text.{specs.Types.Positions, specs.FaceSet.FaceSet, specs.FaceSet.IsSoup}
use Rattle.{qm_obj.proofs.TailLemmas.back_more, qm_obj.proofs.TailLemmas.at_back, def_mesh.specs.Vertices.is_used}
use Rattle.{def_mesh.specs.Faces.Faces, std.proofs.lemmas.Grind.drop_more_same, std.proofs.lemmas.Grind.common_steps}

-- Each of these numbers is below n.
abbrev pub are_below : ℕ → List ℕ → Bool
are_below n xs = list_all (λ x. nat_lt x n) xs

pub length-numbers_to : (n : ℕ) → length (numbers_to n) ≡ n
length-numbers_to zero = refl
length-numbers_to (suc n) = omega (arith, length_push (numbers_to n) (suc n), length-numbers_to n)

pub numbers_at : (n k : ℕ) → k < n → get_or (numbers_to n) k 0 ≡ k + 1
numbers_at zero k lt = absurd (omega arith)
numbers_at (suc n) k lt =
    search (rules, length-numbers_to, cases_lt k n, numbers_at n k, get_or_append_left, get_or_push)

pub numbers_rise : (n : ℕ) → IsStrictlyIncreasing (numbers_to n)
numbers_rise n k l = search (rules, length-numbers_to, numbers_at)

-- One number more is kept where it is used.
pub used_more : (faces : Faces) (n : ℕ) → used_to faces (suc n) ≡ used_to faces n ++ cond (is_used faces (suc n))
    (suc n ∷ []) []
used_more faces n = filter-append (is_used faces) (numbers_to n) (suc n ∷ [])

-- A used number has fewer used ones before it than there are.
rank_below : (faces : Faces) (n k : ℕ) → 0 < k → k ≤ n → is_used faces k ≡ true
    → line_vertex faces k < length (used_to faces n)
rank_below faces (suc n) k some le is =
    search (rules, cases_eq k (suc n), used_more, length-append, rank_below faces n k some)
rank_below faces zero k some le is = absurd (omega arith)

-- The number at a position has as many used ones before it.
rank_at : (faces : Faces) (n v : ℕ) → v < length (used_to faces n) → line_vertex faces (get_or (used_to faces n) v 0)
    ≡ v
rank_at faces zero v lt = absurd (omega arith)
rank_at faces (suc n) v lt = grind (arith, common_steps, rank_at faces n v)

-- The renumbered corners of some of the faces are vertices.
below_all : (faces : Faces) (n : ℕ) (some : Faces) → ((k : ℕ) → is_used some k ≡ true → is_used faces k ≡ true)
    → list_all (are_numbers n) some ≡ true
    → list_all (are_below (length (used_to faces n))) (map (λ corners. map (line_vertex faces) corners) some) ≡ true
below_all faces n [] among known = refl
below_all faces n (f ∷ some) among known = grind (arith, nat_tests, along f, below_all faces n some)
  where
    along : (f : List ℕ) → ((k : ℕ) → list_any (λ c. eqb c k) f ≡ true → is_used faces k ≡ true)
        → are_numbers n f ≡ true → are_below (length (used_to faces n)) (map (line_vertex faces) f) ≡ true
    along [] among known = refl
    along (k ∷ f) among known = grind (arith, nat_tests, rank_below faces n k, along f)

-- A used number is used after renumbering.
pub used_renumbered : (f : ℕ → ℕ) (m : ℕ) (faces : Faces) → is_used faces m ≡ true
    → is_used (map (λ corners. map f corners) faces) (f m) ≡ true
used_renumbered f m [] is = absurd (false≢true is)
used_renumbered f m (x ∷ xs) is = grind (arith, along x, used_renumbered f m xs)
  where
    along : (ys : List ℕ) → list_any (λ c. eqb c m) ys ≡ true → list_any (λ c. eqb c (f m)) (map f ys) ≡ true
    along [] is = absurd (false≢true is)
    along (y ∷ ys) is = grind (arith, nat_tests, along ys)

-- The used positions and the faces over them are a soup.
pub face_set_is_soup : (positions : Positions) (faces : Faces)
    → IsTrue (list_all (are_numbers (length positions)) faces) → IsSoup (face_set positions faces)
face_set_is_soup positions faces known =
    let long = length-map (used_to faces (length positions)) (position_of positions) in
    record {
      in_range = rw long (below_all faces _ faces (λ k is. is) known);
      used = λ v l. let lt = rw long at l in rw (rank_at _ _ v lt) at
          (used_renumbered (line_vertex faces) _ faces (filter_passes (is_used faces) _ v 0 lt));
      named = sym long;
      increasing = search (rules, IsStrictlyIncreasing-filter, numbers_rise);
    }

-- Positive corners, none of which is late, are numbers of positions.
pub none_late : (n : ℕ) (faces : Faces) (lines : List ℕ) → length lines ≡ length faces
    → IsTrue (list_all (list_all (λ corner. ltb 0 corner)) faces) → first_late n faces lines ≡ None
    → IsTrue (list_all (are_numbers n) faces)
none_late n [] lines size positive none = refl
none_late n (x ∷ xs) [] size positive none = absurd (omega arith)
none_late n (x ∷ xs) (line ∷ lines) size positive none = grind (arith, along x, none_late n xs lines)
  where
    along : (ys : List ℕ) → list_all (λ corner. ltb 0 corner) ys ≡ true → list_any (λ corner. ltb n corner) ys ≡ false
        → are_numbers n ys ≡ true
    along [] positive calm = refl
    along (y ∷ ys) positive calm = grind (arith, nat_tests, along ys)

-- A soup has at most as many positions as there are, and as many faces.
pub few_pos : (positions : Positions) (faces : Faces) → length (face_set positions faces).pos ≤ length positions
few_pos positions faces = search (rules, length-map, length-filter, count_by-le-length, length-numbers_to)

pub same_faces : (positions : Positions) (faces : Faces) → length (face_set positions faces).faces ≡ length faces
same_faces positions faces = length-map faces (λ corners. map (line_vertex faces) corners)

-- The positions that some face names, and the numbers of the vertices that they become.

-- One position more, that is kept.
pub kept_mark : {marks : List Bool} {old positions : Positions} {names : List ℕ} {k : ℕ} → k < length marks
    → get_or marks k false ≡ true → IsKept marks old positions names k
    → IsKept marks old (set positions (length names) (get_or positions k [])) (names ++ (k + 1) ∷ []) (k + 1)
kept_mark {marks} {old} {positions} {names} {k} there on kept =
    search (rules, filter-append, length_push, at_back, take_more_set, map_push, back_more)

-- One position more, that is dropped.
pub kept_skip : {marks : List Bool} {old positions : Positions} {names : List ℕ} {k : ℕ} → get_or marks k false ≡ false
    → IsKept marks old positions names k → IsKept marks old positions names (k + 1)
kept_skip {marks} {old} {positions} {k = k} off kept = search (rules, filter-append, drop_more_same)

-- Marked are the used.
pub chosen_used : (faces : Faces) (n : ℕ) (marks : List Bool) → IsMarked faces n marks → (k : ℕ) → k ≤ n
    → chosen marks k ≡ used_to faces k
chosen_used faces n marks marked zero le = refl
chosen_used faces n marks marked (suc k) le = search (rules, filter-append, chosen_used faces n marks marked k)

-- Two functions have the same images, where they agree on all that passes a test.
pub same_images : {X Y : Type 0} (p : X → Bool) (f g : X → Y) → ((x : X) → p x ≡ true → f x ≡ g x) → (xs : List X)
    → list_all p xs ≡ true → map f xs ≡ map g xs
same_images p f g same [] all = refl
same_images p f g same (x ∷ xs) all = grind (arith, same x, same_images p f g same xs)

-- A face that is not late is passed.
pub late_more : (vertices : ℕ) (faces : Faces) (lines : List ℕ) (i : ℕ) → i < length faces → length lines ≡ length faces
    → list_any (λ corner. ltb vertices corner) (get_or faces i []) ≡ false
    → first_late vertices (drop (i + 1) faces) (drop (i + 1) lines) ≡ first_late vertices (drop i faces) (drop i lines)
late_more vertices faces lines i there size calm = grind (arith, common_steps, drop_more lines i 0)

-- What was kept, counted and renumbered is the soup.
pub made_of : (positions : Positions) (faces : Faces) (marks : List Bool) (made : FaceSet) (vertices : List ℕ)
    → IsMarked faces (length positions) marks → IsTrue (list_all (are_numbers (length positions)) faces)
    → IsCounted marks vertices → made.names ≡ chosen marks (length marks) → made.pos
    ≡ map (position_of positions) (chosen marks (length marks)) → made.faces
    ≡ map (λ corners. map (λ corner. get_or vertices (corner - 1) 0) corners) faces → made ≡ face_set positions faces
made_of positions faces marks made vertices marked known counted names places renumbered =
    let one : (k : ℕ) → (ltb 0 k && leb k (length positions)) ≡ true → get_or vertices (k - 1) 0 ≡ line_vertex faces k =
    λ k is. grind (arith, nat_tests, counted.each (k - 1), chosen_used faces (length positions) marks marked (k - 1)) in
    search (rules, same_images, chosen_used)
