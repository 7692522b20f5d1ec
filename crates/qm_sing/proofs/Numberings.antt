-- Components by number, what kinds say of vertices, and which vertices are seeds.
use Rattle.std.proofs.Common.{rules, ◌≡◌, ℕ, ◌<◌, Bool, cond, eqb, ltb, List, get_or, map, ap, ◌∙◌, refl}
use Rattle.std.proofs.Common.{arith, zero, suc, ◌+◌, ◌≤◌, length, replicate, sym, [], ◌⊎◌, ◌/◌, true, false, ◌&&◌, ◌∷◌}
use Rattle.std.proofs.Common.{set, Some, is_some, ◌↔◌, ◌||◌}
use Rattle.std.proofs.lemmas.List.{length-replicate, get_or-replicate, length-map, ext_get_or, get_or-set_same}
use Rattle.def_mesh.specs.Components.{least_face, least_faces, place_among, component_numbers, is_marked, component_of}
use Rattle.def_mesh.specs.Components.{vertices_in, is_first, is_seed_in, seeds, is_start}
use Rattle.qm_sing.specs.Rings.{is_regular_kind, is_singular_kind, is_reflex_kind, number_of, is_seed, AreRings}
use Rattle.mesh_laws.proofs.Flood.{closed, own_mark, same_component, least_most, least_low, least_marked, least_same}
use Rattle.std.proofs.lemmas.Bool.{cases_eq, eq-eqb, false_from_ne_true, true_from_ne_false, cases_Bool, eqb-true}
use Rattle.def_mesh.specs.Darts.{darts, all_darts, from_of, prev_of, twin_of}
use Rattle.std.proofs.{lemmas.List.get_or-set_other, lemmas.List.length-set, lemmas.Bool.and_parts}
use Rattle.std.proofs.{lemmas.Bool.and_from, lemmas.Bool.false≢true, lemmas.Bool.Decides.nat_tests}
use Rattle.std.proofs.{lemmas.List.FromFn.get_or-map-range_with_len, lemmas.List.FromFn.length-range_with_len}
use Rattle.def_mesh.specs.{Kinds.is_regular, Kinds.kind_of, Vertices.vertex_count}
use Rattle.def_mesh.specs.{Vertices.all_vertices, Vertices.faces_at, Vertices.fan_of, declared.Kind.Kind, Faces.Faces}
use Rattle.def_mesh.specs.{Manifold.IsManifold, HalfEdges.Turns, HalfEdges.IsQuadManifold, HalfEdges.half_edges}
use Rattle.qm_sing.specs.{Rings.AreSeedMarks, Floods.IsNumbered, Floods.IsClosed, Floods.IsFlooded, Floods.IsNumbering}
use Rattle.mesh_laws.proofs.{Flood.least_again, Flood.all_below, Chains.next_face, Chains.is_fan, Chains.manifold_law}
use Rattle.{qm_sing.specs.declared.flooding.TheConstants.NONE, list_laws.proofs.Filters.any_in_range}
use Rattle.{list_laws.proofs.Filters.range_any, list_laws.proofs.Filters.last_or, qm_sing.proofs.Floods.filter_few}
use Rattle.{qm_sing.proofs.Floods.shared_by, sum_laws.proofs.Tests.same_test, qm_sing.proofs.Floods.one_more}
use Rattle.{std.specs.List.range_with_len, std.specs.List.list_any, std.specs.List.list_all, std.specs.List.filter}

-- The tests of a kind are those of its vertex.
pub regular_is : (faces : Faces) (v : ℕ) → is_regular_kind (kind_of faces v) ≡ is_regular faces v
regular_is faces v = search rules

-- The kind that was read.
pub kind_read : (faces : Faces) (kinds : List Kind) (v : ℕ) (k : Kind) → v < vertex_count faces
    → kinds ≡ map (kind_of faces) (all_vertices faces) → get_or kinds v k ≡ kind_of faces v
kind_read faces kinds v k l e = rw e (get_or-map-range_with_len _ 0 _ v v k l (omega arith))

-- Components are numbered by their least faces.

-- Of the numbers from a on that pass, those less than f.
none_before : (p : ℕ → Bool) (f a n : ℕ) → f ≤ a → filter (λ g. ltb g f) (filter p (range_with_len a n)) ≡ []
none_before p f a zero l = refl
none_before p f a (suc n) l = search (rules, none_before p f (a + 1) n (omega arith))

before_is : (p : ℕ → Bool) (a n k : ℕ) → k ≤ n → filter (λ g. ltb g (a + k)) (filter p (range_with_len a n))
    ≡ filter p (range_with_len a k)
before_is p a n zero l = none_before p (a + 0) a n (omega arith)
before_is p a zero (suc k) l = absurd (omega arith)
before_is p a (suc n) (suc k) l = search (rules, before_is p (a + 1) n k (omega arith))

module _ (faces : Faces) where
  abbrev is_least : (f : ℕ) → Bool
  is_least f = eqb (least_face faces f) f

  place_is : (f : ℕ) → f ≤ length faces → place_among (least_faces faces) f
      ≡ length (filter is_least (range_with_len 0 f))
  place_is f l = let e : 0 + f ≡ f = omega arith in rw e at (ap length (before_is is_least 0 (length faces) f l))

  pub place_next : (f : ℕ) → f < length faces → place_among (least_faces faces) (f + 1)
      ≡ place_among (least_faces faces) f + cond (eqb (least_face faces f) f) 1 0
  place_next f l = cc (place_is (f + 1) (omega arith), place_is f (omega arith), one_more is_least f)

  pub place_low : (f : ℕ) → f ≤ length faces → place_among (least_faces faces) f ≤ f
  place_low f l = omega (arith, place_is f l, filter_few is_least f)

  pub place_all : place_among (least_faces faces) (length faces) ≡ length (least_faces faces)
  place_all = place_is (length faces) (omega arith)

  -- A least face has a smaller place than all behind it.
  pub place_less : (f g : ℕ) → f < g → g ≤ length faces → least_face faces f ≡ f
      → place_among (least_faces faces) f < place_among (least_faces faces) g
  place_less f zero less l own = absurd (omega arith)
  place_less f (suc g) less l own = grind (arith, place_next g, place_less f g)

  -- No component yet.
  pub numbering_none : (numbers : List ℕ) → numbers ≡ replicate (length faces) NONE → IsNumbering faces 0 0 numbers
  numbering_none numbers e = search (rules, length-replicate, get_or-replicate, place_is)

module _ {faces : Faces} {f components : ℕ} {numbers : List ℕ} (n : IsNumbering faces f components numbers) where
  -- Numbered faces are closed.
  pub numbering_closed : IsClosed faces numbers
  numbering_closed g h lg lh k s =
      search (rules, least_same faces g h lg lh (closed faces g g h lg lg lh (own_mark faces g lg) s))

  pub numbering_low : f ≤ length faces → components ≤ f
  numbering_low l = omega (arith, n.many, place_low faces f l)

  -- A face that has its number already.
  pub numbering_skip : f < length faces → IsNumbered numbers f → IsNumbering faces (f + 1) components numbers
  numbering_skip l k = search (rules, least_again, place_next)

  -- A face that begins a component.
  pub numbering_more : f < length faces → get_or numbers f 0 ≡ NONE → {new : List ℕ}
      → IsFlooded faces f components numbers new → IsNumbering faces (f + 1) (components + 1) new
  numbering_more l bare {new} w = record {
    long = w.long;
    below = search (rules, least_same, own);
    all = search (rules, same_component faces, own_mark faces, least_marked faces);
    many = search (rules, own, place_next);
  }
    where
      own : least_face faces f ≡ f
      own = search (rules, least_most, own_mark)

  -- All faces.
  pub numbers_are : f ≡ length faces → numbers ≡ component_numbers faces
  numbers_are all = ext_get_or 0 _ _ (simp (length-map, length-range_with_len) n.long)
      (search (rules, least_low, get_or-map-range_with_len))

  pub count_is : f ≡ length faces → components ≡ length (least_faces faces)
  count_is all = n.many ∙ rw all (place_all faces)

-- Which vertices are seeds.

-- The first of a filtered range passes, and none before it does.
first_is : (q : ℕ → Bool) (v a n : ℕ) → is_first v (filter q (range_with_len a n)) ≡ true
    ↔ (a ≤ v) × (v < a + n) × (q v ≡ true) × ((u : ℕ) → a ≤ u → u < v → q u ≡ false)
first_is q v a zero = (λ f. absurd (false≢true f), λ t. absurd (omega (arith, t.0, t.1)))
first_is q v a (suc n) = search (rules, first_is q v (a + 1) n)

-- A test on one of a filtered range, and on all of it.
any_filter : (r q : ℕ → Bool) (xs : List ℕ) → list_any r (filter q xs) ≡ list_any (λ x. q x && r x) xs
any_filter r q [] = refl
any_filter r q (x ∷ xs) = grind (arith, cases_Bool (q x), any_filter r q xs)

any_is : (r q : ℕ → Bool) (n : ℕ) → list_any r (filter q (range_with_len 0 n)) ≡ true
    ↔ (u : ℕ) × (u < n) × (q u ≡ true) × (r u ≡ true)
any_is r q n = rw (any_filter r q (range_with_len 0 n)) (
  λ t. grind (arith, range_any (λ x. q x && r x) 0 n t),
  λ t. any_in_range (λ x. q x && r x) 0 n t.0 (omega arith) (omega (arith, t.1)) (and_from _ _ t.2 t.3),
)

all_is : (r q : ℕ → Bool) (a n : ℕ) → list_all r (filter q (range_with_len a n)) ≡ true
    ↔ ((u : ℕ) → a ≤ u → u < a + n → q u ≡ true → r u ≡ true)
all_is r q a zero = (λ all u l h on. absurd (omega arith), λ each. refl)
all_is r q a (suc n) = search (rules, all_is r q (a + 1) n)

module _ {faces : Faces} (m : IsManifold faces) where
  abbrev laws : IsQuadManifold (half_edges faces)
  laws = manifold_law faces m

  -- The least face of the component in which a dart lies, and its place among all such.
  abbrev home : (d : ℕ) → ℕ
  home d = least_face faces (d / 4)

  abbrev place : (f : ℕ) → ℕ
  place = place_among (least_faces faces)

  home_low : (d : ℕ) → d < darts faces → home d < length faces
  home_low d l = least_low faces (d / 4) (omega arith)

  home_again : (d : ℕ) → d < darts faces → least_face faces (home d) ≡ home d
  home_again d l = least_again faces (d / 4) (omega arith)

  -- The number of a component is the place of its least face.
  number_is : (d : ℕ) → d < darts faces → number_of faces d ≡ place (home d)
  number_is d l = search (rules, get_or-map-range_with_len)

  pub number_low : (d : ℕ) → d < darts faces → number_of faces d < length (least_faces faces)
  number_low d l =
      let less = place_less faces (home d) (length faces) (home_low d l) (omega arith) (home_again d l) in
      omega (arith, number_is d l, place_all faces, less)

  -- Darts of one number are in one component, and the other way round.
  same_number : (d e : ℕ) → d < darts faces → e < darts faces
      → (number_of faces d ≡ number_of faces e) ↔ (home d ≡ home e)
  same_number d e ld le = search (rules, number_is, place_less, home_low, home_again)

  -- The marks of a component are on its darts, and on no others.
  marked_is : (f d : ℕ) → f < length faces → d < darts faces → least_face faces f ≡ f
      → (is_marked (component_of faces f) (d / 4) ≡ true) ↔ (home d ≡ f)
  marked_is f d lf ld own = search (rules, same_component, least_marked, own_mark)

  -- Faces at one vertex are in one component.
  over_edge : (d e : ℕ) → d < darts faces → twin_of faces (prev_of d) ≡ Some e → home e ≡ home d
  over_edge d e l w =
      let f : d / 4 ≡ prev_of d / 4 = ap (λ x. x / 4) (sym (laws.next_prev d)) ∙ next_face (prev_of d) in
      let le = laws.twin_low (prev_of d) e (laws.prev_low d l) w in
      least_same faces (d / 4) (e / 4) (omega arith) (omega arith) (closed faces (d / 4) (d / 4) (e / 4) (omega arith)
      (omega arith) (omega arith) (own_mark faces (d / 4) (omega arith))
      (shared_by faces (d / 4) (prev_of d) e (omega arith) (omega arith) w))

  turned : (d e n : ℕ) → d < darts faces → Turns (half_edges faces) d e n → (home e ≡ home d) × (e < darts faces)
  turned d e zero l t = rw t (refl, rw (← t) l)
  turned d e (suc n) l t = search (rules, over_edge, turned d t.0 n l t.1)

  at_one_vertex : (d e : ℕ) → d < darts faces → e < darts faces → from_of faces d ≡ from_of faces e → home e ≡ home d
  at_one_vertex d e ld le s = let t = laws.one_fan d e ld le s in (turned d e t.0 ld t.1).0

  -- The vertices of a component.
  abbrev lies : (f v : ℕ) → Bool
  lies f v = list_any (λ d. eqb (from_of faces d) v && is_marked (component_of faces f) (d / 4)) (all_darts faces)

  lies_is : (f v : ℕ) → f < length faces → least_face faces f ≡ f → (lies f v ≡ true)
      ↔ (e : ℕ) × (e < darts faces) × (from_of faces e ≡ v) × (home e ≡ f)
  lies_is f v lf own =
      let test = λ (d : ℕ). eqb (from_of faces d) v && is_marked (component_of faces f) (d / 4) in
      search (rules, range_any test 0 (darts faces), marked_is f, any_in_range test 0 (darts faces))

  -- A seed is the least vertex of a component of regular ones.
  abbrev IsRingSeed : (v : ℕ) → Type 0
  IsRingSeed v = (e : ℕ) × (e < darts faces) × (from_of faces e ≡ v) × ((d : ℕ) → d < darts faces → home d ≡ home e
      → (is_regular faces (from_of faces d) ≡ true) × (v ≤ from_of faces d))

  seed_is : (v : ℕ) → (is_seed faces v ≡ true) ↔ IsRingSeed v
  seed_is v =
      let some = any_is (λ f. is_seed_in faces v (component_of faces f)) (λ f. eqb (least_face faces f) f)
      (length faces) in
      let first = λ (f : ℕ). first_is (lies f) v 0 (vertex_count faces) in
      let all = λ (f : ℕ). all_is (is_regular faces) (lies f) 0 (vertex_count faces) in (
        λ s.
            let (f, lf, o, t) = some.0 s in
            let own = eqb-true (least_face faces f) f o in
            let (begins, ring) = and_parts (is_first v (vertices_in faces (component_of faces f))) _ t in
            let (low, high, on, before) = (first f).0 begins in
            let (e, le, at, k) = (lies_is f v lf own).0 on in (
              e,
              le,
              at,
              λ d ld h.
                  let there = (lies_is f (from_of faces d) lf own).1 (d, ld, refl, h ∙ k) in
                  let regular = (all f).0 ring (from_of faces d) (omega arith)
                  (omega (arith, all_below faces d ld)) there in
                  grind (arith, before (from_of faces d), regular, there),
            ),
        λ s.
            let (e, le, at, each) = s in
            let at_home = λ (u : ℕ). lies_is (home e) u (home_low e le) (home_again e le) in
            let low = λ (u : ℕ) (l : 0 ≤ u) (h : u < v). false_from_ne_true (lies (home e) u) (λ t.
            let (x, lx, here, k) = (at_home u).0 t in absurd (omega (arith, h, here, (each x lx k).1))) in
            let there = (at_home v).1 (e, le, at, refl) in
            let top = (first (home e)).1 (omega arith, omega (arith, at, all_below faces e le), there, low) in
            let ring = (all (home e)).1 (λ u l h t. let (x, lx, here, k) = (at_home u).0 t in
            rw (← here) (each x lx k).0) in
            some.1 (home e, home_low e le, eq-eqb _ _ (home_again e le), and_from _ _ top ring),
      )

  -- The tables tell seeds.
  pub seed_test : {regular : List Bool} {least : List ℕ} → AreRings faces (darts faces) regular least → (d : ℕ)
      → vertex_count faces ≤ NONE → d < darts faces
      → (get_or regular (number_of faces d) false && eqb (get_or least (number_of faces d) 0) (from_of faces d))
      ≡ is_seed faces (from_of faces d)
  seed_test {regular} {least} r d few ld =
      let c = number_of faces d in
      same_test _ _ (λ t.
      let (on, first) = and_parts (get_or regular c false) _ t in
      (seed_is (from_of faces d)).1 (d, ld, refl, λ e le h. search (rules, same_number e d le ld))) (λ s.
      let (e, le, at, each) = (seed_is (from_of faces d)).0 s in
      let near = λ (x : ℕ) (lx : x < darts faces) (q : number_of faces x ≡ c).
      each x lx ((same_number x d lx ld).0 q ∙ at_one_vertex e d le ld at) in
      let vertex = all_below faces d ld in
      let ring : get_or regular c false ≡ true = true_from_ne_false _ (λ off.
      let (x, lx, q, none) = r.off c (omega (arith, number_low d ld, r.regular_long)) off in
      grind (arith, near x lx q, none)) in
      let there = r.there c (omega (arith, number_low d ld, r.least_long)) in
      let least : get_or least c 0 ≡ from_of faces d = grind (arith, there, few, r.lowest d ld, vertex, near) in
      grind (arith, nat_tests, ring, least))

  -- The marks tell seeds too.
  pub mark_test : (marks : List Bool) (v : ℕ) → AreSeedMarks faces (vertex_count faces) (darts faces) marks
      → get_or marks v false ≡ is_seed faces v
  mark_test marks v k = search (rules, seed_is)

-- One dart more.
module _ {faces : Faces} (m : IsManifold faces) {d : ℕ} (ld : d < darts faces) {regular : List Bool} {least : List ℕ}
    (r : AreRings faces d regular least) where
  abbrev c : ℕ
  c = number_of faces d

  abbrev v : ℕ
  v = from_of faces d

  low_l : c < length least
  low_l = omega (arith, number_low m d ld, r.least_long)

  off : (b : Bool) → is_regular faces v ≡ b → (k : ℕ) → k < length (cond b regular (set regular c false))
      → get_or (cond b regular (set regular c false)) k false ≡ false → (e : ℕ) × (e < d + 1)
      × (number_of faces e ≡ k) × (is_regular faces (from_of faces e) ≡ false)
  off true is k l t = grind (arith, r.off k l t)
  off false is k l t =
      let other = get_or-set_other regular c k false false in
      grind (arith, cases_eq k c, r.off k, length-set regular c false, other, is, t)

  there : (b : Bool) → (k : ℕ) → k < length (cond b (set least c v) least)
      → (get_or (cond b (set least c v) least) k 0 ≡ NONE) ⊎ ((e : ℕ) × (e < d + 1) × (number_of faces e ≡ k)
      × (from_of faces e ≡ get_or (cond b (set least c v) least) k 0))
  there false k l = grind (arith, r.there k l)
  there true k l =
      let same = get_or-set_same least c v 0 low_l in
      let other = get_or-set_other least c k v 0 in
      grind (arith, cases_eq k c, r.there k, length-set least c v, same, other)

  pub rings_more : (b s : Bool) → is_regular faces v ≡ b → ltb v (get_or least c 0) ≡ s
      → AreRings faces (d + 1) (cond b regular (set regular c false)) (cond s (set least c v) least)
  rings_more b s is_b is_s = record {
    regular_long = grind (arith, cases_Bool b, length-set regular c false, r.regular_long);
    least_long = grind (arith, cases_Bool s, length-set least c v, r.least_long);
    on = λ e l t.
        let same = get_or-set_same regular c false false (omega (arith, number_low m d ld, r.regular_long)) in
        let other = get_or-set_other regular c (number_of faces e) false false in
        grind (arith, cases_Bool b, last_or d e l, cases_eq (number_of faces e) c, same, other, r.on e);
    off = off b is_b;
    lowest = λ e l.
        let same = get_or-set_same least c v 0 low_l in
        let other = get_or-set_other least c (number_of faces e) v 0 in
        grind (arith, nat_tests, cases_Bool s, last_or d e l, cases_eq (number_of faces e) c, same, other, r.lowest e);
    there = there s;
  }

-- A dart whose vertex is a seed, or is none.
pub marks_on : {faces : Faces} {n d : ℕ} {marks : List Bool} → from_of faces d < n → is_seed faces (from_of faces d)
    ≡ true → AreSeedMarks faces n d marks → AreSeedMarks faces n (d + 1) (set marks (from_of faces d) true)
marks_on {faces} {n} {d} {marks} low s k = search rules

pub marks_off : {faces : Faces} {n d : ℕ} {marks : List Bool} → is_seed faces (from_of faces d) ≡ false
    → AreSeedMarks faces n d marks → AreSeedMarks faces n (d + 1) marks
marks_off {d} s k = record { long = k.long; on = k.on; all = λ e l t. grind (arith, last_or d e l, k.all e) }

-- What the tables have.
pub number_read : (faces : Faces) (component : List ℕ) (d : ℕ) → component ≡ component_numbers faces
    → get_or component (d / 4) 0 ≡ number_of faces d
number_read faces component d e = ap (λ (xs : List ℕ). get_or xs (d / 4) 0) e

-- A start, by the kind of the vertex that the dart leaves.
pub start_is : (faces : Faces) (d : ℕ) → d < darts faces → (is_singular_kind (kind_of faces (from_of faces d))
    || (is_some (twin_of faces d) && (is_reflex_kind (kind_of faces (from_of faces d))
    || is_seed faces (from_of faces d)))) ≡ is_start faces (seeds faces) d
start_is faces d ld = search (rules, used, listed, all_below)
  where
    listed : (u : ℕ) → u < vertex_count faces → is_seed faces u ≡ list_any (λ x. eqb x u) (seeds faces)
    listed u l = search (rules, any_is)

    used : 0 < faces_at faces (from_of faces d)
    used = grind (arith, is_fan faces (from_of faces d) (fan_of faces (from_of faces d)))
