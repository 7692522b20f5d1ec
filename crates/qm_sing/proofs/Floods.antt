-- Counting along a range.
use Rattle.std.proofs.lemmas.Grind.{common_steps}
use Rattle.std.proofs.Common.{rules, ◌≡◌, ℕ, zero, suc, ◌+◌, ◌<◌, ◌≤◌, Bool, true, false, cond, [], ◌∷◌, ◌++◌, length}
use Rattle.std.proofs.Common.{map, ◌∙◌, refl, arith, ◌≢◌, ◌⊎◌, ◌*◌, ◌/◌, eqb, List, get_or, set, Option, Some, None}
use Rattle.std.proofs.Common.{sym, inl, inr, ◌||◌}
use Rattle.std.proofs.lemmas.Bool.{or_right, cases_Bool, cases_eq, cases_lt, eq-eqb, eqb-true, or_left}
use Rattle.std.proofs.lemmas.List.{length-append, nil_from_length, get_or-set_same, get_or-set_other, length-set}
use Rattle.std.proofs.lemmas.List.Sums.{length-filter, count_by-le-length, sum_by-set}
use Rattle.std.specs.List.{filter, range_with_len, list_any, count_by}
use Rattle.def_mesh.specs.Components.{used_count, share_edge, is_marked, component_of}
use Rattle.list_laws.proofs.Filters.{filter_range_more, any_in_range, range_any}
use Rattle.mesh_laws.proofs.Flood.{Shares, sound, closed, own_mark, share_back}
use Rattle.mesh_laws.proofs.Chains.{reverse_twin, twin_reverse, twin_found, twin_is}
use Rattle.qm_sing.specs.Floods.{IsNumbered, Waits, IsClosed, numbers_with, waiting_with, IsSpread, IsFlood, IsFlooded}
use Rattle.std.proofs.{lemmas.Bool.false≢true, lemmas.Option.none-some}
use Rattle.std.proofs.{lemmas.Bool.Decides.nat_tests, lemmas.List.FromFn.length-range_with_len}
use Rattle.std.proofs.{lemmas.List.FromFn.map-range_with_len_more, lemmas.List.Folds.list_any-append}
use Rattle.def_mesh.specs.{Faces.Faces, Meshes.IsMesh, Vertices.vertex_count, Darts.is_reverse, Darts.twin_of}
use Rattle.{qm_sing.specs.declared.flooding.TheConstants.NONE, def_mesh.specs.Manifold.IsManifold}

-- At most all.
pub filter_few : (p : ℕ → Bool) (n : ℕ) → length (filter p (range_with_len 0 n)) ≤ n
filter_few p n = search (rules, length-filter, count_by-le-length, length-range_with_len)

-- One number more.
pub one_more : (p : ℕ → Bool) (n : ℕ) → length (filter p (range_with_len 0 (n + 1)))
    ≡ length (filter p (range_with_len 0 n)) + cond (p n) 1 0
one_more p n = search (rules, filter_range_more, length-append)

-- All of a range.
pub filter_all : (p : ℕ → Bool) (a n : ℕ) → ((x : ℕ) → a ≤ x → x < a + n → p x ≡ true) → filter p (range_with_len a n)
    ≡ range_with_len a n
filter_all p a zero all = refl
filter_all p a (suc n) all = search (rules, filter_all p (a + 1) n (λ x l h. all x (omega arith) (omega arith)))

-- All vertices of a mesh are used.
pub used_is : (faces : Faces) → IsMesh faces → used_count faces ≡ vertex_count faces
used_is faces m = search (rules, filter_all, length-range_with_len)

-- One value more along a range, and one number more of a filter.
pub map_more : {X : Type 0} (f : ℕ → X) (n : ℕ) → map f (range_with_len 0 (n + 1)) ≡ map f (range_with_len 0 n)
    ++ f n ∷ []
map_more f n = map-range_with_len_more f 0 n n (omega arith)

pub filter_on : (p : ℕ → Bool) (n : ℕ) {old : List ℕ} → p n ≡ true → old ≡ filter p (range_with_len 0 n)
    → old ++ n ∷ [] ≡ filter p (range_with_len 0 (n + 1))
filter_on p n is are = rw (are, filter_range_more p n, is) refl

pub filter_off : (p : ℕ → Bool) (n : ℕ) {old : List ℕ} → p n ≡ false → old ≡ filter p (range_with_len 0 n)
    → old ≡ filter p (range_with_len 0 (n + 1))
filter_off p n is are = search (rules, filter_range_more)

-- A flood, face by face.

-- Who waits after one more came.
one_came : (xs : List ℕ) (y g : ℕ) → list_any (λ f. eqb f g) (xs ++ y ∷ [])
    ≡ (list_any (λ f. eqb f g) xs || (eqb y g || false))
one_came xs y g = list_any-append (λ f. eqb f g) xs (y ∷ [])

waits_old : (xs : List ℕ) (y g : ℕ) → Waits xs g → Waits (xs ++ y ∷ []) g
waits_old xs y g w = one_came xs y g ∙ or_left _ _ w

waits_new : (xs : List ℕ) (g : ℕ) → Waits (xs ++ g ∷ []) g
waits_new xs g = one_came xs g g ∙ or_right _ _ (or_left _ _ (eq-eqb g g refl))

waits_cases : (xs : List ℕ) (y g : ℕ) → Waits (xs ++ y ∷ []) g → Waits xs g ⊎ (y ≡ g)
waits_cases xs y g w = grind (arith, nat_tests, one_came xs y g)

-- Faces share an edge where a dart of one has its twin in the other.
pub shared_by : (faces : Faces) (f d e : ℕ) → 4 * f ≤ d → d < 4 * f + 4 → twin_of faces d ≡ Some e
    → share_edge faces f (e / 4) ≡ true
shared_by faces f d e l h w = any_in_range (λ x. list_any (is_reverse faces x) (range_with_len (4 * (e / 4)) 4)) _ 4 d l
    h (grind (arith, any_in_range (is_reverse faces d) (4 * (e / 4)) 4 e, twin_reverse faces d e (twin_is faces d e w)))

shared_dart : (faces : Faces) → IsManifold faces → (f h : ℕ) → h < length faces → share_edge faces f h ≡ true
    → (d : ℕ) × (e : ℕ) × (4 * f ≤ d) × (d < 4 * f + 4) × (twin_of faces d ≡ Some e) × (e / 4 ≡ h)
shared_dart faces m f h lh s =
    let (d, l, u, t) = range_any (λ x. list_any (is_reverse faces x) (range_with_len (4 * h) 4)) (4 * f) 4 s in
    let (e, k, j, r) = range_any (is_reverse faces d) (4 * h) 4 t in
    (d, e, l, u, twin_found faces m.edges_once d e (reverse_twin faces d e (omega arith) r), omega arith)

-- One side more.
module _ {faces : Faces} {f component i : ℕ} {old now w0 w : List ℕ} (low : component < NONE) (less : i < 4)
    (lf : f < length faces) (s : IsSpread faces f component i old now w0 w) where
  unchanged : ((x : ℕ) → twin_of faces (4 * f + i) ≡ Some x → IsNumbered now (x / 4))
      → IsSpread faces f component (i + 1) old now w0 w
  unchanged last = search rules

  -- The face behind it had no number.
  module _ (e : ℕ) (is : twin_of faces (4 * f + i) ≡ Some e) (bare : get_or now (e / 4) 0 ≡ NONE) where
    abbrev beside : ℕ
    beside = e / 4

    abbrev marked : List ℕ
    marked = set now beside component

    g_low : beside < length faces
    g_low = omega (arith, (twin_is faces (4 * f + i) e is).0)

    value : get_or marked beside 0 ≡ component
    value = get_or-set_same now beside component 0 (omega (arith, g_low, s.long))

    other : (h : ℕ) → h ≢ beside → get_or marked h 0 ≡ get_or now h 0
    other h differ = get_or-set_other now beside h component 0 differ

    numbered : IsSpread faces f component (i + 1) old marked w0 (w ++ beside ∷ [])
    numbered = record {
      long = length-set now beside component ∙ s.long;
      kept = λ h l k. grind (arith, cases_eq h beside, other h, s.kept h l k, bare);
      fresh = λ h l k is_bare.
          let o = s.fresh h l in
          let side = shared_by faces f (4 * f + i) e (omega arith) (omega arith) is in
          let new = waits_new w beside in
          let kept = waits_old w beside h in
          grind (arith, cases_eq h beside, value, other h, o, side, new, kept);
      near = λ d x l h t. grind (arith, common_steps, s.near d x l);
      waits = λ h k. waits_old w beside h (s.waits h k);
      come = search (rules, g_low, waits_cases);
      low = λ h k. elim (waits_cases w beside h k) [ inl a ↦ s.low h a | inr q ↦ rw (← q) g_low ];
      less = search (rules, sum_by-set, g_low, length-append);
    }

  pub spread_more : IsSpread faces f component (i + 1) old (numbers_with (twin_of faces (4 * f + i)) component now) w0
      (waiting_with (twin_of faces (4 * f + i)) now w)
  spread_more = at (twin_of faces (4 * f + i)) refl
    where
      at : (o : Option ℕ) → twin_of faces (4 * f + i) ≡ o
          → IsSpread faces f component (i + 1) old (numbers_with o component now) w0 (waiting_with o now w)
      at None is = unchanged (λ x t. absurd (none-some x (sym is ∙ t)))
      at (Some e) is = grind (arith, numbered e is, eqb-true (get_or now (e / 4) 0) NONE, unchanged)

-- The first face has its number and waits.
pub flood_none : {faces : Faces} {first component : ℕ} {old : List ℕ} (waiting : List ℕ) {more : List ℕ}
    → first < length faces → get_or old first 0 ≡ NONE → length old ≡ length faces → length waiting ≡ 0
    → more ≡ waiting ++ first ∷ [] → IsFlood faces first component old (set old first component) more
flood_none {faces} {first} {component} {old} waiting lf is long none e = rw (e, nil_from_length waiting none) (record {
  long = length-set old first component ∙ long;
  kept = λ g l k. other g (λ q. k (rw q is));
  begun = value;
  fresh = λ g l k o. grind (arith, cases_eq g first, value, own_mark faces first lf, other g);
  done = λ g l k o. grind (arith, nat_tests, cases_eq g first, other g);
  low = λ g w. grind (arith, nat_tests, cases_eq g first, value);
})
  where
    value : get_or (set old first component) first 0 ≡ component
    value = get_or-set_same old first component 0 (omega (arith, lf, long))

    other : (g : ℕ) → g ≢ first → get_or (set old first component) g 0 ≡ get_or old g 0
    other g differ = get_or-set_other old first g component 0 differ

-- The flood takes face f, which waited last.
module _ {faces : Faces} {first component : ℕ} {old now waiting : List ℕ} (f : ℕ) (rest : List ℕ)
    (e : waiting ≡ rest ++ f ∷ []) (w : IsFlood faces first component old now waiting) where
  waited : (g : ℕ) → Waits (rest ++ f ∷ []) g → (g < length faces) × (get_or now g 0 ≡ component)
      × (get_or old g 0 ≡ NONE)
  waited g k = w.low g (rw e k)

  -- What the loop needs of the face that it takes.
  pub taken_low : (f < length faces) × ((g : ℕ) → Waits rest g → g < length faces)
  taken_low = ((waited f (waits_new rest f)).0, λ g k. (waited g (waits_old rest f g k)).0)

  module _ (m : IsManifold faces) {new more : List ℕ} (lf : first < length faces) (low : component < NONE)
      (s : IsSpread faces f component 4 now new rest more) where
    f_marked : is_marked (component_of faces first) f ≡ true
    f_marked = let (l, has, bare) = waited f (waits_new rest f) in grind (arith, w.fresh f l, low)

    beside_f : (h : ℕ) → h < length faces → share_edge faces f h ≡ true → IsNumbered new h
    beside_f h l t = let (d, x, lo, hi, tw, q) = shared_dart faces m f h l t in rw (← q) (s.near d x lo hi tw)

    pub flood_more : IsFlood faces first component old new more
    flood_more = record {
      long = s.long;
      kept = λ g l k. grind (arith, w.kept g l k, s.kept g l);
      begun = grind (arith, w.begun, s.kept first lf, low);
      fresh = λ g l k o.
          grind (arith, closed faces first f g lf taken_low.0 l f_marked, s.fresh g l k, w.fresh g l, s.kept g l);
      done = λ g l k o. elim (cases_eq (get_or now g 0) NONE) [
        | inl bare ↦ inl (s.fresh g l k bare).2
        | inr has ↦ elim (w.done g l has o) [
          | inl a ↦ elim (waits_cases rest f g (rw e at a)) [
            | inl b ↦ inl (s.waits g b)
            | inr q ↦ inr (λ h lh t. beside_f h lh (rw q t))
          ]
          | inr b ↦ inr (λ h lh t. grind (arith, b h lh t, s.kept h lh))
        ]
      ];
      low = λ g k.
          let old = waits_old rest f g in
          grind (arith, s.come g k, waited g, old, s.low g k, s.kept g, w.kept g, cases_eq (get_or now g 0) NONE, low);
    }

-- Nobody waits.
pub flood_over : {faces : Faces} {first component : ℕ} {old now waiting : List ℕ} → first < length faces
    → get_or old first 0 ≡ NONE → component < NONE → IsClosed faces old → length waiting ≡ 0
    → IsFlood faces first component old now waiting → IsFlooded faces first component old now
flood_over {faces} {first} {component} {old} {now} {waiting} lf is low shut none w = search (rules, sound, reach)
  where
    nobody : (g : ℕ) → Waits waiting g → ⊥
    nobody g a = false≢true (rw (nil_from_length waiting none) at a)

    reach : (g n : ℕ) → Shares faces first g n → IsNumbered now g × (get_or old g 0 ≡ NONE)
    reach g zero s = rw (← s) (λ q. absurd (omega (arith, w.begun)), is)
    reach g (suc n) s =
        let p = reach s.0 n s.1 in
        let back = share_back faces s.0 g s.4 in
        grind (arith, p, w.done s.0 s.2, nobody s.0, shut g s.0 s.3 s.2, back, s.3, s.4, cases_eq (get_or old g 0) NONE)
