-- New points lie between the least and the greatest of the old coordinates.
use Rattle.std.proofs.Common.{rules, ◌≡◌, ℕ, zero, suc, ◌+◌, ◌-◌, ◌*◌, ◌/◌, ◌%◌, ◌^◌, ◌<◌, ◌≤◌, ℤ, pos, negsuc, ◌+ℤ◌}
use Rattle.std.proofs.Common.{◌-ℤ◌, ◌*ℤ◌, Bool, not, sym, ◌∙◌, ap, inl, inr, arith, ◌≢◌, refl}
use Rattle.std.proofs.{Math.Nat.mod-lt, Math.Nat.div-add-mod, lemmas.Bool.cases_eq, lemmas.Bool.cases_lt}
use Rattle.std.proofs.{lemmas.Int.ints, lemmas.Int.by_lt_z, lemmas.Nat.mul-le}
use Rattle.std.specs.{Prelude.◌≤ℤ◌, Prelude.◌<ℤ◌, Int.int_div_euclid}
use Rattle.sum_laws.proofs.Sums.{times_sum}
use Rattle.def_layout.specs.Lengths.{Lengths, reach, size, wide, high, AreLengths}
use Rattle.def_layout.specs.{Gluings.Way, Gluings.south, Gluings.east, Gluings.north, Gluings.west, Gluings.Gluing}
use Rattle.def_layout.specs.{declared.tmesh.SideArc.SideArc, Surfaces.IsSurface, Cells.dart}
use Rattle.def_written.specs.Points.{Point, node, along, inside, IsPoint, arc_point, use_over, offset_at}
use Rattle.def_written.specs.Places.{Coordinate, on_the_way, ONE, parameter, parameter_back, parameter_u, parameter_v}
use Rattle.def_written.specs.Places.{cell_at, blend, place_of, ArcSpacing, Step}
use Rattle.def_written.specs.Edges.{on_arc, Edge, IsEdge, edge_start, edge_end, HasEnds, IsUndoubled}
use Rattle.def_written.specs.{NewFaces.dart_start, Spacings.IsSpacing, Laws.BetweenLaw, Numbers.vertex_number}
use Rattle.written_laws.proofs.{Sides.reach_low, Sides.IsOn, Sides.place_on, Rims.wide_some}
use Rattle.written_laws.proofs.{Rims.high_some, Borders.from_is, Courses.edge_points, EdgeNumbers.number_same}
use Rattle.written_laws.proofs.{EdgeNumbers.edge_number, EdgeNumbers.edge_same, Manifold.IsSimple}

-- Products with a natural number, term by term.
times_le : (k : ℕ) (a b : ℤ) → a ≤ℤ b → (pos k *ℤ a) ≤ℤ (pos k *ℤ b)
times_le zero a b le = omega (arith, ints)
times_le (suc k) a b le = omega (arith, ints, times_le k a b le)

sum_times : (k m : ℕ) (a : ℤ) → pos (k + m) *ℤ a ≡ (pos k *ℤ a) +ℤ (pos m *ℤ a)
sum_times zero m a = let e : zero + m ≡ m = omega arith in omega (arith, ints, ap (λ n. pos n *ℤ a) e)
sum_times (suc k) m a = search (rules, ints)

-- What a quotient leaves.
quotient_rest : (a : ℤ) (b : ℕ) → 0 < b → (r : ℕ) × (r < b) × (a ≡ (pos b *ℤ int_div_euclid a (pos b)) +ℤ pos r)
quotient_rest (pos a) b some = (a % b, mod-lt a some, ap pos (sym (div-add-mod a b)))
quotient_rest (negsuc a) b some = (b - 1 - a % b, omega arith, omega (arith, ints, div-add-mod a b, mod-lt a some))

-- A quotient between two whole numbers.
quotient_within : (a lo hi : ℤ) (b : ℕ) → 0 < b → (pos b *ℤ lo) ≤ℤ a → a <ℤ ((pos b *ℤ hi) +ℤ pos b)
    → (lo ≤ℤ int_div_euclid a (pos b)) × (int_div_euclid a (pos b) ≤ℤ hi)
quotient_within a lo hi b some above below =
    let q = int_div_euclid a (pos b) in
    let r = quotient_rest a b some in (
      by_lt_z q lo (λ less. let le : (q +ℤ pos 1) ≤ℤ lo = omega (arith, ints) in absurd
          (omega (arith, ints, times_le b (q +ℤ pos 1) lo le, one q, r.1, r.2, above))) (λ le. le),
      by_lt_z hi q (λ less. let le : (hi +ℤ pos 1) ≤ℤ q = omega (arith, ints) in absurd
          (omega (arith, ints, times_le b (hi +ℤ pos 1) q le, one hi, r.2, below))) (λ le. le),
    )
  where
    one : (c : ℤ) → pos b *ℤ (c +ℤ pos 1) ≡ (pos b *ℤ c) +ℤ pos b
    one c = let e : b * 1 ≡ b = omega arith in times_sum (pos b) c (pos 1) ∙ ap (λ n. (pos b *ℤ c) +ℤ pos n) e

-- A part of the way lies between its ends.
pub way_within : (p q least greatest : ℤ) (r x : ℕ) → r ≤ x → 0 < x → least ≤ℤ p → p ≤ℤ greatest → least ≤ℤ q
    → q ≤ℤ greatest → (least ≤ℤ on_the_way p q r x) × (on_the_way p q r x ≤ℤ greatest)
way_within p q least greatest r x le some p_low p_high q_low q_high =
    let split : 2 * x ≡ 2 * r + 2 * (x - r) = omega arith in
    let least_split = ap (λ n. pos n *ℤ (least -ℤ p)) split ∙ sum_times (2 * r) (2 * (x - r)) (least -ℤ p) in
    let greatest_split = ap (λ n. pos n *ℤ (greatest -ℤ p)) split ∙ sum_times (2 * r) (2 * (x - r)) (greatest -ℤ p) in
    let low = times_le (2 * r) (least -ℤ p) (q -ℤ p) (omega (arith, ints)) in
    let low_rest = times_le (2 * (x - r)) (least -ℤ p) (pos 0) (omega (arith, ints)) in
    let high = times_le (2 * r) (q -ℤ p) (greatest -ℤ p) (omega (arith, ints)) in
    let high_rest = times_le (2 * (x - r)) (pos 0) (greatest -ℤ p) (omega (arith, ints)) in
    let bounds = quotient_within ((pos (2 * r) *ℤ (q -ℤ p)) +ℤ pos x) (least -ℤ p) (greatest -ℤ p) (2 * x)
    (omega arith) (omega (arith, ints, low, low_rest)) (omega (arith, ints, high, high_rest)) in
    (omega (arith, ints, bounds.0), omega (arith, ints, bounds.1))

-- A mean lies between the corners.
pub blend_within : (s t : ℕ) (a b c d least greatest : ℤ) → s ≤ ONE → t ≤ ONE
    → least ≤ℤ a → least ≤ℤ b → least ≤ℤ c → least ≤ℤ d → a ≤ℤ greatest → b ≤ℤ greatest → c ≤ℤ greatest → d ≤ℤ greatest
    → (least ≤ℤ blend s t a b c d) × (blend s t a b c d ≤ℤ greatest)
blend_within s t a b c d least greatest s_le t_le a_low b_low c_low d_low a_high b_high c_high d_high = quotient_within
    _ _ _ _ (omega arith) (omega (
      arith,
      ints,
      total least,
      times_le ((ONE - s) * (ONE - t)) _ a a_low,
      times_le (s * (ONE - t)) _ b b_low,
      times_le ((ONE - s) * t) _ c c_low,
      times_le (s * t) _ d d_low,
    ))
    (omega (
      arith,
      ints,
      total greatest,
      times_le ((ONE - s) * (ONE - t)) a _ a_high,
      times_le (s * (ONE - t)) b _ b_high,
      times_le ((ONE - s) * t) c _ c_high,
      times_le (s * t) d _ d_high,
    ))
  where
    weights : ((ONE - s) * (ONE - t) + s * (ONE - t)) + ((ONE - s) * t + s * t) ≡ 2 ^ 64
    weights =
        let u : ONE - s + s ≡ ONE = omega arith in
        let v : ONE - t + t ≡ ONE = omega arith in
        let e : (ONE - s + s) * (ONE - t + t) ≡ ONE * ONE = λ k. u k * v k in omega (arith, e)

    total : (z : ℤ) → ((pos ((ONE - s) * (ONE - t)) *ℤ z) +ℤ (pos (s * (ONE - t)) *ℤ z)) +ℤ
        ((pos ((ONE - s) * t) *ℤ z) +ℤ (pos (s * t) *ℤ z)) ≡ pos (2 ^ 64) *ℤ z
    total z = (search (rules, sum_times)) ∙ sym (sum_times _ _ z) ∙ ap (λ n. pos n *ℤ z) weights

-- A quotient of naturals is at most a number whose product is not less.
pub div_most : (n k d : ℕ) → 0 < d → n ≤ k * d → n / d ≤ k
div_most n k d some le = search rules

module _ {l : Gluing} {old new : Lengths} {spacing : ArcSpacing} (laid : IsSurface l) (o_len : AreLengths l old)
    (n_len : AreLengths l new) (spaced : IsSpacing l old new spacing) where
  arc_most : (a : ℕ) (forward : Bool) (k : ℕ) → a < l.arcs → k ≤ new a → spacing.parameter_of a forward k ≤ ONE * old a
  arc_most a forward k a_low le = grind (arith, cases_eq k (new a))

  -- Parameters of places of a side are at most that of its end.
  sides_most : (p : ℕ) (s : Way) (t : ℕ) → p < l.patches → t < size l new p s → (parameter l old new spacing p s t ≤ ONE
      * size l old p s) × (parameter_back l old new spacing p s t ≤ ONE * size l old p s)
  sides_most p s t p_low less =
      let on : IsOn l new p s t (use_over l new p s t) (offset_at l new p s t) = place_on l new p s t p_low less in
      let upto = reach_low l old _ on.is_slot in
      let one : use_over l new p s t + 1 ≡ suc (use_over l new p s t) = omega arith in
      let used : SideArc = l.use_at p s (use_over l new p s t) in
      let low = laid.paved.arc_low _ on.is_slot in
      let rest = arc_most used.arc (not used.forward) (new used.arc - offset_at l new p s t) low (omega arith) in
      (omega (arith, upto), omega (arith, upto, ap (reach l old p s) one, rest))

  -- A mean of parameters is no greater.
  mean_most : (a b m h j : ℕ) → 0 < h → j ≤ h → a ≤ m → b ≤ m → (a * (h - j) + b * j) / h ≤ m
  mean_most a b m h j some le a_le b_le = grind (arith, mul-le b j m j b_le, div_most)

  place_within : (at : Coordinate) (least greatest : ℤ) → ((a : Point) → IsPoint l old a → (least ≤ℤ at a)
      × (at a ≤ℤ greatest)) → (a : Point) → IsPoint l new a → (least ≤ℤ place_of l old new spacing at a)
      × (place_of l old new spacing at a ≤ℤ greatest)
  place_within at least greatest bound (node n) is = bound _ is
  place_within at least greatest bound (along a k) is =
      let step : Step = spacing.step a k in
      let ends = edge_points l _ laid o_len (on_arc a _) (is.0, spaced.edges a k is.0 is.2) in
      let part : step.some < step.parts = spaced.parts a k is.0 is.2 in
      let p = bound _ ends.0 in
      let q = bound _ ends.1 in
      way_within _ _ _ _ _ _ (omega (arith, part)) (omega (arith, part)) p.0 p.1 q.0 q.1
  place_within at least greatest bound (inside p i j) is =
      let u = parameter_u l old new spacing p i j in
      let v = parameter_v l old new spacing p i j in
      let a = cell_at _ u in
      let b = cell_at _ v in
      let w_some = wide_some l _ laid.paved o_len p is.0 in
      let h_some = high_some l _ laid.paved o_len p is.0 in
      let corner = λ (w : Way). bound _ (from_is l _ laid o_len (dart p a b w) (search rules)) in
      let north_le = (sides_most p north (wide l new p - i) is.0 (omega (arith, is.1, is.2, n_len.across p is.0))).1 in
      let u_most : u ≤ ONE * wide l old p = grind (arith, mean_most, sides_most p) in
      let east_le = (sides_most p east j is.0 (omega (arith, is.4, n_len.upright p is.0))).0 in
      let v_most : v ≤ ONE * high l old p = mean_most _ _ _ _ i (omega arith) (omega arith)
      (sides_most p _ _ is.0 (omega arith)).1 (omega (arith, o_len.upright p is.0, east_le)) in
      blend_within _ _ _ _ _ _ _ _ (omega arith) (omega arith) (corner south).0
      (corner east).0 (corner west).0 (corner north).0 (corner south).1 (corner east).1 (corner west).1 (corner north).1

pub between_law : BetweenLaw
between_law l old new spacing at least greatest laid o_len n_len spaced =
    place_within laid o_len n_len spaced at least greatest

-- No edge is doubled exactly where edges are told by their ends.

module _ (l : Gluing) (x : Lengths) where
  pub simple_from : IsUndoubled l x → IsSimple l x
  simple_from undoubled = record {
    same = λ e f is_e is_f s t. one e f is_e is_f (inl (cc, cc));
    crossed = λ e f is_e is_f s t. one e f is_e is_f (inr (cc, cc));
    no_loop = λ e is s. undoubled _ _ (omega arith, inl (refl, (e, is, inl (refl, ap (vertex_number l x) (sym s)))));
  }
    where
      one : (e f : Edge) → IsEdge l x e → IsEdge l x f
          → HasEnds l x f (vertex_number l x (edge_start l x e)) (vertex_number l x (edge_end l x e)) → e ≡ f
      one e f is_e is_f ends =
          let pair = λ (u v : ℕ) (le : u ≤ v) (apart : e ≢ f) (s : HasEnds l x e u v) (t : HasEnds l x f u v).
          undoubled u v (le, inr (e, f, is_e, is_f, apart, s, t)) in
          let a = vertex_number l x (edge_start l x e) in
          let b = vertex_number l x (edge_end l x e) in
          let same = cases_eq (edge_number l x e) (edge_number l x f) in
          search (rules, same, edge_same, pair a b, pair b a, cases_lt b a)

  module _ (laid : IsSurface l) (len : AreLengths l x) where
    pub undoubled_from : IsSimple l x → IsUndoubled l x
    undoubled_from simple u v doubled = elim doubled.1 [
      | inl (same, (e, is, ends)) ↦ absurd (search (rules, simple.no_loop, number_same, edge_points))
      | inr (e, f, is_e, is_f, apart, s, t) ↦
          let p = edge_points l x laid len e is_e in
          let q = edge_points l x laid len f is_f in
          search (
            rules,
            simple.same e f is_e is_f,
            simple.crossed e f is_e is_f,
            number_same l x _ _ p.0 q.0,
            number_same l x _ _ p.0 q.1,
            number_same l x _ _ p.1 q.0,
            number_same l x _ _ p.1 q.1,
          )
    ]
