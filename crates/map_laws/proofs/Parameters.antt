-- The parameters of the places of sides and of grid points: at the ends of sides, and how large they are.
use Rattle.std.proofs.Common.{rules, ◌≡◌, ℕ, zero, suc, ◌+◌, ◌-◌, ◌*◌, ◌/◌, ◌<◌, ◌≤◌, not, ap, inl, inr, arith}
use Rattle.std.proofs.{lemmas.Bool.cases_eq, lemmas.Bool.cases_lt, lemmas.Nat.mul-le}
use Rattle.def_layout.specs.Lengths.{Lengths, reach, size, wide, high, AreLengths}
use Rattle.def_layout.specs.{Gluings.Way, Gluings.south, Gluings.west, Gluings.Gluing}
use Rattle.def_layout.specs.{Surfaces.IsSurface, declared.tmesh.SideArc.SideArc}
use Rattle.def_written.specs.Places.{ONE, parameter, parameter_back, parameter_u, parameter_v, rest_at, ArcSpacing}
use Rattle.def_written.specs.{Spacings.IsSpacing, Points.inside, Points.offset_at, Points.use_over, Points.IsPoint}
use Rattle.written_laws.proofs.Sides.{first_slot, last_reach, place_on, slot, use_some, IsOn}
use Rattle.written_laws.proofs.{Spacings.count_rises, Spacings.run_last, Spacings.run_place, Spacings.div_less}

-- What is left of a parameter in an old column or row.
pub rest_less : (n u : ℕ) → 0 < n → u < ONE * n → rest_at n u < ONE
rest_less n u some less = omega arith

-- A mean of two numbers below a bound lies below it.
mean_less : (a b m h j : ℕ) → 0 < h → j ≤ h → a < m → b < m → (a * (h - j) + b * j) / h < m
mean_less a b m h j some le a_low b_low =
    let by_parts : (k : ℕ) → (a + 1) * k ≤ m * k → (b + 1) * j ≤ m * j → m * (k + j) ≡ m * h → k + j ≡ h → a * k + b * j
    < m * h = λ k a_le b_le same whole. omega (arith, a_le, b_le, same, whole, some) in
    let e : (a + 1) * (h - j) ≤ m * (h - j) = mul-le (a + 1) (h - j) m (h - j) (omega arith) (omega arith) in
    let f : (b + 1) * j ≤ m * j = mul-le (b + 1) j m j (omega arith) (omega arith) in
    let s : h - j + j ≡ h = omega arith in
    let g : m * (h - j + j) ≡ m * h = ap (λ n. m * n) s in
    div_less (a * (h - j) + b * j) m h some (by_parts (h - j) e f g s)

module _ (l : Gluing) (old new : Lengths) (spacing : ArcSpacing) (laid : IsSurface l) (o_len : AreLengths l old)
    (n_len : AreLengths l new) (spaced : IsSpacing l old new spacing) where
  last_low : (p : ℕ) (s : Way) → p < l.patches → (l.use_at p s (l.many p s - 1)).arc < l.arcs
  last_low p s low = laid.paved.arc_low (slot p s (l.many p s - 1)) (search rules)

  -- At the end of a side the parameter is its old length.
  pub ahead_end : (p : ℕ) (s : Way) → p < l.patches → parameter l old new spacing p s (size l new p s)
      ≡ ONE * size l old p s
  ahead_end p s low =
      let used = l.use_at p s (l.many p s - 1) in
      let rest : size l new p s - reach l new p s (l.many p s - 1) ≡ new used.arc =
      omega (arith, last_reach l new laid.paved n_len p s low) in
      search (rules, run_last, last_reach, last_low, last_reach)

  -- Counted from the end of the side it is 0 there,
  pub back_end : (p : ℕ) (s : Way) → p < l.patches → parameter_back l old new spacing p s (size l new p s) ≡ 0
  back_end p s low = search (rules, run_last, last_reach, last_low)

  -- and the old length at its beginning.
  pub back_begin : (p : ℕ) (s : Way) → p < l.patches → parameter_back l old new spacing p s 0 ≡ ONE * size l old p s
  back_begin p s low =
      let first = first_slot l _ laid.paved n_len p s low in
      let used = l.use_at p s 0 in
      let over : use_over l new p s 0 ≡ 0 = run_place _ _ 0 0 first.low (use_some l _ laid.paved n_len _ first) in
      let upto : reach l old p s 1 ≤ size l old p s = count_rises _ 1 _ (omega arith) in
      let same : new used.arc - (0 - reach l new p s 0) ≡ new used.arc = omega arith in
      rw (over, same) (omega (arith, spaced.ends used.arc (not used.forward) (laid.paved.arc_low (slot p s 0) first)))

  -- Before the end of a side the parameter is below its old length.
  ahead_less : (p : ℕ) (s : Way) (t : ℕ) → p < l.patches → t < size l new p s
      → parameter l old new spacing p s t < ONE * size l old p s
  ahead_less p s t low less =
      let on : IsOn l new p s t (use_over l new p s t) (offset_at l new p s t) = place_on l new p s t low less in
      let upto : reach l old p s (suc (use_over l new p s t)) ≤ size l old p s = search (rules, count_rises) in
      let used : SideArc = l.use_at p s (use_over l new p s t) in
      let part : spacing.parameter_of used.arc used.forward (offset_at l new p s t) < ONE * old used.arc =
      spaced.below used.arc used.forward (offset_at l new p s t)
      (laid.paved.arc_low (slot p s (use_over l new p s t)) on.is_slot) on.inside in
      omega (arith, upto, part)

  -- So it is behind its beginning, where it is counted from the end.
  back_less : (p : ℕ) (s : Way) (t : ℕ) → p < l.patches → 0 < t → t < size l new p s
      → parameter_back l old new spacing p s t < ONE * size l old p s
  back_less p s t low some less =
      let m = use_over l new p s t in
      let o = offset_at l new p s t in
      let on : IsOn l new p s t m o = place_on l new p s t low less in
      let a : ℕ = (l.use_at p s m).arc in
      let turned = not (l.use_at p s m).forward in
      let a_low = laid.paved.arc_low (slot p s m) on.is_slot in
      let next : reach l old p s (m + 1) ≡ reach l old p s m + old a = search rules in
      let upto : reach l old p s (m + 1) ≤ size l old p s = count_rises _ _ _ (omega (arith, on.is_slot.low)) in
      elim (cases_eq o 0) [
        | inl e ↦
            let whole : spacing.parameter_of a turned (new a - o) ≡ ONE * old a =
            (let same : new a - o ≡ new a = omega arith in
            cc (spaced.ends a turned a_low)) in
            let later = later_arc m o e on in
            let first : 0 < reach l old p s 1 = omega (
              arith,
              use_some l old laid.paved o_len (slot p s 0) (first_slot l old laid.paved o_len p s low),
            ) in
            let before : reach l old p s 1 ≤ reach l old p s m = count_rises _ 1 m (omega arith) in
            omega (arith, next, upto, whole, before, first)
        | inr ne ↦ search rules
      ]
    where
      later_arc : (k q : ℕ) → q ≡ 0 → IsOn l new p s t k q → 0 < k
      later_arc zero q none here = absurd (omega arith)
      later_arc (suc k) q none here = omega arith

  -- Parameters are at most the old length.
  ahead_most : (p : ℕ) (s : Way) (t : ℕ) → p < l.patches → t ≤ size l new p s
      → parameter l old new spacing p s t ≤ ONE * size l old p s
  ahead_most p s t low le = elim (cases_lt t (size l new p s)) [
    | inl less ↦ omega (arith, ahead_less p s t low less)
    | inr more ↦ let e : t ≡ size l new p s = omega arith in
        omega (arith, ap (parameter l old new spacing p s) e, ahead_end p s low)
  ]

  back_most : (p : ℕ) (s : Way) (t : ℕ) → p < l.patches → t ≤ size l new p s → parameter_back l old new spacing p s t
      ≤ ONE * size l old p s
  back_most p s t low le = elim (cases_eq t 0) [
    | inl e ↦ omega (arith, ap (parameter_back l old new spacing p s) e, back_begin p s low)
    | inr ne ↦ elim (cases_lt t (size l new p s)) [
      | inl less ↦ omega (arith, back_less p s t low (omega arith) less)
      | inr more ↦ let e : t ≡ size l new p s = omega arith in
          omega (arith, ap (parameter_back l old new spacing p s) e, back_end p s low)
    ]
  ]

  -- Those of a grid point inside a patch are below the old size of the patch.
  pub u_less : (p i j : ℕ) → IsPoint l new (inside p i j) → parameter_u l old new spacing p i j < ONE * wide l old p
  u_less p i j is = mean_less _ _ _ _ j (omega arith) (omega arith) (ahead_less p south i is.0 is.2)
      (search (rules, back_less))

  pub v_less : (p i j : ℕ) → IsPoint l new (inside p i j) → parameter_v l old new spacing p i j < ONE * high l old p
  v_less p i j is = mean_less _ _ _ _ i (omega arith) (omega arith) (back_less p west _ is.0 (omega arith)
      (omega arith)) (search (rules, ahead_less))

  -- Those of any grid point are at most that.
  pub u_upto : (p i j : ℕ) → p < l.patches → i ≤ wide l new p → j ≤ high l new p
      → parameter_u l old new spacing p i j ≤ ONE * wide l old p
  u_upto p i j low i_le j_le =
      let less : parameter_u l old new spacing p i j < ONE * wide l old p + 1
      = search (rules, mean_less, ahead_most, back_most) in
      omega arith

  pub v_upto : (p i j : ℕ) → p < l.patches → i ≤ wide l new p → j ≤ high l new p
      → parameter_v l old new spacing p i j ≤ ONE * high l old p
  v_upto p i j low i_le j_le =
      let less : parameter_v l old new spacing p i j < ONE * high l old p + 1
      = search (rules, mean_less, back_most, ahead_most) in
      omega arith
