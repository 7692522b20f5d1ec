-- Remedies along arcs and along the sides of patches, by the edges of arcs and of lines.
use Rattle.std.proofs.Common.{rules, ◌≡◌, ◌⊎◌, ◌↔◌, ℕ, ◌-◌, ◌%◌, ◌<◌, not, refl, inl, inr, arith}
use Rattle.def_layout.specs.{Lengths.Lengths, Lengths.size, Layouts.Layout, Layouts.layout_of, Gluings.Gluing}
use Rattle.def_written.specs.Edges.{Edge, on_arc, flat, steep, IsEdge}
use Rattle.qm_stitch.proofs.{TightEdges.key_tells, TightEdges.line_end, TightEdges.line_some, RiseLists.remedy_in}
use Rattle.qm_stitch.specs.{declared.priced.Priced.Priced, Tight.IsDoubled, Lengthened.gluing_in, Lengthened.lengths_by}
use Rattle.qm_stitch.specs.Remedies.{price_along, price_of, short_price, IsAlong, IsAlongArcs, IsAlongPatches, IsByLine}
use Rattle.qm_stitch.specs.Remedies.{IsPricedRemedy, IsRunOf, IsShortRun}
use Rattle.qm_stitch.specs.Rims.{along_lines, key_of, line_edge, IsLine, IsRepeat}
use Rattle.qm_stitch.specs.declared.remedy.{Run.TheVariants.Arc, Run.TheVariants.Side, Run.Run, Remedy.Remedy}
use Rattle.{qm_stitch.proofs.RimEdges.line_is, qm_offsets.specs.Fours.arcs_on, qm_stitch.specs.declared.rim.Line.Line}
use Rattle.{def_flow.specs.declared.limits.TheConstants.MAX_FLOOR, std.specs.Prelude.◌==◌, std.specs.Prelude.ℤ}

-- The edges of a line lie along the sides of its direction, and no other edges do.
side_run : (s : ℕ) → s < 4 → (p n k : ℕ) → IsRunOf (line_edge (s % 2 == 1) p n k) (Side p s)
side_run s h1 p n k = search rules

run_line : (e : Edge) (p s : ℕ) → IsRunOf e (Side p s) → (n : ℕ) × (k : ℕ) × (e ≡ line_edge (s % 2 == 1) p n k)
run_line (on_arc a k) p s is = absurd cc
run_line (flat q i j) p s (inl is) = let t : s ≡ 0 = cc in let r : q ≡ p = cc in (j, i, rw (t, r))
run_line (flat q i j) p s (inr is) = let t : s ≡ 2 = cc in let r : q ≡ p = cc in (j, i, rw (t, r))
run_line (steep q i j) p s (inl is) = let t : s ≡ 1 = cc in let r : q ≡ p = cc in (i, j, rw (t, r))
run_line (steep q i j) p s (inr is) = let t : s ≡ 3 = cc in let r : q ≡ p = cc in (i, j, rw (t, r))

run_arc : (e : Edge) (a : ℕ) → IsRunOf e (Arc a) → (k : ℕ) × (e ≡ on_arc a k)
run_arc e a h1 = search rules

module _ (priced : Priced) where
  abbrev layout : Layout
  layout = layout_of priced.keyed.numbered.t.now

  abbrev l : Gluing
  l = gluing_in priced.keyed.numbered

  abbrev x : Lengths
  x = lengths_by priced.keyed.numbered

  -- A remedy with a key that repeats, and one by an edge, where that is doubled.
  abbrev pub IsWith : (key : ℕ) (price : ℤ) (run : Run) (r : Remedy) → Type 0
  IsWith key price run r = (r ≡ record { key = key; price = price; run = run }) × IsRepeat priced.keyed.keys.now key

  abbrev pub IsBy : (edge : Edge) (price : ℤ) (run : Run) (r : Remedy) → Type 0
  IsBy edge price run r = IsWith (key_of l x edge) price run r

  -- A line of a patch, by the side along which it runs, and a remedy by one of its edges.
  abbrev pub line_along : (p s n : ℕ) → Line
  line_along p s n = record { patch = p; upright = s % 2 == 1; number = n }

  abbrev pub IsInLine : (p s : ℕ) (price : ℤ) (n : ℕ) (r : Remedy) → Type 0
  IsInLine p s price n r = (0 < n) × IsByLine priced (line_along p s n) price (Side p s) r

  -- A remedy by an edge that is doubled: its key repeats.
  abbrev IsOf : (e : Edge) (price : ℤ) (run : Run) (r : Remedy) → Type 0
  IsOf e price run r = IsDoubled l x e × (r.key ≡ key_of l x e) × (r.price ≡ price) × (r.run ≡ run)

  by_edge : (e : Edge) (price : ℤ) (run : Run) (r : Remedy) → IsEdge l x e → IsBy e price run r ↔ IsOf e price run r
  by_edge e price run r is =
      let tells = key_tells priced.keyed e is in (
        λ (same, repeats). rw same (tells.0 repeats, refl, refl, refl),
        λ (doubled, key, cost, along). (λ i. record { key = key i; price = cost i; run = along i }, tells.1 doubled),
      )

  -- Those by the first edge of a line and by the last one are those by the line.
  module _ (line : Line) (inside : IsLine l x line) (price : ℤ) (run : Run) where
    abbrev long : ℕ
    long = size l x line.patch (along_lines line.upright)

    abbrev edge : (k : ℕ) → Edge
    edge k = line_edge line.upright line.patch line.number k

    pub line_both : (first last : ℕ) (cost : ℤ) → first ≡ key_of l x (edge 0) → last ≡ key_of l x (edge (long - 1))
        → cost ≡ price → (r : Remedy)
        → (IsWith first cost run r ⊎ IsWith last cost run r) ↔ IsByLine priced line price run r
    line_both first last cost first_is last_is cost_is r =
        let some = line_some priced.keyed inside in
        rw (first_is, last_is, cost_is) (
          elim [ inl by ↦ by_end 0 some by | inr by ↦ by_end _ (omega arith) by ],
          λ by.
              let back = (by_edge _ _ _ r by.doubled.is).1 (by.doubled, by.key, by.price, by.run) in
              elim (line_end priced.keyed _ _ _ _ by.doubled) [
                | inl same ↦ inl (rw same at back)
                | inr same ↦ inr (rw same at back)
              ],
        )
      where
        by_end : (k : ℕ) → k < long → IsBy (edge k) price run r → IsByLine priced line price run r
        by_end k less by =
            let is = (line_is l x _ _ _ k).1 (inside.patch, inside.some, inside.inside, less) in
            let (doubled, key, cost, along) = (by_edge _ _ _ r is).0 by in
            record { at = k; doubled = doubled; key = key; price = cost; run = along }

  -- Those along a short run are those by the edges along which it lies.
  along_by : (run : Run) → IsShortRun layout x run → (r : Remedy) → IsAlong priced run r
      ↔ ((e : Edge) × IsRunOf e run × IsOf e (price_of layout x priced.prices.now run) run r)
  along_by run short r = search rules

  -- Those in all lines along a side are those along it.
  pub side_both : (p s lines : ℕ) (price : ℤ) → s < 4 → lines ≡ size l x p (along_lines (not (s % 2 == 1)))
      → price ≡ price_along x priced.prices.now (arcs_on layout p s) → IsShortRun layout x (Side p s)
      → (r : Remedy) → ((n : ℕ) × (n < lines) × IsInLine p s price n r) ↔ IsAlong priced (Side p s) r
  side_both p s lines price low lines_is price_is short r = (
    search (rules, side_run),
    λ has.
        let (e, of, by) = (along_by _ short r).0 has in
        let (n, k, is) = run_line e p s of in
        search (rules, line_is l x (s % 2 == 1) p n k),
  )

  -- Those by all edges of a short arc are those along it.
  pub arc_both : (a many : ℕ) → a < l.arcs → x a < MAX_FLOOR → many ≡ x a → (r : Remedy)
      → ((k : ℕ) × (k < many) × IsBy (on_arc a k) (short_price x priced.prices.now a) (Arc a) r)
      ↔ IsAlong priced (Arc a) r
  arc_both a many low short many_is r =
      let along = along_by (Arc a) (a, refl, short) r in
      let by_key = λ (k : ℕ). by_edge (on_arc a k) (short_price x priced.prices.now a) (Arc a) r in (
        λ (k, less, by). along.1 (on_arc a k, refl, (by_key k (low, omega arith)).0 by),
        λ has.
            let (e, of, by) = along.0 has in
            let (k, is) = run_arc e a of in
            let here = rw is at by in
            (k, omega (arith, here.0.is.1), (by_key k here.0.is).1 here),
      )

  -- Where an arc is not short, there is none along it; and where no arc on a side is, there is none along that.
  pub none_along : (run : Run) → ¬ IsShortRun layout x run → (r : Remedy) → ¬ IsAlong priced run r
  none_along run none r (same, (e, by)) = none (rw same at by.short)

  -- Those along all arcs and all sides are all.
  pub all_both : (arcs patches : ℕ) → arcs ≡ l.arcs → patches ≡ l.patches → (r : Remedy)
      → (IsAlongArcs priced arcs r ⊎ IsAlongPatches priced patches r) ↔ IsPricedRemedy priced r
  all_both arcs patches arcs_are patches_are r = (
    elim [ inl along ↦ along.2.1 | inr along ↦ along.2.2.1 ],
    λ has. let there = remedy_in layout x priced.prices.now r has in search rules,
  )
