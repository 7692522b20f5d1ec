-- A dart of the cut lies on one arc, at one place of it, in one direction.
use Rattle.std.proofs.Common.{rules, ◌≡◌, ℕ, suc, ◌+◌, ◌-◌, ◌<◌, Bool, true, false, List, length, Some, sym, ◌∙◌, ap}
use Rattle.def_layout.specs.Arcs.{LiesAt, Path, path_at, dart_at, long_at, name_at, AreArcs}
use Rattle.cut_laws.proofs.{Classes.least_high, Classes.least_there, Pigeon.increasing_place}
use Rattle.layout_laws.proofs.Runs.{run_low, same_place, same_length, back_run}
use Rattle.{std.proofs.Common.arith, def_mesh.specs.HalfEdges.HalfEdges, def_mesh.specs.HalfEdges.IsQuadManifold}
use Rattle.{def_cut.specs.Cuts.Cut, def_cut.specs.Cuts.IsCut, def_cut.specs.Steps.easts}
use Rattle.def_layout.specs.Nodes.{AreNodes}

module _ (m : HalfEdges) (laws : IsQuadManifold m) (cut : Cut) (full : IsCut m cut) (node : ℕ → Bool)
    (nodes : AreNodes m cut node) (arcs : List Path) (are : AreArcs m cut node arcs) where
  pub dart_low : (a k : ℕ) → a < length arcs → k < long_at arcs a → dart_at arcs a k < m.count
  dart_low a k low less = rw ((are.each a low).each k less)
      (run_low m laws cut full node nodes _ _ (are.each a low).run k less)

-- The same of two lists of arcs.
module _ {m : HalfEdges} (laws : IsQuadManifold m) {cut : Cut} (full : IsCut m cut) {node : ℕ → Bool}
    (nodes : AreNodes m cut node) {arcs : List Path} (are : AreArcs m cut node arcs) {others : List Path}
    (them : AreArcs m cut node others) where
  -- One arc of each, with the same darts.
  pub record IsSameArc (a b k j : ℕ) : Type 0 where
    pub place : k ≡ j
    pub long : long_at arcs a ≡ long_at others b
    pub each : (i : ℕ) → i < long_at arcs a → dart_at arcs a i ≡ dart_at others b i

  -- Arcs with a dart in common have the same darts.
  pub same_arc : (a b k j : ℕ) → a < length arcs → b < length others → k < long_at arcs a → j < long_at others b
      → dart_at arcs a k ≡ dart_at others b j → IsSameArc a b k j
  same_arc a b k j a_low b_low k_low j_low same =
      let (first, place) = same_place m laws cut full node nodes (dart_at arcs a 0) (long_at arcs a) (dart_at others b
      0) (long_at others b) (are.each a a_low).run (them.each b b_low).run k j k_low j_low (search rules) in
      let long = same_length m laws cut full node nodes (dart_at others b 0) (long_at arcs a) (long_at others b)
      (rw first at (are.each a a_low).run) (them.each b b_low).run in search rules

  -- Then they have one name.
  pub one_name_both : (a b k j : ℕ) → a < length arcs → b < length others → IsSameArc a b k j
      → name_at arcs a ≡ name_at others b
  one_name_both a b k j a_low b_low s =
      let n = least_there _ (are.each a a_low).run.some in
      let p = least_there _ (them.each b b_low).run.some in
      omega (
        arith,
        s.each n.0 n.1,
        s.each p.0 (omega (arith, s.long, p.1)),
        least_high (path_at others b).darts n.0 (omega (arith, s.long, n.1)),
        least_high (path_at arcs a).darts p.0 (omega (arith, s.long, p.1)),
      )

  -- A dart of one is no twin of a dart of the other.
  pub clash : (a b k j : ℕ) → a < length arcs → b < length others → k < long_at arcs a → j < long_at others b
      → m.twin (dart_at others b j) ≡ Some (dart_at arcs a k) → ⊥
  clash a b k j a_low b_low k_low j_low twin =
      let (r, back) = back_run m laws _ full _ nodes _ _ (them.each b
      b_low).run j _ j_low (ap m.twin (sym ((them.each b b_low).each j j_low)) ∙ twin) in
      let there : dart_at arcs a k ≡ easts m r (long_at others b - 1 - j) =
      cc (twin, (them.each b b_low).each j j_low, back.twin j (long_at others b - 1 - j) (omega arith)) in
      let place = same_place m laws _ full _ nodes _ _ r _ (are.each a a_low).run back.run k (long_at others b - 1 - j)
      k_low (omega arith) (cc ((are.each a a_low).each k k_low, there)) in
      let long = same_length m laws _ full _ nodes r _ _ (rw place.0 at (are.each a a_low).run) back.run in
      let across : (i n : ℕ) → i + suc n ≡ long_at others b → m.twin (dart_at others b i) ≡ Some (dart_at arcs a n) =
      λ i n sum. cc (
        (them.each b b_low).each i (omega arith),
        back.twin i n sum,
        place.0,
        (are.each a a_low).each n (omega (arith, long)),
      ) in
      let n = least_there _ (are.each a a_low).run.some in
      let p = least_there _ (them.each b b_low).run.some in
      let b_less = (them.each b b_low).named (long_at others b - 1 - n.0) (dart_at _ a _) (omega (
        arith,
        long,
        n.1,
      )) (across (long_at others b - 1 - n.0) n.0 (omega (arith, long, n.1))) in
      let a_less = (are.each a a_low).named (long_at others b - 1 - p.0) (dart_at _ b _) (omega (arith, long, p.1))
      (laws.twin_twin (dart_at _ b _) (dart_at _ a _) (dart_low m laws _ full
      _ nodes _ them b _ b_low p.1) (across p.0 (long_at others b - 1 - p.0) (omega (arith, p.1)))) in
      omega (arith, a_less, b_less, n.2, p.2)

module _ (m : HalfEdges) (laws : IsQuadManifold m) (cut : Cut) (full : IsCut m cut) (node : ℕ → Bool)
    (nodes : AreNodes m cut node) (arcs : List Path) (are : AreArcs m cut node arcs) where
  -- Arcs with a dart in common are one.
  pub same_dart : (a b k j : ℕ) → a < length arcs → b < length arcs → k < long_at arcs a → j < long_at arcs b
      → dart_at arcs a k ≡ dart_at arcs b j → (a ≡ b) × (k ≡ j)
  same_dart a b k j a_low b_low k_low j_low same =
      let s = same_arc laws full nodes are are a b k j a_low b_low k_low j_low same in (
        increasing_place (name_at arcs) (length arcs) (record { step = are.ordered }) a b a_low b_low
            (one_name_both laws full nodes are are a b k j a_low b_low s),
        s.place,
      )

  pub same_use : (a b : ℕ) (f g : Bool) (o k d : ℕ) → a < length arcs → b < length arcs → o < long_at arcs a
      → k < long_at arcs b
      → LiesAt m (path_at arcs a).darts f o d → LiesAt m (path_at arcs b).darts g k d → (a ≡ b) × (f ≡ g) × (o ≡ k)
  same_use a b true true o k d a_low b_low o_low k_low at also = search (rules, same_dart)
  same_use a b false false o k d a_low b_low o_low k_low at also =
      let one : m.twin d ≡ Some (dart_at arcs a (long_at arcs a - 1 - o)) = search (rules, dart_low) in
      search (rules, dart_low, same_dart)
  same_use a b _ _ o k d a_low b_low o_low k_low at also = search (rules, clash)
