-- The chains of the arcs of a new mesh are chains of its edges, and name each edge once.
use Rattle.std.proofs.Common.{rules, ◌≡◌, ◌⊎◌, ◌+◌, ◌-◌, ◌<◌, ℕ, Bool, true, false, map, inl, inr, sym, ap, ◌∙◌, arith}
use Rattle.std.proofs.{lemmas.List.FromFn.length-range_with_len, lemmas.List.Folds.list_any_at}
use Rattle.std.proofs.lemmas.Bool.{and_from, eq-eqb, or_left, or_right}
use Rattle.std.proofs.lemmas.List.FromFn.{get_or-map-range_with_len, get_or-range_with_len, length-map-range_with_len}
use Rattle.def_layout.specs.Layouts.{gluing_of, Layout, vertex_at}
use Rattle.def_layout.specs.{Arcs.long_at, Gluings.Gluing, Lengths.AreLengths, Lengths.Lengths, Surfaces.IsSurface}
use Rattle.def_marks.specs.Chains.{is_chain, is_edge, link_at, runs_between, step_places}
use Rattle.def_mesh.specs.Darts.{darts, from_of, to_of}
use Rattle.def_readlaws.specs.{ReadChains.AreNewChains, ReadChains.FinishedChainsLaw}
use Rattle.def_written.specs.Edges.{Edge, IsEdge, IsUndoubled, on_arc}
use Rattle.def_written.specs.{NewFaces.new_faces, Numbers.vertex_number, Points.arc_point}
use Rattle.written_laws.proofs.Courses.{course, course_from, course_of, course_to, end_at, start_at, edge_dart}
use Rattle.written_laws.proofs.{Courses.edge_points, EdgeNumbers.number_same, Shape.laid_law, Shape.new_manifold_law}
use Rattle.written_laws.proofs.NewDarts.{dart_low, dart_number, number_from, number_to}
use Rattle.read_laws.proofs.{LayoutsRead.finished_layout, LayoutsRead.finished_lengths, MarksRead.chain_marks}
use Rattle.{std.proofs.lemmas.List.Sums.list_all-from_AllPass, def_layoutnet.specs.MeshLayouts.IsSomeLayout}
use Rattle.{std.specs.List.range_with_len, def_marks.specs.MarkedText.arc_chain, def_mesh.specs.Faces.Faces}
use Rattle.{embedding_laws.proofs.Bounds.laid_of, embedding_laws.proofs.Bounds.lies}
use Rattle.written_laws.proofs.Between.{simple_from}

-- The ends of a dart that runs between two vertices.
abbrev HasEnds : (faces : Faces) (u v d : ℕ) → Type 0
HasEnds faces u v d = ((from_of faces d ≡ u) × (to_of faces d ≡ v)) ⊎ ((from_of faces d ≡ v) × (to_of faces d ≡ u))

ends_of : (faces : Faces) (u v d : ℕ) → runs_between faces u v d ≡ true → HasEnds faces u v d
ends_of faces u v d runs = search rules

module _ (l : Gluing) (x : Lengths) where
  -- The number of a point of an arc.
  abbrev number : (a k : ℕ) → ℕ
  number a k = vertex_number l x (arc_point l x a k)

  -- The vertex at a place of the chain of an arc.
  pub at_link : (a k : ℕ) → k < x a + 1 → link_at (arc_chain l x a) k ≡ number a k
  at_link a k low = get_or-map-range_with_len (λ k. number a k) 0 (x a + 1) k k 0 low (omega arith)

  module _ (laid : IsSurface l) (len : AreLengths l x) where
    -- Two successive points of an arc are the ends of an edge.
    step_edge : (a k : ℕ) → a < l.arcs → k < x a → is_edge (new_faces l x) (number a k) (number a (k + 1)) ≡ true
    step_edge a k low less =
        let (d, is, same) = edge_dart l x laid len (on_arc a k) (low, less) in
        let n = dart_number l x d in
        list_any_at (runs_between (new_faces l x) (number a k) (number a (k + 1)))
        (range_with_len 0 (darts (new_faces l x))) n 0 (search (rules, length-range_with_len, dart_low))
        (ap (runs_between (new_faces l x) (number a k) (number a (k + 1)))
        (search (rules, get_or-range_with_len, dart_low)) ∙ by_way n (course_of l x d).ahead
        (search (rules, number_from, course_from)) (number_to l x d is ∙ ap (vertex_number l x)
        (course_to l x laid len d is ∙ ap (λ (e : Edge). end_at l x (course e (course_of l x d).ahead)) same)))
      where
        by_way : (d : ℕ) (b : Bool)
            → from_of (new_faces l x) d ≡ vertex_number l x (start_at l x (course (on_arc a k) b))
            → to_of (new_faces l x) d ≡ vertex_number l x (end_at l x (course (on_arc a k) b))
            → runs_between (new_faces l x) (number a k) (number a (k + 1)) d ≡ true
        by_way d true from to = or_left _ _ (and_from _ _ (eq-eqb _ _ from) (eq-eqb _ _ to))
        by_way d false from to = or_right _ _ (and_from _ _ (eq-eqb _ _ from) (eq-eqb _ _ to))

    pub chain_is : (a : ℕ) → a < l.arcs → is_chain (new_faces l x) (arc_chain l x a) ≡ true
    chain_is a low = list_all-from_AllPass (λ k. is_edge (new_faces l x) (link_at (arc_chain l x a) k)
        (link_at (arc_chain l x a) (k + 1))) (step_places (arc_chain l x a))
        (search (rules, length-range_with_len, get_or-range_with_len, length-map-range_with_len, at_link, step_edge))

    -- Edges with one pair of vertices are one edge.
    one_edge : IsUndoubled l x → (a k b m d : ℕ) → IsEdge l x (on_arc a k) → IsEdge l x (on_arc b m)
        → runs_between (new_faces l x) (number a k) (number a (k + 1)) d ≡ true
        → runs_between (new_faces l x) (number b m) (number b (m + 1)) d ≡ true → on_arc a k ≡ on_arc b m
    one_edge undoubled a k b m d is also runs and_runs =
        let simple = simple_from l x undoubled in
        let one = edge_points l x laid len (on_arc a k) is in
        let two = edge_points l x laid len (on_arc b m) also in
        let as_one = λ (from : number a k ≡ number b m) (to : number a (k + 1) ≡ number b (m + 1)).
        simple.same (on_arc a k) (on_arc b m) is also (number_same l x (arc_point l x a k) (arc_point l x b m)
        one.0 two.0 from) (number_same l x (arc_point l x a (k + 1)) (arc_point l x b (m + 1)) one.1 two.1 to) in
        let as_crossed = λ (from : number a k ≡ number b (m + 1)) (to : number a (k + 1) ≡ number b m).
        simple.crossed (on_arc a k) (on_arc b m) is also (number_same l x (arc_point l x a k) (arc_point l x b (m + 1))
        one.0 two.1 from) (number_same l x (arc_point l x a (k + 1)) (arc_point l x b m) one.1 two.0 to) in
        elim (ends_of (new_faces l x) (number a k) (number a (k + 1)) d runs) [
          | inl s ↦ search rules
          | inr s ↦ search rules
        ]

new_chains : (layout : Layout) (new : Lengths) → IsSomeLayout layout → AreLengths (gluing_of layout) new
    → IsUndoubled (gluing_of layout) new → AreNewChains layout new
new_chains layout new is len undoubled =
    let l = gluing_of layout in
    let laid = laid_of layout is in
    let surface = laid_law is.faces l (long_at layout.arcs) (vertex_at layout) (lies layout is) in
    let along : (a k d : ℕ) → k < new a → runs_between (new_faces l new) (link_at (arc_chain l new a) k)
    (link_at (arc_chain l new a) (k + 1)) d ≡ true → runs_between (new_faces l new) (number l new a k)
    (number l new a (k + 1)) d ≡ true = λ a k d less runs. (λ t. runs_between (new_faces l new)
    (sym (at_link l new a k (omega arith)) t) (sym (at_link l new a (k + 1) (omega arith)) t) d) ∙ runs in
    record {
      chain = λ arc low. chain_is l new laid len arc low;
      once = λ a k b m d low also less fewer runs and_runs.
          let same = one_edge l new laid len undoubled a k b m d (low, less) (also, fewer) (along a k d less runs)
          (along b m d fewer and_runs) in
          search rules;
      marked = λ arcs. chain_marks (new_faces l new) (map (arc_chain l new) arcs)
          (new_manifold_law l new surface.0 surface.1 len undoubled);
    }

pub finished_chains_law : FinishedChainsLaw
finished_chains_law command bytes text wrote range = search (rules, new_chains, finished_layout, finished_lengths)
