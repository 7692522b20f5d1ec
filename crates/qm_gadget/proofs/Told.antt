-- What a gadget's matchings and lists tell of each other.
use Rattle.std.proofs.Common.{rules, ◌≡◌, ℕ, ◌^◌, ◌≤◌, List, length, pos, ◌-ℤ◌, ◌≤ℤ◌, ◌∙◌, ap, refl}
use Rattle.def_flow.specs.Network.{Network, IsWithinBounds}
use Rattle.def_flow.specs.{MatchingGraph.matching_graph, declared.gadget.Gadget.Gadget, Admissible.IsAdmissible}
use Rattle.def_flow.specs.{Admissible.deviation, Admissible.entries, Gadget.IsGadgetOf, Gadget.IsInBox}
use Rattle.def_matching.specs.Matching.{WeightedGraph, graph, matching_cost, IsPerfect}
use Rattle.gadget_laws.specs.{Told.lengths_told, Box.ups, Marks.places}
use Rattle.gadget_laws.proofs.{Whole.marks_length, Arcs.in_box, Arcs.lengths_law, Box.matching_law, Size.size_law}
use Rattle.qm_gadget.proofs.{Fans.states_long, Fans.downs, Numbers.widths_low, Numbers.lengths_is}
use Rattle.qm_gadget.proofs.OfList.{list_ready, ups_length}
use Rattle.qm_gadget.specs.{Read.lengths_read, Read.widths_over, Ready.IsReady, Ready.marks_over, Ready.graph_by_lows}

module _ {net : Network} {g : Gadget} (bounds : IsWithinBounds net) (of : IsGadgetOf net g) where
  -- The lows and caps of a gadget are ready for a plan.
  pub gadget_ready : IsReady net g.step g.low.items g.cap.items
  gadget_ready = rw (of.lows, of.caps) (list_ready g.step bounds of.lengths of.admissible of.tangle)

  -- The graph is that of its lows and caps.
  own_is : graph_by_lows net g.step g.low.items g.cap.items ≡ graph g.graph
  own_is = rw (of.graphs, of.lows, of.caps, downs g.step net.arcs of.x) refl

  -- A gadget's graph has few edges.
  pub gadget_edges : length g.graph.edges.items ≤ 2 ^ 26
  gadget_edges = search (rules, size_law)

  -- A list in the box has few marks.
  pub gadget_short : (ys : List ℕ) → IsInBox g.step g.low.items g.cap.items ys
      → length (marks_over net g.step g.low.items g.cap.items (ups g.step g.low.items ys)) ≤ 2 ^ 26
  gadget_short ys inside =
      let boxes = gadget_ready.boxes in
      search (rules, states_long, ups_length, marks_length, gadget_edges, own_is)

  -- The units' edges are among the graph's.
  pub gadget_wide : widths_over net g.step g.low.items g.cap.items ≤ length g.graph.edges.items
  gadget_wide = search (rules, widths_low, own_is)

  -- The matching that a list in the box tells.
  pub gadget_matching : (ys : List ℕ) → IsAdmissible net (entries ys) → IsInBox g.step g.low.items g.cap.items ys
      → (m : List ℕ) → m ≡ places 0 (marks_over net g.step g.low.items g.cap.items (ups g.step g.low.items ys))
      → IsPerfect (graph g.graph) m × (matching_cost (graph g.graph) m ≡ pos (deviation net (entries ys)) -ℤ pos
      (deviation net (entries g.low.items)))
  gadget_matching ys admissible inside m is = rw (is, of.graphs, of.lows, of.caps, downs _ _ _)
      (search (rules, matching_law net g.step of.x, in_box g.step net.arcs of.x ys of.steps.0 of.lengths.count))

  -- The list that a perfect matching tells.
  pub gadget_lengths : (m : List ℕ) → IsPerfect (graph g.graph) m → (edges : ℕ) → edges ≡ length g.graph.edges.items
      → (ys : List ℕ) → ys ≡ lengths_read net g.step g.low.items g.cap.items edges m
      → (length ys ≡ length net.arcs) × IsAdmissible net (entries ys)
      × ((pos (deviation net (entries ys)) -ℤ pos (deviation net (entries g.low.items)))
      ≤ℤ matching_cost (graph g.graph) m) × IsInBox g.step g.low.items g.cap.items ys
  gadget_lengths m perfect edges long ys is =
      let many : edges ≡ length (matching_graph net g.step of.x).edges =
      long ∙ ap (λ (h : WeightedGraph). length h.edges) of.graphs in
      let told : ys ≡ lengths_told net g.step of.x m = rw (is, of.lows, of.caps, many, downs _ _ _, lengths_is) refl in
      search (rules, lengths_law)
