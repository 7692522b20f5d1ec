-- The laws of the motion on a mesh.
use Rattle.std.proofs.Common.{rules, ◌≡◌, ℕ, zero, suc, ◌<◌, Bool, false, length, get_or, sym, ◌∙◌, inl, inr, arith}
use Rattle.std.proofs.lemmas.List.FromFn.{length-range_with_len, get_or-map-range_with_len}
use Rattle.def_mesh.specs.Darts.{darts, all_darts, from_of, to_of}
use Rattle.def_mesh.specs.{Vertices.vertex_count, Components.start_darts, HalfEdges.HalfEdges, HalfEdges.IsQuadManifold}
use Rattle.def_cut.specs.Motion.{ridden, is_among, start, after_steps}
use Rattle.def_cut.specs.Traced.{terrain_of, last_state, is_traced, traced_marks}
use Rattle.def_cut.specs.MotionLaws.{IsKnown, StateLaw, TracedGraphLaw, OrderLaw}
use Rattle.motion_laws.proofs.Order.{one_end, possible, reached_at, within}
use Rattle.motion_laws.proofs.Onward.{end_reached, full_cut, nobody_runs}
use Rattle.site_laws.proofs.Sites.{course, started, terrain}
use Rattle.{std.proofs.lemmas.List.length-map, def_cut.specs.Cuts.Links, def_cut.specs.Cuts.IsCut}
use Rattle.{def_cut.specs.FullCut.is_on, mesh_laws.proofs.Flood.all_below, cut_laws.proofs.Classes.links_low}
use Rattle.face_laws.proofs.FullCuts.{full_cut_law}
use Rattle.motion_laws.proofs.{Marks.among_at, Marks.places_apart, Bits.IsKnown as Known, Steps.first, Order.bounded}

pub state_law : StateLaw
state_law faces m n =
    let r = reached_at (course faces m) n in
    let s = after_steps (terrain_of faces) (start_darts faces) n in
    let by_known : (v : ℕ) → Known (terrain_of faces) s v → IsKnown faces s v = search rules in
    record {
      differ = search (rules, places_apart);
      left = λ i l. r.left (get_or (ridden s.riders) i 0) (among_at (ridden s.riders) i l);
      known = λ d l c. let e = r.ends d l c in (by_known (from_of faces d) e.0, by_known (to_of faces d) e.1);
    }

-- A cut that agrees with a full cut on all darts is one.
module _ (mesh : HalfEdges) (laws : IsQuadManifold mesh) (cut other : ℕ → Bool) (same : (d : ℕ) → d < mesh.count
    → other d ≡ cut d) where
  pub same_links : (d e n : ℕ) → d < mesh.count → Links mesh cut d e n → Links mesh other d e n
  same_links d e zero l s = s
  same_links d e (suc n) l s = search (rules, links_low, same_links d s.0 n l s.1)

  pub same_cut : IsCut mesh cut → IsCut mesh other
  same_cut c = record {
    alike = λ d e l w. same e (laws.twin_low d e l w) ∙ (c.alike d e l w ∙ sym (same d l));
    boundary = λ d l w. same d l ∙ c.boundary d l w;
    gaps = λ d l on. elim (c.gaps d l (sym (same d l) ∙ on)) [
      | inl a ↦ inl (same (mesh.next d) (laws.next_low d l) ∙ a)
      | inr w ↦ search rules
    ];
    crossed = search rules;
    corner = λ d l.
        let k = c.corner d l in
        (k.0, k.1, same_links d k.0 k.1 l k.2, search rules);
  }

pub graph_law : TracedGraphLaw
graph_law faces m =
    let g = terrain_of faces in
    let t = terrain faces m in
    let begins = λ (e : ℕ). is_among e (start_darts faces) in
    let s = start g (start_darts faces) in
    let begin = first g t (start_darts faces) (started faces m) in
    let none = nobody_runs g t begins s begin (vertex_count faces) (all_below faces) in
    let cut = full_cut g t begins s begin (last_state faces) (search (rules, end_reached, all_below)) none in
    let long : length (traced_marks faces) ≡ darts faces =
    length-map (all_darts faces) (is_traced faces) ∙ length-range_with_len 0 (darts faces) in
    let same : (d : ℕ) → d < darts faces → is_on (traced_marks faces) d ≡ is_traced faces d =
    λ d l. get_or-map-range_with_len (is_traced faces) 0 (darts faces) d d false l (omega arith) in (
      none,
      (full_cut_law faces (traced_marks faces) m).1 (long, search (rules, same_cut)),
    )

pub order_law : OrderLaw
order_law faces m es x l =
    let w = within (course faces m) es x l in
    record {
      possible = possible w;
      bounded = bounded w;
      same_riders = λ none. (one_end w none).0;
      same_edges = λ none. (one_end w none).1;
    }
