-- Riders start beside marks where the tables say so.
use Rattle.std.proofs.Common.{◌≡◌, ℕ, ◌<◌, Bool, true, false, cond, not, ◌&&◌, ◌||◌, List, map, replicate, is_some}
use Rattle.std.proofs.{Common.refl, Common.arith, lemmas.List.FromFn.get_or-map-range_with_len}
use Rattle.def_mesh.specs.{Faces.Faces, Components.is_start, Components.seeds, Components.start_darts, Darts.darts}
use Rattle.def_mesh.specs.{Darts.from_of, Darts.twin_of, Vertices.all_vertices, Vertices.vertex_count}
use Rattle.{sum_laws.proofs.Tests.same_test, def_cut.specs.FullCut.is_on, def_cut.specs.Motion.is_among}
use Rattle.{def_feature.specs.Marks.is_break, def_feature.specs.Marked.is_origin, mesh_laws.proofs.Flood.all_below}
use Rattle.{motion_laws.proofs.Marks.none_on, site_laws.proofs.Sources.start_in, site_laws.proofs.Sources.start_of}

-- A rider starts at a dart where the tables say so.
pub starts_told : (faces : Faces) (marks begun : List Bool) (d : ℕ) {starts : List ℕ} {none breaks : List Bool}
    {one two three result : Bool} → d < darts faces → starts ≡ start_darts faces → none ≡ replicate (darts faces) false
    → ((x : ℕ) → is_on begun x ≡ cond (is_among x starts) true (is_on none x))
    → breaks ≡ map (is_break faces marks) (all_vertices faces)
    → one ≡ is_on begun d → two ≡ (is_some (twin_of faces d) && is_on breaks (from_of faces d)) → three ≡ is_on marks d
    → result ≡ ((one || two) && not three) → result ≡ (is_origin faces marks d && not (is_on marks d))
starts_told faces marks begun d {starts} {none} {breaks} l s e each b is_one is_two is_three is =
    let among = same_test (is_among d (start_darts faces)) (is_start faces (seeds faces) d)
    (λ m. (start_of faces d m).1) (λ y. start_in faces d l y) in
    let here : is_on begun d ≡ is_start faces (seeds faces) d =
    rw (each d, e, none_on (darts faces) d, s, among) (plain (is_start faces (seeds faces) d)) in
    let broken : is_on breaks (from_of faces d) ≡ is_break faces marks (from_of faces d) =
    rw (
      b,
      get_or-map-range_with_len (is_break faces marks) 0 (vertex_count faces) (from_of faces d) (from_of faces d)
          false (all_below faces d l) (omega arith),
    ) refl in
    rw (is, is_one, here, is_two, broken, is_three) refl
  where
    plain : (b : Bool) → cond b true false ≡ b
    plain b = grind arith
