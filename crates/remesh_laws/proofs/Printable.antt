-- The soup of a new mesh can be written: its coordinates are in range, its faces are quads over few vertices, and
-- within the limits of the reader it is one that a text can have.
use Rattle.std.proofs.Common.{rules, ◌≡◌, ℕ, zero, suc, ◌-◌, ◌<◌, ◌≤◌, Bool, true, not, List, [], ◌∷◌, Option, length}
use Rattle.std.proofs.Common.{refl, sym, ◌∙◌, ap, arith, pos, negsuc, neg_ℤ, ℤ, ◌≤ℤ◌}
use Rattle.std.proofs.{lemmas.Bool.Decides.Decides-eqb, lemmas.Int.ints, lemmas.List.Folds.list_all-map}
use Rattle.std.proofs.lemmas.Bool.{and_from, and_parts, le-ltb, lt-ltb, ltb-false, not-true}
use Rattle.std.proofs.lemmas.List.FromFn.{get_or-range_with_len, length-range_with_len, length-map-range_with_len}
use Rattle.std.specs.{List.list_all, List.range_with_len, Prelude.nat_lt, Prelude.unsigned_abs, Prelude.slice_index_or}
use Rattle.written_laws.proofs.NewDarts.{cell_is, dart_low, dart_number, number_from}
use Rattle.written_laws.proofs.{Between.between_law, Borders.from_is, EdgeNumbers.point_onto, EdgeNumbers.number_low}
use Rattle.written_laws.proofs.ModelCounts.{dart_used, new_quads, point_dart}
use Rattle.def_text.specs.{Decimal.is_far, FaceSet.FaceSet, Types.Positions, declared.limits.TheConstants.MAX_MICRO}
use Rattle.def_text.specs.Laws.{is_position, is_quad, IsWritableSoup}
use Rattle.def_layout.specs.{Gluings.Gluing, Gluings.Way, Arcs.long_at, FaceLayouts.IsCutLayout, Layouts.Layout}
use Rattle.def_layout.specs.Lengths.{Lengths, high, AreLengths}
use Rattle.def_written.specs.NewFaces.{face_count, new_face, new_faces, cell_vertex}
use Rattle.def_written.specs.{Numbers.vertices, Numbers.vertex_number, Laws.AreQuads}
use Rattle.def_remesh.specs.{NewPoints.point_at, Spaced.spacing_by, TextLaws.IsSolid}
use Rattle.def_remesh.specs.{declared.limits.TheConstants.MAX_NEW_FACES, ReadAgain.IsReadable}
use Rattle.def_remesh.specs.NewSoup.{coordinate, new_coordinate, spaced_place, spaced_soup}
use Rattle.embedding_laws.proofs.Bounds.{vertices_few, laid_of, lengths_of}
use Rattle.qm_obj.proofs.{SoupLemmas.length-numbers_to, SoupLemmas.numbers_rise}
use Rattle.{std.proofs.lemmas.List.Sums.list_all-from_AllPass, def_text.specs.Text.numbers_to}
use Rattle.{def_layout.specs.Layouts.gluing_of, def_layout.specs.Surfaces.IsSurface, def_cut.specs.FullCut.IsFullCut}
use Rattle.{def_cut.specs.Traced.traced_marks, map_laws.proofs.Cells.is_point, map_laws.proofs.OldPoints.spacing_is}
use Rattle.{def_mesh.specs.Faces.Faces, def_mesh.specs.Vertices.is_used, def_certtext.specs.Laws.IsPrintable}
use Rattle.{def_layoutnet.specs.MeshLayouts.IsSomeLayout, site_laws.proofs.Laws.graph_law}

-- What holds at each number of a range passes.
pub passes_range : (p : ℕ → Bool) (n : ℕ) → ((k : ℕ) → k < n → p k ≡ true) → list_all p (range_with_len 0 n) ≡ true
passes_range p n each = search (rules, list_all-from_AllPass, length-range_with_len, get_or-range_with_len)

-- What passes at each corner of a new mesh passes at all corners of its faces, which are quads.
pub faces_pass : (l : Gluing) (x : Lengths) (p : ℕ → Bool) → ((f : ℕ) (w : Way) → f < face_count l x → p (cell_vertex l
    x f w) ≡ true) → list_all (λ face. list_all p face) (new_faces l x) ≡ true
faces_pass l x p each = list_all-map (λ face. list_all p face) (new_face l x) (range_with_len 0 (face_count l x))
    ∙ passes_range _ (face_count l x) (search (rules, and_from))

-- Each corner is a new vertex.
pub corner_there : (l : Gluing) (x : Lengths) → IsSurface l → AreLengths l x → (f : ℕ) (w : Way)
    → f < face_count l x → cell_vertex l x f w < vertices l x
corner_there l x laid len f w low = search (rules, number_low, from_is, cell_is)

-- A number within the range is not far, and a number that is not far is within it.
near : (z : ℤ) → neg_ℤ (pos MAX_MICRO) ≤ℤ z → z ≤ℤ pos MAX_MICRO → not (is_far z) ≡ true
near (pos a) low high = ap not (le-ltb MAX_MICRO a (omega (arith, ints, high)))
near (negsuc a) low high = ap not (le-ltb MAX_MICRO (suc a) (omega (arith, ints, low)))

by_size : (z : ℤ) → unsigned_abs z ≤ MAX_MICRO → (neg_ℤ (pos MAX_MICRO) ≤ℤ z) × (z ≤ℤ pos MAX_MICRO)
by_size (pos a) fine = (omega (arith, ints), omega (arith, ints, fine))
by_size (negsuc a) fine = (omega (arith, ints, fine), omega (arith, ints))

within : (z : ℤ) → not (is_far z) ≡ true → (neg_ℤ (pos MAX_MICRO) ≤ℤ z) × (z ≤ℤ pos MAX_MICRO)
within z is = by_size z (ltb-false MAX_MICRO (unsigned_abs z) (not-true _ is))

-- An entry of a list of numbers that are not far, or 0, is within the range.
entry_within : (p : List ℤ) (k : ℕ) → list_all (λ z. not (is_far z)) p ≡ true
    → (neg_ℤ (pos MAX_MICRO) ≤ℤ slice_index_or p k (pos 0)) × (slice_index_or p k (pos 0) ≤ℤ pos MAX_MICRO)
entry_within [] k all = (omega (arith, ints), omega (arith, ints))
entry_within (z ∷ p) zero all = within z (and_parts _ _ all).0
entry_within (z ∷ p) (suc k) all = entry_within p k (and_parts _ _ all).1

-- So is each coordinate in a list of positions.
coordinate_within : (places : Positions) (v axis : ℕ) → list_all is_position places ≡ true
    → (neg_ℤ (pos MAX_MICRO) ≤ℤ slice_index_or (slice_index_or places v []) axis (pos 0))
    × (slice_index_or (slice_index_or places v []) axis (pos 0) ≤ℤ pos MAX_MICRO)
coordinate_within [] v axis all = (omega (arith, ints), omega (arith, ints))
coordinate_within (p ∷ places) zero axis all = entry_within p axis (and_parts _ _ (and_parts _ _ all).0).1
coordinate_within (p ∷ places) (suc v) axis all = coordinate_within places v axis (and_parts _ _ all).1

-- Quads, as a test of the list and of each face.
pub quads_of : (faces : Faces) → list_all is_quad faces ≡ true → AreQuads faces
quads_of [] all f low = absurd (omega (arith, low))
quads_of (face ∷ faces) all zero low = (Decides-eqb (length face) 4).0 (and_parts _ _ all).0
quads_of (face ∷ faces) all (suc f) low = quads_of faces (and_parts _ _ all).1 f (omega (arith, low))

-- The layout of a full cut is the layout of a mesh.
pub cut_layout : (soup : FaceSet) (marks : List Bool) (layout : Layout) → IsSolid soup → IsFullCut soup.faces marks
    → IsCutLayout soup.faces marks layout → IsSomeLayout layout
cut_layout soup marks layout solid full cut = search (rules, quads_of)

-- So is the one that a traced graph cuts.
pub mesh_layout : (soup : FaceSet) (layout : Layout) → IsSolid soup
    → IsCutLayout soup.faces (traced_marks soup.faces) layout → IsSomeLayout layout
mesh_layout soup layout solid cut = search (rules, cut_layout, graph_law)

module _ (soup : FaceSet) (solid : IsSolid soup) (layout : Layout) (is : IsSomeLayout layout) (shares : Option (List ℕ))
    (x : Lengths) (len : AreLengths (gluing_of layout) x) (few : face_count (gluing_of layout) x ≤ MAX_NEW_FACES) where
  place_fine : (v : ℕ) → v < vertices (gluing_of layout) x
      → is_position (spaced_place soup.faces layout soup.pos shares x v) ≡ true
  place_fine v low = and_from _ _ (fine 0) (and_from _ _ (fine 1) (and_from _ _ (fine 2) refl))
    where
      fine : (axis : ℕ) → not (is_far (new_coordinate soup.faces layout soup.pos shares x
          (point_at (gluing_of layout) x v) axis)) ≡ true
      fine axis =
          let both = between_law (gluing_of layout) (long_at layout.arcs) x (spacing_by layout shares x)
          (coordinate soup.faces layout soup.pos axis) (neg_ℤ (pos MAX_MICRO)) (pos MAX_MICRO) (laid_of layout is)
          (lengths_of _ is) len (spacing_is layout is x len few _) (λ a at. coordinate_within soup.pos _ axis
          solid.printable.positions) (point_at (gluing_of layout) x v) (is_point (gluing_of layout) x v low) in
          near _ both.0 both.1

  pub printable : IsPrintable (spaced_soup soup layout shares x)
  printable = record {
    positions = list_all-map _ _ (range_with_len 0 (vertices (gluing_of layout) x)) ∙ passes_range _ _ place_fine;
    quads = search (rules, list_all-map, passes_range);
    corners = faces_pass (gluing_of layout) x _ (λ f w low. lt-ltb _ _ (omega (
      arith,
      corner_there _ x (laid_of _ is) len f w low,
      few,
      vertices_few _ x (laid_of _ is) len,
    )));
  }

module _ (l : Gluing) (x : Lengths) (laid : IsSurface l) (len : AreLengths l x) where
  -- Each new vertex is a corner of some face.
  uses : (v : ℕ) → v < vertices l x → is_used (new_faces l x) v ≡ true
  uses v low =
      let (a, is, number) = point_onto l x v low in
      let (d, is_d, begins) = point_dart l x laid len a is in
      ap (is_used (new_faces l x)) (sym (number_from l x d is_d ∙ (ap (vertex_number l x) begins ∙ number)))
      ∙ dart_used (new_faces l x) (dart_number l x d) (new_quads l x laid len) (dart_low l x d is_d)

module _ (soup : FaceSet) (layout : Layout) (shares : Option (List ℕ)) (x : Lengths)
    (laid : IsSurface (gluing_of layout)) (len : AreLengths (gluing_of layout) x) where
  abbrev new : FaceSet
  new = spaced_soup soup layout shares x

  many : length new.pos ≡ vertices (gluing_of layout) x
  many = length-map-range_with_len (spaced_place soup.faces layout soup.pos shares x) 0 (vertices (gluing_of layout) x)

  pub new_names : new.names ≡ numbers_to (length new.pos)
  new_names = ap numbers_to (sym many)

  pub writable : IsReadable new → IsWritableSoup new
  writable is = record {
    soup = record {
      in_range = rw many (faces_pass (gluing_of layout) x (λ v. nat_lt v (vertices (gluing_of layout) x))
          (λ f w low. lt-ltb _ _ (corner_there (gluing_of layout) x laid len f w low)));
      used = rw many (uses (gluing_of layout) x laid len);
      named = length-numbers_to (vertices (gluing_of layout) x) ∙ sym many;
      increasing = numbers_rise (vertices (gluing_of layout) x);
    };
    positions = is.near;
    quads = search (rules, list_all-map, passes_range);
    few_vertices = is.few_vertices;
    few_faces = is.few_faces;
  }
