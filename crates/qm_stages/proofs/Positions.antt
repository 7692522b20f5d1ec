-- Each vertex of a mesh has a place in its soup, and a mesh that is cut has the arcs and patches of its layout.
use Rattle.std.proofs.Common.{◌≡◌, ◌<◌, ℕ, length, sym, ◌∙◌, ap, subst, arith}
use Rattle.std.proofs.lemmas.List.{length-map}
use Rattle.def_layout.specs.{Arcs.path, Layouts.layout_of, Layouts.Layout, declared.tmesh.TMesh.TMesh}
use Rattle.qm_mesh.proofs.Vertices.{below_from, corners_from, count_is}
use Rattle.{def_cut.specs.Grids.rectangle, def_mesh.specs.Vertices.vertex_count, def_remesh.specs.Placings.IsMeshLayout}
use Rattle.{def_text.specs.FaceSet.FaceSet, def_text.specs.FaceSet.IsSoup, def_written.specs.Laws.AreQuads}

pub all_placed : {soup : FaceSet} {layout : Layout} → IsMeshLayout soup.faces layout → IsSoup soup
    → length soup.pos ≡ vertex_count soup.faces
all_placed {soup} (is, on) sound =
    let quads : AreQuads soup.faces = subst AreQuads on is.quads in
    sym (count_is soup.faces (length soup.pos) (below_from soup.faces quads (length soup.pos) sound.in_range)
    (corners_from soup.faces quads (length soup.pos) sound.used))

module _ (t : TMesh) {layout : Layout} (same : layout_of t ≡ layout) where
  pub arcs_long : {n : ℕ} → n ≡ length layout.arcs → n ≡ length t.arcs.items
  arcs_long long = long ∙ ap (λ (p : Layout). length p.arcs) (sym same) ∙ length-map t.arcs.items path

  pub patch_low : {p : ℕ} → p < length layout.patches → p < length t.patches.items
  patch_low low = omega (arith, ap (λ (p : Layout). length p.patches) same, length-map t.patches.items rectangle)
