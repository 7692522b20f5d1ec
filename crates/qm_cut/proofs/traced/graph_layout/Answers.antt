use Rattle.std.proofs.{Common.◌≡◌, Common.refl, Common.subst, lemmas.Result.IfOk-weaker}
use Rattle.def_layout.specs.{FaceLayouts.IsCutLayout, Layouts.layout_of}
use Rattle.{def_written.specs.Laws.AreQuads, def_layoutnet.specs.MeshLayouts.IsSomeLayout}

pub returns-clause-mesh : Rattle.qm_cut.proofs.traced.graph_layout.Goals.returns-clause-mesh
returns-clause-mesh c =
    let faces = c.args.mesh.now in
    let marks = c.args.graph.now.covered.items in
    IfOk-weaker c.layout.result (λ t. IsCutLayout faces marks (layout_of t)) (λ t. (is : IsSomeLayout (layout_of t))
    × (is.faces ≡ faces)) (λ t laid. (
      record {
        faces = faces;
        mesh = c.faces.ensures.mesh;
        quads = subst AreQuads c.faces.ensures.value c.are_quads.ensures;
        marks = marks;
        cut = c.requires.cut;
        laid = laid;
      },
      refl,
    ))
    c.layout.ensures
