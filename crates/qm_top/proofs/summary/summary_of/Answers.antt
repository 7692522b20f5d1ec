use Rattle.std.proofs.Common.{rules, ◌≡◌, ap, arith, length, subst, to_z, of_z, ◌∙◌}
use Rattle.def_mesh.specs.{Components.edge_count, Components.start_darts, Faces.Faces, Manifold.IsManifold}
use Rattle.{std.proofs.lemmas.Int.ints, std.proofs.lemmas.List.length-map, def_mesh.specs.Vertices.vertex_count}
use Rattle.{qm_top.proofs.Benched.size_fails, qm_top.proofs.Benched.traced_in, error_laws.proofs.Errors.handed}
use Rattle.{def_cut.specs.Grids.rectangle, def_layout.specs.Arcs.path, def_layout.specs.Layouts.Layout}
use Rattle.{def_report.specs.BenchLine.bench_line, def_run.specs.Bench.bench_faces, def_run.specs.Bench.IsBenchFail}
use Rattle.{def_text.specs.FaceSet.FaceSet, qm_report.proofs.Layouts.filter_few}
use mir.Syntax.{w128}
use Rattle.qm_top.proofs.summary.summary_of.Goals as goal

pub new-cut-requires : goal.new-cut-requires
new-cut-requires c = rw (← c.mesh-mesh.ensures) c.in_ok-layout.ensures.mesh

pub returns-in_err-deviation-clause-refused : goal.returns-in_err-deviation-clause-refused
returns-in_err-deviation-clause-refused c = handed (IsBenchFail c.args.size) _ _
    c.from_residual-in_err-deviation.ensures.1 (size_fails c.args.size c.new-cut.result.layout
    c.in_err-deviation.field-0.0 (traced_in c.args.size c.requires c.mesh-mesh.ensures c.new-cut.ensures
    c.in_ok-layout.ensures.traced) c.in_err-deviation.ensures.refused)

pub overflow_cast-counts : goal.overflow_cast-counts
overflow_cast-counts c = search (rules, filter_few)

pub returns-clause-text : goal.returns-clause-text
returns-clause-text c =
    let kept = c.in_ok-deviation.ensures.kept in
    let t = c.layout-t.result.now in
    let on = c.new-cut.result.layout in
    let same : c.mesh-mesh.result.now ≡ bench_faces c.args.size =
    c.mesh-mesh.ensures ∙ ap (λ (s : FaceSet). s.faces) c.requires in
    let riders : c.len.result ≡ length (start_darts (bench_faces c.args.size)) = omega (
      arith,
      c.len.ensures,
      c.in_ok-sources.sources.starts.ok.0,
      ap length c.in_ok-sources.ensures.starts,
      ap (λ (fs : Faces). length (start_darts fs)) same,
    ) in
    let patches : c.len-2.result ≡ length on.patches = omega (
      arith,
      c.len-2.ensures,
      t.patches.ok.0,
      length-map t.patches.items rectangle,
      ap (λ (p : Layout). length p.patches) c.layout-t.ensures.layout,
    ) in
    let arcs : c.len-3.result ≡ length on.arcs = omega (
      arith,
      c.len-3.ensures,
      t.arcs.ok.0,
      length-map t.arcs.items path,
      ap (λ (p : Layout). length p.arcs) c.layout-t.ensures.layout,
    ) in
    let fits : to_z w128 (of_z w128 c.in_ok-deviation.deviation) ≡ c.in_ok-deviation.deviation =
    omega (arith, ints, kept.is, c.in_ok-deviation.ensures.small) in
    record {
      manifold = subst IsManifold same c.faces.ensures.mesh.manifold;
      layout = on;
      cut = traced_in c.args.size c.requires c.mesh-mesh.ensures c.new-cut.ensures c.in_ok-layout.ensures.traced;
      cert = kept.cert;
      certified = kept.certified;
      coarse = kept.coarse;
      undoubled = kept.undoubled;
      said = c.in_ok-summary_text.ensures ∙ (λ k. bench_line c.args.size (record {
        vertices = (c.vertices-vertices.ensures.value ∙ ap vertex_count same) k;
        edges = (c.edge_count-edges.ensures ∙ ap edge_count same) k;
        faces = length ((c.faces.ensures.value ∙ same) k);
        riders = riders k;
        patches = patches k;
        arcs = arcs k;
        deviation = (fits ∙ kept.is) k;
      }));
    }
