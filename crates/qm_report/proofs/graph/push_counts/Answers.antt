use Rattle.std.proofs.Common.{◌≡◌, ◌≤◌, to_z, of_z, ℤ, Ok, ap, sym, ◌∙◌, arith, append_assoc}
use Rattle.{std.proofs.lemmas.Int.ints, qm_report.proofs.Layouts.filter_few}
use Rattle.def_mesh.specs.Components.{edge_count, euler, is_lesser, used_count}
use Rattle.def_mesh.specs.{Darts.darts, Darts.twin_of, Vertices.is_used, Vertices.vertex_count}
use mir.Syntax.{w64, w128}

pub returns : Rattle.qm_report.proofs.graph.push_counts.Goals.returns
returns c =
    let mesh = c.args.mesh.now in
    let said : Ok c.in_ok-euler.field-0 ≡ Ok (euler mesh) = sym c.in_ok-euler.was ∙ c.euler.ensures in
    let is : c.in_ok-euler.field-0 ≡ euler mesh = cc in
    let used : used_count mesh ≤ vertex_count mesh = filter_few (is_used mesh) (vertex_count mesh) in
    let edges : edge_count mesh ≤ darts mesh = filter_few (λ d. is_lesser d (twin_of mesh d)) (darts mesh) in
    let fits : to_z w128 (of_z w128 (to_z w64 (of_z w64 c.in_ok-euler.field-0))) ≡ c.in_ok-euler.field-0 =
    omega (arith, ints, is, used, edges, c.faces.ensures.mesh.few, c.vertices.ensures.value, c.vertices.type_inv) in
    let passed = ap (λ (z : ℤ). to_z w128 (of_z w128 z)) c.from.ensures ∙ (fits ∙ is) in
    rw (c.in_ok-push.ensures.items, c.in_ok-push_count-4.ensures, c.in_ok-push_named.ensures)
    (rw (c.in_ok-push_count-3.ensures, c.in_ok-push_count-2.ensures, c.in_ok-push_count.ensures)
    (rw (c.vertices.ensures.value, c.edge_count.ensures, c.faces.ensures.value, passed, c.requires)
    (simp append_assoc)))
