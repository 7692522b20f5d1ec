use Rattle.std.proofs.Common.{◌≡◌, ℕ, List, length, arith, ap, subst, sym, ◌∙◌}
use Rattle.def_text.specs.{FaceSet.IsSoup, Text.numbers_to}
use Rattle.qm_gen.proofs.Grid.{are_known, few_faces, few_used, with_numbers}
use Rattle.qm_gen.proofs.steps.steps_mesh.Goals as goal

pub soup_of-requires-clause-known : goal.soup_of-requires-clause-known
soup_of-requires-clause-known c = are_known c.args.n c.requires.few c.in_ok-points.points.items
    c.in_ok-cells.cells.items c.in_ok-points.ensures c.in_ok-cells.ensures

pub overflow_cast-len : goal.overflow_cast-len
overflow_cast-len c = omega (
  arith,
  c.len.ensures,
  c.pos.inside.pos.ok.0,
  few_used c.args.n c.requires.few _ c.in_ok-points.points.items c.in_ok-cells.cells.items c.in_ok-points.ensures
      (c.pos.view_is ∙ c.in_ok-pos.ensures),
)

pub invariant_of-result : goal.invariant_of-result
invariant_of-result c =
    let count : c.len.result ≡ length c.pos.inside.pos.items = c.len.ensures ∙ c.pos.inside.pos.ok.0 in
    subst (λ (names : List ℕ). IsSoup (record {
      pos = c.pos.inside.pos.items;
      faces = c.pos.inside.faces.items;
      names = names;
    }))
    (sym (c.in_ok-names.ensures ∙ ap numbers_to count))
    (with_numbers c.pos.inside.pos.items c.pos.inside.faces.items c.pos.inside.names.items c.pos.invariant)

pub returns-clause-small : goal.returns-clause-small
returns-clause-small c =
    let used = c.pos.view_is ∙ c.in_ok-pos.ensures in (
      few_used c.args.n c.requires.few _ c.in_ok-points.points.items c.in_ok-cells.cells.items c.in_ok-points.ensures
          used,
      few_faces c.args.n c.requires.few _ c.in_ok-points.points.items c.in_ok-cells.cells.items c.in_ok-cells.ensures
          used,
    )
