use Rattle.std.proofs.Common.{◌<◌, ◌≤◌, ◌++◌, ◌∷◌, [], ℕ, ap, subst, ◌∙◌}
use Rattle.qm_gen.proofs.steps.push_cells.Goals.{then-row-column_height+in_ok-push, else-row-column_height}
use Rattle.{std.proofs.lemmas.Bool.le-ltb, std.proofs.lemmas.Bool.lt-ltb, def_gen.specs.Steps.cell}
use Rattle.{def_gen.specs.Steps.column_height, qm_gen.proofs.Ranges.left_push, qm_gen.proofs.Ranges.taken_push}
use Rattle.{std.specs.Prelude.nat_lt, def_mesh.specs.Faces.Face}

pub loop-column-preserved : Rattle.qm_gen.proofs.steps.push_cells.Goals.loop-column-preserved
loop-column-preserved c = elim c.if-row-column_height.branch [
  | then-row-column_height+in_ok-push w ↦ taken_push (λ column. cell c.args.n column c.args.row)
      (λ column. nat_lt c.args.row (column_height c.args.n column)) c.loop-column.column c.args.cells.now.items
      c.loop-column.cells.items c.if-row-column_height.cells.items c.loop-column.invariant
      (lt-ltb c.args.row _ (subst (λ (h : ℕ). c.args.row < h) c.column_height.ensures w.if-row-column_height.true))
      (ap (λ v. v.items) w.cells-is ∙ w.in_ok-push.ensures.items ∙ ap (λ (f : Face). c.loop-column.cells.items ++ f
      ∷ []) w.cell.ensures)
  | else-row-column_height w ↦ ap (λ v. v.items) w.cells-is ∙ left_push (λ column. cell c.args.n column c.args.row)
      (λ column. nat_lt c.args.row (column_height c.args.n column)) c.loop-column.column c.args.cells.now.items
      c.loop-column.cells.items c.loop-column.invariant
      (le-ltb c.args.row _ (subst (λ (h : ℕ). h ≤ c.args.row) c.column_height.ensures w.if-row-column_height.false))
]
