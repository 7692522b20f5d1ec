use Rattle.std.proofs.lemmas.Grind.{common_steps}
use Rattle.std.proofs.Common.{rules, ◌≡◌, ℕ, ◌≤◌, List, arith}
use Rattle.{def_layout.specs.Layouts.layout_of, def_remesh.specs.Numberings.tables_of}
use Rattle.{def_remesh.specs.declared.tables.RunStarts.RunStarts}
use Rattle.qm_stitch.{specs.Sizes.AreRows, specs.Sizes.IsFine, proofs.build.tables.Goals.In_ok-sides}
use Rattle.qm_stitch.proofs.Built.{built, few_points, lengths_short, points_short, rows, sides_short}
use Rattle.qm_stitch.proofs.build.tables.Goals as goal

pub short_lengths-requires : goal.short_lengths-requires
short_lengths-requires c = lengths_short c.requires.fine

pub side_tables-requires-clause-small : goal.side_tables-requires-clause-small
side_tables-requires-clause-small c p s low = grind (arith, common_steps, sides_short c.requires.fine p s)

pub inner_points-requires-clause-small : goal.inner_points-requires-clause-small
inner_points-requires-clause-small c = search (rules, points_short c.requires.fine)

-- The sides are as long as their tables say.
rows_of : (c : In_ok-sides) {sides : List (List RunStarts)} → sides ≡ c.in_ok-sides.sides.items → (less : ℕ)
    → less ≤ 1 → AreRows (tables_of sides) less
rows_of c same less one =
    let starts = rw (c.deref.ensures.value, c.in_ok-lengths.ensures) at c.in_ok-sides.ensures in
    rw same (rows c.requires.fine starts less one)

pub patch_starts-requires : goal.patch_starts-requires
patch_starts-requires c = rows_of (goal.at.patch_starts-requires c).In_ok-sides c.deref-3.ensures.value 1 (omega arith)

pub patch_starts-requires-2 : goal.patch_starts-requires-2
patch_starts-requires-2 c =
    rows_of (goal.at.patch_starts-requires-2 c).In_ok-sides c.deref-4.ensures.value 0 (omega arith)

pub overflow_cast-result : goal.overflow_cast-result
overflow_cast-result c = omega (arith, few_points c.requires.fine)

pub returns-clause-numbering : goal.returns-clause-numbering
returns-clause-numbering c =
    let fine : IsFine (layout_of c.args.t.now) c.in_ok-lengths.lengths.items =
    rw c.in_ok-lengths.ensures c.requires.fine in
    built _ fine (omega (arith, c.len.ensures, c.args.t.now.nodes.ok.0))
    (rw c.deref-2.ensures.value at c.in_ok-along.ensures) (rw c.deref.ensures.value at c.in_ok-sides.ensures)
    (rw c.deref-3.ensures.value at c.in_ok-inside.ensures) (rw c.deref-4.ensures.value at c.in_ok-cells.ensures)
