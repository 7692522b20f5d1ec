use Rattle.std.proofs.Common.{rules, ℕ, get_or, ap, sym, ◌∙◌, cond, List}
use Rattle.std.proofs.lemmas.Bool.{false≢true}
use Rattle.qm_grid.{specs.Heads.lies_in, proofs.heads.lay_head.Goals.then-not-is_corner-via-then-not-is_corner}
use Rattle.qm_grid.{proofs.heads.lay_head.Goals.then-not-is_corner-via-else-not-is_corner+then-heads-d}
use Rattle.qm_grid.proofs.{Laid.cells_low, HeadTables.heads_skip, HeadTables.heads_more}
use Rattle.qm_grid.proofs.heads.lay_head.Goals as goal

pub returns-then-not-is_corner : goal.returns-then-not-is_corner
returns-then-not-is_corner c = record {
  more = heads_skip c.is_full.ensures c.requires.so_far (elim c.then-not-is_corner.branch [
    | then-not-is_corner-via-then-not-is_corner w ↦
        λ corner. absurd (false≢true (sym w.if-not-is_corner.true ∙ c.is_corner.ensures.1 corner))
    | then-not-is_corner-via-else-not-is_corner+then-heads-d w ↦
        λ corner same. w.if-heads-d.true (same ∙ sym w.darts.ensures)
  ]);
}

pub set_heads-requires : goal.set_heads-requires
set_heads-requires c = search (rules, cells_low)

pub returns : goal.returns
returns c =
    let e = c.deref.ensures.value ∙ c.in_ok-patch.ensures.cells in
    record {
      more = heads_more c.is_full.ensures (c.is_corner.ensures.0 c.if-not-is_corner.false) c.in_ok-patch.ensures.grown _
          c.requires.so_far (c.if-heads-d.false ∙ c.darts.ensures) c.set_heads.auto.heads (λ f l. c.set_heads.ensures f
          l ∙ ap (λ (xs : List ℕ). cond (lies_in xs f) c.args.d (get_or c.args.heads.now f 0)) e);
    }
