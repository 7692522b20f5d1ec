use Rattle.std.proofs.Common.{ℕ, List, length, get_or, arith, ap, ◌∙◌, ◌/◌}
use Rattle.std.proofs.lemmas.List.FromFn.{get_or-map-range_with_len, length-map-range_with_len}
use Rattle.def_gen.specs.Steps.{block_height}
use Rattle.qm_gen.proofs.steps.column_height.Goals as goal

pub bounds-heights-column : goal.bounds-heights-column
bounds-heights-column c = omega (
  arith,
  ap length c.requires.heights,
  length-map-range_with_len (block_height c.args.n) 0 c.args.n,
  c.requires.inside,
)

pub returns : goal.returns
returns c = ap (λ (hs : List ℕ). get_or hs (c.args.column / 3) 0) c.requires.heights ∙ get_or-map-range_with_len
    (block_height c.args.n) 0 c.args.n (c.args.column / 3) (c.args.column / 3) 0 (omega (arith, c.requires.inside))
    (omega arith)
