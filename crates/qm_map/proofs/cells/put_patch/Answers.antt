use Rattle.std.proofs.Common.{◌≡◌, ◌*◌, ◌/◌, ◌%◌, ◌∙◌, arith}
use Rattle.def_layout.specs.{Lengths.wide, Lengths.high, Layouts.gluing_of}
use Rattle.def_map.specs.{Homes.home_of, MapText.cell_line}
use Rattle.qm_map.proofs.{PatchCells.in_grid, cells.put_patch.Goals.After-home}
use Rattle.qm_output.proofs.Prefixes.{of_error, stops_at_number, takes_number}
use Rattle.{def_remesh.specs.NewPoints.lengths_in, qm_map.specs.PatchLines.home_in}
use Rattle.qm_map.proofs.cells.put_patch.Goals as goal

pub overflow_mul-k-end : goal.overflow_mul-k-end
overflow_mul-k-end g c = omega (arith, c.rim-rim.ensures.few)

pub nonzero_rem-k : goal.nonzero_rem-k
nonzero_rem-k g c = (in_grid c.rim-rim.result.wide c.rim-rim.result.high c.loop-k.k c.loop-k-test.true).2

pub nonzero_div-k : goal.nonzero_div-k
nonzero_div-k g c = (in_grid c.rim-rim.result.wide c.rim-rim.result.high c.loop-k.k c.loop-k-test.true).2

pub home-requires : goal.home-requires
home-requires g c =
    let in_it = in_grid c.rim-rim.result.wide c.rim-rim.result.high c.loop-k.k c.loop-k-test.true in
    record {
      patch = c.requires;
      column = omega (arith, in_it.0, c.rim-rim.ensures.wide);
      row = omega (arith, in_it.1, c.rim-rim.ensures.high);
    }

-- The cell lies where it should.
here : (g : _) (c : After-home g) → c.home.result ≡ home_in c.args.new.now.layout c.args.new.now.shares
    (lengths_in c.args.new.now.lengths) c.args.patch c.loop-k.k
here g c = c.home.ensures ∙ (λ k. home_of c.args.new.now.layout c.args.new.now.shares
    (lengths_in c.args.new.now.lengths) c.args.patch (c.loop-k.k % c.rim-rim.ensures.wide k)
    (c.loop-k.k / c.rim-rim.ensures.wide k))

pub returns-in_err-put_cell-clause-part : goal.returns-in_err-put_cell-clause-part
returns-in_err-put_cell-clause-part g c =
    let laws = g.met.T.Output in
    let t = c.args.new.now.layout in
    let x = lengths_in c.args.new.now.lengths in
    let low = rw (c.rim-rim.ensures.wide, c.rim-rim.ensures.high) at c.loop-k-test.true in
    of_error c.from_residual.result (stops_at_number g.T.Output.takes g.T.Output.stops laws.stops_later
    laws.stops_before cell_line (home_in t c.args.new.now.shares x c.args.patch) (wide (gluing_of t) x c.args.patch
    * high (gluing_of t) x c.args.patch) c.loop-k.k _ _ _ low c.loop-k.invariant
    (rw (here g (goal.at.returns-in_err-put_cell-clause-part g c).After-home) at c.in_err-put_cell.ensures.part))

pub loop-k-preserved : goal.loop-k-preserved
loop-k-preserved g c =
    let new = c.args.new.now in
    takes_number g.T.Output.takes g.met.T.Output.takes_more cell_line
    (home_in new.layout new.shares (lengths_in new.lengths) c.args.patch) c.loop-k.k _ _ _ c.loop-k.invariant
    (rw (here g (goal.at.loop-k-preserved g c).After-home) at c.in_ok-put_cell.ensures.whole)

pub returns-clause-whole : goal.returns-clause-whole
returns-clause-whole g c =
    let t = gluing_of c.args.new.now.layout in
    let x = lengths_in c.args.new.now.lengths in
    let product : c.rim-rim.result.wide * c.rim-rim.result.high ≡ wide t x c.args.patch * high t x c.args.patch =
    λ k. c.rim-rim.ensures.wide k * c.rim-rim.ensures.high k in
    let all : c.loop-k.k ≡ wide t x c.args.patch * high t x c.args.patch =
    omega (arith, product, c.loop-k-test.false, c.loop-k.auto.k-end) in
    rw (← all) c.loop-k.invariant
