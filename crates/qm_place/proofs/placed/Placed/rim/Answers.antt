use Rattle.std.proofs.Common.{rules, ◌*◌, length, arith}
use Rattle.def_layout.specs.{Lengths.wide, Lengths.high, Layouts.gluing_of, Layouts.layout_of}
use Rattle.qm_place.proofs.{Entries.rim_here, Entries.IsRimRead, placed.Placed.rim.Goals.After-index}
use Rattle.{def_remesh.specs.NewPoints.lengths_in, qm_offsets.proofs.Spots.term_room}
use Rattle.qm_place.proofs.placed.Placed.rim.Goals as goal

read : (c : After-index) → IsRimRead c.args.self.now.t.now c.args.self.now.tables.now c.args.patch c.index.result.now
read c = search (rules, rim_here)

pub returns-clause-few : goal.returns-clause-few
returns-clause-few c =
    let placed = c.args.self.now in
    let l = gluing_of (layout_of placed.t.now) in
    let x = lengths_in placed.tables.now.lengths.items in
    let at = read (goal.at.returns-clause-few c).After-index in
    rw (at.is.wide, at.is.high) (omega (
      arith,
      term_room (λ p. wide l x p * high l x p) (length (layout_of placed.t.now).patches) c.args.patch at.low,
    ))

pub returns-clause-short : goal.returns-clause-short
returns-clause-short c =
    let placed = c.args.self.now.placed in
    let at = read (goal.at.returns-clause-short c).After-index in omega arith
