use Rattle.std.proofs.Common.{sym, subst, arith}
use Rattle.qm_place.specs.{Lengthened.layout_in, Lengthened.lengths_by, Lengthened.spacing_at, Spots.IsSmall}
use Rattle.qm_place.proofs.Entries.{patch_read, rim_here, rim_room}
use Rattle.qm_place.proofs.spots.grid_point.Goals as goal

pub invariant_of-at : goal.invariant_of-at
invariant_of-at c =
    let rim = rim_here c.args.placed.now.t.now c.args.placed.now.placed c.requires.patch c.index-rim.ensures in
    record {
      room = rim_room c.args.placed.now.tables.now rim.low rim.is c.deref.ensures.value;
      grid = rw rim.same c.requires.grid;
    }

pub returns-clause-value : goal.returns-clause-value
returns-clause-value c =
    let placed = c.args.placed.now in
    let rim = rim_here placed.t.now placed.placed c.requires.patch c.index-rim.ensures in
    let old = patch_read placed.t.now placed.placed c.requires.patch c.index-old.ensures in
    let ends = placed.placed.ends c.args.patch rim.low in λ k. record {
      u = c.across-u.ensures (layout_in placed) (lengths_by placed) (spacing_at placed) c.args.patch rim.low
          placed.placed.lengths (rw c.deref.ensures.value rim.is) ends old.wide k;
      v = c.upright-v.ensures (layout_in placed) (lengths_by placed) (spacing_at placed) c.args.patch rim.low
          placed.placed.lengths (rw c.deref.ensures.value rim.is) ends old.high k;
    }

pub returns-clause-small : goal.returns-clause-small
returns-clause-small c =
    let rim = rim_here c.args.placed.now.t.now c.args.placed.now.placed c.requires.patch c.index-rim.ensures in
    subst IsSmall (sym (returns-clause-value c))
    (c.args.placed.now.placed.small c.args.patch c.args.i c.args.j rim.low (omega arith) (omega arith))
