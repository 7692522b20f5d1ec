use Rattle.std.proofs.Common.{◌-◌, sym, arith}
use Rattle.qm_marks.proofs.OneWish.{place_found, place_searched}
use Rattle.qm_marks.proofs.corners.vertex_at.Goals as goal

pub returns-then-is_in_place : goal.returns-then-is_in_place
returns-then-is_in_place c =
    let names = c.args.names.now in
    let at = c.is_in_place.ensures c.if-is_in_place.true in
    sym (place_found names.all.now names.rising c.args.k (c.args.k - 1) (omega arith) at.2)

pub returns-in-Ok : goal.returns-in-Ok
returns-in-Ok c = let names = c.args.names.now in
    sym (rw c.in-Ok.is at (place_searched names.all.now names.rising c.args.k _ c.binary_search.ensures.position))

pub returns-in-Err : goal.returns-in-Err
returns-in-Err c = let names = c.args.names.now in
    sym (rw c.in-Err.is at (place_searched names.all.now names.rising c.args.k _ c.binary_search.ensures.position))
