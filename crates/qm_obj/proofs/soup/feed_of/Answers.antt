use Rattle.std.proofs.Common.{rules, arith, ◌+◌, ◌-◌, ◌∙◌, ◌≡◌}
use Rattle.qm_obj.proofs.FeedLemmas.{fed_more, fed_whole, gave_beyond}
use Rattle.std.specs.List.{length_refill}
use Rattle.qm_obj.proofs.soup.feed_of.Goals as goal

pub returns-in_err-count-clause-too_long : goal.returns-in_err-count-clause-too_long
returns-in_err-count-clause-too_long g c = λ said.
    let more = c.in_err-count.ensures.too_long (search rules) in
    let so_far = c.pieces.invariant in
    (gave_beyond {limit = c.args.limit} {room = c.pieces.room} so_far.fed so_far.short more.0, more.1 ∙ so_far.calm)

pub returns-then-count-eq0-clause-whole : goal.returns-then-count-eq0-clause-whole
returns-then-count-eq0-clause-whole g c = fed_whole (fed_more c.pieces.invariant.fed c.in_ok-count.ensures.fed)
    (omega arith) (c.in_ok-count.ensures.end c.if-count-eq0.true)

pub pieces-preserved : goal.pieces-preserved
pieces-preserved g c =
    let so_far = c.pieces.invariant in
    let many : c.args.limit - (c.pieces.room - c.in_ok-count.count)
    ≡ c.args.limit - c.pieces.room + c.in_ok-count.count = omega (arith, so_far.short, c.in_ok-count.ensures.fits) in
    record {
      fed = rw many (fed_more so_far.fed c.in_ok-count.ensures.fed);
      calm = c.in_ok-count.ensures.calm ∙ so_far.calm;
      short = omega arith;
      room = search (rules, length_refill);
    }
