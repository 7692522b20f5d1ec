use Rattle.std.proofs.Common.{ℕ, List, pos, ◌-ℤ◌, ◌∙◌, arith}
use Rattle.{std.proofs.lemmas.Int.ints, def_matching.specs.Matching.graph, def_matching.specs.Dual.dual}
use Rattle.def_flow.specs.{Network.network, Admissible.deviation, Admissible.entries}
use Rattle.qm_solve.proofs.{Starts.start_lengths, Rounds.own_inside, Rounds.sums_meet}
use Rattle.qm_solve.proofs.round.improve.Goals as goal

pub graph_of-requires-clause-lengths : goal.graph_of-requires-clause-lengths
graph_of-requires-clause-lengths c = rw c.deref.ensures.value (start_lengths (network c.args.descent.now.net.whole.now)
    c.args.descent.now.x.items c.args.descent.now.net.bounds c.args.descent.now.start)

pub matching_of-requires-clause-inside : goal.matching_of-requires-clause-inside
matching_of-requires-clause-inside c =
    let descent = c.args.descent.now in
    rw c.deref-2.ensures.value (own_inside (network descent.net.whole.now) descent.step _ descent.x.items _ _
    descent.start.count c.in_ok-gadget.ensures.step (rw c.deref.ensures.value at c.in_ok-gadget.ensures.low)
    (rw c.deref.ensures.value at c.in_ok-gadget.ensures.cap))

pub returns-then-cost_of : goal.returns-then-cost_of
returns-then-cost_of c =
    let found = rw c.deref-6.ensures.value at c.cost_of.ensures.value in
    let known = rw c.deref-7.ensures.value at c.cost_of-2.ensures.value in
    let of_list = rw c.deref-2.ensures.value at c.in_ok-known.ensures.cost in
    let of_found = rw c.deref-then-cost_of.ensures.value at c.in_ok-x.ensures.cost in
    record {
      count = c.in_ok-x.ensures.count;
      admissible = c.in_ok-x.ensures.admissible;
      less = omega (arith, ints, c.if-cost_of.true, found, known, of_list, of_found);
    }

pub returns : goal.returns
returns c =
    let descent = c.args.descent.now in
    let found = rw c.deref-6.ensures.value at c.cost_of.ensures.value in
    let known = rw c.deref-7.ensures.value at c.cost_of-2.ensures.value in
    let net = network descent.net.whole.now in
    let off = λ (ys : List ℕ). pos (deviation net (entries ys)) in
    let low = rw c.deref.ensures.value at c.in_ok-gadget.ensures.low in
    let of_list = c.in_ok-known.ensures.cost ∙ (λ i. off (c.deref-2.ensures.value i) -ℤ off (low i)) in (
      sums_meet net descent.step descent.x.items (graph c.in_ok-gadget.gadget.graph)
          (dual c.in_ok-dual.dual) c.in_ok-edges.edges.items c.in_ok-known.known.items descent.start.count
          (rw c.deref.ensures.value at c.in_ok-gadget.ensures.graph) c.in_ok-gadget.ensures.small.lawful
          c.in_ok-known.ensures.perfect of_list (c.in_ok-dual.ensures.same ∙ c.in_ok-edges.ensures.least)
          (omega (arith, ints, c.if-cost_of.false, found, known)),
      c.in_ok-dual.ensures.small,
    )
