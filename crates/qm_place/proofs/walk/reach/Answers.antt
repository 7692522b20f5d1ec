use Rattle.std.proofs.Common.{rules, ◌+◌, ◌^◌, ◌≤◌, length, arith}
use Rattle.{std.proofs.lemmas.Nat.mul-le, written_laws.proofs.Spacings.count_rises}
use Rattle.qm_place.proofs.{Rims.edge_is, Rims.next_low, walk.reach.Goals.After-from-in-edges-2}
use Rattle.qm_place.proofs.walk.reach.Goals as goal

-- No more shares lie before the edge than in all.
few : (c : After-from-in-edges-2) → c.edges.at.before ≤ 2 ^ 83
few c = search (rules, count_rises, length)

pub overflow_add-at : goal.overflow_add-at
overflow_add-at c = omega (arith, few (goal.at.overflow_add-at c).After-from-in-edges-2)

pub overflow_mul-from : goal.overflow_mul-from
overflow_mul-from c = omega (
  arith,
  mul-le c.from-in-edges.result (c.edges.at.before + c.from-in-edges-2.result) (2 ^ 32) (2 ^ 84)
      (omega (arith, c.from-in-edges.ensures, c.ranges.new.fits)) (omega (
        arith,
        few (goal.at.overflow_mul-from c).After-from-in-edges-2,
        c.from-in-edges-2.ensures,
        c.edges.invariant.small,
      )),
)

pub share_at-share-requires-in-edges : goal.share_at-share-requires-in-edges
share_at-share-requires-in-edges c = search (rules, next_low)

pub edges-preserved : goal.edges-preserved
edges-preserved c = search (rules, next_low)

pub returns-clause-edge : goal.returns-clause-edge
returns-clause-edge c = search (rules, edge_is)
