use Rattle.std.proofs.Common.{◌≡◌, ◌<◌, arith}
use Rattle.def_mesh.specs.Darts.{darts, next_of, to_of}
use Rattle.mesh_laws.proofs.Chains.{before_ends, before_low, next_of_low, prev_of-next_of, is_fan}
use Rattle.qm_mesh.proofs.{Marks.pair_more, twins.Ends.pair_at.Goals.After-prev-e}
use Rattle.qm_mesh.proofs.twins.Ends.pair_at.Goals as goal

-- The dart before the corner is one, and arrives at the vertex.
before : (c : After-prev-e) → (c.prev-e.result < darts c.args.self.now.quads.faces.now)
    × (to_of c.args.self.now.quads.faces.now c.prev-e.result ≡ c.args.v)
before c = let h = is_fan _ _ _ c.requires.fan in (
  before_low _ _ _ c.prev-e.ensures (h.dart c.loop-d.d-index c.loop-d-test.true),
  before_ends _ _ _ _ c.prev-e.ensures (h.leaves c.loop-d.d-index c.loop-d-test.true),
)

pub partner-requires-clause-dart : goal.partner-requires-clause-dart
partner-requires-clause-dart c = (before (goal.at.partner-requires-clause-dart c).After-prev-e).0

pub partner-requires-clause-arrives : goal.partner-requires-clause-arrives
partner-requires-clause-arrives c = (before (goal.at.partner-requires-clause-arrives c).After-prev-e).1

pub bounds-twins-e : goal.bounds-twins-e
bounds-twins-e c = omega (arith, before (goal.at.bounds-twins-e c).After-prev-e, c.loop-d.auto.twins, c.requires.long)

pub loop-d-preserved : goal.loop-d-preserved
loop-d-preserved c =
    let (low, ends) = before (goal.at.loop-d-preserved c).After-prev-e in
    pair_more _ _ _ c.loop-d.d-index _ _ _ _ c.prev-e.ensures (omega (arith, low)) ends c.partner.ensures
    c.loop-d.invariant

pub returns-clause-arriving : goal.returns-clause-arriving
returns-clause-arriving c e l at =
    let p = (is_fan _ _ _ c.requires.fan).place (next_of e) (next_of_low c.args.self.now.quads.faces.now e l) at in
    rw (← prev_of-next_of e, ← p.2) (c.loop-d.invariant.each p.0 (omega (arith, p.1)))
