use Rattle.std.proofs.lemmas.Grind.{common_steps}
use Rattle.std.proofs.Common.{rules, ◌≡◌, ◌-◌, ◌<◌, true, map, length, get_or, set, ap, ◌∙◌, refl, arith}
use Rattle.def_layout.specs.Arcs.{path, dart_at, long_at}
use Rattle.qm_tmesh.proofs.{ArcTables.IsArcRead, ArcTables.arc_read, ArcTables.read_at, UseTables.uses_more}
use Rattle.qm_tmesh.proofs.uses.uses.Goals.{in-Some, in_default, After-index-arcs-a, After-uses-in-loop-a-1}
use Rattle.def_mesh.specs.Darts.{darts, twin_of}
use Rattle.qm_tmesh.proofs.uses.uses.Goals as goal

-- The arc that was read.
arc : (c : After-index-arcs-a) → IsArcRead c.args.mesh.now c.args.arcs.now c.loop-a.a c.index-arcs-a.result
arc c = arc_read c.requires.marked c.args.arcs.now c.requires.arcs c.loop-a-test.true c.index-arcs-a.is

first : (c : After-uses-in-loop-a-1) → 0 < length c.index-arcs-a.result.darts.items
    → c.index-first.result.now ≡ get_or c.index-arcs-a.result.darts.items 0 0
first c some = read_at _ 0 c.index-first.ensures (omega arith) some

last : (c : After-uses-in-loop-a-1) → 0 < length c.index-arcs-a.result.darts.items → c.index-last.result.now
    ≡ get_or c.index-arcs-a.result.darts.items (length c.index-arcs-a.result.darts.items - 1) 0
last c some = search (rules, read_at)

pub index-first-requires : goal.index-first-requires
index-first-requires c = grind (arith, arc (goal.at.index-first-requires c).After-index-arcs-a)

pub overflow_sub-len : goal.overflow_sub-len
overflow_sub-len c = grind (arith, arc (goal.at.overflow_sub-len c).After-index-arcs-a)

pub index-last-requires : goal.index-last-requires
index-last-requires c = grind (arith, arc (goal.at.index-last-requires c).After-index-arcs-a)

pub index_mut-requires : goal.index_mut-requires
index_mut-requires c =
    let read = arc (goal.at.index_mut-requires c).After-index-arcs-a in
    grind (arith, common_steps, read.below 0 read.some)

pub twin-requires : goal.twin-requires
twin-requires c =
    let at = goal.at.twin-requires c in
    let read = arc at.After-index-arcs-a in
    search (rules, read.below (length c.index-arcs-a.result.darts.items - 1), last at.After-uses-in-loop-a-1 read.some)

pub loop-a-preserved : goal.loop-a-preserved
loop-a-preserved c =
    let at = goal.at.loop-a-preserved c in
    let read = arc at.After-index-arcs-a in
    let is = first at.After-uses-in-loop-a-1 read.some in
    let end = last at.After-uses-in-loop-a-1 read.some in
    let one = set c.loop-a.uses.items _ (record { arc = c.loop-a.a; forward = true }) in
    let low : c.index-first.result.now < darts c.args.mesh.now = omega (arith, is, read.below 0 read.some) in
    let begins : c.index-first.result.now ≡ dart_at (map path c.args.arcs.now) c.loop-a.a 0 = rw read.same is in
    let ends : c.twin.result ≡ twin_of c.args.mesh.now (dart_at (map path c.args.arcs.now) c.loop-a.a
    (long_at (map path c.args.arcs.now) c.loop-a.a - 1)) = search rules in
    elim c.match-twin.branch [
      | in-Some w ↦ rw w.uses-is (uses_more c.requires.marked c.requires.arcs {one = one} read.low c.loop-a.invariant
          begins ends refl low (λ t q. cc) (λ q. absurd cc))
      | in_default w ↦ rw w.uses-is (uses_more c.requires.marked c.requires.arcs {one = one} read.low c.loop-a.invariant
          begins ends refl low (λ t q. absurd cc) (λ q. refl))
    ]
