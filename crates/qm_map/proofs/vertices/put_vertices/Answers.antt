use Rattle.qm_output.proofs.Prefixes.{of_error, stops_at_number, takes_number}
use Rattle.{std.proofs.Common.◌≡◌, std.proofs.Common.arith, def_layout.specs.Layouts.gluing_of}
use Rattle.{def_map.specs.MapText.spot_line, def_map.specs.Spots.spot_at, def_remesh.specs.NewPoints.lengths_in}
use Rattle.{def_written.specs.Numbers.vertices, qm_map.proofs.vertices.put_vertices.Goals.After-cut}
use Rattle.qm_map.proofs.vertices.put_vertices.Goals as goal

pub spot_near-spot-requires : goal.spot_near-spot-requires
spot_near-spot-requires g c = record { vertex = omega (arith, c.loop-v-test.true, c.vertices-v-end.ensures) }

pub put_spot-requires : goal.put_spot-requires
put_spot-requires g c = rw c.cut.ensures c.spot_near-spot.ensures.spot

-- The line is that of the vertex.
line : (g : _) (c : After-cut g) → spot_line c.cut.result.now.soup.faces c.cut.result.now.soup.names
    c.spot_near-spot.result ≡ spot_line c.args.new.now.soup.faces c.args.new.now.soup.names
    (spot_at c.args.new.now.layout c.args.new.now.shares (lengths_in c.args.new.now.lengths) c.loop-v.v)
line g c k = spot_line (c.cut.ensures k).soup.faces (c.cut.ensures k).soup.names (c.spot_near-spot.ensures.value k)

pub returns-in_err-put_spot-clause-part : goal.returns-in_err-put_spot-clause-part
returns-in_err-put_spot-clause-part g c =
    let laws = g.met.T.Output in
    let new = c.args.new.now in
    let x = lengths_in new.lengths in
    of_error c.from_residual.result (stops_at_number g.T.Output.takes g.T.Output.stops laws.stops_later
    laws.stops_before (spot_line new.soup.faces new.soup.names) (spot_at new.layout new.shares x)
    (vertices (gluing_of new.layout) x) c.loop-v.v _ _ _ (omega (arith, c.loop-v-test.true, c.vertices-v-end.ensures))
    c.loop-v.invariant (rw (line g (goal.at.returns-in_err-put_spot-clause-part g c).After-cut)
    at c.in_err-put_spot.ensures.part))

pub loop-v-preserved : goal.loop-v-preserved
loop-v-preserved g c =
    let new = c.args.new.now in
    takes_number g.T.Output.takes g.met.T.Output.takes_more (spot_line new.soup.faces new.soup.names)
    (spot_at new.layout new.shares (lengths_in new.lengths)) c.loop-v.v _ _ _ c.loop-v.invariant
    (rw (line g (goal.at.loop-v-preserved g c).After-cut) at c.in_ok-put_spot.ensures.whole)

pub returns-clause-whole : goal.returns-clause-whole
returns-clause-whole g c =
    let all : c.loop-v.v ≡ vertices (gluing_of c.args.new.now.layout) (lengths_in c.args.new.now.lengths) =
    omega (arith, c.vertices-v-end.ensures, c.loop-v-test.false, c.loop-v.auto.v-end) in
    rw (← all) c.loop-v.invariant
