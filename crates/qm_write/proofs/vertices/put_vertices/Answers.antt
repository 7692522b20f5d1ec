use Rattle.std.proofs.Common.{◌≡◌, ℕ, ◌<◌, map, subst, arith}
use Rattle.def_remesh.specs.{NewPoints.lengths_in, NewSoup.spaced_place}
use Rattle.qm_output.proofs.Prefixes.{of_error, stops_at_number, takes_number}
use Rattle.{std.specs.List.flat_map, std.specs.List.range_with_len, def_layout.specs.Layouts.gluing_of}
use Rattle.{def_text.specs.Canonical.position_text, def_text.specs.Types.Position, def_written.specs.Numbers.vertices}
use Rattle.qm_write.proofs.vertices.put_vertices.Goals as goal

pub returns-in_err-put_position-clause-part : goal.returns-in_err-put_position-clause-part
returns-in_err-put_position-clause-part g c =
    let laws = g.met.T.Output in
    let new = c.args.new.now in
    let lengths = lengths_in new.lengths in
    of_error c.from_residual.result (stops_at_number g.T.Output.takes g.T.Output.stops laws.stops_later
    laws.stops_before position_text (spaced_place new.soup.faces new.layout new.soup.pos new.shares lengths)
    (vertices (gluing_of new.layout) lengths) c.loop-v.v _ _ _ (subst (λ (n : ℕ). c.loop-v.v < n)
    c.vertices-v-end.ensures c.loop-v-test.true) c.loop-v.invariant
    (subst (λ (p : Position). g.T.Output.stops c.loop-v.out c.put_position.new.out (position_text p))
    c.place_near-place.ensures.value c.in_err-put_position.ensures.part))

pub loop-v-preserved : goal.loop-v-preserved
loop-v-preserved g c =
    let laws = g.met.T.Output in
    let new = c.args.new.now in
    let lengths = lengths_in new.lengths in
    takes_number g.T.Output.takes laws.takes_more position_text (spaced_place new.soup.faces new.layout new.soup.pos
    new.shares lengths) c.loop-v.v _ _ _ c.loop-v.invariant
    (subst (λ (p : Position). g.T.Output.takes c.loop-v.out c.put_position.new.out (position_text p))
    c.place_near-place.ensures.value c.in_ok-put_position.ensures.whole)

pub returns-clause-whole : goal.returns-clause-whole
returns-clause-whole g c =
    let new = c.args.new.now in
    let lengths = lengths_in new.lengths in
    let all : c.loop-v.v ≡ vertices (gluing_of new.layout) lengths =
    omega (arith, c.vertices-v-end.ensures, c.loop-v-test.false, c.loop-v.auto.v-end) in
    subst (λ (n : ℕ). g.T.Output.takes c.args.out.now c.loop-v.out
    (flat_map position_text (map (spaced_place new.soup.faces new.layout new.soup.pos new.shares lengths)
    (range_with_len 0 n)))) all c.loop-v.invariant
