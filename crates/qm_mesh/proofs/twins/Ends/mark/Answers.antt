use Rattle.qm_mesh.proofs.{Vertices.end_low, Marks.marks_more, Marks.first_more, Marks.first_of_all}
use Rattle.{std.proofs.Common.◌∙◌, std.proofs.Common.arith, mesh_laws.proofs.Chains.is_fan}
use Rattle.qm_mesh.proofs.twins.Ends.mark.Goals as goal

pub mark_one-found-requires : goal.mark_one-found-requires
mark_one-found-requires c = rw c.loop-d.invariant.0 ((is_fan _ _ _ c.requires).dart c.loop-d.d-index c.loop-d-test.true)

pub loop-d-preserved : goal.loop-d-preserved
loop-d-preserved c =
    let h = is_fan _ _ _ c.requires in
    let quads = c.args.self.now.quads in
    let b = c.loop-d.invariant.1 in
    let took = rw c.loop-d.invariant.0 at c.mark_one-found.ensures.marks in
    let long = rw c.loop-d.invariant.0 at c.loop-d.self.long in
    let low = end_low quads.faces.now _ _ quads.are.within (h.dart c.loop-d.d-index c.loop-d-test.true) in (
      c.mark_one-found.ensures.same ∙ c.loop-d.invariant.0,
      rw c.or-twice.ensures (record {
        marks = marks_more h _ _ c.loop-d-test.true b.marks _ took (omega (arith, long, low));
        first = first_more h _ _ c.loop-d-test.true b.marks _ _ took b.first;
      }),
    )

pub returns-clause-marked : goal.returns-clause-marked
returns-clause-marked c d low e = let p = (is_fan _ _ _ c.requires).place d low e in
    rw (← p.2) (c.loop-d.invariant.1.marks p.0 (omega (arith, p.1))).runs

pub returns-clause-first : goal.returns-clause-first
returns-clause-first c = first_of_all (is_fan _ _ _ c.requires) c.loop-d-test.false c.loop-d.invariant.1
