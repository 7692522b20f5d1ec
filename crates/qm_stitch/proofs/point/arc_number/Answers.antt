use Rattle.qm_stitch.proofs.Grids.{arc_here, counts, IsNumberOf}
use Rattle.qm_stitch.specs.Lengthened.{gluing_in, lengths_by}
use Rattle.{std.proofs.Common.◌+◌, std.proofs.Common.◌-◌, std.proofs.Common.arith, def_written.specs.Points.arc_point}
use Rattle.qm_stitch.proofs.point.arc_number.Goals as goal

here : (c : goal.After-row_known-2-1) → IsNumberOf c.args.numbered.now.numbers
    (c.args.numbered.now.tables.now.nodes + c.index-3.result.now + (c.args.k - 1))
    (arc_point (gluing_in c.args.numbered.now) (lengths_by c.args.numbered.now) c.args.arc c.args.k)
here c = arc_here c.args.numbered.now.numbers c.args.arc c.args.k
    (omega counts) c.requires.upto c.if-k-eq0.false c.if-k-index.false c.index-2.ensures c.index-3.ensures

pub overflow_add-result : goal.overflow_add-result
overflow_add-result c = omega (arith, (here c).1)

pub overflow_add-result-2 : goal.overflow_add-result-2
overflow_add-result-2 c = omega (arith, (here c).1)

pub returns : goal.returns
returns c = (here c).0
