use Rattle.qm_obj.proofs.{KeptLemmas.finished, Groups.at_end, Groups.at_next, Groups.at_refused, Groups.at_start}
use Rattle.{def_io.specs.Lines.lines_of, error_laws.proofs.Errors.handed}
use Rattle.qm_obj.proofs.read.read_obj.Goals as goal

pub loop-i-init : goal.loop-i-init
loop-i-init c = rw (c.new-reader.ensures.positions, c.new-reader.ensures.faces, c.new-reader.ensures.lines)
    (at_start (lines_of c.args.lines.now) c.args.first c.args.after c.requires.order)

pub returns : goal.returns
returns c = finished c.loop-i.reader.fits (at_end c.loop-i.invariant c.loop-i-test.false) c.finish.result
    c.finish.ensures.soup c.finish.ensures.late

pub loop-i-preserved : goal.loop-i-preserved
loop-i-preserved c = at_next c.loop-i.invariant c.loop-i.reader.fits c.loop-i-test.true c.requires.within
    c.in_ok-i.ensures.next c.in_ok-i.ensures.kept

pub returns-in_err-i-clause-refused : goal.returns-in_err-i-clause-refused
returns-in_err-i-clause-refused c = handed _ _ _ c.from_residual.ensures.1 (λ other. at_refused c.loop-i.invariant
    c.loop-i.reader.fits c.loop-i-test.true c.requires.within (c.in_err-i.ensures.refused other))
