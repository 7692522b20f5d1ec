use Rattle.std.proofs.Common.{rules}
use Rattle.std.proofs.{Common.Some, Common.refl, Common.sym, Common.ap, lemmas.Bool.false≢true}
use Rattle.qm_certtext.proofs.Chosen.{added_ok, takes_other, takes_third}
use Rattle.qm_certtext.specs.{declared.parts.Found.Found, declared.parts.Parts.Parts}
use Rattle.qm_certtext.proofs.parts.Found.take.Goals as goal

pub returns-then-starts_third : goal.returns-then-starts_third
returns-then-starts_third c =
    let old = c.args.self.now in
    let new : Found = record old { first = Some c.replace.result; last = c.replace.new.dest } in
    let e = c.new.ensures in
    let first = ap (λ (p : Parts). Some p) c.replace.ensures.value in
    takes_third _ old new c.args.line (λ is. false≢true (rw is at c.if-eq.ensures)) (sym c.if-starts_third.ensures)
    first (search rules)

pub returns : goal.returns
returns c =
    let old = c.args.self.now in
    let new : Found = record old { last = c.take.new.self } in
    let e = c.take.ensures in
    added_ok c.take.result old.last c.take.new.self c.args.line e.lengths e.vertices e.vertex_ups e.sets e.set_ups
    (takes_other c.args.rising old new c.args.line (λ is. false≢true (rw is at c.if-eq.ensures))
    (sym c.if-starts_third.ensures) refl)
