use Rattle.std.proofs.{Common.rules, Common.◌∙◌, lemmas.Result.on_err_weaker}
use Rattle.qm_output.{proofs.Prefixes.of_error, specs.Laws.broke_before, specs.Laws.broke_later, specs.Laws.passed_more}
use Rattle.qm_output.proofs.buffer.BufferOutput.put.Goals as goal

pub returns-in_err-make_room-clause-part : goal.returns-in_err-make_room-clause-part
returns-in_err-make_room-clause-part g c = of_error c.from_residual.result (
  c.in_err-make_room.ensures.same,
  broke_before _ _ _ c.args.piece.now c.in_err-make_room.ensures.part,
)

pub returns-then-piece-self-clause-whole : goal.returns-then-piece-self-clause-whole
returns-then-piece-self-clause-whole g c = search (rules, passed_more)

pub returns-then-piece-self-clause-part : goal.returns-then-piece-self-clause-part
returns-then-piece-self-clause-part g c = on_err_weaker c.pass.result (λ broke. (
  c.pass.ensures.same ∙ c.in_ok-make_room.ensures.same,
  broke_later _ _ _ _ c.args.piece.now c.in_ok-make_room.ensures.whole broke,
))
    c.pass.ensures.part

pub returns-clause-whole : goal.returns-clause-whole
returns-clause-whole g c = (
  c.hold.ensures.same ∙ c.in_ok-make_room.ensures.same,
  passed_more _ _ _ _ c.args.piece.now c.in_ok-make_room.ensures.whole c.hold.ensures.whole,
)
