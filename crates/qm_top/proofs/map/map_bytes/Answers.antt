use Rattle.qm_top.proofs.{Mapped.map_placed, Refusals.broke, Refusals.not_begun, Refusals.wrote}
use Rattle.{std.proofs.Common.refl, def_io.specs.Moves.stream, def_run.specs.Map.WritesMap}
use Rattle.{error_laws.proofs.Errors.handed, qm_top.specs.Mapping.mapped_text, qm_top.specs.Mapping.IsNoMapFor}
use Rattle.qm_top.proofs.map.map_bytes.Goals as goal

pub returns-in_err-write_map-in-Ok-clause-refused : goal.returns-in_err-write_map-in-Ok-clause-refused
returns-in_err-write_map-in-Ok-clause-refused g c = handed _ _ _ c.from_residual-in_err-write_map-in-Ok.ensures.1
    (broke (mapped_text c.in-Ok.new) c.in-Ok.ensures.map c.in_err-write_map-in-Ok.ensures.prefix
    c.in_err-write_map-in-Ok.ensures.fault)

pub returns-in_ok-write_map-in-Ok-clause-done : goal.returns-in_ok-write_map-in-Ok-clause-done
returns-in_ok-write_map-in-Ok-clause-done g c =
    wrote (mapped_text c.in-Ok.new) c.in-Ok.ensures.map c.in_ok-write_map-in-Ok.ensures.whole

pub judged_refusal-requires : goal.judged_refusal-requires
judged_refusal-requires g c = map_placed c.args.bytes.now _ c.in-Err.ensures.refused

pub returns-in-Err-clause-refused : goal.returns-in-Err-clause-refused
returns-in-Err-clause-refused g c = not_begun (WritesMap c.args.bytes.now) (IsNoMapFor c.args.bytes.now)
    (stream g.O.Sink.state c.args.out.now c.args.out.now) (λ fail none. none) refl c.judged_refusal.result
    (c.judged_refusal.ensures.mapped c.args.bytes.now c.in-Err.ensures.refused)
