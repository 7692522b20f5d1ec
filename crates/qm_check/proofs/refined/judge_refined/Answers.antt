use Rattle.std.proofs.Common.{rules}
use Rattle.{std.proofs.Common.sym, std.proofs.Common.◌∙◌, qm_check.proofs.refined.judge_refined.Goals.After-new}
use Rattle.qm_check.proofs.Maps.{no_points, other_refined, refined_mapped}
use Rattle.{error_laws.proofs.Errors.handed, qm_check.specs.Making.IsGivenTo}
use Rattle.def_run.specs.{Remesh.IsTracedLayout, declared.command.Command.TheVariants.Refine}
use Rattle.qm_check.proofs.refined.judge_refined.Goals as goal

-- The mesh that is cut is the one that is given, and the layout is that of its motorcycle graph.
given : (c : After-new)
    → IsGivenTo c.args.text.now.bytes.now c.args.text.now.head.line c.new.result.soup (Refine c.args.by)
given c = rw c.new.ensures c.requires.given

laid : (c : After-new) → IsTracedLayout c.new.result.soup.faces c.new.result.layout
laid c = rw (c.new.ensures, ← c.mesh.ensures) c.in_ok-layout.ensures.traced

pub new-requires : goal.new-requires
new-requires c = (c.in_ok-layout.ensures.mesh.0, c.in_ok-layout.ensures.mesh.1 ∙ c.mesh.ensures)

pub points_by-requires : goal.points_by-requires
points_by-requires c = record { some = c.requires.given.is.low; few = c.requires.given.is.high }

pub returns-in_err-new-clause-refused : goal.returns-in_err-new-clause-refused
returns-in_err-new-clause-refused c = search (rules, handed, no_points, given, laid)

pub compare_refined-requires : goal.compare_refined-requires
compare_refined-requires c = record { refined = (c.new.result, c.in_ok-new.ensures.refined) }

pub returns-in_err-compare_refined-clause-refused : goal.returns-in_err-compare_refined-clause-refused
returns-in_err-compare_refined-clause-refused c =
    let at = (goal.at.returns-in_err-compare_refined-clause-refused c).After-new in
    handed _ _ _ c.from_residual-in_err-compare_refined.ensures.1
    (other_refined (given at) (laid at) c.in_ok-new.ensures.refined c.in_err-compare_refined.field-0.0
    (rw c.written_text.ensures at c.in_err-compare_refined.ensures.other))

pub returns-clause-mapped : goal.returns-clause-mapped
returns-clause-mapped c =
    let at = (goal.at.returns-clause-mapped c).After-new in
    refined_mapped (given at) (laid at) c.in_ok-new.ensures.refined
    (sym c.written_text.ensures ∙ c.in_ok-compare_refined.ensures.same)
