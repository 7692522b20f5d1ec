use Rattle.std.proofs.Common.{rules, ap, ◌∙◌, true, ◌≡◌, subst, sym}
use Rattle.{std.proofs.lemmas.Option.none-some, def_certtext.specs.Risings.rounds_if, qm_check.specs.Making.IsGivenTo}
use Rattle.{qm_check.specs.Least.least_of, def_fit.specs.declared.fit.Fit.Fit as AnyFit, def_io.specs.Bytes.Bytes}
use Rattle.def_run.specs.declared.command.Command.TheVariants.{Fit}
use Rattle.def_run.specs.{declared.command.Command.Command, MarkLines.IsMarkLine, Checking.begins_fit}
use Rattle.qm_check.proofs.{pair.check_fit.Goals.In-Some, Maps.no_front, Maps.no_command}
use Rattle.qm_check.proofs.pair.check_fit.Goals as goal

-- A line that begins as a head line of `fit` is that of no other command.
only_fit : (line : Bytes) (command : Command) → begins_fit line ≡ true → IsMarkLine line command
    → (fit : AnyFit) × (command ≡ Fit fit)
only_fit line command h1 h2 = search rules

pub returns-in_err-old-clause-refused : goal.returns-in_err-old-clause-refused
returns-in_err-old-clause-refused c = search (rules, no_front)

pub returns-in_default-clause-refused : goal.returns-in_default-clause-refused
returns-in_default-clause-refused c = search (rules, no_command)

-- The bytes are given to the command of the line, and that is a fit.
given : (c : In-Some) → IsGivenTo c.args.text.now.bytes.now c.args.text.now.head.line c.in_ok-old.old c.in-Some.command
given c = search rules

asked : (c : In-Some) → (fit : AnyFit) × (c.in-Some.command ≡ Fit fit)
asked c = only_fit _ c.in-Some.command c.requires.fit.begins (given c).is

pub unreachable-requires : goal.unreachable-requires
unreachable-requires c =
    let fit = asked (goal.at.unreachable-requires c).In-Some in
    none-some (record { fit = fit.0; rising = rounds_if fit.0.auto })
    (sym c.in_default-least_of.is ∙ (c.least_of.ensures ∙ ap least_of fit.1))

pub told_of-requires : goal.told_of-requires
told_of-requires c = search (rules, given)

pub returns-clause-accepted : goal.returns-clause-accepted
returns-clause-accepted c =
    let at = (goal.at.returns-clause-accepted c).In-Some in
    let fit = asked at in
    let is = rw fit.1 at (c.in_ok-finished.ensures.found c.in-Some.command (given at)
    (sym c.least_of.ensures ∙ c.in-Some-least_of.is)) in
    record {
      line = c.args.text.now.head.line;
      divided = c.requires.fit.last;
      fit = fit.0;
      mark = subst (IsMarkLine _) fit.1 (given at).is;
      written = is.written;
      arcs_told = rw is.new at c.told_of.ensures.arcs;
      faces_told = rw is.new at c.told_of.ensures.faces;
      net = is.net;
      of_layout = is.of_layout.is;
      deviation_told = c.told_of.ensures.deviation ∙ is.deviates;
    }
