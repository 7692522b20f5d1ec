-- What a command asks for that finds least lengths: a fit, under a head line of its own.
use Rattle.std.specs.Prelude.{◌≡◌, Bool, false, List, Option, Some, None, Ok, ⊤}
use Rattle.def_certtext.specs.Risings.{rounds_if, third_if}
use Rattle.def_certtext.specs.declared.certs.Rising.TheVariants.{Never}
use Rattle.def_certtext.specs.declared.certs.Terms.{Terms}
use Rattle.def_fit.specs.Aims.{aimed, fit_settings, AreAimedNear}
use Rattle.def_fit.specs.FitTasks.{Asides, asides_in, kept_text}
use Rattle.def_fit.specs.Shares.{shares_of}
use Rattle.def_fit.specs.declared.fit.Aim.{Aim}
use Rattle.def_fit.specs.declared.fit.Aim.TheVariants.{Scale, Edge}
use Rattle.def_fit.specs.declared.fit.Fit.{Fit}
use Rattle.def_fit.specs.declared.fit.Spacing.TheVariants.{Even}
use Rattle.def_flow.specs.declared.net.Settings.{Settings}
use Rattle.def_flow.specs.declared.net.Weight.TheVariants.{Plain}
use Rattle.def_io.specs.Bytes.{Bytes}
use Rattle.def_layout.specs.Layouts.{Layout}
use Rattle.def_metric.specs.Fails.{IsFar}
use Rattle.def_patches.specs.Chosen.{IsChosenCut}
use Rattle.def_patches.specs.declared.Keep.{Keep}
use Rattle.def_patches.specs.declared.Keep.TheVariants.{Nothing, Lines}
use Rattle.def_patches.specs.declared.Patches.{Patches}
use Rattle.def_patches.specs.declared.Patches.TheVariants.{Traced, Merged}
use Rattle.def_remesh.specs.Refusals.{IsTangledAt}
use Rattle.def_remesh.specs.Tasks.{Task, Wish}
use Rattle.def_run.specs.Fit.{HasNearWishes}
use Rattle.def_run.specs.MarkLines.{IsMarkLine}
use Rattle.def_run.specs.Remesh.{Asks}
use Rattle.def_run.specs.declared.check_fail.CheckFail.{CheckFail}
use Rattle.def_run.specs.declared.check_fail.CheckFail.TheVariants.{Tangled, Far, Memory}
use Rattle.def_run.specs.declared.command.Command.{Command}
use Rattle.def_run.specs.declared.command.Command.TheVariants as commands
use Rattle.def_text.specs.FaceSet.{FaceSet}
use Rattle.qm_check.specs.declared.least.Least.{Least}

-- A fit near the old lengths, with these settings.
abbrev pub scaled : (keep : Keep) (patches : Patches) (settings : Settings) → Fit
scaled keep patches settings = record {
  keep = keep;
  patches = patches;
  aim = Scale settings.p settings.q;
  floor = settings.floor;
  auto = false;
  weight = settings.weight;
  spacing = Even;
}

-- What `remesh` asks for.
abbrev pub remeshed : (settings : Settings) (auto : Bool) → Least
remeshed settings auto = record { fit = scaled Nothing Traced settings; rising = third_if auto }

-- A fit whose floors do not rise.
abbrev pub fixed : (fit : Fit) → Least
fixed fit = record { fit = fit; rising = Never }

-- What a command asks for, if it finds least lengths.
abbrev pub least_of : (command : Command) → Option Least
least_of (commands.Remesh settings auto) = Some (remeshed settings auto)
least_of (commands.Crease settings) = Some (fixed (scaled Lines Traced settings))
least_of (commands.Size edge floor) = Some (fixed (record {
  keep = Nothing;
  patches = Traced;
  aim = Edge edge;
  floor = floor;
  auto = false;
  weight = Plain;
  spacing = Even;
}))
least_of (commands.Coarse settings) = Some (fixed (scaled Nothing Merged settings))
least_of (commands.Fit fit) = Some (record { fit = fit; rising = rounds_if fit.auto })
least_of _ = None

-- The line is the head line of this command, which asks for this.
pub record IsLeastLine (command : Command) (line : Bytes) (least : Least) : Type 0 where
  pub mark : IsMarkLine line command
  pub finds : least_of command ≡ Some least

-- What its lengths are found by.
abbrev pub terms_of : (least : Least) → Terms
terms_of least = record { settings = fit_settings least.fit; rising = least.rising }

-- Its task over a cut, beside what the lines of a text say.
abbrev pub least_task : (least : Least) (head : Bytes) (soup : FaceSet) (asides : Asides) (cut : List Bool) → Task
least_task least head soup asides cut = record {
  marks = cut;
  wish = aimed least.fit.aim soup asides.wishes;
  settings = fit_settings least.fit;
  rising = least.rising;
  head = head;
  between = kept_text asides.kept;
  shares = shares_of least.fit soup asides.wishes cut;
}

-- It asks for the chosen cut of the mesh.
abbrev pub AsksToFind : (least : Least) (head : Bytes) → Asks
AsksToFind least head bytes soup task =
    (asides : Asides) × (cut : List Bool) × (asides_in least.fit bytes soup ≡ Ok asides)
    × IsChosenCut soup.faces asides.kept least.fit.patches cut × (task ≡ least_task least head soup asides cut)

-- It does where wishes add up to no more than the limit.
abbrev pub AsksToFindNear : (least : Least) (head : Bytes) → Asks
AsksToFindNear least head bytes soup task =
    AsksToFind least head bytes soup task × HasNearWishes least.fit.aim soup task

-- Why there is no network for it, where there is memory.
abbrev pub HasNoNet : (aim : Aim) (wish : Wish) (layout : Layout) (settings : Settings) (fail : CheckFail) → Type 0
HasNoNet aim wish layout settings (Tangled count) = IsTangledAt wish layout settings count
HasNoNet aim wish layout settings (Far sum) = (¬ AreAimedNear aim wish layout) × IsFar wish layout settings sum
HasNoNet aim wish layout settings Memory = ⊤
HasNoNet aim wish layout settings _ = ⊥
