-- What `coarse` means: a remesh over fewer and larger patches.
use Rattle.std.specs.Prelude.{◌≡◌, List, Bool, codes}
use Rattle.def_cut.specs.Traced.{traced_marks}
use Rattle.def_flow.specs.declared.net.Settings.{Settings}
use Rattle.def_merge.specs.Merged.{IsMergedCut}
use Rattle.def_run.specs.Heads.{named_task}
use Rattle.def_run.specs.Remesh.{Asks}

-- `coarse` asks for the merged cut of the motorcycle graph of the faces and for their old lengths.
abbrev pub AsksToMerge : (settings : Settings) → Asks
AsksToMerge settings bytes soup task =
    (marks : List Bool) × IsMergedCut soup.faces (traced_marks soup.faces) marks
    × (task ≡ named_task (codes "coarse") settings marks)
