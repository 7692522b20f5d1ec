-- What was read beside a mesh.
use Rattle.std.specs.Option.{option_map}
use Rattle.def_fit.specs.FitTasks.{Asides}
use Rattle.qm_asides.specs.declared.asides.Asides.{Asides as ReadAsides}

-- As what the lines of a text say.
abbrev pub asides_of : (asides : ReadAsides) → Asides
asides_of asides = record { kept = option_map (λ marks. marks.items) asides.kept; wishes = asides.wishes.items }
