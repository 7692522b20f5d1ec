-- The definitions of command lines, computed on lines.
use Rattle.std.proofs.Common.{◌≡◌, Bool, true, false, Option, Some, None, [], ◌∷◌, map, refl, arith}
use Rattle.std.specs.{Prelude.codes, Fmt.digits}
use Rattle.def_text.specs.Types.{Words}
use Rattle.def_run.specs.{CommandLines.remesh_options, CommandLines.IsCommand, Options.are_once, Options.separate}
use Rattle.def_run.specs.{Options.uses_of, Options.Uses, declared.command.Command.TheVariants.Refine}

-- Whether words are the options of a remesh, once each.
by_uses : Option Uses → Bool
by_uses None = false
by_uses (Some uses) = are_once remesh_options uses

are_settings : Words → Bool
are_settings words = by_uses (uses_of words)

-- Both forms, in any order.
forms_row : map are_settings ((codes "--scale=1/2" ∷ codes "--weight" ∷ codes "plain" ∷ codes "--floor" ∷ codes "1"
    ∷ [])
    ∷ (codes "--floor=1" ∷ codes "--weight=plain" ∷ codes "--scale" ∷ codes "1=2" ∷ []) ∷ []) ≡ true ∷ true ∷ []
unfolding are_settings by_uses
forms_row = refl

-- A missing option, a repeated one, another one, a name without a value, a further word, and a last `--`.
no_forms_row : map are_settings ((codes "--scale" ∷ codes "1/2" ∷ codes "--floor" ∷ codes "1" ∷ [])
    ∷ (codes "--scale=1/2" ∷ codes "--floor=1" ∷ codes "--weight=plain" ∷ codes "--floor=1" ∷ [])
    ∷ (codes "--scale=1/2" ∷ codes "--floor=1" ∷ codes "--weights=plain" ∷ [])
    ∷ (codes "--scale=1/2" ∷ codes "--floor=1" ∷ codes "--weight" ∷ [])
    ∷ (codes "--scale=1/2" ∷ codes "--floor=1" ∷ codes "--weight=plain" ∷ codes "more" ∷ [])
    ∷ (codes "--scale=1/2" ∷ codes "--floor=1" ∷ codes "--weight=plain" ∷ codes "--" ∷ []) ∷ [])
    ≡ false ∷ false ∷ false ∷ false ∷ false ∷ false ∷ []
unfolding are_settings by_uses
no_forms_row = refl

refine_row : IsCommand (codes "refine" ∷ codes "--by" ∷ codes "3" ∷ []) (Refine 3)
unfolding digits
refine_row = record {
  rest = codes "--by" ∷ codes "3" ∷ [];
  first = refl;
  options = record {
    uses = separate (codes "--by") (codes "3") ∷ [];
    options = record { spelled = refl; once = refl };
    count = record { written = refl; low = omega arith; high = omega arith };
  };
}
