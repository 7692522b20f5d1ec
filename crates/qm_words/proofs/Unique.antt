-- A line has one command.
use Rattle.def_run.specs.declared.command.Command.TheVariants.{Bench, Blocks, Coarse, Crease, LayOut, Refine, Remesh}
use Rattle.def_run.specs.declared.command.Command.TheVariants.{Check, Fit, Graph, Grids, Map, Size, Tidy}
use Rattle.def_run.specs.declared.words.WordsFail.{WordsFail, TheVariants.Memory, TheVariants.Usage}
use Rattle.std.proofs.lemmas.{Slice.Eq.bytes_eq-Decides, Fmt.decimal_injective, Bool.true≢false}
use Rattle.std.proofs.Common.{Bool, Err, IfErr, IfOk, Result, Some, arith, false, inl, inr, refl, subst, sym, ◌∙◌, ◌∷◌}
use Rattle.def_run.specs.CommandLines.{HasCount, HasFitOptions, HasOptions, HasSettings, IsCommand, name_of}
use Rattle.std.proofs.{Common.◌≡◌, Common.◌≤◌, Common.◌⊎◌, Common.Ok, Common.ap, Common.ℕ}
use Rattle.def_run.specs.{declared.command.Command.Command, Options.value_of, Options.uses_of, Options.Uses}
use Rattle.qm_fit.{proofs.Heads.same_patches, proofs.Heads.same_keep, proofs.Heads.same_fit}
use Rattle.{def_flow.specs.declared.net.Settings.Settings, def_fit.specs.declared.fit.Fit.Fit as AnyFit}
use Rattle.{qm_certtext.proofs.Cutting.same_settings, def_text.specs.Types.Words, def_text.specs.Types.Word}

same_uses : (words : Words) (one two : Uses) → uses_of words ≡ Some one → uses_of words ≡ Some two → one ≡ two
same_uses words one two first second = cc

same_count : (name : Word) (greatest : ℕ) (words : Words) (m n : ℕ) → greatest ≤ 10000 → HasCount name greatest words m
    → HasCount name greatest words n → m ≡ n
same_count name greatest words m n few one two =
    let uses = same_uses words one.uses two.uses one.options.spelled two.options.spelled in
    decimal_injective m n (omega arith) (omega arith)
    (sym one.count.written ∙ ap (value_of name) uses ∙ two.count.written)

pub same_asked : (words : Words) (s t : Settings) (a b : Bool) → HasSettings words s a → HasSettings words t b
    → (s ≡ t) × (a ≡ b)
same_asked words s t a b one two =
    let uses = same_uses words two.uses one.uses two.options.spelled one.options.spelled in
    same_settings _ _ _ s t a b one.values (rw uses at two.values)

same_fits : (words : Words) (a b : AnyFit) → HasFitOptions words a → HasFitOptions words b → a ≡ b
same_fits words a b one two =
    let uses = same_uses words two.uses one.uses two.options.spelled one.options.spelled in
    same_fit _ _ _ _ _ _ a b one.values (rw uses at two.values)

same_options : (a b : Command) (words : Words) → name_of a ≡ name_of b → HasOptions a words → HasOptions b words → a ≡ b
same_options Tidy Tidy words name one two = refl
same_options Graph Graph words name one two = refl
same_options (Refine m) (Refine n) words name one two = cc (same_count _ 1000 words m n (omega arith) one two)
same_options (Remesh s x) (Remesh t y) words name one two =
    let both = same_asked words s t x y one two in
    λ i. Remesh (both.0 i) (both.1 i)
same_options Check Check words name one two = refl
same_options (Bench m) (Bench n) words name one two = cc (same_count _ 10000 words m n (omega arith) one two)
same_options (Crease s) (Crease t) words name one two =
    cc ((same_asked words s t false false one two).0)
same_options (Size e m) (Size d n) words name one two =
    let uses = same_uses words one.uses two.uses one.options.spelled two.options.spelled in
    grind (arith, decimal_injective m n)
same_options (Coarse s) (Coarse t) words name one two =
    ap (λ (k : Settings). Coarse k) (same_asked words s t false false one two).0
same_options (Blocks m) (Blocks n) words name one two = cc (same_count _ 1000 words m n (omega arith) one two)
same_options Map Map words name one two = refl
same_options (Fit f) (Fit g) words name one two = cc (same_fits words f g one two)
same_options (LayOut k p) (LayOut l q) words name one two =
    let uses = same_uses words one.uses two.uses one.options.spelled two.options.spelled in
    grind (arith, same_keep k l, same_patches p q)
same_options (Grids k p m) (Grids l q n) words name one two =
    let uses = same_uses words one.uses two.uses one.options.spelled two.options.spelled in
    grind (arith, same_keep k l, same_patches p q, decimal_injective m n)
same_options a b words name one two = absurd (true≢false (sym ((bytes_eq-Decides (name_of a) (name_of b)).1 name)))

pub one_command : (words : Words) (a b : Command) → IsCommand words a → IsCommand words b → a ≡ b
one_command words a b one two =
    let both : name_of a ∷ one.rest ≡ name_of b ∷ two.rest = sym one.first ∙ two.first in
    let names : name_of a ≡ name_of b = cc in
    let rests : one.rest ≡ two.rest = cc in
    same_options a b two.rest names (subst (HasOptions a) rests one.options) two.options

-- So an exact reader accepts each line.
pub accepted : (words : Words) (command : Command) (result : Result Command WordsFail) → IfOk result (IsCommand words)
    → IfErr result (λ fail. fail ≡ Usage → (other : Command) → IsCommand words other → ⊥) → IsCommand words command
    → (result ≡ Ok command) ⊎ (result ≡ Err Memory)
accepted words command (Ok read) reads refuses line =
    inl (ap (λ (c : Command). Ok c) (one_command words read command reads line))
accepted words command (Err Usage) reads refuses line = absurd (refuses refl command line)
accepted words command (Err Memory) reads refuses line = inr refl
