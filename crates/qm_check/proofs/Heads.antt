-- What the head line of a command says: its settings may be asked for, and it ends no line.
use Rattle.std.proofs.Common.{rules, true, codes, false, ℕ, ◌≤◌, ◌^◌, refl, [], arith, ◌++◌, ◌<◌, subst, ℤ, ◌∷◌, ◌≡◌}
use Rattle.std.proofs.{lemmas.List.Folds.list_all-append, lemmas.List.append-nil}
use Rattle.{def_io.specs.Bytes.Bytes, def_certtext.specs.Settings.AreInRange, std.specs.List.list_all}
use Rattle.{std.specs.Prelude.unsigned_abs, def_fit.specs.declared.fit.Aim.Aim, def_fit.specs.declared.fit.Fit.Fit}
use Rattle.{def_run.specs.Heads.named_head, def_run.specs.Size.size_head, def_flow.specs.declared.net.Settings.Settings}
use Rattle.def_fit.specs.{FitWords.fit_head, FitWords.aim_text, Aims.IsAim, Aims.IsFit, Aims.fit_settings}
use Rattle.def_text.specs.{Types.Word, Canonical.micro_text}
use Rattle.qm_certtext.proofs.{Texts.settings_inside, Texts.number_inside, Texts.floor_inside}
use Rattle.qm_obj.proofs.LawText.{line_tame, is_inside, tame_inside, is_tame, micro_word}

-- ---- Texts that end no line.

micro_inside : (edge : ℤ) → unsigned_abs edge ≤ 999_999_999_999_999 → list_all is_inside (micro_text edge) ≡ true
micro_inside edge near = tame_inside (micro_text edge)
    (subst (λ (t : Bytes). list_all is_tame t ≡ true) (append-nil (micro_text edge))
    (line_tame 118 (micro_text edge ∷ []) refl (omega arith)
    (λ k l. let first : k ≡ 0 = omega (arith, l) in rw first (micro_word edge near))).tame)

pub size_inside : (edge : ℤ) (near : unsigned_abs edge ≤ 999_999_999_999_999) (floor : ℕ) → floor < 2 ^ 64
    → list_all is_inside (size_head edge floor) ≡ true
size_inside edge near floor low = simp (list_all-append, micro_inside edge near, number_inside floor low)

aim_inside : (aim : Aim) → IsAim aim → list_all is_inside (aim_text aim) ≡ true
aim_inside aim h1 = search (rules, list_all-append, number_inside, micro_inside)

pub fit_inside : (fit : Fit) → IsFit fit → list_all is_inside (fit_head fit) ≡ true
fit_inside fit is = search (rules, aim_inside, list_all-append, floor_inside)

-- ---- Settings that may be asked for.

pub fit_range : (fit : Fit) → IsFit fit → AreInRange (fit_settings fit) fit.auto
fit_range fit is = search rules

-- The head line of a command with settings whose floor is a number.
pub named_inside : (name : Word) (settings : Settings)
    → list_all is_inside (codes "#quadq 1 " ++ name ++ codes " scale ") ≡ true → AreInRange settings false
    → list_all is_inside (named_head name settings) ≡ true
named_inside name settings inside range = search (rules, settings_inside)
