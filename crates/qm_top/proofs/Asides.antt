-- The lines that commands write around a mesh are passed over by a reader of meshes.
use Rattle.std.proofs.Common.{rules, ◌≡◌, ◌+◌, ◌^◌, ◌<◌, ◌≤◌, not, ℕ, zero, suc, ℤ, Bool, true, false, List, [], ◌∷◌}
use Rattle.std.proofs.Common.{◌++◌, codes, length, take, map, get_or, ◌∙◌, ap, refl, arith, length-append}
use Rattle.std.proofs.{Math.Seq.take-length, lemmas.Bool.and_from, lemmas.Bool.and_parts}
use Rattle.std.specs.{List.before_first, List.list_all, Prelude.◌==◌, Prelude.◌&&◌, Prelude.unsigned_abs}
use Rattle.def_fit.specs.FitWords.{aim_text, fit_head, keep_word, patches_word, spacing_word}
use Rattle.def_fit.specs.declared.fit.Aim.TheVariants.{Scale, Edge, Wishes}
use Rattle.def_fit.specs.{Aims.IsAim, Aims.IsFit, declared.fit.Aim.Aim, declared.fit.Fit.Fit}
use Rattle.def_fit.specs.{declared.fit.Spacing.Spacing, declared.fit.Spacing.TheVariants.Even}
use Rattle.def_fit.specs.{declared.fit.Spacing.TheVariants.Wished}
use Rattle.def_flow.specs.{declared.net.Settings.Settings, declared.net.Weight.Weight}
use Rattle.def_patches.specs.{declared.Patches.TheVariants.Traced, declared.Keep.Keep, declared.Patches.Patches}
use Rattle.def_run.specs.{Heads.named_head, Reread.HasShortLines, Size.size_head}
use Rattle.def_text.specs.{Logical.is_hash, Reading.begins_with, Words.words}
use Rattle.qm_obj.proofs.LawText.{is_tame, micro_word, no_continuation}
use Rattle.remesh_laws.proofs.MarkedLines.{chain_line, chain_tame, marked_ended, marked_lines}
use Rattle.remesh_laws.proofs.Asides.{floor_short, line_aside, number_short, settings_aside}
use Rattle.{def_certtext.specs.Settings.weight_text, def_certtext.specs.Settings.AreInRange, def_io.specs.Bytes.Bytes}
use Rattle.{def_io.specs.Bytes.Lines, def_layout.specs.Lengths.Lengths, def_layout.specs.Layouts.Layout}
use Rattle.{def_marks.specs.MarkedText.marked_text, qm_dec.proofs.ReadBack.none_first, qm_check.proofs.Heads.fit_inside}
use Rattle.{qm_check.proofs.Heads.size_inside, remesh_laws.specs.Asides.IsAside, remesh_laws.specs.Asides.IsPassedOver}
use Rattle.def_flow.specs.declared.net.Weight.TheVariants as weights
use Rattle.def_patches.specs.declared.Keep.TheVariants as keeps

-- ---- Head lines.

pub coarse_aside : (settings : Settings) → AreInRange settings false
    → IsAside (named_head (codes "coarse") settings ++ 10 ∷ [])
coarse_aside settings range = search (rules, settings_aside)

pub crease_aside : (settings : Settings) → AreInRange settings false
    → IsAside (named_head (codes "crease") settings ++ 10 ∷ [])
crease_aside settings range = search (rules, settings_aside)

pub size_aside : (edge : ℤ) → unsigned_abs edge ≤ 999_999_999_999_999 → (floor : ℕ) → floor < 2 ^ 64
    → IsAside (size_head edge floor ++ 10 ∷ [])
size_aside edge near floor low = line_aside (size_head edge floor) refl (size_inside edge near floor low)
    (simp length-append (omega (arith, simp length-append at (micro_word edge near).short, number_short floor low)))

keep_short : (keep : Keep) → length (keep_word keep) ≤ 20
keep_short keeps.Nothing = omega arith
keep_short keeps.Lines = omega arith

patches_short : (patches : Patches) → length (patches_word patches) ≤ 20
patches_short Traced = omega arith
patches_short _ = omega arith

aim_short : (aim : Aim) → IsAim aim → length (aim_text aim) ≤ 100
aim_short (Scale p q) is = search (rules, length-append, number_short)
aim_short (Edge edge) is = simp length-append (omega (arith, simp length-append at (micro_word edge is.1).short))
aim_short Wishes is = omega arith

weight_short : (weight : Weight) → length (weight_text weight) ≤ 20
weight_short weights.Plain = omega arith
weight_short weights.Length = omega arith

spacing_short : (spacing : Spacing) → length (spacing_word spacing) ≤ 20
spacing_short Even = omega arith
spacing_short Wished = omega arith

pub fit_aside : (fit : Fit) → IsFit fit → IsAside (fit_head fit ++ 10 ∷ [])
fit_aside fit is = line_aside (fit_head fit) refl (fit_inside fit is) (simp length-append (omega (
  arith,
  keep_short fit.keep,
  patches_short fit.patches,
  aim_short fit.aim is.aim,
  floor_short fit.floor fit.auto is.floor,
  weight_short fit.weight,
  spacing_short fit.spacing,
)))

-- ---- The lines of marked arcs.

-- A tame line has no comment.
no_hash : (line : Bytes) → list_all is_tame line ≡ true → list_all (λ b. not (is_hash b)) line ≡ true
no_hash [] tame = refl
no_hash (b ∷ line) tame =
    let parts = and_parts (is_tame b) (list_all is_tame line) tame in
    let cuts = and_parts (not (b == 10) && not (b == 13)) (not (b == 35) && not (b == 92)) parts.0 in
    and_from _ _ (and_parts (not (b == 35)) (not (b == 92)) cuts.1).0 (no_hash line parts.1)

whole_line : (line : Bytes) → list_all is_tame line ≡ true → before_first is_hash line ≡ line
whole_line line tame = ap (λ (n : ℕ). take n line) (none_first is_hash line (no_hash line tame)) ∙ take-length line

-- Its first word is `l`.
no_vertex : (chain : List ℕ) → begins_with 118 (words (chain_line chain)) ≡ false
no_vertex [] = refl
no_vertex (vertex ∷ chain) = refl

no_face : (chain : List ℕ) → begins_with 102 (words (chain_line chain)) ≡ false
no_face [] = refl
no_face (vertex ∷ chain) = refl

chain_passed : (chain : List ℕ) → length (chain_line chain) ≤ 65536 → IsPassedOver (chain_line chain)
chain_passed chain short = search (rules, no_continuation, chain_tame, no_vertex, no_face, whole_line)

chains_passed : (chains : List (List ℕ))
    → ((k : ℕ) → k < length (map chain_line chains) → length (get_or (map chain_line chains) k []) ≤ 65536)
    → (k : ℕ) → k < length (map chain_line chains) → IsPassedOver (get_or (map chain_line chains) k [])
chains_passed [] short k low = absurd (omega (arith, low))
chains_passed (chain ∷ chains) short zero low = chain_passed chain (short 0 low)
chains_passed (chain ∷ chains) short (suc k) low =
    chains_passed chains (λ j l. short (suc j) (omega (arith, l))) k (omega (arith, low))

module _ (marks : List Bool) (layout : Layout) (new : Lengths) where
  -- They are passed over where none is too long.
  pub marked_aside : HasShortLines (marked_text marks layout new) → IsAside (marked_text marks layout new)
  marked_aside short = search (rules, marked_ended, marked_lines, chains_passed)
