-- The canonical text of a length is a word of it, and has no space.
use Rattle.std.proofs.Common.{◌≡◌, ◌≤◌, not, ℕ, ℤ, pos, true, [], ◌∷◌, eqb, refl, ap, sym, ◌∙◌, arith, false, ◌++◌}
use Rattle.std.proofs.Common.{codes, drop, get_or, ◌-◌, Bool, List, length, length-append, take, subst, append_assoc}
use Rattle.std.proofs.lemmas.Bool.{and_from, and_parts, le-ltb}
use Rattle.std.proofs.lemmas.List.{append-nil, append_cancel_left, take_at}
use Rattle.std.specs.{List.list_all, Prelude.unsigned_abs, Prelude.◌≤ℤ◌, Prelude.decimal}
use Rattle.def_fit.specs.FitWords.{IsEdgeLength, keep_word, patches_word, spacing_word, AreFitWords, IsAimWord}
use Rattle.def_fit.specs.{FitWords.aim_text, FitWords.fit_head, Aims.IsAim, Aims.IsFit, declared.fit.Aim.Aim}
use Rattle.def_fit.specs.declared.fit.Aim.TheVariants.{Scale, Edge, Wishes}
use Rattle.def_fit.specs.declared.fit.Spacing.TheVariants.{Even, Wished}
use Rattle.def_certtext.specs.Settings.{scale_text, AreInRange, AreWordsOf, floor_text, weight_text, IsFloor}
use Rattle.def_flow.specs.{declared.net.Settings.Settings, declared.net.Weight.Weight}
use Rattle.def_flow.specs.declared.net.Weight.TheVariants.{Plain, Length}
use Rattle.def_patches.specs.declared.Patches.TheVariants.{Traced, Merged, Conforming}
use Rattle.def_patches.specs.declared.Keep.TheVariants.{Nothing, Lines}
use Rattle.qm_certtext.proofs.Cutting.{same_settings, asked_cut, one_word}
use Rattle.{std.proofs.lemmas.Bool.Decides.nat_tests, std.proofs.lemmas.Fmt.decimal_digit}
use Rattle.{def_fit.specs.declared.fit.Fit.Fit, def_fit.specs.declared.fit.Spacing.Spacing}
use Rattle.{def_text.specs.Canonical.micro_text, def_text.specs.Decimal.is_far, def_text.specs.Types.Word}
use Rattle.{def_certtext.specs.HeadLine.head_line, def_patches.specs.declared.Keep.Keep}
use Rattle.{def_patches.specs.declared.Patches.Patches, qm_certtext.specs.Cuts.is_bare}
use Rattle.{qm_certtext.specs.Cuts.asked_line, qm_dec.proofs.ReadBack.canonical_law, qm_obj.proofs.LawText.is_plain}
use Rattle.{qm_obj.proofs.LawText.micro_word, qm_fit.specs.Cuts.IsFitCut}

-- The canonical text of a number has no space.
byte_bare : (b : ℕ) → is_plain b ≡ true → not (eqb b 32) ≡ true
byte_bare b is = grind (arith, nat_tests)

plain_bare : (word : Word) → list_all is_plain word ≡ true → is_bare word ≡ true
plain_bare [] all = refl
plain_bare (b ∷ bs) all =
    let parts = and_parts (is_plain b) (list_all is_plain bs) all in
    and_from _ _ (byte_bare b parts.0) (plain_bare bs parts.1)

pub micro_bare : (edge : ℤ) → unsigned_abs edge ≤ 999_999_999_999_999 → is_bare (micro_text edge) ≡ true
micro_bare edge near = plain_bare (micro_text edge) (micro_word edge near).plain

-- It is a decimal with that value.
pub written_edge : (edge : ℤ) → pos 1 ≤ℤ edge → unsigned_abs edge ≤ 999_999_999_999_999
    → IsEdgeLength (micro_text edge) edge
written_edge edge low near =
    let law = canonical_law edge near in
    record {
      value = (law.0, ap is_far law.1 ∙ le-ltb 999_999_999_999_999 (unsigned_abs edge) near, sym law.1);
      low = low;
    }

-- Words ask for one fit.

-- Words that begin otherwise are others.
apart : (a b : Word) → a ≡ b → get_or a 0 0 ≡ get_or b 0 0
apart a b same = ap (λ (w : Word). get_or w 0 0) same

-- A word keeps one thing, is of one kind of patches, and of one spacing.
pub same_keep : (one two : Keep) → keep_word one ≡ keep_word two → one ≡ two
same_keep Nothing Nothing same = refl
same_keep Lines Lines same = refl
same_keep _ _ same = absurd (omega (arith, apart _ _ same))

pub same_patches : (one two : Patches) → patches_word one ≡ patches_word two → one ≡ two
same_patches Traced Traced same = refl
same_patches Merged Merged same = refl
same_patches Conforming Conforming same = refl
same_patches _ _ same = absurd (omega (arith, apart _ _ same))

pub same_spacing : (one two : Spacing) → spacing_word one ≡ spacing_word two → one ≡ two
same_spacing Even Even same = refl
same_spacing Wished Wished same = refl
same_spacing _ _ same = absurd (omega (arith, apart _ _ same))

-- The settings of a scale alone, in their words.
abbrev pub scaled : (p q : ℕ) → Settings
scaled p q = record { p = p; q = q; floor = 1; weight = Plain }

pub scale_range : (p q : ℕ) → IsAim (Scale p q) → AreInRange (scaled p q) false
scale_range p q is = record {
  p_low = is.0;
  p_high = is.1;
  q_low = is.2;
  q_high = is.3;
  floor = record { low = omega arith; high = omega arith; at_first = λ auto. refl };
}

scale_words : (word : Word) (p q : ℕ) → word ≡ scale_text (scaled p q) → IsAim (Scale p q)
    → AreWordsOf word (decimal 1) (codes "plain") (scaled p q) false
scale_words word p q written is =
    record { scaled = written; bounded = refl; weighed = refl; in_range = scale_range p q is }

-- A word asks for one aim.
pub same_aim : (word : Word) (one two : Aim) → IsAim one → IsAimWord word one → IsAim two → IsAimWord word two
    → one ≡ two
same_aim word (Scale a b) (Scale p q) one first two second =
    let both : scaled a b ≡ scaled p q = (same_settings (scale_text (scaled a b)) _ _ (scaled a b) (scaled p q) false
    false (scale_words _ a b refl one) (scale_words _ p q (ap (drop 6) (sym first ∙ second)) two)).0 in
    λ i. Scale (both i).p (both i).q
same_aim word (Edge edge) (Edge other) one first two second =
    let lengths : first.0 ≡ second.0 = ap (drop 5) (sym first.1 ∙ second.1) in
    let also : IsEdgeLength first.0 other = rw lengths second.2 in
    ap (λ (z : ℤ). Edge z) (first.2.value.2 ∙ sym also.value.2)
same_aim word Wishes Wishes one first two second = refl
same_aim word (Edge edge) _ one first two second = absurd (omega (arith, apart _ _ (sym first.1 ∙ second)))
same_aim word _ (Edge edge) one first two second = absurd (omega (arith, apart _ _ (sym first ∙ second.1)))
same_aim word _ _ one first two second = absurd (omega (arith, apart _ _ (sym first ∙ second)))

-- The least length and the weights of a fit, as settings of the old lengths themselves.
abbrev pub least : (fit : Fit) → Settings
least fit = record { p = 1; q = 1; floor = fit.floor; weight = fit.weight }

pub least_words : (fit : Fit) (keep patches aim floor weight spacing : Word) → AreFitWords keep patches aim floor weight
    spacing fit → AreWordsOf (codes "1/1") floor weight (least fit) fit.auto
least_words fit keep patches aim floor weight spacing words = record {
  scaled = λ i. sym (decimal_digit 1 (omega arith)) i ++ 47 ∷ sym (decimal_digit 1 (omega arith)) i;
  bounded = words.bounded;
  weighed = words.weighed;
  in_range = record {
    p_low = omega arith;
    p_high = omega arith;
    q_low = omega arith;
    q_high = omega arith;
    floor = words.in_range.floor;
  };
}

-- Six words ask for one fit.
pub same_fit : (keep patches aim floor weight spacing : Word) (one two : Fit) → AreFitWords keep patches aim floor
    weight spacing one → AreFitWords keep patches aim floor weight spacing two → one ≡ two
same_fit keep patches aim floor weight spacing one two first second =
    let keeps : one.keep ≡ two.keep = same_keep _ _ (sym first.kept ∙ second.kept) in
    let cuts : one.patches ≡ two.patches = same_patches _ _ (sym first.cut ∙ second.cut) in
    let aims = same_aim aim one.aim two.aim first.in_range.aim first.aimed second.in_range.aim second.aimed in
    let leasts : (least one ≡ least two) × (one.auto ≡ two.auto) = same_settings _ _ _ (least one) (least two) one.auto
    two.auto (least_words one _ _ _ _ _ _ first) (least_words two _ _ _ _ _ _ second) in
    let spacings : one.spacing ≡ two.spacing = same_spacing _ _ (sym first.spaced ∙ second.spaced) in
    λ i. record {
      keep = keeps i;
      patches = cuts i;
      aim = aims i;
      floor = (leasts.0 i).floor;
      auto = leasts.1 i;
      weight = (leasts.0 i).weight;
      spacing = spacings i;
    }

-- The head line of a fit is cut into its words in one way.

-- The words of a fit have no space.
keep_bare : (keep : Keep) → is_bare (keep_word keep) ≡ true
keep_bare Nothing = refl
keep_bare Lines = refl

patches_bare : (patches : Patches) → is_bare (patches_word patches) ≡ true
patches_bare Traced = refl
patches_bare _ = refl

aim_bare : (aim : Aim) → IsAim aim → is_bare (aim_text aim) ≡ true
aim_bare (Scale p q) is =
    (asked_cut [] (asked_line [] (scaled p q) false) (scaled p q) false (scale_range p q is) refl).scale_bare
aim_bare (Edge edge) is = micro_bare edge is.1
aim_bare Wishes is = refl

floor_bare : (floor : ℕ) (auto : Bool) → IsFloor floor auto → is_bare (floor_text floor auto) ≡ true
floor_bare floor auto is = (asked_cut [] _ (record { p = 1; q = 1; floor = floor; weight = Plain }) auto
    (record { p_low = omega arith; p_high = omega arith; q_low = omega arith; q_high = omega arith; floor = is })
    refl).floor_bare

weight_bare : (weight : Weight) → is_bare (weight_text weight) ≡ true
weight_bare Plain = refl
weight_bare Length = refl

-- Parts put together from the left, and from the right.
abbrev from_left : (front : Word) (parts : List Word) → Word
from_left front [] = front
from_left front (part ∷ parts) = from_left (front ++ part) parts

abbrev from_right : (parts : List Word) → Word
from_right [] = []
from_right (part ∷ []) = part
from_right (part ∷ next ∷ parts) = part ++ from_right (next ∷ parts)

regrouped : (front : Word) (parts : List Word) → from_left front parts ≡ front ++ from_right parts
regrouped front [] = sym (append-nil front)
regrouped front (part ∷ []) = refl
regrouped front (part ∷ next ∷ parts) =
    regrouped (front ++ part) (next ∷ parts) ∙ append_assoc front part (from_right (next ∷ parts))

-- The head line is cut into the words of its fit.
head_cut : (fit : Fit) → IsFit fit → IsFitCut (fit_head fit) (keep_word fit.keep) (patches_word fit.patches)
    (aim_text fit.aim) (floor_text fit.floor fit.auto) (weight_text fit.weight) (spacing_word fit.spacing)
head_cut fit is = record {
  written = regrouped (codes "#quadq 1 fit keep ") (keep_word fit.keep ∷ codes " patches " ∷ patches_word fit.patches
      ∷ codes " aim " ∷ aim_text fit.aim ∷ codes " floor " ∷ floor_text fit.floor fit.auto ∷ codes " weight "
      ∷ weight_text fit.weight ∷ codes " spacing " ∷ spacing_word fit.spacing ∷ []);
  keep_bare = keep_bare fit.keep;
  patches_bare = patches_bare fit.patches;
  aim_bare = aim_bare fit.aim is.aim;
  floor_bare = floor_bare fit.floor fit.auto is.floor;
  weight_bare = weight_bare fit.weight;
}

pub line_cut : (line : Word) (fit : Fit) → IsFit fit → line ≡ fit_head fit
    → IsFitCut line (keep_word fit.keep) (patches_word fit.patches) (aim_text fit.aim)
    (floor_text fit.floor fit.auto) (weight_text fit.weight) (spacing_word fit.spacing)
line_cut line fit is head = subst (λ (l : Word). IsFitCut l (keep_word fit.keep) (patches_word fit.patches)
    (aim_text fit.aim) (floor_text fit.floor fit.auto) (weight_text fit.weight) (spacing_word fit.spacing)) (sym head)
    (head_cut fit is)

-- What stands behind each word.
abbrev behind_weight : (spacing : Word) → Word
behind_weight spacing = codes " spacing " ++ spacing

abbrev behind_floor : (weight spacing : Word) → Word
behind_floor weight spacing = codes " weight " ++ (weight ++ behind_weight spacing)

abbrev behind_aim : (floor weight spacing : Word) → Word
behind_aim floor weight spacing = codes " floor " ++ (floor ++ behind_floor weight spacing)

abbrev behind_patches : (aim floor weight spacing : Word) → Word
behind_patches aim floor weight spacing = codes " aim " ++ (aim ++ behind_aim floor weight spacing)

abbrev pub fit_front : Word
fit_front = codes "#quadq 1 fit keep "

-- A line has no cut.
abbrev NoCut : (line : Word) → Type 0
NoCut line = (k p a f w s : Word) → IsFitCut line k p a f w s → ⊥

-- A line that is cut so far has these words first in each cut.
module _ (line r0 : Word) (is : line ≡ fit_front ++ r0) where
  behind_front : (k p a f w s : Word) → IsFitCut line k p a f w s
      → r0 ≡ k ++ (codes " patches " ++ (p ++ behind_patches a f w s))
  behind_front k p a f w s cut = append_cancel_left fit_front _ _ (sym is ∙ cut.written)

  module _ (keep r1 : Word) (bare1 : is_bare keep ≡ true) (split1 : r0 ≡ keep ++ (codes " patches " ++ r1)) where
    at_patches : (k p a f w s : Word) → IsFitCut line k p a f w s → (keep ≡ k) × (r1 ≡ p ++ behind_patches a f w s)
    at_patches k p a f w s cut = one_word keep k r1 _ (codes " patches ") bare1 cut.keep_bare refl (sym split1
        ∙ behind_front k p a f w s cut)

    pub no_patches : ((word rest : Word) → is_bare word ≡ true → r1 ≡ word ++ (codes " aim " ++ rest) → ⊥) → NoCut line
    no_patches none k p a f w s cut = none p _ cut.patches_bare (at_patches k p a f w s cut).1

    module _ (patches r2 : Word) (bare2 : is_bare patches ≡ true) (split2 : r1 ≡ patches ++ (codes " aim " ++ r2)) where
      at_aim : (k p a f w s : Word) → IsFitCut line k p a f w s → (patches ≡ p) × (r2 ≡ a ++ behind_aim f w s)
      at_aim k p a f w s cut = one_word patches p r2 _ (codes " aim ") bare2 cut.patches_bare refl (sym split2
          ∙ (at_patches k p a f w s cut).1)

      pub no_aim : ((word rest : Word) → is_bare word ≡ true → r2 ≡ word ++ (codes " floor " ++ rest) → ⊥) → NoCut line
      no_aim none k p a f w s cut = none a _ cut.aim_bare (at_aim k p a f w s cut).1

      module _ (aim r3 : Word) (bare3 : is_bare aim ≡ true) (split3 : r2 ≡ aim ++ (codes " floor " ++ r3)) where
        at_floor : (k p a f w s : Word) → IsFitCut line k p a f w s → (aim ≡ a) × (r3 ≡ f ++ behind_floor w s)
        at_floor k p a f w s cut = one_word aim a r3 _ (codes " floor ") bare3 cut.aim_bare refl (sym split3
            ∙ (at_aim k p a f w s cut).1)

        pub no_floor : ((word rest : Word) → is_bare word ≡ true → r3 ≡ word ++ (codes " weight " ++ rest) → ⊥)
            → NoCut line
        no_floor none k p a f w s cut = none f _ cut.floor_bare (at_floor k p a f w s cut).1

        module _ (floor r4 : Word) (bare4 : is_bare floor ≡ true) (split4 : r3
            ≡ floor ++ (codes " weight " ++ r4)) where
          at_weight : (k p a f w s : Word) → IsFitCut line k p a f w s → (floor ≡ f) × (r4 ≡ w ++ behind_weight s)
          at_weight k p a f w s cut = one_word floor f r4 _ (codes " weight ") bare4 cut.floor_bare refl (sym split4
              ∙ (at_floor k p a f w s cut).1)

          pub no_weight : ((word rest : Word) → is_bare word ≡ true → r4 ≡ word ++ (codes " spacing " ++ rest) → ⊥)
              → NoCut line
          no_weight none k p a f w s cut = none w _ cut.weight_bare (at_weight k p a f w s cut).1

          pub cut_whole : (weight spacing : Word) → is_bare weight ≡ true
              → r4 ≡ weight ++ (codes " spacing " ++ spacing) → IsFitCut line keep patches aim floor weight spacing
          cut_whole weight spacing bare5 split5 = record {
            written = is ∙ (λ i. fit_front ++ split1 i) ∙ (λ i. fit_front ++ (keep ++ (codes " patches " ++ split2 i)))
                ∙ (λ i. fit_front ++ (keep ++ (codes " patches " ++ (patches ++ (codes " aim " ++ split3 i)))))
                ∙ (λ i. fit_front ++
                (keep ++ (codes " patches " ++ (patches ++ (codes " aim " ++ (aim ++ (codes " floor " ++ split4 i)))))))
                ∙ (λ i. fit_front ++
                (keep ++ (codes " patches " ++
                (patches ++ (codes " aim " ++
                (aim ++ (codes " floor " ++ (floor ++ (codes " weight " ++ split5 i)))))))));
            keep_bare = bare1;
            patches_bare = bare2;
            aim_bare = bare3;
            floor_bare = bare4;
            weight_bare = bare5;
          }

-- A line has one cut.
module _ (line keep patches aim floor weight spacing : Word) (one : IsFitCut line keep patches aim floor weight
    spacing) where
  only_words : (k p a f w s : Word) → IsFitCut line k p a f w s
      → (keep ≡ k) × (patches ≡ p) × (aim ≡ a) × (floor ≡ f) × (weight ≡ w) × (spacing ≡ s)
  only_words k p a f w s cut =
      let keeps = at_patches line _ one.written keep _ one.keep_bare refl k p a f w s cut in
      let cuts = one_word patches p _ _ (codes " aim ") one.patches_bare cut.patches_bare refl keeps.1 in
      let aims = one_word aim a _ _ (codes " floor ") one.aim_bare cut.aim_bare refl cuts.1 in
      let floors = one_word floor f _ _ (codes " weight ") one.floor_bare cut.floor_bare refl aims.1 in
      let weights = one_word weight w _ _ (codes " spacing ") one.weight_bare cut.weight_bare refl floors.1 in
      (keeps.0, cuts.0, aims.0, floors.0, weights.0, weights.1)

  -- So the words of a head line are those of its fit, and its aim is written.
  pub words_of : (fit : Fit) → IsFit fit → line ≡ fit_head fit → AreFitWords keep patches aim floor weight spacing fit
      × (aim ≡ aim_text fit.aim)
  words_of fit is head =
      let same = only_words _ _ _ _ _ _ (line_cut line fit is head) in (
        record {
          kept = same.0;
          cut = same.1;
          aimed = rw same.2 (written_aim fit.aim is.aim);
          bounded = same.3;
          weighed = same.4;
          spaced = same.5;
          in_range = is;
        },
        same.2,
      )
    where
      written_aim : (aim : Aim) → IsAim aim → IsAimWord (aim_text aim) aim
      written_aim (Scale p q) is = refl
      written_aim (Edge edge) is = (_, refl, written_edge edge is.0 is.1)
      written_aim Wishes is = refl

  -- And such words make its head line.
  pub head_of : (fit : Fit) → AreFitWords keep patches aim floor weight spacing fit → aim ≡ aim_text fit.aim
      → line ≡ fit_head fit
  head_of fit words written = one.written ∙ (λ i. fit_front ++ (words.kept i
      ++ (codes " patches " ++ (words.cut i
      ++ (codes " aim " ++ (written i ++ (codes " floor " ++ (words.bounded i
      ++ (codes " weight " ++ (words.weighed i ++ (codes " spacing " ++ words.spaced i)))))))))))
      ∙ sym (head_cut fit words.in_range).written

-- The least length and the weights, as they stand in a head line.
abbrev least_text : (floor : ℕ) (auto : Bool) (weight : Weight) → Word
least_text floor auto weight = codes " floor " ++ floor_text floor auto ++ codes " weight " ++ weight_text weight

-- The head line of a remesh by no scale has them behind its first 25 bytes, and ends.
least_behind : (floor : ℕ) (auto : Bool) (weight : Weight)
    → head_line (record { p = 1; q = 1; floor = floor; weight = weight }) auto ++ 10 ∷ []
    ≡ codes "#quadq 1 remesh scale 1/1" ++ (least_text floor auto weight ++ 10 ∷ [])
least_behind floor auto weight =
    λ i. (codes "#quadq 1 remesh scale " ++ (decimal_digit 1 (omega arith) i ++ 47 ∷ decimal_digit 1 (omega arith) i)
    ++ codes " floor " ++ floor_text floor auto ++ codes " weight " ++ weight_text weight) ++ 10 ∷ []

pub least_cut : (old head : Word) (long floor : ℕ) (auto : Bool) (weight : Weight)
    → head ≡ head_line (record { p = 1; q = 1; floor = floor; weight = weight }) auto ++ 10 ∷ []
    → long ≡ length head → old ++ take (long - 1 - 25) (drop 25 head)
    ≡ old ++ codes " floor " ++ floor_text floor auto ++ codes " weight " ++ weight_text weight
least_cut old head long floor auto weight is told =
    let text = least_text floor auto weight in
    let same : head ≡ codes "#quadq 1 remesh scale 1/1" ++ (least_text floor auto weight ++ 10 ∷ []) =
    is ∙ least_behind floor auto weight in
    let size : long - 1 - 25 ≡ length (least_text floor auto weight) =
    omega (arith, ap length same, length-append (least_text floor auto weight) (10 ∷ [])) in
    ap (λ (t : Word). old ++ t) (ap (λ (t : Word). take (long - 1 - 25) (drop 25 t)) same ∙ take_at text (10 ∷ [])
    (long - 1 - 25) (sym size)) ∙ ap (λ (t : Word). old ++ t)
    (regrouped (codes " floor ") (floor_text floor auto ∷ codes " weight " ∷ weight_text weight ∷ []))
    ∙ sym (regrouped old (codes " floor " ∷ floor_text floor auto ∷ codes " weight " ∷ weight_text weight ∷ []))

-- A line is the head line of one fit.
pub one_fit : (line : Word) (one two : Fit) → IsFit one → line ≡ fit_head one → IsFit two → line ≡ fit_head two
    → one ≡ two
one_fit line one two is first also second =
    let cut = head_cut one is in
    same_fit _ _ _ _ _ _ one two (words_of _ _ _ _ _ _ _ cut one is refl).0
    (words_of _ _ _ _ _ _ _ cut two also (sym first ∙ second)).0
