-- The lists of one line more, and those before and behind the first `#f 3`.
use Rattle.std.proofs.Common.{rules, Bool, List, OnOk, Option, Result, Some, append-nil, arith, false, is_some, ℕ, not}
use Rattle.std.proofs.Common.{refl, sym, true, ◌&&◌, ◌++◌, ◌∙◌, [], ap, ◌∷◌, ◌≡◌, length, map, ◌<◌}
use Rattle.std.proofs.{Common.append_assoc, lemmas.List.Concat.flat_map-append}
use Rattle.std.proofs.lemmas.Bool.{false≢true, or_parts, and_from, or_from}
use Rattle.std.proofs.lemmas.List.Folds.{list_any-append, list_all-append, list_all-map}
use Rattle.std.specs.List.{after_first, before_first, flat_map, list_any, list_all}
use Rattle.def_certtext.specs.Reading.{is_third, length_in, set_in, set_up_in, vertex_in, vertex_up_in, certificates_by}
use Rattle.def_certtext.specs.Reading.{lists_in, certificates_in, may_stand}
use Rattle.def_certtext.specs.{declared.certs.Rising.Rising, declared.CertLine.CertLine, declared.certs.Round.Round}
use Rattle.def_certtext.specs.declared.certs.Rising.TheVariants.{Never, Rounds, Third}
use Rattle.def_certtext.specs.CertLines.{Certificates, alone, lists_of, risen, risen_by, Lists, raised, said_by}
use Rattle.def_certtext.specs.Rounds.{parts_of, put_rise}
use Rattle.def_certtext.specs.Laws.{AreWritable, IsWritableCert, certificate_lines, chosen_lines}
use Rattle.qm_certtext.specs.Parts.{TakesLine, Holds, begins_plain, is_rise, EndsRound, HoldRounds}
use Rattle.qm_certtext.specs.{Parts.lists_in_parts, declared.parts.Found.Found, declared.parts.Parts.Parts}
use Rattle.qm_certtext.proofs.Telling.{lists_back, no_third, no_rise}
use Rattle.def_certtext.specs.declared.CertLine.TheVariants.{Rise as rise_line, Floor, Length}
use Rattle.{std.proofs.lemmas.Grind.common_steps, qm_obj.proofs.TailLemmas.all_from}
use Rattle.{def_certtext.specs.declared.certs.Rise.Rise}

-- Before and behind the first that passes, where it is not the front.
module _ {X : Type 0} (p : X → Bool) where
  split_behind : (x : X) (xs : List X) → p x ≡ false → (before_first p (x ∷ xs) ≡ x ∷ before_first p xs)
      × (after_first p (x ∷ xs) ≡ after_first p xs)
  split_behind x xs other = search rules

  -- Behind one that passes more may stand.
  split_there : (xs ys : List X) → list_any p xs ≡ true → (before_first p (xs ++ ys) ≡ before_first p xs)
      × (after_first p (xs ++ ys) ≡ after_first p xs ++ ys)
  split_there [] ys some = absurd (false≢true some)
  split_there (x ∷ xs) ys some = grind (arith, split_behind x (xs ++ ys), split_there xs ys, split_behind x xs)

  -- Where none passes before it.
  split_one : (xs : List X) (y : X) (ys : List X) → list_any p xs ≡ false → p y ≡ true
      → (before_first p (xs ++ y ∷ ys) ≡ xs) × (after_first p (xs ++ y ∷ ys) ≡ ys)
  split_one [] y ys none is = rw is (refl, refl)
  split_one (x ∷ xs) y ys none is = grind (arith, split_one xs y ys, split_behind x (xs ++ y ∷ ys))

-- One line more.
more : {Y : Type 0} (f : CertLine → List Y) (old new : List Y) (said : List CertLine) (line : CertLine) → old
    ≡ flat_map f said → new ≡ old ++ f line → new ≡ flat_map f (said ++ line ∷ [])
more f old new said line is grown = rw (grown, is, flat_map-append f said (line ∷ []), append-nil (f line)) refl

-- The lists of parts are those of one line more.
abbrev pub Adds : (old new : Parts) (line : CertLine) → Type 0
Adds old new line = (said : List CertLine) → Holds old said → Holds new (said ++ line ∷ [])

-- Parts with nothing in them hold the lists of no line.
pub holds_none : {parts : Parts} → parts.lengths.items ≡ [] → (parts.vertices.items ≡ [])
    × (parts.vertex_ups.items ≡ []) → (parts.sets.items ≡ []) × (parts.set_ups.items ≡ []) → Holds parts []
holds_none x y z = record { lengths = x; vertices = y.0; vertex_ups = y.1; sets = z.0; set_ups = z.1 }

-- One line more, where floors do not rise in rounds.

-- Whether a line starts the certificate for floor 3.
abbrev pub starts : (first : Option Parts) (line : CertLine) → Bool
starts first line = not (is_some first) && is_third line

-- The lines before the first `#f 3` stay, and the next are those of another certificate.
pub takes_third : (rising : Rising) (old new : Found) (line : CertLine) → (rising ≡ Rounds → ⊥)
    → starts old.first line ≡ true → new.first ≡ Some old.last → Holds new.last [] → TakesLine rising old new line
takes_third rising old new line off start first empty said holds = search (rules, split_one, list_any-append)

-- Any other line is one of the last certificate.
pub takes_other : (rising : Rising) (old new : Found) (line : CertLine) → (rising ≡ Rounds → ⊥)
    → starts old.first line ≡ false → new.first ≡ old.first → Adds old.last new.last line
    → TakesLine rising old new line
takes_other rising old new line off start first adds said holds = search (rules, split_there, list_any-append, adds)

-- Where memory was found for the line.
pub added_ok : {T E P : Type 0} (r : Result T E) (old new : Parts) (line : CertLine)
    → OnOk r (new.lengths.items ≡ old.lengths.items ++ length_in line)
    → OnOk r (new.vertices.items ≡ old.vertices.items ++ vertex_in line)
    → OnOk r (new.vertex_ups.items ≡ old.vertex_ups.items ++ vertex_up_in line)
    → OnOk r (new.sets.items ≡ old.sets.items ++ set_in line)
    → OnOk r (new.set_ups.items ≡ old.set_ups.items ++ set_up_in line) → (Adds old new line → P) → OnOk r P
added_ok r h1 h2 h3 h4 h5 h6 = search (rules, more)

-- The certificates of the lines of rounds.

-- Lines and the rises behind them are a part.
whole_part : (lines : List CertLine) (rise : Rise) (rises : List Rise) (more : List CertLine) → list_any is_rise lines
    ≡ false → begins_plain more ≡ true → parts_of (lines ++ (map rise_line (rise ∷ rises) ++ more))
    ≡ record { said = lines; rises = rise ∷ rises } ∷ parts_of more
whole_part [] rise [] more none plain = search rules
whole_part [] rise (next ∷ rises) more none plain = ap (put_rise rise) (whole_part [] next rises more none plain)
whole_part (line ∷ lines) rise rises more none plain = grind (arith, whole_part lines rise rises more)

-- Lines and the floors that rise behind them are a round of what is behind.
pub round_first : (lines : List CertLine) (rises : List Rise) (more : List CertLine) → list_any is_rise lines ≡ false
    → 0 < length rises → begins_plain more ≡ true → certificates_by (parts_of (lines ++ (map rise_line rises ++ more)))
    ≡ risen (lists_in lines) rises (certificates_by (parts_of more))
round_first lines [] more none some plain = absurd (omega arith)
round_first lines (rise ∷ rises) more none some plain = search (rules, whole_part)

-- Lines without a rise are one part.
last_part : (line : CertLine) (lines : List CertLine) → list_any is_rise (line ∷ lines) ≡ false
    → parts_of (line ∷ lines) ≡ record { said = line ∷ lines; rises = [] } ∷ []
last_part line [] none = search (rules, or_parts, false)
last_part line (next ∷ lines) none = grind (arith, last_part next lines)

-- They are a certificate alone.
pub last_alone : (lines : List CertLine) → list_any is_rise lines ≡ false
    → certificates_by (parts_of lines) ≡ alone (lists_in lines)
last_alone [] none = refl
last_alone (line ∷ lines) none = ap certificates_by (last_part line lines none)

-- One round more.
pub risen_more : (rounds : List Round) (round : Round) (after : Certificates)
    → risen_by (rounds ++ round ∷ []) after ≡ risen_by rounds (risen (lists_of round.cert) round.rises.items after)
risen_more [] round after = refl
risen_more (first ∷ rounds) round after = search (rules, risen_more rounds round after)

-- The lines of certificates say these certificates.

-- The lines of certificates begin with no rise.
plain_first : (certificates : Certificates) → AreWritable Rounds certificates
    → begins_plain (chosen_lines certificates) ≡ true
plain_first (alone cert) able = none_first (said_by cert) (no_rise able)
  where
    none_first : (said : List CertLine) → list_any is_rise said ≡ false → begins_plain said ≡ true
    none_first [] none = refl
    none_first (line ∷ said) none = ap not (or_parts (is_rise line) (list_any is_rise said) none).0
plain_first (raised first cert) able = absurd (cc able.0)
plain_first (risen first rises after) able = lengths_first first.x _ _ _ able.2
  where
    lengths_first : (xs : List ℕ) (a b c : List CertLine) → 0 < length xs
        → begins_plain ((map Length xs ++ a ++ b) ++ c) ≡ true
    lengths_first [] a b c some = absurd (omega arith)
    lengths_first (x ∷ xs) a b c some = refl

-- Those of rounds say them, also behind lines that add nothing.
rounds_back : (front : List CertLine) → list_any is_rise front ≡ false
    → ((said : List CertLine) → lists_in (front ++ said) ≡ lists_in said) → (certificates : Certificates)
    → AreWritable Rounds certificates → certificates_by (parts_of (front ++ chosen_lines certificates)) ≡ certificates
rounds_back front plain adds (alone cert) able = search (rules, last_alone, list_any-append, no_rise able, lists_back)
rounds_back front plain adds (raised first cert) able = absurd (cc able.0)
rounds_back front plain adds (risen first rises after) able =
    let lists = adds (said_by first) ∙ lists_back first able.1.ups in
    let behind = rounds_back [] refl (λ said. refl) after able.5 in
    rw (← append_assoc front (said_by first) (map rise_line rises ++ chosen_lines after))
    (round_first (front ++ said_by first) rises (chosen_lines after) (list_any-append is_rise front (said_by first)
    ∙ or_from _ _ plain (no_rise able.1)) able.3 (plain_first after able.5)
    ∙ (λ i. risen (lists i) rises (behind i)))

-- The lines of certificates say these.
pub chosen_certs : (rising : Rising) (certificates : Certificates) → AreWritable rising certificates
    → certificates ≡ certificates_in rising (certificate_lines rising certificates)
chosen_certs Never (alone cert) able = search (rules, no_third able, lists_back)
chosen_certs Third (alone cert) able = search (rules, no_third able, lists_back)
chosen_certs Third (raised first cert) able =
    search (rules, list_any-append, no_third able.1, no_third able.2, split_one, lists_back)
chosen_certs Rounds certificates able = sym (rounds_back (Floor 1 ∷ []) refl (λ said. refl) certificates able)
chosen_certs _ _ able = absurd (cc able.0)

-- The lines of certificates may stand.
allowed : (rising : Rising) {lists : Lists} → IsWritableCert lists → list_all (may_stand rising) (said_by lists) ≡ true
allowed rising {lists} able =
    all_from (may_stand Never) (may_stand rising) (λ line is. grind arith) (said_by lists) able.allowed

rounds_allowed : (certificates : Certificates) → AreWritable Rounds certificates
    → list_all (may_stand Rounds) (chosen_lines certificates) ≡ true
rounds_allowed (alone cert) able = allowed Rounds able
rounds_allowed (raised first cert) able = absurd (cc able.0)
rounds_allowed (risen first rises after) able = search (
  rules,
  list_all-append,
  and_from,
  list_all-map (may_stand Rounds) rise_line,
  allowed Rounds able.1,
  rounds_allowed after able.5,
)

pub chosen_allowed : (rising : Rising) (certificates : Certificates) → AreWritable rising certificates
    → list_all (may_stand rising) (certificate_lines rising certificates) ≡ true
chosen_allowed Never (alone cert) able = able.allowed
chosen_allowed Third (alone cert) able = allowed Third able
chosen_allowed Third (raised first cert) able =
    search (rules, list_all-append, and_from, allowed Third able.1, allowed Third able.2)
chosen_allowed Rounds certificates able = rounds_allowed certificates able
chosen_allowed _ _ able = absurd (cc able.0)

-- Rounds in the making: one rise more, the end of a round, and one line of the next.

-- Where some rose, the round is one more, and what is behind begins another certificate.
pub ends_some : (old new : Found) (round : Round) → 0 < length old.rises.items
    → new.rounds.items ≡ old.rounds.items ++ round ∷ [] → new.rises.items ≡ [] → Holds new.last []
    → lists_of round.cert ≡ lists_in_parts old.last → round.rises.items ≡ old.rises.items → EndsRound old new
ends_some old new round some rounds none empty cert rises said hold = search (rules, round_first, risen_more)

-- A line that is none of a rise raises no floor.
pub no_rise_line : (line : CertLine) → ((rise : Rise) → line ≡ rise_line rise → ⊥) → is_rise line ≡ false
no_rise_line (rise_line r) other = absurd (other r refl)
no_rise_line _ other = refl

-- One line of the last certificate more.
pub takes_plain : (old ended new : Found) (line : CertLine) → is_rise line ≡ false → EndsRound old ended
    → new.rounds.items ≡ ended.rounds.items → new.rises.items ≡ ended.rises.items → Adds ended.last new.last line
    → TakesLine Rounds old new line
takes_plain old ended new line plain ends rounds rises adds said hold =
    let end = ends said hold in
    record {
      lines = end.lines ++ line ∷ [];
      plain = list_any-append is_rise end.lines (line ∷ []) ∙ or_from _ _ end.plain (or_from _ _ plain refl);
      holds = adds end.lines end.holds;
      same = λ more. rw (rounds, rises, end.none) (simp append_assoc (end.same (line ∷ more) (rw plain refl)));
    }

-- At the end of all lines the certificates are those of the rounds and the last.
pub rounds_are : (old ended : Found) (last : Lists) → EndsRound old ended → last ≡ lists_in_parts ended.last
    → (said : List CertLine) → HoldRounds old said
    → risen_by ended.rounds.items (alone last) ≡ certificates_in Rounds said
rounds_are old ended last ends is said hold =
    let end = ends said hold in
    grind (arith, common_steps, end.same [], last_alone end.lines end.plain)
