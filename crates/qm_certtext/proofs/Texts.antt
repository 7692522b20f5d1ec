-- The lines of a written text, and what they tell.
use Rattle.std.proofs.Common.{rules, Bool, List, append_assoc, arith, codes, false, filter, get_or, length, ltb, map}
use Rattle.std.proofs.Common.{refl, suc, sym, true, zero, ◌++◌, ◌+◌, ◌<◌, ◌^◌, ◌↔◌, ◌∙◌, ◌∷◌, ◌≡◌, [], ap, ℕ}
use Rattle.std.proofs.lemmas.Bool.{and_from, eqb-true}
use Rattle.def_certtext.specs.Reading.{IsHead, Made, TellCerts, TellHow, is_hash_line, may_stand}
use Rattle.def_certtext.specs.CertLines.{risen, used, Certificates, line_text, text_of, HasUps, lists_of, raised}
use Rattle.def_certtext.specs.Settings.{AreInRange, IsFloor, floor_text, scale_text, weight_text}
use Rattle.def_certtext.specs.Laws.{certificate_lines, AreWritable, IsPrintable, WrittenLaw, chosen_lines}
use Rattle.qm_obj.proofs.LawSoup.{canonical_lines, each_both, position_line, position_line_is, vertex_word, each_map}
use Rattle.qm_obj.proofs.LawText.{IsLine, IsWord, decimal_word, is_inside, line_tame, lines_back, tame_inside}
use Rattle.std.proofs.{lemmas.List.Folds.list_all-append, lemmas.List.length-map, lemmas.Bool.Decides.nat_tests}
use Rattle.std.specs.{Char.is_ascii_digit, List.flat_map, List.list_all, List.All, Prelude.decimal}
use Rattle.def_certtext.specs.{CertLines.risen_by, CertLines.alone, declared.CertLine.CertLine}
use Rattle.def_certtext.specs.{declared.certs.Rising.Rising, HeadLine.head_line, Risings.third_if}
use Rattle.def_text.specs.{Canonical.canonical_text, FaceSet.FaceSet, Laws.is_quad, Types.Word}
use Rattle.qm_certtext.proofs.{Chosen.chosen_allowed, Chosen.chosen_certs, Counts.small_parts, Found.filter_append}
use Rattle.qm_certtext.proofs.{Cutting.asked_words, Cutting.asked_cut, Cutting.same_settings, Telling.all_marked}
use Rattle.{std.proofs.lemmas.List.Concat.flat_map-append, def_certtext.specs.declared.certs.Round.Round}
use Rattle.{def_flow.specs.declared.net.Settings.Settings, std.proofs.lemmas.List.Folds.flat_map-map}
use Rattle.{qm_certtext.specs.RoundLines.round_lines, qm_dec.proofs.ReadBack.decimal_digits, def_io.specs.Bytes.Lines}
use Rattle.{qm_certtext.specs.RoundLines.HaveUps, qm_certtext.proofs.Telling.one_list, qm_obj.proofs.LawSoup.face_line}
use Rattle.{def_certtext.specs.declared.CertLine.TheVariants.Floor, qm_obj.proofs.TailLemmas.passes_at}
use Rattle.{qm_obj.proofs.TailLemmas.all_from, qm_certtext.specs.Cuts.asked_line, def_io.specs.Lines.lines_of}

-- A text that ends no line.
abbrev IsInside : (text : Word) → Type 0
IsInside text = list_all is_inside text ≡ true

-- Digits end none.
pub number_inside : (n : ℕ) → n < 2 ^ 64 → list_all is_inside (decimal n) ≡ true
number_inside n low =
    all_from is_ascii_digit is_inside (λ b is. grind (arith, nat_tests)) (decimal n) (decimal_digits n low)

pub both_inside : (a b : Word) → list_all is_inside a ≡ true → list_all is_inside b ≡ true → list_all is_inside (a ++ b)
    ≡ true
both_inside a b p q = list_all-append is_inside a b ∙ and_from _ _ p q

-- A certificate line is one line.
line_inside : (rising : Rising) (line : CertLine) → may_stand rising line ≡ true
    → list_all is_inside (line_text line) ≡ true
line_inside rising line h1 = search (rules, number_inside, small_parts, both_inside)

pub lines_inside : (rising : Rising) (said : List CertLine) → list_all (may_stand rising) said ≡ true → (k : ℕ) → k
    < length (map line_text said) → list_all is_inside (get_or (map line_text said) k []) ≡ true
lines_inside rising said all = each_map IsInside line_text said (Floor 1) []
    (λ k l. line_inside rising _ (passes_at (may_stand rising) said k (Floor 1) all l))

-- So is a line that ends with settings, as a head line does.
abbrev pub settings_line : (front : Word) (settings : Settings) (auto : Bool) → Word
settings_line front settings auto = front ++ scale_text settings ++ codes " floor " ++ floor_text settings.floor auto ++
    codes " weight " ++ weight_text settings.weight

-- The word of a floor ends no line.
pub floor_inside : (floor : ℕ) (auto : Bool) → IsFloor floor auto → list_all is_inside (floor_text floor auto) ≡ true
floor_inside floor true may = refl
floor_inside floor false may = number_inside floor (omega arith)

pub settings_inside : (front : Word) (settings : Settings) (auto : Bool) → list_all is_inside front ≡ true
    → AreInRange settings auto → list_all is_inside (settings_line front settings auto) ≡ true
settings_inside front settings auto inside range = search (rules, both_inside, number_inside)

pub head_inside : (settings : Settings) (auto : Bool) → AreInRange settings auto
    → list_all is_inside (head_line settings auto) ≡ true
head_inside settings auto range = settings_inside (codes "#quadq 1 remesh scale ") settings auto refl range

face_line_is : (face : List ℕ) → is_quad face ≡ true → list_all (λ v. ltb v (2 ^ 32)) face ≡ true
    → IsLine (face_line face)
face_line_is face quad low =
    let four = eqb-true _ _ quad in
    line_tame _ _ refl (omega (arith, length-map face vertex_word)) (each_map IsWord vertex_word face 0 []
    (λ k l. grind (arith, passes_at, decimal_word (get_or face k 0 + 1))))

mesh_inside : (soup : FaceSet) → IsPrintable soup → (k : ℕ) → k < length (canonical_lines soup)
    → IsInside (get_or (canonical_lines soup) k [])
mesh_inside soup able = each_both IsInside _ _ []
    (each_map IsInside position_line soup.pos [] [] (search (rules, tame_inside, position_line_is, passes_at)))
    (each_map IsInside face_line soup.faces [] [] (search (rules, tame_inside, face_line_is, passes_at)))

none_marked : {X : Type 0} (f : X → Word) → ((x : X) → is_hash_line (f x) ≡ false) → (xs : List X)
    → filter is_hash_line (map f xs) ≡ []
none_marked f off [] = refl
none_marked f off (x ∷ xs) = rw (off x) (none_marked f off xs)

-- The lines of a mesh and of a certificate.
mesh_and_said : (soup : FaceSet) (said : List CertLine) → canonical_text soup ++ text_of said
    ≡ flat_map (λ l. l ++ 10 ∷ []) (canonical_lines soup ++ map line_text said)
mesh_and_said soup said = search (rules, flat_map-map, flat_map-append)

behind_inside : (rising : Rising) (soup : FaceSet) (said : List CertLine) → IsPrintable soup
    → list_all (may_stand rising) said ≡ true → (k : ℕ) → k < length (canonical_lines soup ++ map line_text said)
    → list_all is_inside (get_or (canonical_lines soup ++ map line_text said) k []) ≡ true
behind_inside rising soup said able allowed = each_both IsInside (canonical_lines soup) (map line_text said) []
    (mesh_inside soup able) (lines_inside rising said allowed)

-- The lines of the text behind a head line.
pub lines_behind : (rising : Rising) (soup : FaceSet) (said : List CertLine) → IsPrintable soup
    → list_all (may_stand rising) said ≡ true
    → lines_of (canonical_text soup ++ text_of said) ≡ canonical_lines soup ++ map line_text said
lines_behind rising soup said able allowed = search (rules, mesh_and_said, lines_back, behind_inside)

-- All lines of a text with some head line.
pub lines_whole : (head : Word) (rising : Rising) (soup : FaceSet) (said : List CertLine) → list_all is_inside head
    ≡ true → IsPrintable soup → list_all (may_stand rising) said ≡ true
    → lines_of (head ++ 10 ∷ (canonical_text soup ++ text_of said)) ≡ head ∷ canonical_lines soup ++ map line_text said
lines_whole head rising soup said inside able allowed =
    ap lines_of (ap (λ (t : Word). head ++ 10 ∷ t) (mesh_and_said soup said) ∙ sym (append_assoc head (10 ∷ []) _))
    ∙ lines_back (head ∷ canonical_lines soup ++ map line_text said) (each_both IsInside (head ∷ []) _ []
    (λ k l. (let first : k ≡ 0 = omega arith in rw first inside)) (behind_inside rising soup said able allowed))

-- Those that are marked.
pub marked_are : (soup : FaceSet) (said : List CertLine)
    → filter is_hash_line (canonical_lines soup ++ map line_text said) ≡ map line_text said
marked_are soup said = search (rules, filter_append, none_marked, all_marked)

-- One line behind a prefix is of one settings.
pub same_asked : (prefix line : Word) (s t : Settings) (a b : Bool) → AreInRange s a → line ≡ asked_line prefix s a
    → AreInRange t b → line ≡ asked_line prefix t b → (s ≡ t) × (a ≡ b)
same_asked prefix line s t a b range is other also =
    let cut = asked_cut prefix line s a range is in
    same_settings _ _ _ s t a b (asked_words cut range is) (asked_words cut other also)

-- So is one head line.
pub same_head : (line : Word) (s t : Settings) (a b : Bool) → IsHead line s a → IsHead line t b → (s ≡ t) × (a ≡ b)
same_head line s t a b one two = same_asked (codes "#quadq 1 remesh scale ") line s t a b one.in_range one.written
    two.in_range two.written

-- Lines of which those of certificates are marked say these certificates, and no others.
pub certs_tell : (rising : Rising) (behind : Lines) (certificates : Certificates) → filter is_hash_line behind
    ≡ map line_text (certificate_lines rising certificates) → AreWritable rising certificates → (other : Certificates)
    → TellCerts rising behind other ↔ (other ≡ certificates)
certs_tell rising behind certificates texts able other =
    let allowed = chosen_allowed _ _ able in (
      λ (tell : TellCerts rising behind other). grind (
        arith,
        one_list rising (certificate_lines rising certificates) tell.said allowed tell.allowed,
        chosen_certs rising certificates able,
      ),
      search (rules, chosen_certs),
    )

-- So do the lines of a mesh and of certificates.
pub certs_told : (rising : Rising) (soup : FaceSet) (certificates : Certificates) → IsPrintable soup
    → AreWritable rising certificates → (other : Certificates)
    → TellCerts rising (lines_of (canonical_text soup ++ text_of (certificate_lines rising certificates))) other
    ↔ (other ≡ certificates)
certs_told rising soup certificates printable able =
    certs_tell rising (lines_of (canonical_text soup ++ text_of (certificate_lines rising certificates))) certificates
    (ap (filter is_hash_line) (lines_behind rising soup (certificate_lines rising certificates) printable
    (chosen_allowed rising certificates able)) ∙ marked_are soup (certificate_lines rising certificates)) able

-- A text tells what it was made of, and nothing else.
pub written_law : WrittenLaw
written_law settings auto soup certificates range printable able other =
    let is : other ≡ made → TellHow (head_line settings auto) (canonical_lines soup ++ map line_text said) other =
    λ same. rw same (record { settings = head; certificates = (tells certificates).1 refl }) in
    rw (lines_whole (head_line settings auto) (third_if auto) soup said (head_inside settings auto range) printable
    (chosen_allowed (third_if auto) certificates able)) (only, is)
  where
    made : Made
    made = record { settings = settings; auto = auto; certificates = certificates }

    said : List CertLine
    said = certificate_lines (third_if auto) certificates

    head : IsHead (head_line settings auto) settings auto
    head = record { written = refl; in_range = range }

    tells : (one : Certificates) → TellCerts (third_if auto) (canonical_lines soup ++ map line_text said) one
        ↔ (one ≡ certificates)
    tells = search (rules, certs_tell, marked_are)

    only : TellHow (head_line settings auto) (canonical_lines soup ++ map line_text said) other → other ≡ made
    only tell =
        let same = same_head (head_line settings auto) settings other.settings auto other.auto head tell.settings in
        let both = (tells other.certificates).0 (rw (← same.1) at tell.certificates) in
        λ i. record { settings = sym same.0 i; auto = sym same.1 i; certificates = both i }

-- What the lines of certificates are written from.

-- Behind rounds the certificate that is used is that behind them.
pub used_risen : (rounds : List Round) (after : Certificates) → used (risen_by rounds after) ≡ used after
used_risen [] after = refl
used_risen (round ∷ rounds) after = used_risen rounds after

-- What can be written has its `up`.
pub have_ups : (rising : Rising) (certificates : Certificates) → AreWritable rising certificates → HaveUps certificates
have_ups rising (alone cert) able = able.ups
have_ups rising (raised first cert) able = (able.1.ups, able.2.ups)
have_ups rising (risen first rises after) able = (able.1.ups, have_ups rising after able.5)

pub ups_used : (certificates : Certificates) → HaveUps certificates → HasUps (used certificates)
ups_used (alone cert) have = have
ups_used (raised first cert) have = have.1
ups_used (risen first rises after) have = ups_used after have.1

pub ups_rounds : (rounds : List Round) (after : Certificates) → HaveUps (risen_by rounds after)
    → All (λ round. HasUps (lists_of round.cert)) rounds
ups_rounds [] after have k d low = absurd (omega arith)
ups_rounds (round ∷ rounds) after have zero d low = have.0
ups_rounds (round ∷ rounds) after have (suc k) d low = ups_rounds rounds after have.1 k d (omega arith)

-- Texts of lines and of more lines.
pub text_both : (a b : List CertLine) → text_of (a ++ b) ≡ text_of a ++ text_of b
text_both a b = flat_map-append (λ line. line_text line ++ 10 ∷ []) a b

-- The lines of rounds, and those of the certificates behind them.
pub round_lines_are : (rounds : List Round) (after : Certificates)
    → round_lines rounds ++ chosen_lines after ≡ chosen_lines (risen_by rounds after)
round_lines_are [] after = refl
round_lines_are (round ∷ rounds) after = search (rules, append_assoc, round_lines_are rounds after)
