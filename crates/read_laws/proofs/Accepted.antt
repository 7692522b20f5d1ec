-- The text of a finished remesh behind that of its mesh is a checked pair.
use Rattle.std.proofs.Common.{rules, ◌≡◌, ◌<◌, ◌+◌, ◌-◌, ℕ, Bool, true, false, List, [], ◌∷◌, ◌++◌, length, map, take}
use Rattle.std.proofs.Common.{drop, get_or, sym, ◌∙◌, ap, refl, arith, length-append, inl, inr, not}
use Rattle.std.proofs.{Math.Seq.take-append_seam, lemmas.Grind.get_or_after_one, lemmas.List.get_or-append-add}
use Rattle.std.proofs.lemmas.Bool.{and_from, cases_Bool, not-true, not_from_false}
use Rattle.def_certtext.specs.HeadLine.{begins_head, head_line, IsLastLine}
use Rattle.def_certtext.specs.{CertLines.line_text, Reading.is_hash_line, Reading.TellHow, Settings.AreInRange}
use Rattle.def_remesh.specs.{TextLaws.IsSolid, TextLaws.made_by, Certified.IsShown, ReadAgain.ends_line}
use Rattle.remesh_laws.proofs.{Tails.lines_append, Tails.tail_append, ReadAgain.told_law}
use Rattle.{std.specs.List.filter, std.specs.List.list_all, def_certtext.specs.declared.CertLine.CertLine}
use Rattle.{def_remesh.specs.Tasks.remesh_task, def_text.specs.FaceSet.FaceSet, def_text.specs.Text.text_soup}
use Rattle.{qm_obj.proofs.TailLemmas.passes_at, def_flow.specs.declared.net.Settings.Settings, def_io.specs.Bytes.Bytes}
use Rattle.{def_io.specs.Bytes.Lines, def_io.specs.Lines.lines_of, def_recheck.specs.Accepting.AcceptsLaw}

-- A test of lines that the head line of a remesh passes, and no line of a certificate or without a mark does.
pub record IsHeadTest (begins_so : Bytes → Bool) : Type 0 where
  pub head : (settings : Settings) (auto : Bool) → begins_so (head_line settings auto) ≡ true
  pub cert : (line : CertLine) → begins_so (line_text line) ≡ false
  pub plain : (line : Bytes) → is_hash_line line ≡ false → begins_so line ≡ false

-- Where the marked lines are those of a certificate, none passes the test.
none_begins : (begins_so : Bytes → Bool) → IsHeadTest begins_so → (behind : Lines) (said : List CertLine)
    → filter is_hash_line behind ≡ map line_text said → list_all (λ line. not (begins_so line)) behind ≡ true
none_begins begins_so test [] said texts = refl
none_begins begins_so test (line ∷ behind) [] texts = elim (cases_Bool (is_hash_line line)) [
  | inl on ↦ cc (rw on at texts)
  | inr off ↦ search (rules, none_begins begins_so test behind [] (rw off at texts))
]
none_begins begins_so test (line ∷ behind) (one ∷ said) texts = elim (cases_Bool (is_hash_line line)) [
  | inl on ↦
      let both = rw on at texts in
      let first : line ≡ line_text one = cc both in
      let more : filter is_hash_line behind ≡ map line_text said = cc both in
      and_from _ _ (not_from_false _ (ap begins_so first ∙ test.cert one)) (none_begins begins_so test behind said more)
  | inr off ↦ search (rules, none_begins begins_so test behind (one ∷ said) (rw off at texts))
]

-- Behind the text of a mesh the text of a remesh begins with its head line, and no line behind that passes such a test.
module _ (settings : Settings) (auto : Bool) (old text : Bytes) (soup : FaceSet) (range : AreInRange settings auto)
    (ends : ends_line old ≡ true) (solid : IsSolid soup)
    (is : IsShown (remesh_task settings auto soup.faces) soup text) where
  lines : lines_of (old ++ text) ≡ lines_of old ++ lines_of text
  lines = lines_append old text ends

  tells : TellHow (get_or (lines_of text) 0 []) (drop 1 (lines_of text))
      (made_by settings auto is.finished.certificates)
  tells = (told_law settings auto soup text range solid is.finished (made_by _ _ _)).1 refl

  place : (n : ℕ) → get_or (lines_of (old ++ text)) (length (lines_of old) + n) [] ≡ get_or (lines_of text) n []
  place n = search (rules, lines, get_or-append-add)

  pub head_there : get_or (lines_of (old ++ text)) (length (lines_of old)) [] ≡ head_line settings auto
  head_there =
      let same : length (lines_of old) ≡ length (lines_of old) + 0 = omega arith in
      ap (λ n. get_or (lines_of (old ++ text)) n []) same ∙ (place 0 ∙ tells.settings.written)

  module _ (begins_so : Bytes → Bool) (test : IsHeadTest begins_so) where
    begins : begins_so (get_or (lines_of (old ++ text)) (length (lines_of old)) []) ≡ true
    begins = ap begins_so head_there ∙ test.head settings auto

    last : (k : ℕ) → length (lines_of old) < k → k < length (lines_of (old ++ text))
        → begins_so (get_or (lines_of (old ++ text)) k []) ≡ false
    last k high low =
        let j = k - length (lines_of old) - 1 in
        let behind = drop 1 (lines_of text) in
        let at : length (lines_of old) + (1 + j) ≡ k = omega (arith, high) in
        let within : j < length behind = search (rules, lines, length-append) in
        ap (λ n. begins_so (get_or (lines_of (old ++ text)) n [])) (sym at)
        ∙ (ap begins_so (place _ ∙ sym (get_or_after_one _ j [])) ∙ not-true _
        (passes_at _ _ j [] (none_begins _ test _ _ tells.certificates.texts) within))

    pub last_line : IsLastLine begins_so (lines_of (old ++ text)) (length (lines_of old))
    last_line = search (rules, begins, lines, length-append, last)

pub accepts_law : AcceptsLaw
accepts_law settings auto old text soup range said ends solid is = record {
  line = length (lines_of old);
  divided = last_line settings auto old text soup range ends solid is begins_head (search rules);
  soup = soup;
  said = ap (text_soup 1) (ap (take (length (lines_of old))) (lines_append old text ends)
      ∙ take-append_seam (lines_of old) (lines_of text)) ∙ said;
  manifold = solid.mesh.manifold;
  settings = settings;
  auto = auto;
  in_range = range;
  remeshed = record {
    layout = is.finished.layout;
    cut = is.finished.cut;
    certificates = is.finished.certificates;
    lengths = is.finished.lengths;
    coarse = is.finished.coarse;
    undoubled = is.finished.undoubled;
    written = tail_append old text ends ∙ is.finished.written;
    shape = is.finished.shape;
  };
  certified = is.certified;
}
