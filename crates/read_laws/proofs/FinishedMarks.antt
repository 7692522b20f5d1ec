-- The `l` lines that a command wrote are read again as the marks along the chains of its marked arcs.
use Rattle.std.proofs.Common.{rules, ◌≡◌, ◌+◌, ◌-◌, ◌<◌, ◌++◌, ℕ, zero, suc, Bool, true, List, [], ◌∷◌, length, map}
use Rattle.std.proofs.Common.{filter, get_or, Option, inl, inr, refl, sym, ap, subst, ◌∙◌, arith}
use Rattle.std.proofs.lemmas.List.FromFn.{get_or-range_with_len, length-map-range_with_len, length-range_with_len}
use Rattle.std.proofs.{lemmas.Bool.and_from, lemmas.Bool.cases_lt, lemmas.Bool.cases_Bool, lemmas.List.append_assoc}
use Rattle.std.proofs.{lemmas.List.Folds.flat_map-map}
use Rattle.std.specs.List.{flat_map, list_all, range_with_len}
use Rattle.def_certtext.specs.{CertLines.line_text, CertLines.text_of, CertLines.used, Laws.certificate_lines}
use Rattle.def_certtext.specs.{Reading.is_hash_line, Reading.may_stand, declared.CertLine.CertLine}
use Rattle.def_certtext.specs.{declared.CertLine.TheVariants.Length, declared.certs.Rising.Rising}
use Rattle.def_io.specs.{Bytes.Bytes, Lines.lines_of}
use Rattle.def_layout.specs.{Layouts.gluing_of, Layouts.Layout, Lengths.AreLengths, Lengths.Lengths}
use Rattle.def_marks.specs.{Lines.marks_in, MarkedText.arc_chain, MarkedText.chain_text, MarkedText.is_marked_arc}
use Rattle.def_readlaws.specs.ReadChains.{AreHashLines, FinishedMarksLaw, IsChainOf, marked_arc_chains}
use Rattle.def_remesh.specs.{NewPoints.lengths_in, NewSoup.spaced_soup, ReadAgain.ends_line}
use Rattle.def_text.specs.{Canonical.canonical_text, FaceSet.FaceSet}
use Rattle.def_written.specs.{Edges.on_arc, Numbers.vertex_number, Points.arc_point, Points.IsPoint}
use Rattle.remesh_laws.proofs.{Asides.ends_lines, MarkedLines.marked_is, ReadAgain.kept_allowed}
use Rattle.written_laws.proofs.{Courses.edge_points, Shape.numbers_law}
use Rattle.read_laws.proofs.{LayoutsRead.finished_layout, LayoutsRead.finished_lengths, MarksAgain.marks_again_law}
use Rattle.read_laws.proofs.{NewChains.at_link, NewChains.chain_is, Soups.soup_in_law}
use Rattle.{def_layoutnet.specs.MeshLayouts.IsSomeLayout, embedding_laws.proofs.Bounds.laid_of}
use Rattle.{qm_certtext.proofs.Texts.lines_inside, qm_obj.proofs.LawText.lines_back}

-- The lines of certificates begin with `#`.
cert_hash : (line : CertLine) → is_hash_line (line_text line) ≡ true
cert_hash (Length n) = refl
cert_hash _ = refl

certs_hash : (said : List CertLine) → list_all is_hash_line (map line_text said) ≡ true
certs_hash [] = refl
certs_hash (line ∷ said) = and_from _ _ (cert_hash line) (certs_hash said)

cert_lines : (rising : Rising) (said : List CertLine) → list_all (may_stand rising) said ≡ true
    → AreHashLines (text_of said)
cert_lines rising said may =
    let same = sym (flat_map-map (λ l. l ++ 10 ∷ []) line_text said) in
    record {
      ended = ap ends_line same ∙ ends_lines (map line_text said);
      hashes = ap (list_all is_hash_line) (ap lines_of same ∙ lines_back _ (lines_inside _ said may)) ∙ certs_hash said;
    }

-- What holds of the image of each element holds along those that pass.
each_passing : (P : List ℕ → Type 0) (f : ℕ → List ℕ) (p : ℕ → Bool) (xs : List ℕ)
    → ((k : ℕ) → k < length xs → P (f (get_or xs k 0)))
    → (k : ℕ) → k < length (map f (filter p xs)) → P (get_or (map f (filter p xs)) k [])
each_passing P f p [] each = λ k low. absurd (omega (arith, low))
each_passing P f p (x ∷ xs) each =
    let rest = each_passing P f p xs (λ j l. each (suc j) (omega (arith, l))) in
    elim (cases_Bool (p x)) [
      | inl on ↦ rw on (elim [ zero ↦ λ l. each 0 (omega arith) | suc j ↦ λ l. rest j (omega (arith, l)) ])
      | inr off ↦ rw off rest
    ]

module _ (soup : FaceSet) (layout : Layout) (shares : Option (List ℕ)) (new : Lengths) (is : IsSomeLayout layout)
    (len : AreLengths (gluing_of layout) new) where
  chain_of : (a : ℕ) → a < length layout.arcs
      → IsChainOf (spaced_soup soup layout shares new) (arc_chain (gluing_of layout) new a)
  chain_of a low =
      let l = gluing_of layout in
      let laid = laid_of layout is in
      let point = arc_point l new a in
      let long = length-map-range_with_len (λ k. vertex_number l new (point k)) 0 (new a + 1) in
      record {
        long = omega (arith, long);
        low = λ k less.
            let inside : k < new a + 1 = omega (arith, less, long) in
            let there : IsPoint l new (point k) = elim (cases_lt k (new a)) [
              | inl inner ↦ (edge_points l new laid len (on_arc a k) (low, inner)).0
              | inr end ↦
                  let last : new a - 1 + 1 ≡ k = omega (arith, end, inside) in
                  let edge = edge_points l new laid len (on_arc a (new a - 1)) (low, omega arith) in
                  subst (λ j. IsPoint l new (point j)) last edge.1
            ] in
            omega (arith, at_link l new a k inside, (numbers_law l new).low (point k) there, length-map-range_with_len);
        edges = chain_is l new laid len a low;
      }

  chains_of : (marks : List Bool) (k : ℕ) → k < length (marked_arc_chains marks layout new)
      → IsChainOf (spaced_soup soup layout shares new) (get_or (marked_arc_chains marks layout new) k [])
  chains_of marks = each_passing (IsChainOf (spaced_soup soup layout shares new)) (arc_chain (gluing_of layout) new)
      (is_marked_arc marks layout) (range_with_len 0 (length layout.arcs))
      (search (rules, length-range_with_len, chain_of, get_or-range_with_len))

pub finished_marks_law : FinishedMarksLaw
finished_marks_law command bytes text marks wrote range head between read =
    let is = finished_layout command bytes text wrote in
    let len = finished_lengths command bytes text wrote range.floor.low in
    let task = wrote.task in
    let done = wrote.shown.finished in
    let layout = done.layout in
    let new = lengths_in (used done.certificates).x in
    let soup = spaced_soup wrote.soup layout task.shares new in
    let said = certificate_lines task.rising done.certificates in
    let certs = text_of said in
    let chains = marked_arc_chains marks layout new in
    let text_is : text ≡ (task.head ++ 10 ∷ []) ++ (canonical_text soup ++ (flat_map chain_text chains ++ certs)) =
    search (rules, marked_is, append_assoc) in
    ap (λ (t : Bytes). marks_in t soup) text_is ∙ marks_again_law (task.head ++ 10 ∷ []) certs soup chains head
    (cert_lines task.rising said (search (rules, kept_allowed))) (soup_in_law text soup read)
    (search (rules, length-map-range_with_len)) (chains_of wrote.soup layout task.shares new is len marks)
