-- Marks line by line: what is known after some lines of a text.
use Rattle.std.proofs.Common.{rules, Bool, Err, List, Ok, arith, cond, false, is_some, length, map, refl, sym, ◌&&◌}
use Rattle.std.proofs.Common.{◌+◌, ◌||◌, [], ap, ℕ, ◌<◌, ◌∙◌, ◌∷◌, ◌≡◌, ◌≤◌}
use Rattle.std.proofs.{lemmas.List.Sums.sum_by-cons}
use Rattle.std.specs.{List.count_by, List.flat_map, List.list_any, Prelude.slice_range}
use Rattle.def_marks.specs.Lines.{Placed, line_chain, line_fails, marks_of, placed_lines, text_lines, vertex_lines_in}
use Rattle.def_marks.specs.{Chains.is_along_chains, Chains.marks_along, Chains.runs_along}
use Rattle.def_marks.specs.{declared.fail.MarkFail.MarkFail}
use Rattle.def_mesh.specs.{Darts.darts, Darts.twin_of, Faces.Faces, Manifold.IsManifold}
use Rattle.def_text.specs.{Logical.logical_lines, Logical.Logical, Reading.is_vertex_line}
use Rattle.def_text.specs.FaceSet.{FaceSet}
use Rattle.qm_marks.specs.{Reading.IsReading, Reading.TookLine, Reading.placed_at, declared.lines.MarkReader.MarkReader}
use Rattle.qm_marks.proofs.EdgeMarks.{is_map, merged, marks_are, unmarked}
use Rattle.qm_obj.{proofs.Groups.next_lines, proofs.Groups.span_within, specs.Ahead.span, specs.Lines.first_logical}
use Rattle.{def_feature.specs.Marks.AreMarks, def_cut.specs.FullCut.is_on, def_io.specs.Bytes.Lines}

-- Whether dart d runs along the chain of some line.
abbrev pub is_said : (soup : FaceSet) (placed : List Placed) (d : ℕ) → Bool
is_said soup placed d = list_any (λ chain. runs_along soup.faces chain d) (map (line_chain soup) placed)

-- The lines that are left say what all lines say beside the marks so far.
pub record IsLeft (soup : FaceSet) (mesh : Faces) (all : List Placed) (rest : List Logical) (reader : MarkReader) : Type
    0 where
  pub reads : IsReading soup mesh reader
  pub left : reader.before + count_by is_vertex_line rest ≡ reader.all
  pub fails : flat_map (line_fails soup) (placed_lines reader.all reader.before rest) ≡ flat_map (line_fails soup) all
  pub marks : (d : ℕ) → d < darts soup.faces → (is_on reader.marks.items d
      || (is_some (twin_of soup.faces d) && is_said soup (placed_lines reader.all reader.before rest) d))
      ≡ is_along_chains soup.faces (map (line_chain soup) all) d

count_cons : (line : Logical) (rest : List Logical) → count_by is_vertex_line (line ∷ rest)
    ≡ vertex_lines_in line + count_by is_vertex_line rest
count_cons line rest = sum_by-cons (λ l. cond (is_vertex_line l) 1 0) line rest

pub one_vertex : (line : Logical) → vertex_lines_in line ≤ 1
one_vertex line = grind (arith)

module _ {soup : FaceSet} {mesh : Faces} where
  module _ {all : List Placed} {line : Logical} {rest : List Logical} {old : MarkReader}
      (known : IsLeft soup mesh all (line ∷ rest) old) where
    pub room : old.before + vertex_lines_in line ≤ old.all
    room = omega (arith, count_cons line rest)

    -- One line more.
    pub left_more : {new : MarkReader} → TookLine soup old new line → IsLeft soup mesh all rest new
    left_more {new} took = record {
      reads = record {
        same = known.reads.same;
        ends = rw took.same.keys known.reads.ends;
        long = took.same.long ∙ ap darts (sym known.reads.same);
        within = omega (arith, took.before, took.same.all, room);
        few = known.reads.few;
      };
      left = omega (arith, count_cons line rest);
      fails = (λ i. flat_map (line_fails soup) (placed_lines (took.same.all i) (took.before i) rest))
          ∙ (rw took.accepted at known.fails);
      marks = λ d l. (λ i. is_on new.marks.items d
          || (is_some (twin_of soup.faces d) && is_said soup (placed_lines (took.same.all i) (took.before i) rest) d))
          ∙ rw (took.marked d l) (merged (is_on old.marks.items d) (is_some (twin_of soup.faces d))
          (runs_along soup.faces (line_chain soup (placed_at old.all old.before line)) d)
          (is_said soup (placed_lines old.all (old.before + vertex_lines_in line) rest) d) ∙ known.marks d l);
    }

    -- A line that is refused is the first one.
    pub left_refused : (fail : MarkFail) → line_fails soup (placed_at old.all old.before line) ≡ fail ∷ []
        → marks_of soup all ≡ Err fail
    left_refused fail is = rw (← known.fails, is) refl

  module _ {all : List Placed} {reader : MarkReader} (known : IsLeft soup mesh all [] reader) where
    long : length reader.marks.items ≡ darts soup.faces
    long = known.reads.long ∙ ap darts known.reads.same

    -- Behind the last line.
    pub left_same : reader.marks.items ≡ marks_along soup.faces (map (line_chain soup) all)
    left_same = is_map (is_along_chains soup.faces (map (line_chain soup) all)) (darts soup.faces) false
        reader.marks.items long (λ d l. unmarked _ (is_some (twin_of soup.faces d)) ∙ known.marks d l)

    pub left_none : marks_of soup all ≡ Ok reader.marks.items
    left_none = rw (← known.fails) (ap Ok (sym left_same))

-- The first physical lines, up to line i, are read; those from i up to `after` are left.
pub record IsAtLine (soup : FaceSet) (mesh : Faces) (all : Lines) (first i after : ℕ) (reader : MarkReader) : Type
    0 where
  pub within : i ≤ after
  pub left : IsLeft soup mesh (text_lines (logical_lines (first + 1) (slice_range all first after)))
      (logical_lines (i + 1) (slice_range all i after)) reader

module _ {soup : FaceSet} {mesh : Faces} {all : Lines} {first i after : ℕ} {reader : MarkReader}
    (at : IsAtLine soup mesh all first i after reader) where
  module _ (lt : i < after) (within : after ≤ length all) where
    abbrev pub line : Logical
    line = first_logical (i + 1) (slice_range all i after)

    pub ahead : IsLeft soup mesh (text_lines (logical_lines (first + 1) (slice_range all first after)))
        (line ∷ logical_lines (i + span (slice_range all i after) + 1)
        (slice_range all (i + span (slice_range all i after)) after)) reader
    ahead = rw (← next_lines all i after lt within (i + span (slice_range all i after)) refl) at.left

    pub at_next : {next : ℕ} {new : MarkReader} → next ≡ i + span (slice_range all i after)
        → TookLine soup reader new line → IsAtLine soup mesh all first next after new
    at_next is took = rw is (record { within = (span_within all i after lt within).1; left = left_more ahead took })

  pub ends : after ≤ i
      → IsLeft soup mesh (text_lines (logical_lines (first + 1) (slice_range all first after))) [] reader
  ends past = search rules

  pub at_inner : after ≤ i → IsManifold mesh → AreMarks mesh reader.marks.items
  at_inner past m = search (rules, left_same, marks_are)

-- The `v` lines before line i are counted.
pub record IsCounted (all : Lines) (first i after count : ℕ) : Type 0 where
  pub within : i ≤ after
  pub few : count + first ≤ i
  pub left : count + count_by is_vertex_line (logical_lines (i + 1) (slice_range all i after))
      ≡ count_by is_vertex_line (logical_lines (first + 1) (slice_range all first after))

pub counted_next : {all : Lines} {first i after count next more : ℕ} → i < after → after ≤ length all
    → IsCounted all first i after count → next ≡ i + span (slice_range all i after) → more
    ≡ vertex_lines_in (first_logical (i + 1) (slice_range all i after)) → IsCounted all first next after (count + more)
counted_next {all} {first} {i} {after} {count} {next} {more} lt within at is are =
    let line = first_logical (i + 1) (slice_range all i after) in
    let rest = next_lines all i after lt within next is in
    let cut : count_by is_vertex_line (logical_lines (i + 1) (slice_range all i after))
    ≡ vertex_lines_in line + count_by is_vertex_line (logical_lines (next + 1) (slice_range all next after)) =
    ap (count_by is_vertex_line) rest ∙ count_cons line (logical_lines (next + 1) (slice_range all next after)) in
    record {
      within = omega (arith, (span_within all i after lt within).1);
      few = omega (arith, one_vertex line, (span_within all i after lt within).0);
      left = omega arith;
    }
