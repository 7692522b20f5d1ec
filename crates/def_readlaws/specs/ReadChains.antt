-- The chains of vertices that `l` lines name behind a new mesh.
use Rattle.std.specs.Prelude.{◌∷◌, Bool, ◌≡◌, ◌+◌, ◌<◌, ◌≤◌, ◌++◌, ℕ, true, List, [], length, map, slice_index_or, Ok}
use Rattle.std.specs.List.{filter, flat_map, list_all, range_with_len}
use Rattle.def_certtext.specs.CertLines.{used}
use Rattle.def_certtext.specs.Reading.{is_hash_line}
use Rattle.def_certtext.specs.Risings.{may_rise}
use Rattle.def_certtext.specs.Settings.{AreInRange}
use Rattle.def_feature.specs.Marks.{AreMarks}
use Rattle.def_io.specs.Bytes.{Bytes}
use Rattle.def_io.specs.Lines.{lines_of}
use Rattle.def_io.specs.declared.TheConstants.{LINE_FEED}
use Rattle.def_layout.specs.Lengths.{Lengths}
use Rattle.def_layout.specs.Layouts.{gluing_of, Layout}
use Rattle.def_marks.specs.Chains.{is_chain, link_at, marks_along, runs_between}
use Rattle.def_marks.specs.Lines.{line_chain, line_fails, marks_in, Placed}
use Rattle.def_marks.specs.MarkedText.{arc_chain, chain_text, is_marked_arc, marked_text}
use Rattle.def_remesh.specs.NewPoints.{lengths_in}
use Rattle.def_remesh.specs.ReadAgain.{ends_line, finished_soup}
use Rattle.def_run.specs.Map.{asks_of}
use Rattle.def_run.specs.Remesh.{WritesFinished}
use Rattle.def_run.specs.declared.command.Command.{Command}
use Rattle.def_text.specs.Canonical.{canonical_text}
use Rattle.def_text.specs.FaceSet.{FaceSet}
use Rattle.def_text.specs.Laws.{IsWritableSoup}
use Rattle.def_text.specs.Text.{numbers_to, soup_in}
use Rattle.def_text.specs.declared.limits.TheConstants.{MAX_V_LINES}
use Rattle.def_written.specs.NewFaces.{new_faces}

-- Dart d of the new mesh runs between the vertices at places k and k + 1 of the chain of an arc.
abbrev pub RunsOn : (layout : Layout) (new : Lengths) (arc k d : ℕ) → Type 0
RunsOn layout new arc k d =
    runs_between (new_faces (gluing_of layout) new) (link_at (arc_chain (gluing_of layout) new arc) k)
    (link_at (arc_chain (gluing_of layout) new arc) (k + 1)) d
    ≡ true

-- Each chain of an arc is one of edges of the new mesh; no edge is named twice, neither by one chain nor by two; and
-- the chains of whichever arcs mark inner edges.
pub record AreNewChains (layout : Layout) (new : Lengths) : Type 0 where
  pub chain : (arc : ℕ) → arc < length layout.arcs
      → is_chain (new_faces (gluing_of layout) new) (arc_chain (gluing_of layout) new arc) ≡ true
  pub once : (arc k other m d : ℕ) → arc < length layout.arcs → other < length layout.arcs → k < new arc → m < new other
      → RunsOn layout new arc k d → RunsOn layout new other m d → (arc ≡ other) × (k ≡ m)
  pub marked : (arcs : List ℕ) → AreMarks (new_faces (gluing_of layout) new)
      (marks_along (new_faces (gluing_of layout) new) (map (arc_chain (gluing_of layout) new) arcs))

-- So are the chains of what a command wrote which finds least lengths: the `l` lines behind its new mesh name some of
-- them.
abbrev pub FinishedChainsLaw : Type 0
FinishedChainsLaw = (command : Command) (bytes text : Bytes) (wrote : WritesFinished (asks_of command) bytes text)
    → AreInRange wrote.task.settings (may_rise wrote.task.rising)
    → AreNewChains wrote.shown.finished.layout (lengths_in (used wrote.shown.finished.certificates).x)

-- The line of a chain says this chain, where it is read behind the text of a mesh whose vertices are numbered from 1,
-- and where it is one of edges of this mesh.
abbrev pub ChainSaidLaw : Type 0
ChainSaidLaw = (soup : FaceSet) (chain : List ℕ) (placed : Placed) → soup.names ≡ numbers_to (length soup.pos)
    → length soup.pos ≤ MAX_V_LINES → length soup.pos ≤ placed.all
    → placed.line.text ≡ slice_index_or (lines_of (chain_text chain)) 0 [] → 2 ≤ length chain
    → ((k : ℕ) → k < length chain → link_at chain k < length soup.pos) → is_chain soup.faces chain ≡ true
    → (line_fails soup placed ≡ []) × (line_chain soup placed ≡ chain)

-- Whole lines, each of which begins with `#`.
pub record AreHashLines (text : Bytes) : Type 0 where
  pub ended : ends_line text ≡ true
  pub hashes : list_all is_hash_line (lines_of text) ≡ true

-- A chain of at least two vertices of a soup, which is one of edges of its faces.
pub record IsChainOf (soup : FaceSet) (chain : List ℕ) : Type 0 where
  pub long : 2 ≤ length chain
  pub low : (k : ℕ) → k < length chain → link_at chain k < length soup.pos
  pub edges : is_chain soup.faces chain ≡ true

-- The lines of chains behind the canonical text of a soup are read again as the marks along these chains, whatever
-- lines stand before and behind that begin with `#`.
abbrev pub MarksAgainLaw : Type 0
MarksAgainLaw = (front behind : Bytes) (soup : FaceSet) (chains : List (List ℕ)) → AreHashLines front
    → AreHashLines behind → IsWritableSoup soup → soup.names ≡ numbers_to (length soup.pos)
    → ((k : ℕ) → k < length chains → IsChainOf soup (slice_index_or chains k []))
    → marks_in (front ++ (canonical_text soup ++ (flat_map chain_text chains ++ behind))) soup
    ≡ Ok (marks_along soup.faces chains)

-- The chains of the marked arcs of a layout, in order of arcs.
abbrev pub marked_arc_chains : (marks : List Bool) (layout : Layout) (new : Lengths) → List (List ℕ)
marked_arc_chains marks layout new =
    map (arc_chain (gluing_of layout) new) (filter (is_marked_arc marks layout) (range_with_len 0 (length layout.arcs)))

-- Where a command wrote the lines of marked arcs behind its new mesh, and its text is read as that mesh, its `l` lines
-- are read as the marks along the chains of these arcs. Its head line begins with `#`.
abbrev pub FinishedMarksLaw : Type 0
FinishedMarksLaw = (command : Command) (bytes text : Bytes) (marks : List Bool)
    (wrote : WritesFinished (asks_of command) bytes text) → AreInRange wrote.task.settings (may_rise wrote.task.rising)
    → AreHashLines (wrote.task.head ++ LINE_FEED ∷ []) → wrote.task.between ≡ marked_text marks
    → soup_in text ≡ Ok (finished_soup wrote.task wrote.soup text wrote.shown.finished)
    → marks_in text (finished_soup wrote.task wrote.soup text wrote.shown.finished)
    ≡ Ok (marks_along (finished_soup wrote.task wrote.soup text wrote.shown.finished).faces
    (marked_arc_chains marks wrote.shown.finished.layout (lengths_in (used wrote.shown.finished.certificates).x)))
