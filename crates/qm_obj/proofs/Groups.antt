-- The first group of physical lines is the logical line ahead.
use Rattle.std.proofs.Common.{rules, List, arith, drop, length, refl, suc, ◌+◌, ◌∙◌, ◌∷◌, ◌≡◌, false, get_or, ◌-◌, ◌<◌}
use Rattle.qm_obj.proofs.KeptLemmas.{kept_says, line_taken, nothing_kept, soup_behind, stops_at}
use Rattle.def_text.specs.declared.{refusal.ObjFail.ObjFail, reading.Reading.TheVariants.Refused}
use Rattle.def_text.specs.Logical.{continues, first_group, groups_of, is_hash, joined, logical_lines}
use Rattle.std.proofs.{lemmas.List.length-append, lemmas.List.append-nil, lemmas.List.drop_more, Common.◌≤◌, Common.Err}
use Rattle.qm_obj.specs.{Lines.first_logical, Lines.next_said, Lines.Fits, Ahead.size_ahead, Ahead.text_ahead}
use Rattle.std.{specs.Prelude.slice_range, specs.List.before_first, specs.List.flat_map, proofs.Common.[]}
use Rattle.qm_obj.{specs.Lines.Took, specs.Ahead.span, proofs.TailLemmas.length-range, proofs.TailLemmas.range_drop}
use Rattle.def_text.{specs.Types.Positions, specs.Text.text_soup, specs.Text.soup_of}
use Rattle.{std.proofs.Common.ℕ, def_mesh.specs.Faces.Faces, def_io.specs.Bytes.Lines}

-- The first group stands in front of the groups of all lines behind it.
groups_step : (line : List ℕ) (lines : Lines) → groups_of (line ∷ lines)
    ≡ first_group (line ∷ lines) ∷ groups_of (drop (span (line ∷ lines)) (line ∷ lines))
groups_step line [] = grind (arith)
groups_step line (l ∷ ls) =
    let e : 1 + span (l ∷ ls) ≡ suc (span (l ∷ ls)) = omega arith in search (rules, groups_step l ls)

-- How many lines and bytes it has, and its text.
pub group_span : (lines : Lines) → length (first_group lines) ≡ span lines
group_span [] = refl
group_span (line ∷ lines) = grind (arith, group_span lines)

group_size : (lines : Lines) → length (flat_map (λ l. l) (first_group lines)) ≡ size_ahead lines
group_size [] = refl
group_size (line ∷ lines) = grind (arith, length-append, group_size lines)

pub group_text : (lines : Lines) → joined (first_group lines) ≡ text_ahead lines
group_text [] = refl
group_text (line ∷ lines) = grind (arith, append-nil, group_text lines)

-- The first logical line, and those behind its physical lines.
pub logical_step : (number : ℕ) (line : List ℕ) (lines : Lines) → logical_lines number (line ∷ lines) ≡ first_logical
    number (line ∷ lines) ∷ logical_lines (number + span (line ∷ lines)) (drop (span (line ∷ lines)) (line ∷ lines))
logical_step number line lines = let all = line ∷ lines in
    rw (groups_step line lines, group_span all, group_size all, group_text all) refl

-- A range by its first line.
pub range_cons : (xs : Lines) (i b : ℕ) → i < b → b ≤ length xs
    → slice_range xs i b ≡ get_or xs i [] ∷ slice_range xs (i + 1) b
range_cons xs i b lt within = search (rules, drop_more)

span_few : (lines : Lines) → span lines ≤ length lines
span_few [] = omega arith
span_few (line ∷ lines) = grind (arith, span_few lines)

-- The logical line with which a range of physical lines begins.
module _ (all : Lines) (i after : ℕ) (lt : i < after) (within : after ≤ length all) where
  -- The next logical line begins behind this one, and within the range.
  pub span_within : (1 ≤ span (slice_range all i after)) × (i + span (slice_range all i after) ≤ after)
  span_within = search (rules, span_few, length-range)

  -- The next logical line, and those behind it.
  pub next_lines : (next : ℕ) → next ≡ i + span (slice_range all i after)
      → logical_lines (i + 1) (slice_range all i after)
      ≡ first_logical (i + 1) (slice_range all i after) ∷ logical_lines (next + 1) (slice_range all next after)
  next_lines next is =
      let behind = range_drop all i (span (slice_range all i after)) after span_within.1 in
      search (rules, range_cons all i after, logical_step)

  module _ (line : List ℕ) (is : line ≡ get_or all i []) (off : continues line ≡ false) where
    -- A physical line that does not go on is a logical line.
    pub single_span : 1 ≡ span (slice_range all i after)
    single_span = rw (range_cons all i after lt within, ← is, off) refl

    pub single_text : before_first is_hash line ≡ text_ahead (slice_range all i after)
    single_text = rw (range_cons all i after lt within, ← is, off) refl

-- The logical lines of a text that a reader takes one by one: the first physical lines, up to line i, are read, and the
-- soup of what is kept with those from i up to `after` behind it is that of the text.
pub record IsAt (all : Lines) (first i after : ℕ) (p : Positions) (c : Faces) (l : List ℕ) : Type 0 where
  pub within : i ≤ after
  pub same : text_soup (first + 1) (slice_range all first after)
      ≡ soup_behind p c l (logical_lines (i + 1) (slice_range all i after))

pub at_start : (all : Lines) (first after : ℕ) → first ≤ after → IsAt all first first after [] [] []
at_start all first after order = search (rules, nothing_kept)

module _ {all : Lines} {first i after : ℕ} {p : Positions} {c : Faces} {l : List ℕ} (at : IsAt all first i after p c l)
  where
    -- All lines are read.
    pub at_end : after ≤ i → text_soup (first + 1) (slice_range all first after) ≡ soup_of (kept_says p c l)
    at_end past =
        let end : after - i ≡ 0 = omega arith in
        at.same ∙ rw (end, append-nil (kept_says p c l)) refl

    module _ (fits : Fits p c l) (lt : i < after) (within : after ≤ length all) where
      -- One logical line more.
      pub at_next : {next : ℕ} {p' : Positions} {c' : Faces} {l' : List ℕ} → next ≡ i + span (slice_range all i after)
          → Took p p' c c' l l' (next_said p c (first_logical (i + 1) (slice_range all i after)))
          → IsAt all first next after p' c' l'
      at_next {next} is took = record {
        within = omega (arith, span_within _ i _ lt within);
        same = at.same ∙ rw (next_lines _ i _ lt within _ is) (search (rules, line_taken));
      }

      -- A logical line that is refused.
      pub at_refused : {fail : ObjFail} → next_said p c (first_logical (i + 1) (slice_range all i after)) ≡ Refused fail
          → text_soup (first + 1) (slice_range all first after) ≡ Err fail
      at_refused stops = at.same ∙ rw (next_lines all i after lt within _ refl) (search (rules, stops_at))
