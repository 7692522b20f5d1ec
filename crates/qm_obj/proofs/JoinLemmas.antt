-- Physical lines that are joined to logical lines.
use Rattle.std.proofs.lemmas.List.{append-nil, append_assoc, length-append, length-take, Folds.list_any-append}
use Rattle.std.proofs.lemmas.{Bool.Decides.nat_tests, Bool.false≢true, Bool.or_from, Grind.common_steps}
use Rattle.std.proofs.Common.{rules, List, arith, eqb, false, get_or, length, not, refl, true, ◌++◌, [], suc}
use Rattle.qm_obj.specs.Lines.{first_logical, next_said, uncommented, line_as, Took}
use Rattle.def_text.specs.Logical.{Logical, continues, is_hash, logical_lines, with_space}
use Rattle.std.specs.{Prelude.slice_range, List.position_or_len, List.before_first, List.list_any}
use Rattle.std.proofs.{Common.◌+◌, Common.◌-◌, Common.◌<◌, Common.◌∙◌, Common.◌∷◌, Common.◌≡◌, Common.◌≤◌, Common.ap}
use Rattle.qm_obj.specs.{Feeding.number_by, Ahead.size_ahead, Ahead.text_ahead, Ahead.span}
use Rattle.qm_obj.proofs.{WordLemmas.uncommented_is, WordLemmas.uncommented_none, Groups.logical_step}
use Rattle.def_feed.specs.{Kept.logical_behind, Kept.with_joined, Kept.with_front, Kept.KeptText}
use Rattle.{def_text.specs.Types.Positions, def_mesh.specs.Faces.Faces}
use Rattle.{std.proofs.Common.ℕ, def_io.specs.Bytes.Bytes, def_io.specs.Bytes.Lines, qm_obj.proofs.Groups.range_cons}

-- A comment is found before the end exactly where there is one.
pub no_hash : (line : List ℕ) → eqb (position_or_len is_hash line) (length line) ≡ not (list_any is_hash line)
no_hash [] = refl
no_hash (b ∷ bs) = grind (arith, nat_tests, no_hash bs)

-- A line that continues is as long with the space.
pub length-with_space : (line : List ℕ) → continues line ≡ true → length (with_space line) ≡ length line
length-with_space [] on = absurd (false≢true on)
length-with_space (b ∷ bs) on = search (rules, length-append)

-- The physical lines up to this one are joined, and each of them continues.
pub record IsJoining (all : Lines) (i next after : ℕ) (bytes : List ℕ) : Type 0 where
  pub text : bytes ++ text_ahead (slice_range all next after) ≡ text_ahead (slice_range all i after)
  pub count : next + span (slice_range all next after) ≡ i + span (slice_range all i after)
  pub size : length bytes + size_ahead (slice_range all next after) ≡ size_ahead (slice_range all i after)

module _ {all : Lines} {i next after : ℕ} {bytes line : List ℕ} (lt : next < after) (within : after ≤ length all)
    (is : line ≡ get_or all next []) (so_far : IsJoining all i next after bytes) where
  -- One line more, that continues.
  pub joining_more : continues line ≡ true → IsJoining all i (next + 1) after (bytes ++ with_space line)
  joining_more on = search (rules, append_assoc, length-append, range_cons all next after, length-with_space)

  -- The last line, that does not continue.
  pub joined_last : continues line ≡ false → record {
    text : bytes ++ before_first is_hash line ≡ text_ahead (slice_range all i after);
    count : next + 1 ≡ i + span (slice_range all i after);
    size : length bytes + length line ≡ size_ahead (slice_range all i after);
  }
  joined_last off = grind (arith, range_cons all next after lt within)

-- What is left to read is no longer than the physical lines.
pub joined_short : (lines : Lines) → length (text_ahead lines) ≤ size_ahead lines
joined_short [] = omega arith
joined_short (line ∷ lines) = search (rules, length-append, length-take, length-with_space, joined_short lines)

-- A physical line that does not continue is a logical line.
pub single_logical : (all : Lines) (i after : ℕ) (lt : i < after) (within : after ≤ length all) (line : List ℕ)
    → line ≡ get_or all i [] → continues line ≡ false
    → line_as (i + 1) (length line) line ≡ first_logical (i + 1) (slice_range all i after)
single_logical all i after lt within line is off = search (rules, range_cons all i after lt within, uncommented_is)

-- What is left to read of a logical line has no comment.
cut_none : (line : List ℕ) → list_any is_hash (uncommented line) ≡ false
cut_none [] = refl
cut_none (b ∷ bs) = grind (arith, cut_none bs)

-- Nor has a line that goes on, with its space.
space_none : (line : List ℕ) → continues line ≡ true → list_any is_hash (with_space line) ≡ false
space_none line on = grind (arith, common_steps)

joined_none : (lines : Lines) → list_any is_hash (text_ahead lines) ≡ false
joined_none [] = refl
joined_none (line ∷ lines) = grind (arith, common_steps, joined_none lines, cut_none line, uncommented_is line)

-- Joined bytes and their size are the first logical line.
pub joined_logical : (lines : Lines) (number : ℕ) {size : ℕ} {bytes : List ℕ} → size ≡ size_ahead lines
    → bytes ≡ text_ahead lines → line_as number size bytes ≡ first_logical number lines
joined_logical lines number sizes are = search (rules, uncommented_none, joined_none)

-- What is kept behind a logical line is what is kept behind the same line.
pub same_took : {a b : Logical} (same : a ≡ b) {p p' : Positions} {c c' : Faces} {l l' : List ℕ}
    → Took p p' c c' l l' (next_said p c a) → Took p p' c c' l l' (next_said p c b)
same_took same {p} {p'} {c} {c'} {l} {l'} took = rw (← same) took

-- Logical lines of which the first begins with text that is joined.

-- A line that goes on stands in front of the logical line behind it.
logical_goes_on : (number : ℕ) (line : Bytes) (lines : Lines) → continues line ≡ true
    → logical_lines number (line ∷ lines) ≡ with_front number (with_space line) (logical_lines (number + 1) lines)
logical_goes_on number line [] on = search (rules, logical_step, length-with_space, append-nil)
logical_goes_on number line (next ∷ lines) on =
    let n : number + (1 + span (next ∷ lines)) ≡ number + 1 + span (next ∷ lines) = omega arith in
    let e : 1 + span (next ∷ lines) ≡ suc (span (next ∷ lines)) = omega arith in
    rw (logical_step _ next _, length-with_space line on, ← n) (logical_step _ line (next ∷ lines) ∙ rw (on, e) refl)

-- A line that does not go on is a logical line.
logical_ends : (number : ℕ) (line : Bytes) (lines : Lines) → continues line ≡ false → logical_lines number
    (line ∷ lines) ≡ line_as number (length line) line ∷ logical_lines (number + 1) lines
logical_ends number line lines off = logical_step number line lines ∙ grind (arith, uncommented_is line)

-- The logical line to which a physical line belongs has its number, and is at least as long as what is joined and that
-- line.
pub begins_behind : (begun next : ℕ) (joined line : Bytes) (lines : Lines) → (one : Logical) × (rest : List Logical)
    × (with_joined begun joined (logical_lines next (line ∷ lines)) ≡ one ∷ rest)
    × (one.number ≡ number_by joined next begun) × (length joined + length line ≤ one.size)
begins_behind begun next [] line lines = (_, _, logical_step next line lines, refl, grind arith)
begins_behind begun next (b ∷ bs) line lines =
    (_, _, ap (with_front begun (b ∷ bs)) (logical_step next line lines), refl, grind arith)

-- Behind a line that goes on, what is joined is longer.
pub behind_held : (kept : KeptText) (line : Bytes) (lines : Lines) → continues line ≡ true
    → logical_behind kept (line ∷ lines) ≡ with_joined (number_by kept.joined kept.next kept.begun)
    (kept.joined ++ with_space line) (logical_lines (kept.next + 1) lines)
behind_held kept line lines on = search (rules, logical_goes_on, length-append, append_assoc)

-- A line that ends, alone and behind what is joined.
pub behind_alone : (kept : KeptText) (line : Bytes) → continues line ≡ false → kept.joined ≡ [] → (lines : Lines)
    → logical_behind kept (line ∷ lines) ≡ line_as kept.next (length line) line ∷ logical_lines (kept.next + 1) lines
behind_alone kept line off none lines = rw none (logical_ends kept.next line lines off)

pub behind_joined : (kept : KeptText) (line : Bytes) → continues line ≡ false → 0 < length kept.joined
    → list_any is_hash kept.joined ≡ false → (lines : Lines) → logical_behind kept (line ∷ lines) ≡ line_as kept.begun
    (length kept.joined + length line) (kept.joined ++ before_first is_hash line) ∷ logical_lines (kept.next + 1) lines
behind_joined kept line off some bare lines = search (rules, list_any-append, cut_none, uncommented_none, logical_ends)

-- What is joined, where no line comes behind.
pub behind_nothing : (kept : KeptText) → 0 < length kept.joined → list_any is_hash kept.joined ≡ false
    → logical_behind kept [] ≡ line_as kept.begun (length kept.joined) kept.joined ∷ []
behind_nothing kept some bare = rw (uncommented_none kept.joined bare) (grind arith)

-- What is joined has no comment and is short, with a line more that goes on.
pub joined_more : (old line : Bytes) {joined : Bytes} → continues line ≡ true → joined ≡ old ++ with_space line
    → list_any is_hash old ≡ false → length old + length line ≤ 65536
    → record { bare : list_any is_hash joined ≡ false; short : length joined ≤ 65536 }
joined_more old line {joined} on are bare short =
    search (rules, list_any-append, or_from, space_none, length-append, length-with_space)
