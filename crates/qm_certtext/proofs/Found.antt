-- The last line that begins with a prefix, found line after line.
use Rattle.std.proofs.Common.{rules, None, Option, Some, arith, if◌then◌else◌, length, slice_index_or, []}
use Rattle.std.proofs.Common.{ap, drop, take, true, ℕ, ◌+◌, ◌-◌, ◌<◌, ◌∙◌, ◌≡◌, Bool, List, filter, zero}
use Rattle.std.proofs.Common.{◌++◌, map, suc, ◌∷◌, length-drop, ◌^◌}
use Rattle.std.proofs.{lemmas.List.Elements.filter-append}
use Rattle.std.proofs.lemmas.List.{get_or-take, take_more, drop-drop, get_or-drop}
use Rattle.std.specs.{List.starts_with, List.list_all, Prelude.IfSome, Prelude.nat_eq}
use Rattle.qm_certtext.specs.{Heads.IsFoundIn, declared.last.HeadAt.HeadAt, declared.parts.Found.Found}
use Rattle.qm_certtext.specs.Parts.{HoldSome, IsLineFail, TakesText, Holds, ReadSome}
use Rattle.def_certtext.specs.declared.CertFail.TheVariants.{Head, Line, Memory}
use Rattle.def_certtext.specs.{declared.CertFail.CertFail, declared.certs.Rising.Rising, declared.CertLine.CertLine}
use Rattle.def_certtext.specs.Reading.{IsBehindFail, Says, is_hash_line, may_stand, IsCertFail, Made, TellHow}
use Rattle.def_io.specs.{Lines.lines_of, Lines.tail_of, Bytes.Bytes, Bytes.Lines}
use Rattle.{def_certtext.specs.CertLines.line_text, qm_io.proofs.Cuts.first_lines}
use Rattle.{qm_io.proofs.Cuts.rest_is, qm_io.proofs.Cuts.last_lines}

-- Where a line was found, the lines before its first byte are those before it.
pub found_old : (prefix bytes : Bytes) (n : ℕ) (found : Option HeadAt) → IsFoundIn prefix bytes n found
    → IfSome found (λ head. lines_of (take head.at bytes) ≡ take head.line (lines_of bytes))
found_old prefix bytes n None is = tt
found_old prefix bytes n (Some head) is = is.old

-- One line more.
pub found_more : (prefix bytes rest line : Bytes) (i at : ℕ) (found next : Option HeadAt) → rest ≡ tail_of i bytes
    → line ≡ slice_index_or (lines_of bytes) i [] → at ≡ length bytes - length rest → IsFoundIn prefix bytes i found
    → next ≡ (if starts_with nat_eq line prefix then Some (record { line = i; at = at }) else found)
    → IsFoundIn prefix bytes (i + 1) next
found_more prefix bytes rest line i at found next tail is place before said = search (rules, first_lines, rest_is)

-- The marked lines of a text, one line after another.

pub filter_append : {X : Type 0} (p : X → Bool) (xs ys : List X) → filter p (xs ++ ys) ≡ filter p xs ++ filter p ys
filter_append p xs ys = filter-append p xs ys

-- Each marked line of those that were read says something.
pub said_at : (rising : Rising) (behind : Lines) (said : List CertLine)
    → filter is_hash_line behind ≡ map line_text said → list_all (may_stand rising) said ≡ true
    → (j : ℕ) → j < length behind → is_hash_line (slice_index_or behind j []) ≡ true → (line : CertLine)
    × Says rising (slice_index_or behind j []) line
said_at rising [] said texts all j low is = absurd (omega arith)
said_at rising (line ∷ behind) [] texts all zero low is = cc (rw is at texts)
said_at rising (line ∷ behind) (one ∷ more) texts all zero low is = search rules
said_at rising (line ∷ behind) [] texts all (suc j) low is = search (rules, said_at rising behind [])
said_at rising (line ∷ behind) (one ∷ more) texts all (suc j) low is =
    search (rules, said_at rising behind more, said_at rising behind (one ∷ more))

-- Where no line was read, nothing is said.
pub hold_none : (rising : Rising) (found : Found) → found.first ≡ None
    → (found.rounds.items ≡ []) × (found.rises.items ≡ []) → Holds found.last [] → HoldSome rising found []
hold_none rising found h1 h2 h3 = search rules

-- The next line behind the head line.
module _ (rising : Rising) (behind : Lines) (i : ℕ) (line : Bytes) (old : Found) (low : i < length behind) (is : line
    ≡ slice_index_or behind i []) where
  pub read_next : (new : Found) → ReadSome rising (take i behind) old → TakesText rising line old new
      → ReadSome rising (take (i + 1) behind) new
  read_next new read takes = search (rules, take_more)

  pub behind_fail : (number : ℕ) (fail : CertFail) → ReadSome rising (take i behind) old
      → IsLineFail rising line (number + i) fail → IsBehindFail rising number behind fail
  behind_fail number Head read why = why
  behind_fail number Memory read why = tt
  behind_fail number (Line n) read why = search (
    rules,
    get_or-take i behind,
    said_at rising (take i behind) read.said read.texts read.allowed,
  )

-- What the bytes from the head line on tell, and those behind it.

module _ (bytes tail : Bytes) (line : ℕ) (is : tail ≡ tail_of line bytes) where
  lines_are : lines_of tail ≡ drop line (lines_of bytes)
  lines_are = ap lines_of is ∙ last_lines bytes line

  head_is : slice_index_or (lines_of tail) 0 [] ≡ slice_index_or (lines_of bytes) line []
  head_is = search (rules, lines_are, get_or-drop)

  behind_is : drop 1 (lines_of tail) ≡ drop (line + 1) (lines_of bytes)
  behind_is = ap (λ (ls : Lines). drop 1 ls) lines_are ∙ drop-drop 1 line (lines_of bytes)

  pub few_lines : line < length (lines_of bytes) → length (lines_of bytes) < 2 ^ 32 → line + length (lines_of tail)
      < 2 ^ 32
  few_lines there few = omega (arith, ap length lines_are, length-drop line (lines_of bytes))

  pub tail_tells : (made : Made) → TellHow (slice_index_or (lines_of tail) 0 []) (drop 1 (lines_of tail)) made
      → TellHow (slice_index_or (lines_of bytes) line []) (drop (line + 1) (lines_of bytes)) made
  tail_tells made tells = rw (← head_is) (rw (← behind_is) tells)

  pub tail_fails : (fail : CertFail) → IsCertFail (slice_index_or (lines_of tail) 0 []) (line + 2)
      (drop 1 (lines_of tail)) fail
      → IsCertFail (slice_index_or (lines_of bytes) line []) (line + 2) (drop (line + 1) (lines_of bytes)) fail
  tail_fails fail why = rw (← head_is) (rw (← behind_is) why)
