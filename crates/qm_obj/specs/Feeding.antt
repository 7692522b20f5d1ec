-- What a reader of pieces keeps true, line by line and piece by piece.
use Rattle.std.specs.Prelude.{◌≡◌, ◌≤◌, ℕ, ◌+◌, None, Err, [], ◌∷◌, ◌++◌, length}
use Rattle.std.specs.List.{count_by}
use Rattle.def_feed.specs.Feed.{Fed, is_line_feed, StandsFor}
use Rattle.def_feed.specs.Kept.{KeptText, soup_with, soup_with_lines}
use Rattle.def_io.specs.Bytes.{Bytes, Lines, Told}
use Rattle.def_io.specs.Moves.{gave}
use Rattle.def_text.specs.Input.{ReadWhole}
use Rattle.def_text.specs.declared.limits.TheConstants.{MAX_BYTES}
use Rattle.def_text.specs.declared.refusal.ObjFail.{ObjFail}

-- The number of the logical line to which the next physical line belongs.
abbrev pub number_by : (joined : Bytes) (next begun : ℕ) → ℕ
number_by [] next begun = next
number_by (byte ∷ bytes) next begun = begun

-- One physical line more is taken.
pub record TookLine (old new : KeptText) (line : Bytes) : Type 0 where
  pub same : (lines : Lines) → soup_with_lines old (line ∷ lines) ≡ soup_with_lines new lines
  pub next : new.next ≡ old.next + 1

-- Whatever lines come behind this one, this is the first refusal.
abbrev pub RefusesLine : (kept : KeptText) (line : Bytes) (fail : ObjFail) → Type 0
RefusesLine kept line fail = (lines : Lines) → soup_with_lines kept (line ∷ lines) ≡ Err fail

-- One piece more is taken.
pub record TookPiece (old new : KeptText) (piece : Bytes) : Type 0 where
  pub same : (more : Bytes) → soup_with old (piece ++ more) ≡ soup_with new more
  pub counted : new.next ≡ old.next + count_by is_line_feed piece

-- Whatever bytes come behind this piece, this is the first refusal.
abbrev pub RefusesPiece : (kept : KeptText) (piece : Bytes) (fail : ObjFail) → Type 0
RefusesPiece kept piece fail = (more : Bytes) → soup_with kept (piece ++ more) ≡ Err fail

-- A feed that refused nothing has taken no more lines than a text may have.
abbrev pub IsFeed : (fed : Fed) → Type 0
IsFeed fed = fed.refused ≡ None → fed.kept.next ≤ MAX_BYTES + 1

-- A source gave a piece of so many bytes to a feed.
pub record FedPiece (before now : Told) (old new : Fed) (count : ℕ) : Type 0 where
  pub piece : Bytes
  pub moved : before ≡ gave piece now
  pub many : length piece ≡ count
  pub stands : (text : Bytes) → StandsFor old text → StandsFor new (text ++ piece)

-- A source gave the bytes for which a feed stands.
pub record FedTo (before now : Told) (count : ℕ) (fed : Fed) : Type 0 where
  pub text : Bytes
  pub given : before ≡ gave text now
  pub many : length text ≡ count
  pub stands : StandsFor fed text

-- A source gave all its bytes, at most so many, to a feed.
pub record FedWhole (limit : ℕ) (before now : Told) (fed : Fed) : Type 0 where
  pub text : Bytes
  pub whole : ReadWhole limit before now text
  pub stands : StandsFor fed text
