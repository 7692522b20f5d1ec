-- For which texts a feed stands.
use Rattle.std.specs.Prelude.{◌≡◌, ℕ, ◌+◌, ◌==◌, Bool, Option, Some, None, Result, Err, ◌++◌}
use Rattle.std.specs.List.{count_by}
use Rattle.def_io.specs.Bytes.{Bytes}
use Rattle.def_io.specs.declared.TheConstants.{LINE_FEED}
use Rattle.def_text.specs.FaceSet.{FaceSet}
use Rattle.def_text.specs.Text.{soup_in}
use Rattle.def_text.specs.declared.refusal.ObjFail.{ObjFail}
use Rattle.def_feed.specs.Kept.{KeptText, soup_with}

-- A feed: what it keeps, and the first refusal, once there is one.
pub record Fed : Type 0 where
  pub kept : KeptText
  pub refused : Option ObjFail

-- The refusal, where there is one, and else what is said.
abbrev pub refused_or : (refused : Option ObjFail) (said : Result FaceSet ObjFail) → Result FaceSet ObjFail
refused_or None said = said
refused_or (Some fail) said = Err fail

-- The answer with these bytes behind.
abbrev pub answer_with : (fed : Fed) (more : Bytes) → Result FaceSet ObjFail
answer_with fed more = refused_or fed.refused (soup_with fed.kept more)

abbrev pub is_line_feed : (byte : ℕ) → Bool
is_line_feed byte = byte == LINE_FEED

-- The feed answers for this text, whatever comes behind, and counts its lines while none is refused.
pub record StandsFor (fed : Fed) (text : Bytes) : Type 0 where
  pub answers : (more : Bytes) → answer_with fed more ≡ soup_in (text ++ more)
  pub counted : fed.refused ≡ None → fed.kept.next ≡ 1 + count_by is_line_feed text
