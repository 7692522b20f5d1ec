-- Lines and pieces that are taken one by one, and what is then kept.
use Rattle.def_text.specs.declared.refusal.ObjFail.{ObjFail, TheVariants.Memory, TheVariants.Limit}
use Rattle.std.proofs.lemmas.List.{append-nil, append_assoc, length-append, Folds.list_any-append}
use Rattle.std.proofs.lemmas.{Result.on_ok_weaker, Result.IfErr-weaker, Bool.eqb-true, Grind.common_steps}
use Rattle.std.proofs.Common.{rules, Err, List, None, Option, Result, Some, arith, eqb, false, length, refl, true, ◌++◌}
use Rattle.std.proofs.Common.{Ok, [], ap, sym, ℕ, ◌+◌, ◌-◌, ◌<◌, ◌∙◌, ◌∷◌, ◌≡◌, ◌≢◌, ◌≤◌}
use Rattle.qm_obj.specs.Feeding.{RefusesLine, RefusesPiece, TookLine, TookPiece, number_by, FedPiece, FedTo, FedWhole}
use Rattle.qm_obj.proofs.TailLemmas.{count_append, count_none, first_line, lines_fed, lines_open}
use Rattle.def_text.specs.declared.{refusal.Which.TheVariants.Line, reading.Reading.TheVariants.Refused}
use Rattle.def_feed.specs.Kept.{KeptText, logical_behind, soup_with, soup_with_lines}
use Rattle.std.specs.{Prelude.is_some, Prelude.IfErr, Prelude.OnErr, Prelude.OnOk, List.list_any, List.count_by}
use Rattle.qm_obj.specs.{declared.progress.Progress.Progress, declared.joiner.Joiner.Joiner, Lines.next_said}
use Rattle.qm_obj.specs.{Views.kept_at, Views.kept_of, Lines.line_as, Lines.Fits, Lines.Took}
use Rattle.qm_obj.proofs.{KeptLemmas.line_taken, JoinLemmas.behind_nothing, JoinLemmas.begins_behind}
use Rattle.def_text.specs.{Types.Positions, Logical.logical_lines, Logical.Logical, Logical.is_hash, FaceSet.FaceSet}
use Rattle.def_io.specs.{Moves.IsEmptied, Moves.GaveMore, Lines.lines_of, Lines.line_of, Bytes.Bytes, Bytes.Lines}
use Rattle.def_feed.specs.{Feed.is_line_feed, Feed.answer_with, Feed.StandsFor, Feed.Fed}
use Rattle.{qm_obj.proofs.KeptLemmas.kept_says, qm_obj.proofs.KeptLemmas.stops_at, def_io.specs.Bytes.Told}
use Rattle.{def_text.specs.Text.soup_in, def_text.specs.Text.soup_of, def_mesh.specs.Faces.Faces}

-- Whether bytes are empty, by their number.
pub is_nothing : {xs : Bytes} {n : ℕ} → true ≡ eqb n 0 → n ≡ length xs → xs ≡ []
is_nothing {xs = []} is many = refl
is_nothing {xs = x ∷ xs} {n = n} is many = absurd (omega (arith, eqb-true n 0 (sym is)))

pub is_something : (xs : Bytes) {n : ℕ} → false ≡ eqb n 0 → n ≡ length xs → 0 < length xs
is_something xs is many = grind (arith)

-- What is kept of a text.
pub record IsSound (kept : KeptText) : Type 0 where
  pub fits : Fits kept.positions kept.faces kept.lines
  pub bare : list_any is_hash kept.joined ≡ false
  pub unended : list_any is_line_feed kept.tail ≡ false

-- A joiner of lines and a reader of pieces keep it so.
pub sound_of : (joiner : Joiner) → IsSound (kept_of joiner [])
sound_of j = record { fits = j.reader.fits; bare = j.bare; unended = refl }

pub sound_at : (progress : Progress) → IsSound (kept_at progress)
sound_at p = record { fits = p.joiner.reader.fits; bare = p.joiner.bare; unended = p.unended }

-- What a reader of pieces keeps of a line that has not ended.
pub tail_more : {T E : Type 0} (r : Result T E) (old bytes tail : Bytes) → OnOk r (tail ≡ old ++ bytes)
    → OnErr r (tail ≡ old) → list_any is_line_feed old ≡ false → list_any is_line_feed bytes ≡ false
    → (list_any is_line_feed tail ≡ false) × (length tail ≤ length old + length bytes)
tail_more r h1 h2 h3 h4 = search (rules, list_any-append, length-append)

-- A logical line that is too long is refused, whatever comes behind.
pub long_line : {old : KeptText} → IsSound old → (line : Bytes) {number : ℕ}
    → number ≡ number_by old.joined old.next old.begun → 65536 < length old.joined + length line
    → RefusesLine old line (Limit Line number)
long_line {old} sound line {number} is long lines =
    let first = begins_behind old.begun old.next old.joined line lines in
    let says : next_said old.positions old.faces first.0 ≡ Refused (Limit Line number) = search rules in
    rw first.2 (stops_at old.positions old.faces old.lines first.0 first.1 sound.fits.sizes says)

-- A line that ends a logical line is read, or refused.
module _ {old : KeptText} (sound : IsSound old) (line : Bytes) {one : Logical}
    (are : (lines : Lines) → logical_behind old (line ∷ lines) ≡ one ∷ logical_lines (old.next + 1) lines) where
  pub ended_line : {joined : Bytes} {p : Positions} {c : Faces} {l : List ℕ} {begun : ℕ} → joined ≡ []
      → Took old.positions p old.faces c old.lines l (next_said old.positions old.faces one)
      → TookLine old (record {
        positions = p;
        faces = c;
        lines = l;
        next = old.next + 1;
        begun = begun;
        joined = joined;
        tail = [];
      }) line
  ended_line none took = record { same = λ lines. rw (are _, none) (search (rules, line_taken)); next = refl }

  pub refused_line : {fail : ObjFail} → next_said old.positions old.faces one ≡ Refused fail
      → RefusesLine old line fail
  refused_line stops = λ lines. rw (are lines) (search (rules, stops_at))

-- No line comes behind: what is joined is the last one.
abbrev pub last_line : KeptText → Logical
last_line kept = line_as kept.begun (length kept.joined) kept.joined

module _ {old : KeptText} (sound : IsSound old) (some : 0 < length old.joined) where
  pub last_same : {p : Positions} {c : Faces} {l : List ℕ}
      → Took old.positions p old.faces c old.lines l (next_said old.positions old.faces (last_line old))
      → soup_with_lines old [] ≡ soup_of (kept_says p c l)
  last_same {p} {c} {l} took = rw (behind_nothing old some sound.bare) (line_taken (last_line old) sound.fits took []
      ∙ ap soup_of (append-nil (kept_says p c l)))

  pub last_refused : {fail : ObjFail} → next_said old.positions old.faces (last_line old) ≡ Refused fail
      → soup_with_lines old [] ≡ Err fail
  last_refused stops = search (rules, behind_nothing, stops_at)

-- A step takes a piece, or it refuses the piece, whatever comes behind, or it wants memory.
abbrev pub Takes : {T : Type 0} → (old new : KeptText) (piece : Bytes) (r : Result T ObjFail) → Type 0
Takes old new piece r = record {
  took : OnOk r (TookPiece old new piece);
  refused : IfErr r (λ fail. fail ≢ Memory → RefusesPiece old piece fail);
}

-- The lines of a text behind what is kept of it, where the line ends in this piece.
fed_lines : (tail prefix more : Bytes) → list_any is_line_feed tail ≡ false → list_any is_line_feed prefix ≡ false
    → lines_of (tail ++ ((prefix ++ 10 ∷ []) ++ more)) ≡ line_of (tail ++ prefix) ∷ lines_of more
fed_lines tail prefix more none off = search (rules, append_assoc, lines_fed, list_any-append)

-- A refusal that is handed on: it says what follows from what it said.
pub refused_as : {T : Type 0} {P Q : ObjFail → Type 0} (r : Result T ObjFail) → IfErr r (λ fail. fail ≢ Memory → P fail)
    → ((fail : ObjFail) → P fail → Q fail) → IfErr r (λ fail. fail ≢ Memory → Q fail)
refused_as r is to = IfErr-weaker r _ _ (λ fail known other. to fail (known other)) is

module _ {old : KeptText} (sound : IsSound old) where
  -- A piece that ends a physical line.
  pub fed_piece : {T : Type 0} (new : KeptText) (prefix : Bytes) {line : Bytes} (r : Result T ObjFail)
      → list_any is_line_feed prefix ≡ false → line ≡ line_of (old.tail ++ prefix) → new.tail ≡ []
      → OnOk r (TookLine (record old { tail = [] }) (record new { tail = [] }) line)
      → IfErr r (λ fail. fail ≢ Memory → RefusesLine (record old { tail = [] }) line fail)
      → Takes old new (prefix ++ 10 ∷ []) r
  fed_piece new prefix (Ok x) off is none took _ = record {
    took = record {
      same = λ more. rw (fed_lines old.tail prefix more sound.unended off, ← is, none) (took.same (lines_of more));
      counted = search (rules, count_append, count_none);
    };
    refused = tt;
  }
  fed_piece new prefix (Err fail) off is none _ stops = record {
    took = tt;
    refused = λ other more. rw (fed_lines old.tail prefix more sound.unended off, ← is) (stops other (lines_of more));
  }

  -- A piece that ends no physical line.
  pub kept_piece : {bytes tail : Bytes} → list_any is_line_feed bytes ≡ false → tail ≡ old.tail ++ bytes
      → TookPiece old (record old { tail = tail }) bytes
  kept_piece {bytes} off are = record {
    same = λ more. rw (are, append_assoc old.tail bytes more) refl;
    counted = omega (arith, count_none bytes off);
  }

  pub long_piece : (bytes : Bytes) {number : ℕ} → list_any is_line_feed bytes ≡ false
      → number ≡ number_by old.joined old.next old.begun
      → 65537 - (length old.joined + length old.tail) < length bytes → RefusesPiece old bytes (Limit Line number)
  long_piece bytes {number} off is long more =
      let whole = old.tail ++ bytes in
      let size : length whole ≡ length old.tail + length bytes = length-append old.tail bytes in
      let first = first_line whole more (search (rules, list_any-append)) (omega arith) in
      rw (← append_assoc old.tail bytes more, first.2) (long_line sound first.0 is (omega arith) first.1)

  -- The end of the text is that of its last line.
  pub ended_tail : {T : Type 0} (new : KeptText) {line : Bytes} (r : Result T ObjFail) → 0 < length old.tail
      → line ≡ line_of old.tail → OnOk r (TookLine (record old { tail = [] }) new line)
      → IfErr r (λ fail. fail ≢ Memory → RefusesLine (record old { tail = [] }) line fail) → record {
        same : OnOk r (soup_with old [] ≡ soup_with_lines new []);
        refused : IfErr r (λ fail. fail ≢ Memory → soup_with old [] ≡ Err fail);
      }
  ended_tail new {line} r some is took stops =
      let ends : soup_with old [] ≡ soup_with_lines old (line ∷ []) =
      rw (append-nil old.tail, lines_open old.tail sound.unended some, is) refl in
      record {
        same = on_ok_weaker r (λ took. ends ∙ took.same []) took;
        refused = refused_as r stops (λ fail at. ends ∙ at []);
      }

-- Pieces one behind the other.
pub both_taken : {a b c : KeptText} {x y : Bytes} → TookPiece a b x → TookPiece b c y → TookPiece a c (x ++ y)
both_taken {x = x} {y = y} first second = record {
  same = λ more. rw (append_assoc x y more) (first.same (y ++ more) ∙ second.same more);
  counted = omega (arith, count_append x y);
}

pub refused_behind : {a b : KeptText} {x : Bytes} (y : Bytes) (fail : ObjFail) → TookPiece a b x → RefusesPiece b y fail
    → RefusesPiece a (x ++ y) fail
refused_behind {x = x} y fail first stops = λ more. rw (append_assoc x y more) (first.same (y ++ more) ∙ stops more)

pub takes_behind : {T : Type 0} {a b : KeptText} (c : KeptText) {x : Bytes} (y : Bytes) (r : Result T ObjFail)
    → TookPiece a b x → OnOk r (TookPiece b c y) → IfErr r (λ fail. fail ≢ Memory → RefusesPiece b y fail)
    → Takes a c (x ++ y) r
takes_behind c y (Ok v) first took _ = record { took = both_taken first took; refused = tt }
takes_behind c y (Err fail) first _ stops =
    record { took = tt; refused = λ other. refused_behind _ fail first (stops other) }

pub refused_before : (a : KeptText) (x y : Bytes) (fail : ObjFail) → RefusesPiece a x fail
    → RefusesPiece a (x ++ y) fail
refused_before a x y fail stops = λ more. rw (append_assoc x y more) (stops (y ++ more))

-- The texts for which a feed stands, with one piece more: where it is taken, refused, or ignored.
stands_next : {old new : Fed} (piece : Bytes) {text : Bytes}
    → ((more : Bytes) → answer_with old (piece ++ more) ≡ answer_with new more)
    → (new.refused ≡ None → (old.refused ≡ None) × (new.kept.next ≡ old.kept.next + count_by is_line_feed piece))
    → StandsFor old text → StandsFor new (text ++ piece)
stands_next piece {text} same counted stands = record {
  answers = λ more. rw (append_assoc text piece more) (sym (same more) ∙ stands.answers (piece ++ more));
  counted = λ none. let is = counted none in omega (arith, stands.counted is.0, is.1, count_append text piece);
}

pub stands_more : {old new : KeptText} {refused : Option ObjFail} {piece text : Bytes} → false ≡ is_some refused
    → TookPiece old new piece → StandsFor (record { kept = old; refused = refused }) text
    → StandsFor (record { kept = new; refused = refused }) (text ++ piece)
stands_more {old} {new} {refused} {piece} none took stands = search (rules, stands_next)

pub stands_refused : {old : KeptText} (new : KeptText) {refused : Option ObjFail} (piece : Bytes) {text : Bytes}
    {fail : ObjFail}
    → false ≡ is_some refused → RefusesPiece old piece fail → StandsFor (record { kept = old; refused = refused }) text
    → StandsFor (record { kept = new; refused = Some fail }) (text ++ piece)
stands_refused {old} new {refused} piece {text} {fail} none stops stands = search (rules, stands_next)

pub stands_still : {kept : KeptText} {refused : Option ObjFail} (piece : Bytes) {text : Bytes} → true ≡ is_some refused
    → StandsFor (record { kept = kept; refused = refused }) text
    → StandsFor (record { kept = kept; refused = refused }) (text ++ piece)
stands_still {kept} {refused} piece some stands = search (rules, stands_next)

-- What a feed that stands for a text answers at its end.
pub stands_end : {fed : Fed} {text : Bytes} {answer : Result FaceSet ObjFail} → answer_with fed [] ≡ answer
    → StandsFor fed text → soup_in text ≡ answer
stands_end {text = text} is stands = rw append-nil at (sym (stands.answers [])) ∙ is

-- Texts that were read whole.

-- A source gave one piece more to a feed.
pub fed_more : {before mid now : Told} {old new : Fed} {count more : ℕ} → FedTo before mid count old
    → FedPiece mid now old new more → FedTo before now (count + more) new
fed_more {before} {mid} {now} fed piece = grind (arith, common_steps, piece.stands fed.text fed.stands)

-- It gave its last piece.
pub fed_whole : {limit count : ℕ} {before now : Told} {fed : Fed} → FedTo before now count fed → count ≤ limit
    → IsEmptied now → FedWhole limit before now fed
fed_whole to few ended = search rules

-- It gave more than it may.
pub gave_beyond : {limit room : ℕ} {before mid now : Told} {fed : Fed} → FedTo before mid (limit - room) fed
    → room ≤ limit → GaveMore room mid now → GaveMore limit before now
gave_beyond {before = before} {mid} {now} to few more = grind (arith, common_steps, length-append to.text more.piece)
