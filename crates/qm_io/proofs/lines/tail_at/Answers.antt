use Rattle.std.proofs.Common.{List, ap, arith, drop, length, slice_index, take, ℕ, ◌-◌, ◌<◌, ◌∙◌, ◌∷◌, ◌≡◌, ◌≤◌}
use Rattle.{std.proofs.lemmas.List.take_rest, qm_io.specs.Ends.ends_from}
use Rattle.qm_io.proofs.Cuts.{begin-within, end-there, piece-there, tail-cut}
use Rattle.def_io.specs.Lines.{lines_of, tail_of, pieces}
use Rattle.qm_io.proofs.lines.tail_at.Goals as goal

module _ (bs : List ℕ) {es : List ℕ} {i start : ℕ} (cut : es ≡ ends_from 0 (pieces bs))
    (is : start ≡ slice_index (0 ∷ es) i) (l : i < length (lines_of bs)) where
  starts_within : start ≤ length bs
  starts_within = omega (arith, rw cut at is, begin-within bs i (piece-there bs i l))

  is_tail : take (length bs - start) (drop start bs) ≡ tail_of i bs
  is_tail = take_rest bs start ∙ ap (λ (m : ℕ). drop m bs) (rw cut at is) ∙ tail-cut bs i (piece-there bs i l)

pub start_of-requires : goal.start_of-requires
start_of-requires c = omega (arith, end-there c.args.bytes.now c.args.ends.now c.args.i c.requires.cut c.requires.there)

pub slice_bounds-result-count : goal.slice_bounds-result-count
slice_bounds-result-count c = starts_within c.args.bytes.now c.requires.cut c.start_of.ensures c.requires.there

pub slice_bounds-result-start : goal.slice_bounds-result-start
slice_bounds-result-start c = starts_within c.args.bytes.now c.requires.cut c.start_of.ensures c.requires.there

pub returns : goal.returns
returns c = is_tail c.args.bytes.now c.requires.cut c.start_of.ensures c.requires.there
