use Rattle.std.proofs.lemmas.Grind.{common_steps}
use Rattle.std.proofs.Common.{rules, List, arith, drop, length, refl, slice_index, slice_index_or, take, ℕ, ◌+◌, ◌-◌}
use Rattle.std.proofs.Common.{◌<◌, ◌∙◌, [], ap, ◌∷◌, ◌≡◌, ◌≤◌}
use Rattle.qm_io.proofs.Cuts.{begin, end-begin, end-there, end-within, piece-cut, piece-there}
use Rattle.{def_io.specs.Lines.lines_of, def_io.specs.Lines.pieces, qm_io.specs.Ends.ends_from}
use Rattle.qm_io.proofs.lines.piece_at.Goals as goal

-- The two ends of a piece, as the table of ends has them, and the piece between them.
module _ (bs : List ℕ) {es : List ℕ} {i start end : ℕ} (cut : es ≡ ends_from 0 (pieces bs))
    (first : start ≡ slice_index (0 ∷ es) i) (last : end ≡ slice_index es i) (l : i < length (lines_of bs)) where
  start_is : start ≡ begin 0 (pieces bs) i
  start_is = rw (first, cut) refl

  end_is : end ≡ begin 0 (pieces bs) i + length (slice_index_or (pieces bs) i [])
  end_is = rw (last, cut) (end-begin 0 (pieces bs) i (piece-there bs i l))

  in_order : start ≤ end
  in_order = omega (arith, start_is, end_is)

  within : end ≤ length bs
  within = omega (arith, rw cut at last, end-within bs i (piece-there bs i l))

  cut_out : take (end - start) (drop start bs) ≡ slice_index_or (pieces bs) i []
  cut_out = grind (arith, common_steps, pieces, start_is, end_is, take, drop, piece-cut, piece-there)

pub start_of-requires : goal.start_of-requires
start_of-requires c = omega (arith, end-there c.args.bytes.now c.args.ends.now c.args.i c.requires.cut c.requires.there)

pub end_of-requires : goal.end_of-requires
end_of-requires c = omega (arith, end-there c.args.bytes.now c.args.ends.now c.args.i c.requires.cut c.requires.there)

pub slice_bounds-result-count : goal.slice_bounds-result-count
slice_bounds-result-count c = search (rules, in_order)

pub slice_bounds-result-start : goal.slice_bounds-result-start
slice_bounds-result-start c = search (rules, in_order)

pub slice_bounds-result-end : goal.slice_bounds-result-end
slice_bounds-result-end c = within c.args.bytes.now c.requires.cut c.start_of.ensures c.end_of.ensures c.requires.there

pub returns : goal.returns
returns c = cut_out c.args.bytes.now c.requires.cut c.start_of.ensures c.end_of.ensures c.requires.there
