use Rattle.std.proofs.Common.{rules, ◌≡◌, ◌++◌, length, take, drop, sym, ◌∙◌, ap, arith, length-append, length-drop}
use Rattle.std.proofs.{Math.Seq.take-append_seam, lemmas.List.take-append-drop, lemmas.List.Concat.flat_map-append}
use Rattle.def_io.specs.{Bytes.Bytes, Lines.pieces, Lines.tail_of}
use Rattle.{std.specs.List.flat_map, def_run.specs.MarkLines.front_of, remesh_laws.proofs.Tails.flat-pieces}

-- The bytes in front of a line are all but those from it on.
pub returns-clause-front : Rattle.qm_check.proofs.parts.Divided.old_text.Goals.returns-clause-front
returns-clause-front c =
    let text = c.args.self.now in
    let line = text.head.line in
    let front : Bytes = front_of line text.bytes.now in
    let behind : Bytes = tail_of line text.bytes.now in
    let cut : c.split_at.result.0.now ≡ take text.head.at text.bytes.now = search rules in
    let parts : front ++ behind ≡ text.bytes.now =
    sym (flat_map-append (λ p. p) (take line (pieces text.bytes.now)) (drop line (pieces text.bytes.now)))
    ∙ (ap (flat_map (λ p. p)) (take-append-drop line (pieces text.bytes.now)) ∙ flat-pieces text.bytes.now) in
    let both = length-append front behind in
    let rest = length-drop text.head.at text.bytes.now in
    let place : text.head.at ≡ length front =
    omega (arith, text.cuts.within, ap length text.cuts.written, ap length parts) in
    cut ∙ (λ i. take (place i) (sym parts i)) ∙ take-append_seam front behind
