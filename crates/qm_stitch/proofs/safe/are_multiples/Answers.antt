use Rattle.std.proofs.Common.{◌≡◌, ◌<◌, length, get_or, refl, rules, arith}
use Rattle.def_layout.specs.{Arcs.long_at, Layouts.layout_of, declared.tmesh.TArc.TArc, declared.tmesh.TMesh.TMesh}
use Rattle.{qm_stitch.proofs.Grids.counts, qm_stitch.proofs.SafeLengths.times_found, std.proofs.lemmas.List.get_or-map}

first_old : (t : TMesh) (arc : TArc) → 0 < length t.arcs.items → arc ≡ get_or t.arcs.items 0 arc
    → length arc.darts.items ≡ long_at (layout_of t).arcs 0
first_old t arc some read = search (rules, get_or-map)

pub returns-then-old-gt0 : Rattle.qm_stitch.proofs.safe.are_multiples.Goals.returns-then-old-gt0
returns-then-old-gt0 c =
    let stretched = c.args.stretched.now in
    let some : 0 < length stretched.lengths.now = search rules in
    let old = first_old stretched.t.now c.index.result.now (omega (arith, some, stretched.long)) c.index.ensures in
    times_found (layout_of stretched.t.now) stretched.lengths.now (omega counts) stretched.even some
    (omega (arith, c.len-old.ensures, c.index.result.now.darts.ok.0, old)) c.if-old-gt0.true refl c.are_times.ensures
