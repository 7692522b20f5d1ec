use Rattle.std.proofs.{Common.ℕ, Common.◌<◌, Common.pos, Common.length, Common.arith, lemmas.Int.ints}
use Rattle.{std.proofs.lemmas.List.get_or_read, def_matching.specs.Dual.DualLists, def_matching.specs.Dual.dual}

pub returns : Rattle.qm_dual.proofs.loads.load_of.Goals.returns
returns c =
    let n : ℕ = c.args.d.now.n in
    let d : DualLists = dual c.args.d.now.whole.now in
    let u : ℕ = c.args.edge.now.u in
    let v : ℕ = c.args.edge.now.v in
    let low_u : u < length d.y = omega (arith, c.args.d.now.numbers, c.requires.ends) in
    let low_v : v < length d.y = omega (arith, c.args.d.now.numbers, c.requires.ends) in
    let read_u = get_or_read d.y u c.index.result.now low_u c.index.ensures (pos 0) in
    let read_v = get_or_read d.y v c.index-2.result.now low_v c.index-2.ensures (pos 0) in
    let small_u = c.args.d.now.small.small_y u low_u in
    let small_v = c.args.d.now.small.small_y v low_v in
    rw (← c.set_around_vertex-first.ensures.value, ← c.set_around_vertex-second.ensures.value)
    (omega (arith, ints, c.crossing_sum.ensures))
