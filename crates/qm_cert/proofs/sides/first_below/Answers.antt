use Rattle.std.proofs.Common.{rules, ◌≡◌, ℕ, ◌<◌, List, true, sym, length, slice_index, nat_lt, lt-ltb, ◌∙◌, ap, arith}
use Rattle.{std.proofs.lemmas.List.get_or_default, def_flow.specs.Network.arc_at, def_flow.specs.declared.net.Arc.Arc}
use Rattle.qm_dual.proofs.Gathered.{least_none, least_some}
use Rattle.qm_cert.proofs.sides.first_below.Goals as goal

pub returns-then-entry-from-clause-least : goal.returns-then-entry-from-clause-least
returns-then-entry-from-clause-least c =
    let arcs : List Arc = c.args.lengths.now.net.whole.now.arcs.items in
    let xs : List ℕ = c.args.lengths.now.x.now in
    let k : ℕ = c.loop-k.k in
    let low : k < length arcs = omega (arith, c.args.lengths.now.all.count, c.loop-k-test.true) in
    let arc : c.index.result.now ≡ arc_at arcs k = c.index.ensures ∙ get_or_default arcs k _ _ low in
    let floor : c.from.result ≡ (arc_at arcs k).floor = c.from.ensures ∙ ap (λ (a : Arc). a.floor) arc in
    let on : nat_lt (slice_index xs k) (arc_at arcs k).floor ≡ true =
    lt-ltb _ _ (omega (arith, c.if-entry-from.true, floor)) in
    sym (least_some (λ k. nat_lt (slice_index xs k) (arc_at arcs k).floor) (length arcs) k low c.loop-k.invariant on)

pub returns-clause-least : goal.returns-clause-least
returns-clause-least c = search (rules, least_none)
