use Rattle.std.proofs.Common.{rules, ◌≡◌, suc, ◌^◌, ◌∙◌, ◌+◌, ◌-◌, ◌<◌, ◌≤◌, ℕ, true, false, List, length, get_or, ap}
use Rattle.std.proofs.Common.{arith}
use Rattle.{std.proofs.lemmas.List.get_or_default, def_layout.specs.declared.tmesh.SideArc.SideArc}
use Rattle.def_remesh.specs.{NewPoints.lengths_in, Numberings.sizes_on, Numberings.AreRunStarts}
use Rattle.{std.specs.Prelude.slice_index, def_math.specs.Counts.count_below, written_laws.proofs.Spacings.count_rises}
use Rattle.qm_offsets.proofs.sides.side_starts.Goals as goal

-- The length of the arc at hand.
size_is : (side : List SideArc) (lengths : List ℕ) (k : ℕ) → k < length side
    → sizes_on side (lengths_in lengths) k ≡ get_or lengths (get_or side k (record { arc = 0; forward = false })).arc 0
size_is side lengths k low = ap (λ (used : SideArc). get_or lengths used.arc 0)
    (get_or_default side k (record { arc = 0; forward = true }) (record { arc = 0; forward = false }) low)

-- There is room for it.
room : (side : List SideArc) (lengths starts : List ℕ) (k : ℕ) → k < length side
    → AreRunStarts (sizes_on side (lengths_in lengths)) k starts → count_below (sizes_on side (lengths_in lengths))
    (length side) < 2 ^ 32 → slice_index starts (length starts - 1) + get_or lengths
    (get_or side k (record { arc = 0; forward = false })).arc 0 < 2 ^ 32
room side lengths starts k low are small =
    let upto : count_below (sizes_on side (lengths_in lengths)) (suc k)
    ≤ count_below (sizes_on side (lengths_in lengths)) (length side) =
    count_rises (sizes_on side (lengths_in lengths)) (suc k) (length side) (omega (arith, low)) in
    let last : length starts - 1 ≡ k = omega (arith, are.count) in
    let end : slice_index starts (length starts - 1) ≡ count_below (sizes_on side (lengths_in lengths)) k =
    ap (slice_index starts) last ∙ are.each k (omega arith) in
    omega (arith, upto, small, size_is side lengths k low, end)

pub push_start-requires-clause-small : goal.push_start-requires-clause-small
push_start-requires-clause-small c = search (rules, room)

pub loop-used-preserved : goal.loop-used-preserved
loop-used-preserved c = c.in_ok-push_start.ensures (sizes_on c.args.side.now (lengths_in c.args.lengths.now))
    c.loop-used.used-index c.loop-used.invariant (size_is c.args.side.now c.args.lengths.now c.loop-used.used-index
    c.loop-used-test.true)
