use Rattle.std.proofs.Common.{ℕ, ◌≡◌, ◌*◌, ◌^◌, ◌≤◌, slice_index}
use Rattle.def_math.specs.Counts.{count_below}

abbrev pub invariant-loop-degree : Rattle.qm_net.proofs.tangle.sum_of_squares.Given.invariant-loop-degree
invariant-loop-degree l =
    let degrees = l.degrees.at.items in
    record {
      value : l.total ≡ count_below (λ v. 16 * (slice_index degrees v * slice_index degrees v)) l.degree-index;
      small : l.total ≤ l.degree-index * 2 ^ 72;
      each : (v : ℕ) → slice_index degrees v ≤ 2 ^ 34;
    }
