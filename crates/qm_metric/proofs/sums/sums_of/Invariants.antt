use Rattle.std.proofs.Common.{◌≡◌, ◌-◌, ◌*◌, ◌^◌, ◌≤◌, map, take}
use Rattle.def_layout.specs.declared.tmesh.TArc.{TArc}
use Rattle.{std.specs.Prelude.min, def_math.specs.Counts.count, qm_metric.specs.Wishes.wish_along}

abbrev pub invariant-loop-run : Rattle.qm_metric.proofs.sums.sums_of.Given.invariant-loop-run
invariant-loop-run l = record {
  sum : l.sum ≡ count (λ (run : TArc). wish_along l.aim l.cut.soup l.wishes run.darts.items) (take l.run-index l.runs);
  found : l.found.items ≡ map (λ (run : TArc). min (wish_along l.aim l.cut.soup l.wishes run.darts.items) (2 ^ 32 - 1))
      (take l.run-index l.runs);
  small : l.sum ≤ l.run-index * 2 ^ 104;
}
