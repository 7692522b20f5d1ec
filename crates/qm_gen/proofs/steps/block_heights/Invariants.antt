use Rattle.def_gen.specs.{Steps.block_height, Steps.state_after, declared.TheConstants.STATES}
use Rattle.{std.proofs.Common.◌≡◌, std.proofs.Common.◌<◌, std.proofs.Common.map, std.specs.List.range_with_len}

abbrev pub invariant-loop : Rattle.qm_gen.proofs.steps.block_heights.Given.invariant-loop
invariant-loop l = record {
  heights : l.heights.items ≡ map (block_height l.n) (range_with_len 0 l.counter);
  state : l.state ≡ state_after l.n l.counter;
  small : l.state < STATES;
}
