use Rattle.qm_gen.proofs.Ranges.{height_more, state_more}

pub loop-preserved : Rattle.qm_gen.proofs.steps.block_heights.Goals.loop-preserved
loop-preserved c = record {
  heights = height_more c.args.n c.loop.counter c.loop.state c.next_state-state.result c.loop.heights.items
      c.push.new.self.items c.loop.invariant.heights c.loop.invariant.state
      c.next_state-state.ensures.next c.in_ok-push.ensures.items;
  state = state_more c.args.n c.loop.counter c.loop.state c.next_state-state.result c.loop.invariant.state
      c.next_state-state.ensures.next;
  small = c.next_state-state.ensures.small;
}
