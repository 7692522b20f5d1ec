use Rattle.std.proofs.{Common.◌∙◌, lemmas.Bool.false≢true, lemmas.Int.to_z-of_z}
use Rattle.{def_flow.specs.Network.network, qm_solve.proofs.Starts.near_is, qm_solve.proofs.Starts.start_lengths}
use Rattle.qm_solve.proofs.start.is_start.Goals.{then-not-are_lengths-via-else-not-are_lengths+then-not-admissible}
use Rattle.qm_solve.proofs.start.is_start.Goals.{then-not-are_lengths-via-then-not-are_lengths}
use mir.Syntax.{w128}
use Rattle.qm_solve.proofs.start.is_start.Goals as goal

pub returns-then-not-are_lengths : goal.returns-then-not-are_lengths
returns-then-not-are_lengths c = (
  λ no. absurd (false≢true no),
  λ from. elim c.then-not-are_lengths.branch [
    | then-not-are_lengths-via-then-not-are_lengths w ↦
        let lengths = start_lengths (network c.args.net.now.whole.now) c.args.x.now c.args.net.now.bounds from in
        cc (c.are_lengths.ensures.1 lengths, w.if-not-are_lengths.true)
    | then-not-are_lengths-via-else-not-are_lengths+then-not-admissible w ↦
        cc (w.admissible.ensures.1 from.admissible, w.if-not-admissible.true)
  ],
)

pub returns : goal.returns
returns c = near_is (network c.args.net.now.whole.now) c.args.x.now c.is_near.ensures
    (to_z-of_z w128 c.deviation.result (record { sfits = c.deviation.type_inv }) ∙ c.deviation.ensures)
    (c.are_lengths.ensures.0 c.if-not-are_lengths.false) (c.admissible.ensures.0 c.if-not-admissible.false)
