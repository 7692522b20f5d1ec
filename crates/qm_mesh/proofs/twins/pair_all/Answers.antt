use Rattle.std.proofs.Common.{◌∙◌, arith, inl, inr}
use Rattle.{def_mesh.specs.Darts.to_of, list_laws.proofs.Filters.last_or, qm_mesh.proofs.Marks.lesser_first}

pub loop-v-preserved : Rattle.qm_mesh.proofs.twins.pair_all.Goals.loop-v-preserved
loop-v-preserved c =
    let faces = c.args.ends.now.quads.faces.now in
    let before = c.loop-v.invariant.1 in
    let same = c.mark-found.ensures.same ∙ c.loop-v.invariant.0 in
    let paired = rw same at c.pair_at.ensures in (
      same,
      record {
        long = omega (arith, before.long);
        each = λ e low ends. elim (last_or c.loop-v.v (to_of faces e) ends) [
          | inl b ↦ rw (paired.others e (λ s. absurd (omega (arith, s, b)))) (before.each e low b)
          | inr s ↦ paired.arriving e low s
        ];
        first = lesser_first faces c.loop-v.v _ _ _ before.first (rw c.loop-v.invariant.0 at c.mark-found.ensures.first)
            c.earlier_pair-twice.ensures;
      },
    )
