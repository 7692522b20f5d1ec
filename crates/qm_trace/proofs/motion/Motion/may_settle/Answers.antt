use Rattle.std.proofs.{Common.refl, Common.false, Common.length, Common.ap, Common.◌∙◌, Common.arith}
use Rattle.std.proofs.{lemmas.List.get_or_default}
use Rattle.qm_trace.proofs.{Noting.end_is, Noting.noted_low_at, Fewer.reached_now}
use Rattle.qm_trace.proofs.motion.Motion.may_settle.Goals as goal

pub is_end-ends-requires-clause-taken : goal.is_end-ends-requires-clause-taken
is_end-ends-requires-clause-taken c =
    let now = reached_now c.faces-known.ensures.mesh.manifold c.self.view_is c.requires.motion in
    ap length c.deref.ensures.value ∙ (c.self.invariant.taken_long ∙ now.shown.covered_long)

pub index-requires : goal.index-requires
index-requires c =
    let now = reached_now c.faces-known.ensures.mesh.manifold c.self.view_is c.requires.motion in
    omega (arith, c.requires.vertex, now.shown.settled_long, c.self.inside.settled.ok.0)

pub returns : goal.returns
returns c =
    let now = reached_now c.faces-known.ensures.mesh.manifold c.self.view_is c.requires.motion in
    let ends = end_is _ c.args.v _ _ c.self.invariant.notes_are.taken_is (noted_low_at now) in
    let mark = c.index.ensures ∙ get_or_default c.self.inside.settled.items c.args.v c.index.result.now false
    (omega (arith, c.requires.vertex, now.shown.settled_long)) in
    rw (
      ← c.self.view_is,
      c.all_hold.ensures,
      c.is_end-ends.ensures,
      c.deref.ensures.value,
      ends,
      mark,
      c.self.invariant.waits_is,
    ) refl
