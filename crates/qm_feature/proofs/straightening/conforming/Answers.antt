use Rattle.std.proofs.Common.{rules, ◌≡◌, ℕ, true, cond, length, sym, ap, ◌∙◌, arith}
use Rattle.{std.proofs.lemmas.List.with_items_is, std.proofs.lemmas.Result.IfOk-weaker, def_cut.specs.FullCut.is_on}
use Rattle.{def_cut.specs.Motion.is_among, feature_laws.proofs.First.origin_of, feature_laws.proofs.Exists.conforms}
use Rattle.{def_mesh.specs.Darts.darts, def_feature.specs.Marked.marked_starts, feature_laws.specs.Leads.AreLed}
use Rattle.qm_feature.proofs.straightening.conforming.Goals as goal

pub mark_starts-requires : goal.mark_starts-requires
mark_starts-requires c d n =
    let items : c.deref_mut.result.now ≡ c.args.marks.now = search rules in
    let starts : c.deref-3.result.now ≡ marked_starts c.args.mesh.now c.args.marks.now = search rules in
    omega (
      arith,
      (origin_of c.args.mesh.now c.args.marks.now d (sym (ap (is_among d) starts) ∙ n)).0,
      ap length items,
      c.requires.marks.long,
    )

pub returns : goal.returns
returns c =
    let items : c.deref_mut.result.now ≡ c.args.marks.now = search rules in
    let starts : c.deref-3.result.now ≡ marked_starts c.args.mesh.now c.args.marks.now = search rules in
    let sources : c.deref-4.result.now ≡ c.mark_starts.new.begun = c.deref-4.ensures.value ∙ with_items_is
    c.in_ok-sources.sources c.mark_starts.new.begun (c.mark_starts.auto.begun ∙ c.deref_mut.ensures.len) in
    let told : (d : ℕ) → is_on c.deref-4.result.now d ≡ cond (is_among d c.deref-3.result.now) true
    (is_on c.args.marks.now d) = λ d. rw (sources, ← items) (c.mark_starts.ensures d) in
    let led : AreLed c.args.mesh.now c.deref-4.result.now c.deref-5.result.now (darts c.args.mesh.now) =
    rw c.deref-5.ensures.value c.in_ok-led.ensures in
    IfOk-weaker c.edges.result _ _ (λ cut is. conforms c.args.mesh.now c.faces-known.ensures.mesh.manifold
    c.args.marks.now c.deref-3.result.now c.deref-4.result.now c.deref-5.result.now cut.items starts told led is)
    c.edges.ensures
