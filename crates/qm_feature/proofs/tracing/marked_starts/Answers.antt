use Rattle.std.proofs.Common.{rules, ◌≡◌, ◌<◌, Bool, false, not, ◌&&◌, length, replicate, sym, ap, ◌∙◌, refl, arith, ℕ}
use Rattle.std.proofs.lemmas.List.{get_or_read, length-map, length-replicate, with_items_is, append-nil}
use Rattle.{std.proofs.lemmas.List.FromFn.length-range_with_len, def_feature.specs.Marked.is_origin}
use Rattle.{def_mesh.specs.Darts.darts, qm_feature.proofs.tracing.marked_starts.Goals.then-starts_at+in_ok-push}
use Rattle.qm_feature.proofs.{tracing.marked_starts.Goals.else-starts_at, Origins.starts_told}
use Rattle.{list_laws.proofs.Filters.filter_range_more, def_cut.specs.FullCut.is_on, site_laws.proofs.Sites.started}
use Rattle.qm_feature.proofs.tracing.marked_starts.Goals as goal

pub mark_starts-requires : goal.mark_starts-requires
mark_starts-requires c d n = search (rules, started, length-replicate)

pub leaves_break-requires-clause-long : goal.leaves_break-requires-clause-long
leaves_break-requires-clause-long c = search (rules, length-map, length-range_with_len)

pub loop-d-preserved : goal.loop-d-preserved
loop-d-preserved c =
    let items : c.in_ok-begun.begun.items ≡ replicate (darts c.args.mesh.now) false = search rules in
    let low : c.loop-d.d < darts c.args.mesh.now = omega (arith, c.loop-d-test.true, ap length c.faces.ensures.value) in
    let found = rw (with_items_is c.in_ok-begun.begun c.mark_starts.new.begun
    (c.mark_starts.auto.begun ∙ c.deref_mut.ensures.len)) at c.index.ensures in
    let begun = get_or_read c.mark_starts.new.begun c.loop-d.d c.index.result.now (omega (
      arith,
      low,
      c.mark_starts.auto.begun,
      ap length (c.deref_mut.ensures.value ∙ items),
      length-replicate (darts c.args.mesh.now) false,
    )) found false in
    let is_start : ℕ → Bool = λ d. is_origin c.args.mesh.now c.args.marks.now d && not (is_on c.args.marks.now d) in
    let t : c.starts_at.result ≡ is_start c.loop-d.d = starts_told c.args.mesh.now c.args.marks.now
    c.mark_starts.new.begun c.loop-d.d low c.requires.starts (c.deref_mut.ensures.value ∙ items) c.mark_starts.ensures
    c.requires.breaks begun c.leaves_break.ensures refl c.starts_at.ensures in
    let more = filter_range_more is_start c.loop-d.d in
    elim c.if-starts_at.branch [
      | then-starts_at+in_ok-push w ↦
          rw (w.found-is, w.in_ok-push.ensures.items, more, sym t ∙ w.if-starts_at.true, c.loop-d.invariant) refl
      | else-starts_at w ↦ rw (w.found-is, more, sym t ∙ w.if-starts_at.false, append-nil) c.loop-d.invariant
    ]
