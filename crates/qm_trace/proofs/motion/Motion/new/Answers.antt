use Rattle.std.proofs.lemmas.Grind.{common_steps}
use Rattle.std.proofs.Common.{rules, ◌≡◌, false, length, replicate, sym, ap, ◌∙◌, refl, arith, []}
use Rattle.std.proofs.lemmas.List.{length-map}
use Rattle.def_mesh.specs.{Vertices.vertex_count, Components.start_darts}
use Rattle.qm_trace.proofs.Fewer.{first_counted, first_stood, first_waits}
use Rattle.{def_cut.specs.Motion.begun, site_laws.proofs.Sites.started}
use Rattle.qm_trace.proofs.motion.Motion.new.Goals as goal

pub invariant_of-trail : goal.invariant_of-trail
invariant_of-trail c = search (rules, started)

pub invariant_of-result : goal.invariant_of-result
invariant_of-result c =
    let many : c.len-many.result ≡ length c.args.src.now.starts.items =
    c.len-many.ensures ∙ c.args.src.now.starts.ok.0 in
    let list = rw c.deref.ensures.value at c.in_ok-list.ensures in
    let noted = rw many at c.in_ok-notes.ensures.none in
    let starts = c.in_ok-starts.ensures.items ∙ c.deref-3.ensures.value in
    record {
      notes_are = c.in_ok-notes.ensures.notes;
      taken_long = c.in_ok-notes.ensures.long ∙ (grind (arith, common_steps));
      counted = first_counted c.args.src.now.starts.items list many refl noted;
      waits_is = many ∙ rw (list, noted) (first_waits c.args.src.now.starts.items);
      starts_long = ap length starts ∙ sym (ap length list ∙ length-map c.args.src.now.starts.items begun);
      untold_yet = c.in_ok-told.ensures.items;
      has_room = omega (arith, ap length starts, c.in_ok-told.ensures.capacity);
    }

pub returns-clause-first : goal.returns-clause-first
returns-clause-first c =
    let many : c.len-many.result ≡ length (start_darts c.args.mesh.now) = grind arith in
    let nowhere : c.in_ok-nowhere.nowhere.items ≡ replicate (vertex_count c.args.mesh.now) false = search rules in
    search (
      rules,
      first_stood c.faces.ensures.mesh.manifold nowhere c.leave-stood.ensures.long
          (c.deref-2.ensures.value ∙ c.requires.starts) c.leave-stood.ensures.each,
    )

pub returns-clause-motion : goal.returns-clause-motion
returns-clause-motion c = record { reached = ([], sym (returns-clause-first c)); started = search rules }
