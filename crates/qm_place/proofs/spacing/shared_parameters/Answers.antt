use Rattle.std.proofs.Common.{◌≡◌, ◌+◌, ◌-◌, ◌<◌, ℕ, List, [], length, sym, ◌∙◌, ap, inl, inr, arith}
use Rattle.{std.proofs.lemmas.Bool.cases_lt, qm_offsets.proofs.Spots.count_step}
use Rattle.{std.proofs.lemmas.List.get_or-map, std.proofs.lemmas.List.length-map, def_written.specs.Numbers.before_arc}
use Rattle.def_layout.specs.{Arcs.path, Arcs.path_at, Arcs.Path, Layouts.layout_of, declared.tmesh.TArc.TArc}
use Rattle.{def_remesh.specs.NewPoints.lengths_in, written_laws.proofs.Spacings.place_low}
use Rattle.qm_place.proofs.{Rims.read_short, Rims.arc_parameter, spacing.shared_parameters.Goals.After-deref}
use Rattle.qm_place.proofs.spacing.shared_parameters.Goals as goal

-- The arc is one of the layout, and the darts are its own.
arc_low : (c : After-deref) → c.loop-arc.arc < length c.args.t.now.arcs.items
arc_low c = omega arith

darts : (c : After-deref) → c.deref.result.now ≡ (path_at (layout_of c.args.t.now).arcs c.loop-arc.arc).darts
darts c = c.deref.ensures.value ∙ ap (λ (z : TArc). z.darts.items) c.index.ensures
    ∙ sym (ap (λ (q : Path). q.darts) (get_or-map path _ _ _ (record { first = 0; last = 0; darts = [] }) (arc_low c)))

pub invariant_of-darts : goal.invariant_of-darts
invariant_of-darts c =
    let at = (goal.at.invariant_of-darts c).After-deref in
    record {
      some = omega (
        arith,
        ap (λ (ds : List ℕ). length ds) (darts at),
        c.requires.fine.old_some c.loop-arc.arc (omega (arith, arc_low at, length-map c.args.t.now.arcs.items path)),
      );
      few = omega (
        arith,
        ap (λ (ds : List ℕ). length ds) c.deref.ensures.value,
        read_short c.args.t.now c.requires.fine (arc_low at) c.index.ensures,
      );
    }

pub push_shared-requires : goal.push_shared-requires
push_shared-requires c =
    let at = (goal.at.push_shared-requires c).After-deref in
    c.requires.fine.lengths.some c.loop-arc.arc (omega (arith, arc_low at, length-map c.args.t.now.arcs.items path))

pub loop-arc-preserved : goal.loop-arc-preserved
loop-arc-preserved c =
    let x = lengths_in c.args.lengths.now in
    let long = c.loop-arc.invariant.long in
    record {
      long = omega (arith, c.in_ok-push_shared.ensures.long, long, count_step (λ b. x b - 1) c.loop-arc.arc);
      each = λ arc k low some less. elim (cases_lt arc c.loop-arc.arc) [
        | inl before ↦ c.in_ok-push_shared.ensures.kept (before_arc x arc + k - 1)
            (omega (arith, long, place_low (λ b. x b - 1) c.loop-arc.arc arc (k - 1) before (omega (arith, less))))
            ∙ c.loop-arc.invariant.each arc k before some less
        | inr more ↦
            let same : arc ≡ c.loop-arc.arc = omega (arith, low, more) in
            let here = rw same at less in
            let place : before_arc x c.loop-arc.arc + k - 1 ≡ length c.loop-arc.parameters.items + (k - 1)
            = omega (arith, long, some) in
            rw (same, place) (c.in_ok-push_shared.ensures.each (k - 1) (omega (arith, some, here))
            ∙ arc_parameter (layout_of c.args.t.now) x c.args.shares.now c.loop-arc.arc
            (darts (goal.at.loop-arc-preserved c).After-deref) some here)
      ];
    }

pub returns : goal.returns
returns c = record {
  long = c.loop-arc.invariant.long ∙ ap (before_arc (lengths_in c.args.lengths.now)) all;
  each = λ arc k low some less. c.loop-arc.invariant.each arc k (omega (arith, low, all)) some less;
}
  where
    all : c.loop-arc.arc ≡ length (layout_of c.args.t.now).arcs
    all = omega (arith, length-map c.args.t.now.arcs.items path)
