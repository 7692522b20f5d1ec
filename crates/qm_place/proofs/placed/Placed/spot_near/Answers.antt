use Rattle.std.proofs.Common.{◌≡◌, ◌-◌, ◌*◌, length, ap, ◌∙◌, arith}
use Rattle.def_layout.specs.{Lengths.wide, Lengths.high, Layouts.gluing_of}
use Rattle.{def_written.specs.Numbers.before_arc, def_written.specs.Numbers.before_patch, def_math.specs.Runs.run_at}
use Rattle.qm_place.specs.Lengthened.{layout_in, lengths_by, shares_by}
use Rattle.qm_place.proofs.Casts.{found_in, found_on, in_patch, on_arc}
use Rattle.qm_place.proofs.placed.Placed.spot_near.Goals.{After-spot_near-near, After-spot_near-near-2}
use Rattle.qm_place.proofs.placed.Placed.spot_near.Goals as goal

-- The arc and the patch that are found.
arc_is : (c : After-spot_near-near) → c.spot_near-near.result ≡ run_at (before_arc (lengths_by c.args.self.now))
    (length (layout_in c.args.self.now).arcs) (c.args.v - c.len-nodes.result)
arc_is c = c.spot_near-near.ensures.run (λ b. lengths_by c.args.self.now b - 1)
    (length (layout_in c.args.self.now).arcs) (rw c.deref.ensures.value c.args.self.now.placed.along)

patch_is : (c : After-spot_near-near-2) → c.spot_near-near-2.result
    ≡ run_at (before_patch (gluing_of (layout_in c.args.self.now)) (lengths_by c.args.self.now))
    (length (layout_in c.args.self.now).patches) (c.args.v - c.arcs_end-arcs_end.result)
patch_is c =
    let l = gluing_of (layout_in c.args.self.now) in
    let x = lengths_by c.args.self.now in
    c.spot_near-near-2.ensures.run (λ p. (wide l x p - 1) * (high l x p - 1))
    (length (layout_in c.args.self.now).patches) (rw c.deref-2.ensures.value c.args.self.now.placed.inside)

pub along_spot-requires : goal.along_spot-requires
along_spot-requires c =
    let nodes = c.len-nodes.ensures ∙ c.args.self.now.t.now.nodes.ok.0 in record {
      along = on_arc (layout_in c.args.self.now) (lengths_by c.args.self.now)
          (omega (arith, nodes, c.if-v-nodes.false, c.if-v-arcs_end.true, c.arcs_end-arcs_end.ensures))
          (arc_is (goal.at.along_spot-requires c).After-spot_near-near);
    }

pub returns-then-v-arcs_end : goal.returns-then-v-arcs_end
returns-then-v-arcs_end c =
    let nodes = c.len-nodes.ensures ∙ c.args.self.now.t.now.nodes.ok.0 in
    found_on (layout_in c.args.self.now) (shares_by c.args.self.now) (lengths_by c.args.self.now)
    (omega (arith, c.if-v-nodes.false)) (ap (λ n. c.args.v - n) nodes)
    (omega (arith, c.if-v-nodes.false, c.if-v-arcs_end.true, c.arcs_end-arcs_end.ensures))
    (arc_is (goal.at.returns-then-v-arcs_end c).After-spot_near-near) c.along_spot.ensures

pub inside_spot-requires : goal.inside_spot-requires
inside_spot-requires c = record {
  inside = in_patch (layout_in c.args.self.now) (lengths_by c.args.self.now) (omega arith)
      (patch_is (goal.at.inside_spot-requires c).After-spot_near-near-2);
}

pub returns : goal.returns
returns c = found_in (layout_in c.args.self.now) (shares_by c.args.self.now) (lengths_by c.args.self.now)
    (omega (arith, c.arcs_end-arcs_end.ensures, c.if-v-arcs_end.false))
    (ap (λ n. c.args.v - n) c.arcs_end-arcs_end.ensures) (patch_is (goal.at.returns c).After-spot_near-near-2)
    c.inside_spot.ensures
