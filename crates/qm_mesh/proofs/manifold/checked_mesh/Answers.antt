use Rattle.std.proofs.{Common.◌≡◌, Common.ℕ, Common.length, Common.ap, Common.arith, lemmas.List.length-map}
use Rattle.{smallvec.specs.SmallVec.SmallVec, qm_mesh.proofs.Vertices.count_is}
use Rattle.qm_mesh.proofs.manifold.checked_mesh.Goals as goal

pub from_tables-requires : goal.from_tables-requires
from_tables-requires c =
    let quads = c.args.quads.now in
    let e = count_is quads.faces.now quads.vertices quads.are.within quads.are.corners in
    record {
      mesh = record {
        manifold = record {
          repeat_free = c.in_ok-check_repeats.ensures.ok;
          edges_once = c.in_ok-twins.ensures.once;
          one_fan = c.in_ok-check_fans.ensures.ok;
        };
        few = quads.are.few;
        used = rw e quads.are.used;
      };
      small = omega (arith, e, quads.are.small);
      partners = c.in_ok-twins.ensures.ok;
      each_fan = rw e c.in_ok-fans.ensures;
    }

pub check_fans-requires : goal.check_fans-requires
check_fans-requires c =
    let quads = c.args.quads.now in
    let count = length-map c.in_ok-fans.fans.items (λ (fan : SmallVec ℕ). fan.items) in
    let long : length c.deref-2.result.now ≡ quads.vertices =
    omega (arith, ap length c.deref-2.ensures.value, c.in_ok-fans.ensures.long) in
    record {
      few = quads.are.few;
      repeat_free = c.in_ok-check_repeats.ensures.ok;
      once = c.in_ok-twins.ensures.once;
      within = rw long quads.are.within;
      used = rw long quads.are.corners;
      small = omega (arith, long, quads.are.small);
      each_fan = rw long (rw c.deref-2.ensures.value c.in_ok-fans.ensures);
      partners = rw c.deref-3.ensures.value c.in_ok-twins.ensures.ok;
    }
