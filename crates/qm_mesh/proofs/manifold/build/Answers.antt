use Rattle.std.proofs.Common.{arith}
use Rattle.qm_mesh.proofs.{Corners.refused_place, Vertices.below_from, Vertices.corners_from}
use Rattle.qm_mesh.proofs.manifold.build.Goals as goal

pub returns-clause-place : goal.returns-clause-place
returns-clause-place c p e = refused_place c.args.faces.now p _ c.checked_mesh.ensures.refusal e

pub invariant_of-checked_mesh : goal.invariant_of-checked_mesh
invariant_of-checked_mesh c = record {
  are = record {
    small = omega (arith, c.ranges.vertices.fits);
    few = c.requires.few;
    four = c.told-faces;
    within = below_from c.args.faces.now c.told-faces c.args.vertices c.requires.within;
    used = c.requires.used;
    corners = corners_from c.args.faces.now c.told-faces c.args.vertices c.requires.used;
  };
}
