use Rattle.def_layout.specs.{Arcs.long_at, Layouts.gluing_of, Layouts.layout_of}
use Rattle.qm_layoutnet.specs.Ends.{AreEnds, PatchesBelow}
use Rattle.{std.proofs.Common.◌≡◌, std.proofs.Common.length, def_flow.specs.declared.net.Settings.Settings}

-- the slots of the patches below p are done
abbrev pub invariant-loop-p : Rattle.qm_layoutnet.proofs.build.put_all_ends.Given.invariant-loop-p
invariant-loop-p l = record {
  done : (set : Settings)
      → AreEnds (gluing_of (layout_of l.t)) (long_at (layout_of l.t).arcs) set (PatchesBelow 0) l.initial.arcs
      → AreEnds (gluing_of (layout_of l.t)) (long_at (layout_of l.t).arcs) set (PatchesBelow l.p) l.arcs;
  long : length l.arcs ≡ length l.initial.arcs;
}
