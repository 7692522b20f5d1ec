use Rattle.def_remesh.specs.NewPoints.{lengths_in}
use Rattle.qm_place.specs.{OnArcs.spacing_on, Pushed.on_arc, Pushed.ArePushed}

abbrev pub invariant-loop-offset : Rattle.qm_place.proofs.sides.push_arc.Given.invariant-loop-offset
invariant-loop-offset l = ArePushed l.fn.parameters.items l.parameters.items l.offset
    (on_arc (spacing_on l.places) l.before (lengths_in l.places.lengths.now l.fn.used.arc) l.fn.used l.back)
