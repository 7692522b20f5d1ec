use Rattle.std.proofs.Common.{sym, subst}
use Rattle.def_remesh.specs.{Placings.ArePlaces, declared.places.PlaceTables.PlaceTables}
use Rattle.{def_layout.specs.Layouts.layout_of, qm_place.proofs.Casts.placed_of}

pub invariant_of-result : Rattle.qm_place.proofs.places.Places.on.Goals.invariant_of-result
invariant_of-result c = record {
  placed = placed_of c.requires.0 (layout_of c.args.t.now) c.self.inside.tables (subst
      (λ (s : PlaceTables). ArePlaces c.requires.0 (layout_of c.args.t.now) s) (sym c.self.view_is) c.requires.1);
}
