use Rattle.{std.proofs.Common.◌∙◌, std.proofs.Common.ap, qm_place.proofs.Casts.short_spot}
use Rattle.qm_place.specs.Lengthened.{lengths_by, layout_in, shares_by}
use Rattle.{qm_place.proofs.Rims.lies_between, def_map.specs.SpotPlaces.spot_place, map_laws.proofs.SpotPlaces.spot_law}
use Rattle.qm_place.proofs.placed.Placed.place_near.Goals as goal

pub place_there-requires-clause-spot : goal.place_there-requires-clause-spot
place_there-requires-clause-spot c =
    let placed = c.args.self.now in
    rw c.spot_near.ensures (spot_law c.args.mesh.now (layout_in placed) (shares_by placed) (lengths_by placed)
    c.requires.layout placed.placed.lengths placed.placed.spacing c.args.v c.requires.vertex).0

pub place_there-requires-clause-short : goal.place_there-requires-clause-short
place_there-requires-clause-short c =
    let placed = c.args.self.now in
    rw c.spot_near.ensures (short_spot (layout_in placed) (shares_by placed) placed.placed.short c.requires.vertex)

pub returns-clause-value : goal.returns-clause-value
returns-clause-value c =
    let placed = c.args.self.now in
    c.place_there.ensures ∙ ap (spot_place c.args.mesh.now c.args.pos.now) c.spot_near.ensures
    ∙ (spot_law c.args.mesh.now (layout_in placed) (shares_by placed) (lengths_by placed) c.requires.layout
    placed.placed.lengths placed.placed.spacing c.args.v c.requires.vertex).1 c.args.pos.now

pub returns-clause-between : goal.returns-clause-between
returns-clause-between c =
    let placed = c.args.self.now in
    rw (returns-clause-value c) (lies_between c.args.mesh.now (layout_in placed) (shares_by placed) (lengths_by placed)
    c.args.pos.now c.requires.layout placed.placed.lengths placed.placed.spacing c.requires.positions c.requires.vertex)
