use Rattle.map_laws.proofs.{OldPoints.spacing_is, SpotPlaces.spot_law}
use Rattle.{std.proofs.Common.◌≡◌, def_map.specs.Spots.spot_at, def_remesh.specs.NewPoints.lengths_in}
use Rattle.qm_stages.proofs.regridded.Regridded.spot_near.Goals as goal

pub spot_near-requires : goal.spot_near-requires
spot_near-requires c = record {
  vertex = rw (← c.placed.ensures.layout, ← c.placed.ensures.lengths) at c.requires.vertex;
}

pub returns : goal.returns
returns c =
    let new = c.args.self.now in
    let is = c.placed.ensures in
    let value : c.spot_near.result ≡ spot_at new.layout new.shares (lengths_in new.lengths) c.args.v =
    cc (c.spot_near.ensures, is.layout, is.shares, is.lengths) in
    let spacing = spacing_is new.layout is.laid.0 (lengths_in new.lengths) is.even is.few new.shares in
    record { value = value; spot = rw value (spot_law _ _ _ _ is.laid is.even spacing c.args.v c.requires.vertex).0 }
