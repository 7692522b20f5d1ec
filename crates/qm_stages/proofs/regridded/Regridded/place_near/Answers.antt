use Rattle.{std.proofs.Common.◌∙◌, std.proofs.Common.ap, def_remesh.specs.CutSoups.Regrid}
use Rattle.qm_stages.proofs.regridded.Regridded.place_near.Goals as goal

pub place_near-requires : goal.place_near-requires
place_near-requires c = record {
  layout = rw (c.mesh.ensures ∙ ap (λ (new : Regrid). new.soup.faces) c.self.view_is, c.placed.ensures.layout)
      c.placed.ensures.laid;
  positions = cc (c.pos.ensures.each, c.mesh.ensures);
  vertex = rw (← c.placed.ensures.layout, ← c.placed.ensures.lengths) at c.requires.vertex;
}

pub returns : goal.returns
returns c =
    let is = c.placed.ensures in
    let faces = c.mesh.ensures ∙ ap (λ (new : Regrid). new.soup.faces) c.self.view_is in
    let places = c.pos.ensures.value ∙ ap (λ (new : Regrid). new.soup.pos) c.self.view_is in
    record {
      value = cc (c.place_near.ensures.value, faces, is.layout, places, is.shares, is.lengths);
      between = rw (← places) c.place_near.ensures.between;
    }
