use Rattle.std.proofs.Common.{◌∙◌}

pub returns : Rattle.qm_map.proofs.vertices.put_spot.Goals.returns
returns g c = rw (← (c.as_bytes.ensures.value ∙ c.as_str.ensures.value ∙ c.spot_line.ensures)) c.put.ensures
