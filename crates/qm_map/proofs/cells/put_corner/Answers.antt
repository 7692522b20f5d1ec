use Rattle.std.proofs.Common.{◌∙◌}

pub returns : Rattle.qm_map.proofs.cells.put_corner.Goals.returns
returns g c = rw (← (c.as_bytes.ensures.value ∙ c.as_str.ensures.value ∙ c.seen_text.ensures)) c.put.ensures
