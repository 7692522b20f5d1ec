use Rattle.std.proofs.Common.{◌∙◌}

pub returns : Rattle.qm_map.proofs.map.put_head.Goals.returns
returns g c = rw (
  ← c.vertices.ensures,
  ← c.faces.ensures,
  ← (c.as_bytes.ensures.value ∙ c.as_str.ensures.value ∙ c.head_line.ensures),
) c.put.ensures
