pub returns : Rattle.qm_blocktext.proofs.line.put_line.Goals.returns
returns g c = record {
  whole = rw (c.as_bytes.ensures.value, c.as_str.ensures.value) at c.put.ensures.whole;
  part = rw (c.as_bytes.ensures.value, c.as_str.ensures.value) at c.put.ensures.part;
}
