pub returns : Rattle.qm_stitch.proofs.numbering.Numbering.face.Goals.returns
returns c = rw (c.on.ensures.layout, c.on.ensures.tables) at c.face.ensures
