pub returns-clause-mesh : Rattle.qm_stitch.proofs.stitching.stitch.Goals.returns-clause-mesh
returns-clause-mesh c =
    let lengths = c.in_ok-numbering.ensures.lengths in
    record {
      count = rw lengths at (c.vertices.ensures _ c.in_ok-numbering.ensures.numbering);
      faces = rw (c.on.ensures.layout, c.on.ensures.tables, lengths) at c.in_ok-faces.ensures;
    }
