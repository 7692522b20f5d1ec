pub returns : Rattle.qm_report.proofs.layout.layout_text.Goals.returns
returns c =
    rw (c.in_ok-push_patches.ensures, c.in_ok-push_arcs.ensures, c.in_ok-push_breaks.ensures)
    (rw (c.in_ok-push_seeds.ensures, c.in_ok-push_named.ensures, c.in_ok-push_counts.ensures, c.in_ok-push_head.ensures)
    (rw (c.new-text.ensures.items, c.deref-2.ensures.value, c.in_ok-sources.ensures.seeds_are)
    (rw (c.mesh.ensures, c.mesh-2.ensures, ← c.layout.ensures.layout))))
