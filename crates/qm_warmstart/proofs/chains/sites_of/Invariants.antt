use Rattle.std.proofs.Common.{◌≡◌, ◌<◌, ◌*◌, length}
use Rattle.{std.specs.List.All, qm_warmstart.specs.declared.chains.Site.Site}

abbrev pub invariant-loop-end : Rattle.qm_warmstart.proofs.chains.sites_of.Given.invariant-loop-end
invariant-loop-end l = (length l.sites.items ≡ l.net.whole.now.nodes)
    × All (λ (site : Site). let ends = 2 * length l.net.whole.now.arcs.items in (site.one < ends) × (site.two < ends))
    l.sites.items
