use Rattle.site_laws.proofs.Laws.{graph_law}

pub returns : Rattle.site_laws.proofs.graph_law.Goals.returns
returns c = graph_law
