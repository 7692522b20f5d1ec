use Rattle.site_laws.proofs.Laws.{order_law}

pub returns : Rattle.site_laws.proofs.order_law.Goals.returns
returns c = order_law
