use Rattle.site_laws.proofs.Laws.{state_law}

pub returns : Rattle.site_laws.proofs.state_law.Goals.returns
returns c = state_law
