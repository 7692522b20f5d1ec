use Rattle.embedding_laws.proofs.OneLayout.{one_layout_law}

pub returns : Rattle.embedding_laws.proofs.one_layout_law.Goals.returns
returns c = one_layout_law
