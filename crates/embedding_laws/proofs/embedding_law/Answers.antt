use Rattle.embedding_laws.proofs.OneLayout.{embedding_law}

pub returns : Rattle.embedding_laws.proofs.embedding_law.Goals.returns
returns c = embedding_law
