use Rattle.cut_laws.proofs.OneList.{one_list_law}

pub returns : Rattle.cut_laws.proofs.one_list_law.Goals.returns
returns c = one_list_law
