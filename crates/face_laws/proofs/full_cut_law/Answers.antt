pub returns : Rattle.face_laws.proofs.full_cut_law.Goals.returns
returns c = Rattle.face_laws.proofs.FullCuts.full_cut_law
