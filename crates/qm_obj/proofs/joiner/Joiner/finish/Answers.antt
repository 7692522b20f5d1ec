use Rattle.qm_obj.proofs.KeptLemmas.{finished}

pub returns : Rattle.qm_obj.proofs.joiner.Joiner.finish.Goals.returns
returns c = finished c.read_rest.new.self.reader.fits c.in_ok-read_rest.ensures.same c.finish.result
    c.finish.ensures.soup c.finish.ensures.late
