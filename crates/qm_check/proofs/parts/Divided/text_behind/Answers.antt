use Rattle.{std.proofs.Common.refl, remesh_laws.proofs.Tails.tail_behind}

pub returns-in-Some : Rattle.qm_check.proofs.parts.Divided.text_behind.Goals.returns-in-Some
returns-in-Some c = rw (← (tail_behind c.args.self.now.head.line c.args.self.now.bytes.now))
    (rw (← c.written_text-written.ensures, c.in-Some.ensures.line) refl)
