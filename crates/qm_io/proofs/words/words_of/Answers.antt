use Rattle.std.proofs.Common.{length, map, string_bytes, subst, sym, ◌+◌}
use Rattle.{qm_io.proofs.Cuts.reads_pushed, qm_io.specs.WordLists.ReadsSome}

pub words-preserved : Rattle.qm_io.proofs.words.words_of.Goals.words-preserved
words-preserved g c =
    let given = g.W.CommandLine.given c.args.line.now in
    record {
      read = subst (λ n. ReadsSome n given (c.words.i + 1) (map string_bytes c.push.new.self.items))
          (sym c.word_of.auto.buffer)
          (reads_pushed string_bytes (length c.words.buffer) given c.words.i c.words.words.items _ _ c.in-Some.word
          c.words.invariant.read c.in-Some.is c.in_ok-word.ensures.word c.in_ok-push-in-Some.ensures.items);
    }
