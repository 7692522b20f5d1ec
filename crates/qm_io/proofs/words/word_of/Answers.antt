use Rattle.{std.proofs.Common.rules, qm_io.proofs.Cuts.word_read}
use Rattle.qm_io.proofs.words.word_of.Goals as goal

pub returns-in_ok-text_of-in-Ok-clause-word : goal.returns-in_ok-text_of-in-Ok-clause-word
returns-in_ok-text_of-in-Ok-clause-word g c = search (rules, word_read)
