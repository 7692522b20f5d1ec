use Rattle.qm_certtext.proofs.Cutting.{stripped}
use Rattle.qm_headline.proofs.Sizes.{has_size, no_edge, no_floor, no_words, size_front}
use Rattle.qm_headline.proofs.size.read_size.Goals as goal

pub returns-in_default-cut_word : goal.returns-in_default-cut_word
returns-in_default-cut_word c = no_words c.in-Some.rest.now (stripped size_front c.args.line.now c.in-Some.rest.now
    c.in-Some.ensures.cases.0 c.in-Some.ensures.cases.1) c.in_default-cut_word.ensures

pub returns-in_default-read_written : goal.returns-in_default-read_written
returns-in_default-read_written c = no_edge c.in-Some.rest.now (stripped size_front c.args.line.now c.in-Some.rest.now
    c.in-Some.ensures.cases.0 c.in-Some.ensures.cases.1) c.in-Some-cut_word.word.now c.in-Some-cut_word.rest.now
    c.in-Some-cut_word.ensures.0 c.in-Some-cut_word.ensures.1 c.in_default-read_written.ensures

pub returns-in-Some-read_count : goal.returns-in-Some-read_count
returns-in-Some-read_count c = has_size c.in-Some.rest.now
    (stripped size_front c.args.line.now c.in-Some.rest.now c.in-Some.ensures.cases.0 c.in-Some.ensures.cases.1)
    c.in-Some-cut_word.word.now c.in-Some-cut_word.rest.now c.in-Some-cut_word.ensures.0 c.in-Some-cut_word.ensures.1
    c.in-Some-read_written.edge c.in-Some-read_count.floor c.in-Some-read_written.ensures c.in-Some-read_count.ensures

pub returns-in-None : goal.returns-in-None
returns-in-None c = no_floor c.in-Some.rest.now (stripped size_front c.args.line.now c.in-Some.rest.now
    c.in-Some.ensures.cases.0 c.in-Some.ensures.cases.1) c.in-Some-cut_word.word.now c.in-Some-cut_word.rest.now
    c.in-Some-cut_word.ensures.0 c.in-Some-cut_word.ensures.1 c.in-None.ensures
