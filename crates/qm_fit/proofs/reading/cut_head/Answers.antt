use Rattle.qm_fit.proofs.Heads.{cut_whole, fit_front, no_aim, no_floor, no_patches, no_weight}
use Rattle.qm_fit.proofs.reading.cut_head.Goals.{In-Some-cut_word}
use Rattle.{std.proofs.Common.◌≡◌, std.proofs.Common.◌++◌, qm_certtext.proofs.Cutting.stripped}
use Rattle.qm_fit.proofs.reading.cut_head.Goals as goal

-- The line behind its front.
front : (c : In-Some-cut_word) → c.args.line.now ≡ fit_front ++ c.in-Some.rest.now
front c = stripped fit_front c.args.line.now c.in-Some.rest.now c.in-Some.ensures.cases.0 c.in-Some.ensures.cases.1

pub returns-in_default-cut_word-2 : goal.returns-in_default-cut_word-2
returns-in_default-cut_word-2 c =
    let one = c.in-Some-cut_word.ensures in
    no_patches _ _ (front (goal.at.returns-in_default-cut_word-2 c).In-Some-cut_word) _ _ one.0 one.1
    c.in_default-cut_word-2.ensures

pub returns-in_default-cut_word-3 : goal.returns-in_default-cut_word-3
returns-in_default-cut_word-3 c =
    let one = c.in-Some-cut_word.ensures in
    let two = c.in-Some-cut_word-2.ensures in
    no_aim _ _ (front (goal.at.returns-in_default-cut_word-3 c).In-Some-cut_word) _ _ one.0 one.1 _ _ two.0 two.1
    c.in_default-cut_word-3.ensures

pub returns-in_default-cut_word-4 : goal.returns-in_default-cut_word-4
returns-in_default-cut_word-4 c =
    let one = c.in-Some-cut_word.ensures in
    let two = c.in-Some-cut_word-2.ensures in
    let three = c.in-Some-cut_word-3.ensures in
    no_floor _ _ (front (goal.at.returns-in_default-cut_word-4 c).In-Some-cut_word) _ _ one.0 one.1 _ _ two.0 two.1 _ _
    three.0 three.1 c.in_default-cut_word-4.ensures

pub returns-in_default-cut_word-5 : goal.returns-in_default-cut_word-5
returns-in_default-cut_word-5 c =
    let one = c.in-Some-cut_word.ensures in
    let two = c.in-Some-cut_word-2.ensures in
    let three = c.in-Some-cut_word-3.ensures in
    let four = c.in-Some-cut_word-4.ensures in
    no_weight _ _ (front (goal.at.returns-in_default-cut_word-5 c).In-Some-cut_word) _ _ one.0 one.1 _ _ two.0 two.1 _ _
    three.0 three.1 _ _ four.0 four.1 c.in_default-cut_word-5.ensures

pub returns : goal.returns
returns c =
    let one = c.in-Some-cut_word.ensures in
    let two = c.in-Some-cut_word-2.ensures in
    let three = c.in-Some-cut_word-3.ensures in
    let four = c.in-Some-cut_word-4.ensures in
    let five = c.in-Some-cut_word-5.ensures in
    cut_whole _ _ (front (goal.at.returns c).In-Some-cut_word) _ _ one.0 one.1 _ _ two.0 two.1 _ _ three.0 three.1 _ _
    four.0 four.1 _ _ five.0 five.1
