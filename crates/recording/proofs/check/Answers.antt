use Rattle.recording.proofs.Verdicts.{wrong_length, wrong_check, wrong_number, the_body}
use Rattle.recording.proofs.check.Goals as goal

pub returns-in_default : goal.returns-in_default
returns-in_default c = wrong_length c.args.s.now _ c.in_default.ensures.cases

pub returns-then-word_sum-ne0 : goal.returns-then-word_sum-ne0
returns-then-word_sum-ne0 c = wrong_check c.in-Some.ensures.cases _ c.word_sum.ensures c.if-word_sum-ne0.true

pub returns-then-not-number_right : goal.returns-then-not-number_right
returns-then-not-number_right c =
    wrong_number c.in-Some.ensures.cases _ c.word_sum.ensures c.if-word_sum-ne0.false c.number_right.ensures c.if-not-number_right.true

pub returns : goal.returns
returns c =
    the_body c.in-Some.ensures.cases _ c.word_sum.ensures c.if-word_sum-ne0.false c.number_right.ensures c.if-not-number_right.false
    c.body.ensures
