-- `exports::jomankitu_lookahead_sets` meets its contract. Assumes nothing.
use Rattle.exports.proofs.Calling.{called-few, called-whole}
use Rattle.exports.proofs.jomankitu_lookahead_sets.Goals as goal

pub returns-then-answer-lt16 : goal.returns-then-answer-lt16
returns-then-answer-lt16 c = let few = c.lookahead_sets-few in called-few few.result c.if-answer-lt16.true few.ensures.promised few.ensures.bytes c.refusal_number.ensures

pub returns : goal.returns
returns c = let a = c.lookahead_sets-a in called-whole a.result c.if-answer-lt16.false a.ensures.promised a.ensures.bytes c.refusal_number-2.ensures c.record_words.ensures c.tell.ensures
