-- `exports::mark::jomankitu_mark` meets its contract. Assumes nothing.
use Rattle.exports.proofs.MarkCalled.{mark-short, mark-told}
use Rattle.exports.proofs.mark.jomankitu_mark.Goals as goal

pub returns-then-answer-lt4 : goal.returns-then-answer-lt4
returns-then-answer-lt4 c = mark-short _ _ c.if-answer-lt4.true c.mark.ensures.promised c.mark.auto.res c.mark.auto.scratch c.mark_number.ensures

pub returns : goal.returns
returns c = mark-told c.if-answer-lt4.false c.mark-m.ensures.promised c.mark_number-2.ensures c.mark_words.ensures c.tell.ensures
