-- `exports::needed::jomankitu_needed_k` meets its contract. Assumes nothing.
use mathlib.Core.Path.{◌∙◌}
use Rattle.exports.proofs.Needing.{returned-number, needed-short, needed-told}
use Rattle.exports.proofs.needed.jomankitu_needed_k.Goals as goal

pub returns-then-answer-lt258 : goal.returns-then-answer-lt258
returns-then-answer-lt258 c = needed-short _ _ c.if-answer-lt258.true c.needed_k-a.ensures c.needed_k-a.auto.res c.needed_k-a.auto.scratch (c.refusal_number.ensures ∙ returned-number c.needed_k-a.result)

pub returns : goal.returns
returns c = needed-told c.if-answer-lt258.false c.needed_k-a-2.ensures c.put_record.ensures (c.refusal_number-2.ensures ∙ returned-number c.needed_k-a-2.result)
