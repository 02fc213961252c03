-- `exports::sets::jomankitu_union` meets its contract. Assumes nothing.
use mathlib.Core.Path.{◌≡◌, sym, ◌∙◌}
use borrow.Author.Rules.{rules}
use borrow.Author.Tests.{eqb-true, eqb-false}
use Rattle.k_tuples.specs.Answers.{union_on_paper}
use Rattle.exports.specs.Told.{on_paper}
use Rattle.exports.proofs.Making.{made-few, made-whole}
use Rattle.exports.proofs.sets.jomankitu_union.Goals as goal

pub returns-then-is_empty : goal.returns-then-is_empty
returns-then-is_empty c =
    made-few c.args.k c.args.a.now c.args.b.now c.union.result (eqb-true _ 0 (sym c.is_empty.ensures ∙ c.if-is_empty.true)) c.union.ensures.answer c.union.ensures.words c.refusal_number.ensures

pub returns : goal.returns
returns c =
    let same : on_paper 1 c.map.result ≡ union_on_paper c.union-2.result = search rules in
    made-whole c.args.k c.args.a.now c.args.b.now (eqb-false _ 0 (sym c.is_empty.ensures ∙ c.if-is_empty.false)) (same ∙ c.union-2.ensures.answer) c.union-2.ensures.words c.tell_result.ensures
