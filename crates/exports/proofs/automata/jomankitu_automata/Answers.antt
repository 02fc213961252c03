-- `exports::automata::jomankitu_automata` meets its contract. Assumes nothing.
use Prim.Native.Nat.{ℕ}
use mathlib.Core.Path.{ap, ◌∙◌}
use mathlib.Core.List.{[], ◌∷◌}
use Rattle.exports.proofs.AutomataCalled.{automata-short, automata-told}
use Rattle.exports.proofs.automata.jomankitu_automata.Goals as goal

pub returns-then-answer-lt1 : goal.returns-then-answer-lt1
returns-then-answer-lt1 c = let a = c.automata-few in automata-short a.result c.refusal_number.ensures _ _ _ c.if-answer-lt1.true a.ensures a.auto.out a.auto.res a.auto.scratch

pub returns : goal.returns
returns c = automata-told c.automata-made.result c.refusal_number-2.ensures c.if-answer-lt1.false c.automata-made.ensures (c.alone-words.ensures ∙ ap (λ (b : ℕ). b ∷ []) c.unwrap_or.ensures) c.tell.ensures
