-- `on_grammar` meets its contract. Assumes nothing.
use native.Mathlib.Omega.{arith}
use Rattle.refusals.specs.declared.Refusal.TheVariants.{LentTooFew}
use Rattle.decision.proofs.Finishing.{refused-is, sized-table, sets-fit, spare-fits, result-short, scratch-short, sides-requires, given-all, all-promised}
use Rattle.decision.proofs.on_grammar.Goals as goal

pub overflow_mul-u : goal.overflow_mul-u
overflow_mul-u c = let s = c.requires in let z = c.layout_of-u.ensures in omega (arith, sets-fit s.0.1 s.0.0 s.1 z)

pub returns-then-res-u : goal.returns-then-res-u
returns-then-res-u c = let s = c.requires in let z = c.layout_of-u.ensures in let t = sized-table s.0.1 s.0.0 s.1 z in result-short s.0.1 t _ _ c.if-res-u.true (refused-is LentTooFew)

pub overflow_mul-u-3 : goal.overflow_mul-u-3
overflow_mul-u-3 c = let s = c.requires in let z = c.layout_of-u.ensures in omega (arith, spare-fits s.0.1 s.0.0 s.1 z)

pub returns-then-scratch-u : goal.returns-then-scratch-u
returns-then-scratch-u c = let s = c.requires in let z = c.layout_of-u.ensures in let t = sized-table s.0.1 s.0.0 s.1 z in scratch-short s.0.1 t _ _ c.if-res-u.false c.if-scratch-u.true (refused-is LentTooFew)

pub link_all-links-requires : goal.link_all-links-requires
link_all-links-requires c = let s = c.requires in let z = c.layout_of-u.ensures in sides-requires s.0.0 z

pub answer_all-requires : goal.answer_all-requires
answer_all-requires c = let s = c.requires in let z = c.layout_of-u.ensures in given-all s.0.1 s.0.0 s.1 z c.link_all-links.ensures c.if-res-u.false c.if-scratch-u.false

pub returns : goal.returns
returns c = let s = c.requires in let z = c.layout_of-u.ensures in let t = sized-table s.0.1 s.0.0 s.1 z in all-promised s.0.1 t _ _ c.if-res-u.false c.if-scratch-u.false c.answer_all.ensures
