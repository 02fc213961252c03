-- `engine::on_grammar` meets its contract. Assumes nothing.
use Rattle.refusals.specs.declared.Refusal.TheVariants.{LentTooFew}
use Rattle.engine.proofs.Running.{refused_record}
use Rattle.engine.proofs.Calls.{result-short, scratch-short, enough-words}
use Rattle.engine.proofs.on_grammar.Goals as goal

pub returns-then-res-needed : goal.returns-then-res-needed
returns-then-res-needed c = result-short _ _ _ _ _ c.result_needs-needed.ensures c.if-res-needed.true (refused_record LentTooFew)

pub returns-then-scratch-spare : goal.returns-then-scratch-spare
returns-then-scratch-spare c = scratch-short _ _ _ _ _ c.result_needs-needed.ensures c.if-res-needed.false c.scratch_needs-spare.ensures c.if-scratch-spare.true (refused_record LentTooFew)

pub returns : goal.returns
returns c = search enough-words
