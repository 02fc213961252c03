-- `k_joins::runs::run_into` meets its contract. Its loop is a `Filling` by parts of the run. Assumes nothing.
use Rattle.k_tuples.proofs.Filling.{fill_end}
use Rattle.k_joins.proofs.Running.{part-set, part-blank, run-taken, run-full}
use borrow.Author.Rules.{rules}
use Rattle.k_joins.proofs.runs.run_into.Goals as goal

pub unite-requires : goal.unite-requires
unite-requires c = (c.loop-j.invariant.0.is_set, part-set c.put_run-f.ensures c.requires.rises)

pub returns-in_err-unite-clause-grew : goal.returns-in_err-unite-clause-grew
returns-in_err-unite-clause-grew c = run-full c.loop-j.invariant.0 c.put_run-f.ensures c.unite.ensures.grew c.in_err-unite.was (search rules)

pub loop-j-preserved : goal.loop-j-preserved
loop-j-preserved c = (run-taken c.loop-j.invariant.0 c.put_run-f.ensures c.unite.ensures.grew c.in_ok-unite.was, part-blank c.put_run-f.ensures c.unite.ensures.cleared)

pub returns-clause-grew : goal.returns-clause-grew
returns-clause-grew c = search fill_end
