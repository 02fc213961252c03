-- `table::read_productions` meets its contract: the invariant, `Reads`, says that what is left to read completes the whole.
-- Assumes nothing.
use Rattle.std.proofs.Common.{◌≡◌, Err, rules}
use Rattle.cfg.proofs.Productions.{production-refused, production-more, productions-done}
use Rattle.cfg.proofs.table.read_productions.Goals as goal

pub returns-in_err-done-clause-reads : goal.returns-in_err-done-clause-reads
returns-in_err-done-clause-reads c =
    let e : c.from_residual.result ≡ Err c.in_err-done.field-0.0 = search rules in
    rw e (production-refused _ _ _ _ _ _ _ _ _ _ c.loop-i.invariant c.loop-i-test.true _ c.in_err-done.ensures.reads)

pub loop-i-preserved : goal.loop-i-preserved
loop-i-preserved c =
    let uses = c.in_ok-done.ensures.uses in
    production-more _ _ _ _ _ _ _ _ _ _ c.loop-i.invariant c.loop-i-test.true _ _ _ c.in_ok-done.ensures.reads c.read_production.auto.words uses.0 uses.1

pub returns-clause-reads : goal.returns-clause-reads
returns-clause-reads c = search productions-done
