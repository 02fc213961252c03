-- `table::read_symbols` meets its contract: the invariant, `Reads`, says that what is left to read completes the whole.
-- Assumes nothing.
use Rattle.std.proofs.Common.{◌≡◌, Err, rules}
use Rattle.cfg.proofs.Symbols.{symbols-refused, symbols-more, symbols-done}
use Rattle.cfg.proofs.table.read_symbols.Goals as goal

pub returns-in_err-read-clause-reads : goal.returns-in_err-read-clause-reads
returns-in_err-read-clause-reads c =
    let e : c.from_residual.result ≡ Err c.in_err-read.field-0.0 = search rules in
    rw e (symbols-refused _ _ _ _ _ _ _ _ _ c.loop-i.invariant c.loop-i-test.true _ c.in_err-read.ensures)

pub loop-i-preserved : goal.loop-i-preserved
loop-i-preserved c = search (symbols-more, c.in_ok-read.ensures, c.from.ensures)

pub returns-clause-reads : goal.returns-clause-reads
returns-clause-reads c = search symbols-done
