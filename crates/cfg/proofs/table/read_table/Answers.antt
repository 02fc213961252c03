-- `table::read_table` meets its contract: each `return` is a case of `read_table`.
-- Assumes nothing.
use Rattle.std.proofs.Common.{◌≡◌, Err, rules, arith}
use Rattle.cfg.proofs.Whole.{header_refused, productions-refused, table-read, table-longer, table-sound}
use Rattle.cfg.proofs.table.read_table.Goals as goal

pub returns-in_err-header-clause-reads : goal.returns-in_err-header-clause-reads
returns-in_err-header-clause-reads c =
    let e : c.from_residual.result ≡ Err c.in_err-header.field-0.0 = search rules in
    rw e (header_refused _ _ c.in_err-header.ensures.reads)

pub returns-in_err-rest-clause-reads : goal.returns-in_err-rest-clause-reads
returns-in_err-rest-clause-reads c =
    let e : c.from_residual-in_err-rest.result ≡ Err c.in_err-rest.field-0.0 = search rules in
    rw e (productions-refused _ _ _ c.in_ok-header.ensures.reads _ c.in_err-rest.ensures.reads)

pub returns-then-rest-table-clause-reads : goal.returns-then-rest-table-clause-reads
returns-then-rest-table-clause-reads c =
    table-longer _ _ _ c.in_ok-header.ensures.reads _ _ _ c.in_ok-rest.ensures.reads (search rules)

pub returns-clause-reads : goal.returns-clause-reads
returns-clause-reads c =
    table-read _ _ _ c.in_ok-header.ensures.reads _ _ _ c.in_ok-rest.ensures.reads (search rules)

pub returns-clause-sound : goal.returns-clause-sound
returns-clause-sound c =
    let limits = c.in_ok-header.ensures.inside in
    table-sound _ _ _ _ _ limits.0 limits.1 limits.3 _ _ _ c.in_ok-rest.ensures.reads c.in_ok-rest.ensures.uses.1 (omega arith)
