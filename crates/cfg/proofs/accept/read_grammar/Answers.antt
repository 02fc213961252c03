-- `accept::read_grammar` meets its contract: each `return` is a case of `accept_table`.
-- Assumes nothing.
use Rattle.std.proofs.Common.{◌≡◌, Err, rules}
use Rattle.cfg.proofs.Tests.{words-sound, grammar-accepted, grammar-refused, table-refused}
use Rattle.cfg.proofs.accept.read_grammar.Goals as goal

pub returns-in_err-read-clause-reads : goal.returns-in_err-read-clause-reads
returns-in_err-read-clause-reads c =
    let e : c.from_residual.result ≡ Err c.in_err-read.field-0.0 = search rules in
    rw e (table-refused _ _ c.in_err-read.ensures.reads)

pub invariant_of-ps : goal.invariant_of-ps
invariant_of-ps c = record { sound = words-sound _ _ _ _ c.from.ensures _ c.in_ok-read.ensures.sound }

pub returns-in_err-pass_tests-clause-reads : goal.returns-in_err-pass_tests-clause-reads
returns-in_err-pass_tests-clause-reads c =
    let e : c.from_residual-in_err-pass_tests.result ≡ Err c.in_err-pass_tests.field-0.0 = search rules in
    rw e (grammar-refused _ _ _ _ _ _ c.in_ok-read.ensures.reads c.from.ensures _ c.in_err-pass_tests.ensures)

pub returns-clause-reads : goal.returns-clause-reads
returns-clause-reads c = grammar-accepted _ _ _ _ _ _ c.in_ok-read.ensures.reads c.from.ensures c.in_ok-pass_tests.ensures
