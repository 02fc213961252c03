-- `accept::pass_tests` meets its contract: each `return` is a case of `test_refusal`.
-- Assumes nothing.
use Rattle.cfg.proofs.Tests.{unproductive-refused, left-recursive-refused, tests-passed}
use Rattle.cfg.proofs.accept.pass_tests.Goals as goal

pub returns-then-some_unproductive : goal.returns-then-some_unproductive
returns-then-some_unproductive c = search unproductive-refused

pub returns-then-left_recursive : goal.returns-then-left_recursive
returns-then-left_recursive c = search left-recursive-refused

pub returns : goal.returns
returns c = search tests-passed
