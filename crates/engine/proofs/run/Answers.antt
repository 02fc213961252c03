-- `engine::run` meets its contract. Assumes nothing.
use native.Mathlib.Omega.{arith}
use mathlib.Core.Path.{◌≡◌, ap}
use Rattle.std.specs.Prelude.{Err}
use Rattle.first.specs.declared.Setup.{Setup}
use Rattle.engine.proofs.Needed.{sound-128, productions-few}
use Rattle.engine.proofs.Beginning.{few-n, few-t, few-q, first-ready, first-free, first-rules, levels-refused, levels-begun, levels-done}
use borrow.Author.Rules.{rules}
use Rattle.engine.proofs.run.Goals as goal

pub count_occurrences-q-requires : goal.count_occurrences-q-requires
count_occurrences-q-requires c = search sound-128

pub setup-u-requires : goal.setup-u-requires
setup-u-requires c = let r = c.requires.0 in let e = c.count_occurrences-q.ensures in (few-n r e, (few-t r e, (productions-few r, (few-q r e, r.c<1025))))

pub overflow_add-at : goal.overflow_add-at
overflow_add-at c = let r = c.requires.0 in let e = c.setup-u.ensures in omega (arith, ap (λ (u : Setup). u.n) e, ap (λ (u : Setup). u.p) e, few-n r c.count_occurrences-q.ensures, productions-few r)

pub first_levels-requires : goal.first_levels-requires
first_levels-requires c = let p = c.requires in let q = c.count_occurrences-q.ensures in let e = c.setup-u.ensures in ((first-ready p.0 q p.1 e, first-free p.0 q p.1 e), ((search rules, search rules), first-rules p.0 q p.1 e))

pub returns-in_err-rounds : goal.returns-in_err-rounds
returns-in_err-rounds c =
    let p = c.requires in
    let e : c.from_residual.result ≡ Err c.in_err-rounds.field-0.0 = search rules in
    rw e (levels-refused p.0 c.count_occurrences-q.ensures p.1 c.setup-u.ensures c.index.ensures c.in_err-rounds.ensures)

pub run_rest-requires : goal.run_rest-requires
run_rest-requires c = let p = c.requires in levels-begun p.0 c.count_occurrences-q.ensures p.1 c.setup-u.ensures c.index.ensures c.in_ok-rounds.ensures

pub returns : goal.returns
returns c = let p = c.requires in levels-done p.0 c.count_occurrences-q.ensures p.1 c.setup-u.ensures c.index.ensures c.in_ok-rounds.ensures c.run_rest.ensures
