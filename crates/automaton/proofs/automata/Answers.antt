-- `automata` meets its contract. Assumes nothing.
use native.Mathlib.Omega.{arith}
use borrow.Author.Rules.{rules}
use mathlib.Core.Path.{refl, sym, ◌∙◌}
use Rattle.std.proofs.Common.{◌≡◌, Err}
use Rattle.refusals.proofs.Numbers.{number-positive}
use Rattle.decision.proofs.Numbers.{refusals-length}
use Rattle.decision.proofs.Going.{lists-long}
use Rattle.decision.proofs.Further.{first-of-call, call_known, call-reached, call-given}
use Rattle.automaton.proofs.Ending.{call-refused, call-done, planned-n}
use Rattle.automaton.proofs.automata.Goals as goal

pub returns-in_err-needed : goal.returns-in_err-needed
returns-in_err-needed c =
    let w = c.in_err-needed.field-0.0 in
    let e : c.from_residual.result ≡ Err w = search rules in
    rw e (call-refused _ _ _ _ _ _ _ _ c.in_err-needed.ensures (first-of-call w _) _ (λ z. omega (arith, number-positive w)))

pub all_ks-requires : goal.all_ks-requires
all_ks-requires c = sym (refusals-length _) ∙ (lists-long _ _ _ _ _ _ c.in_ok-needed.ensures).0

pub returns-in_err-ks : goal.returns-in_err-ks
returns-in_err-ks c =
    let w = c.in_err-ks.field-0.0 in
    let e : c.from_residual-in_err-ks.result ≡ Err w = search rules in
    rw e (call-refused _ _ _ _ _ _ _ _ c.in_ok-needed.ensures (c.all_ks.ensures.lacks w c.in_err-ks.was) _ (λ z. omega (arith, number-positive w)))

pub plan_of-plan-requires : goal.plan_of-plan-requires
plan_of-plan-requires c =
    let (f, same) = c.all_ks.ensures.known _ c.in_ok-ks.was in
    (call-reached _ _ _ _ _ _ _ _ c.in_ok-needed.ensures f refl).on

pub on_trees-requires : goal.on_trees-requires
on_trees-requires c =
    let a = c.in_ok-needed.ensures in
    let (f, same) = c.all_ks.ensures.known _ c.in_ok-ks.was in
    let n = c.needed_k in
    record { given = call-given _ _ _ _ _ _ _ _ a f refl c.plan_of-plan.ensures n.auto.res n.auto.scratch; known = rw same (call_known _ _ _ _ _ _ _ _ a f refl) }

pub returns : goal.returns
returns c =
    let a = c.in_ok-needed.ensures in
    let (f, same) = c.all_ks.ensures.known _ c.in_ok-ks.was in
    let n = c.needed_k in
    let t = c.on_trees.ensures in
    call-done _ _ _ _ _ _ _ _ a f refl _ _ (planned-n (call-given _ _ _ _ _ _ _ _ a f refl c.plan_of-plan.ensures n.auto.res n.auto.scratch)) t.answer t.out-bytes t.result_words t.scratch-words
