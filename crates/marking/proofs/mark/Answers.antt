-- `mark` meets its contract. Assumes nothing.
use native.Mathlib.Omega.{arith}
use mathlib.Core.Path.{◌≡◌, refl}
use borrow.Author.Rules.{rules}
use Rattle.std.specs.Prelude.{Ok, Err}
use Rattle.refusals.specs.Numbers.{number}
use Rattle.refusals.proofs.Numbers.{number-positive}
use Rattle.decision.specs.Call.{recorded}
use Rattle.decision.proofs.Further.{first-of-call, call_known, call-reached, call-given}
use Rattle.marking.specs.declared.answer.MarkError.TheVariants.{Refused}
use Rattle.marking.proofs.Ending.{call-refused, call-before, call-marked, passed-below}
use Rattle.marking.proofs.mark.Goals as goal

pub returns-in_err-needed-clause-promised : goal.returns-in_err-needed-clause-promised
returns-in_err-needed-clause-promised c =
    let x = c.in_err-needed.field-0.0 in
    let e : c.from_residual.result ≡ Err (Refused x) = search rules in
    rw e (call-refused _ _ _ _ _ _ _ (recorded (Err x)) c.in_err-needed.ensures (first-of-call x _) _ (λ (z : number x ≡ 0). omega (arith, number-positive x)))

pub returns-in_err-needed-clause-passed : goal.returns-in_err-needed-clause-passed
returns-in_err-needed-clause-passed c =
    let x = c.in_err-needed.field-0.0 in
    let e : c.from_residual.result ≡ Err (Refused x) = search rules in
    rw e (passed-below _ _ _ _ _ _ _ (recorded (Err x)) c.in_err-needed.ensures (first-of-call x _) (λ (z : number x ≡ 0). omega (arith, number-positive x)))

pub returns-in_err-ks-clause-passed : goal.returns-in_err-ks-clause-passed
returns-in_err-ks-clause-passed c =
    let x = c.in_err-ks.field-0.0 in
    let e : c.from_residual-in_err-ks.result ≡ Err (Refused x) = search rules in
    rw e (passed-below _ _ _ _ _ _ _ (recorded (Ok c.in_ok-needed.needed)) c.in_ok-needed.ensures (c.in_err-ks.ensures.lacks x refl) (λ (z : number x ≡ 0). omega (arith, number-positive x)))

pub returns-in_err-ks-clause-promised : goal.returns-in_err-ks-clause-promised
returns-in_err-ks-clause-promised c =
    let x = c.in_err-ks.field-0.0 in
    let e : c.from_residual-in_err-ks.result ≡ Err (Refused x) = search rules in
    rw e (call-refused _ _ _ _ _ _ _ (recorded (Ok c.in_ok-needed.needed)) c.in_ok-needed.ensures (c.in_err-ks.ensures.lacks x refl) _ (λ (z : number x ≡ 0). omega (arith, number-positive x)))

pub plan_of-plan-requires : goal.plan_of-plan-requires
plan_of-plan-requires c = let k = c.in_ok-ks.ensures.known c.in_ok-ks.ks refl in (call-reached _ _ _ _ _ _ _ (recorded (Ok c.in_ok-needed.needed)) c.in_ok-needed.ensures k.0 refl).on

pub on_rows-requires : goal.on_rows-requires
on_rows-requires c =
    let d = recorded (Ok c.in_ok-needed.needed) in
    let n = c.in_ok-needed.ensures in
    let k = c.in_ok-ks.ensures.known c.in_ok-ks.ks refl in
    let given = call-given _ _ _ _ _ _ _ d n k.0 refl c.plan_of-plan.ensures c.needed_k.auto.res c.needed_k.auto.scratch in
    ((given, rw k.1 (call_known _ _ _ _ _ _ _ d n k.0 refl)), call-before _ _ _ _ _ _ _ d n k.0 refl given)

pub returns-clause-promised : goal.returns-clause-promised
returns-clause-promised c =
    let k = c.in_ok-ks.ensures.known c.in_ok-ks.ks refl in
    call-marked _ _ _ _ _ _ _ (recorded (Ok c.in_ok-needed.needed)) c.in_ok-needed.ensures k.0 refl c.on_rows.ensures.marked
