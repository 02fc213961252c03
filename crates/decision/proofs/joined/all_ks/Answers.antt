-- `joined::all_ks` meets its contract. Assumes nothing.
use Rattle.std.proofs.Common.{rules, ◌≡◌, Err}
use Rattle.decision.proofs.Onward.{looks-start, looks-more, looks-found, looks-end}
use Rattle.decision.proofs.joined.all_ks.Goals as goal

pub loop-a-init : goal.loop-a-init
loop-a-init c = search looks-start

pub loop-a-preserved : goal.loop-a-preserved
loop-a-preserved c = looks-more c.loop-a.invariant c.requires c.loop-a-test.true c.in_ok-ks.field-0 c.in_ok-ks.was

pub returns-in_err-ks : goal.returns-in_err-ks
returns-in_err-ks c =
    let e : c.from_residual.result ≡ Err c.in_err-ks.field-0.0 = search rules in
    rw e (looks-found c.loop-a.invariant c.requires c.loop-a-test.true c.in_err-ks.field-0.0 c.in_err-ks.was)

pub returns : goal.returns
returns c = looks-end c.loop-a.invariant c.requires c.loop-a-test.false
