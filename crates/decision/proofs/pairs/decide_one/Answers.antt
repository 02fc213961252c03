-- `pairs::decide_one` meets its contract. Assumes nothing.
use mathlib.Core.Path.{◌∙◌}
use Rattle.std.specs.Prelude.{Ok}
use Rattle.decision.proofs.Numbers.{refusals-length, ks-length, refusals-set, ks-set, open-at}
use Rattle.decision.proofs.Apart.{decide-serves, decide-stays, decide-closed}
use Rattle.decision.proofs.pairs.decide_one.Goals as goal

pub returns-then-apart_own : goal.returns-then-apart_own
returns-then-apart_own c =
    let r = c.requires in
    let xs = c.args.answers.now in
    let o = (open-at xs c.args.a c.is_open.ensures).yes c.if-is_open.true in
    rw (refusals-set xs c.args.a (Ok c.args.k), ks-set xs c.args.a (Ok c.args.k))
    (decide-serves _ _ _ _ _ _ _ o c.apart_own.ensures c.if-apart_own.true r.1.0 r.0.1.few (refusals-length xs ∙ r.1.1) (ks-length xs ∙ r.1.1))

pub returns-else-apart_own : goal.returns-else-apart_own
returns-else-apart_own c = decide-stays _ _ _ _ _ _ _ ((open-at c.args.answers.now c.args.a c.is_open.ensures).yes c.if-is_open.true) c.apart_own.ensures c.if-apart_own.false

pub returns-else-is_open : goal.returns-else-is_open
returns-else-is_open c = decide-closed _ _ _ _ _ _ _ ((open-at c.args.answers.now c.args.a c.is_open.ensures).no c.if-is_open.false)
