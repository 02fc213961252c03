-- `try_all` meets its contract. Assumes nothing.
use Prim.Native.Nat.{◌+◌, ◌-◌}
use native.Mathlib.Omega.{arith}
use mathlib.Core.Path.{◌≡◌, sym, ◌∙◌}
use Rattle.decision.proofs.Answering.{tries-start, tries-more, tries-end, tries-none}
use Rattle.decision.proofs.Numbers.{refusals-length}
use Rattle.decision.proofs.try_all.Goals as goal

pub loop-k-init : goal.loop-k-init
loop-k-init c = let s = c.requires in tries-start _ _ s.0 s.1

pub some_open-requires : goal.some_open-requires
some_open-requires c = c.loop-k.invariant.given.fit.few

pub returns-then-not-some_open : goal.returns-then-not-some_open
returns-then-not-some_open c = tries-none c.loop-k.invariant c.some_open.ensures c.if-not-some_open.true

pub try_k-requires : goal.try_k-requires
try_k-requires c = let i = c.loop-k.invariant in let m = i.given.on.limit<11 in ((i.given, (omega arith, omega arith)), sym (refusals-length _) ∙ i.done.stand.long.0)

pub loop-k-preserved : goal.loop-k-preserved
loop-k-preserved c =
    let e : c.loop-k.k + 1 - 1 ≡ c.loop-k.k = omega arith in
    rw e (tries-more c.loop-k.invariant (omega arith) c.loop-k-test.true c.try_k.ensures c.try_k.auto.res c.try_k.auto.scratch)

pub returns-else-not-some_open : goal.returns-else-not-some_open
returns-else-not-some_open c = tries-end (tries-more c.loop-k.invariant (omega arith) c.loop-k-test.true c.try_k.ensures c.try_k.auto.res c.try_k.auto.scratch) (omega arith)

pub returns : goal.returns
returns c = tries-end c.loop-k.invariant (omega arith)
