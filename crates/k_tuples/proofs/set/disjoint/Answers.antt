-- `k_tuples::set::disjoint` meets its contract. Its loop is a `Meeting`. Assumes nothing.
use native.Mathlib.Omega.{arith}
use Rattle.k_tuples.proofs.Merging.{meet-start, meet_below, meet-same, meet-above, meet-stop, meet-end}
use Rattle.k_tuples.proofs.set.disjoint.Goals as goal

pub loop-i-init : goal.loop-i-init
loop-i-init c = search meet-start

pub returns-then-m-j : goal.returns-then-m-j
returns-then-m-j c = search meet-stop

pub member-requires-in-loop-i : goal.member-requires-in-loop-i
member-requires-in-loop-i c = (c.requires.1, omega (arith, c.if-m-j.false, c.loop-i.invariant.second))

pub loop-i-preserved-in-Less : goal.loop-i-preserved-in-Less
loop-i-preserved-in-Less c = meet_below c.loop-i.invariant c.loop-i-test.true (omega (arith, c.if-m-j.false)) c.member.ensures c.member-in-loop-i.ensures c.compare.ensures c.in-Less.is

pub returns-in-Equal : goal.returns-in-Equal
returns-in-Equal c = meet-same c.loop-i.invariant c.loop-i-test.true (omega (arith, c.if-m-j.false)) c.member.ensures c.member-in-loop-i.ensures c.compare.ensures c.in-Equal.is

pub loop-i-preserved : goal.loop-i-preserved
loop-i-preserved c = meet-above c.loop-i.invariant c.loop-i-test.true (omega (arith, c.if-m-j.false)) c.member.ensures c.member-in-loop-i.ensures c.compare.ensures c.in-Greater.is

pub returns : goal.returns
returns c = search meet-end
