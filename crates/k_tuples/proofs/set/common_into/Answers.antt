-- `k_tuples::set::common_into` meets its contract. Its loop is a `Sharing`. Assumes nothing.
use borrow.Author.Rules.{rules}
use native.Mathlib.Omega.{arith}
use Rattle.k_tuples.proofs.Merging.{share-start, share-below, share-full, share-more, share-above, share-stop, share-end}
use Rattle.k_tuples.proofs.set.common_into.Goals as goal

pub loop-i-init : goal.loop-i-init
loop-i-init c = search share-start

pub returns-then-m-j : goal.returns-then-m-j
returns-then-m-j c = search share-stop

pub member-x-requires : goal.member-x-requires
member-x-requires c = (c.requires.1.0, omega (arith, c.loop-i-test.true, c.loop-i.invariant.filling.counted))

pub member-requires : goal.member-requires
member-requires c = (c.requires.1.1, omega (arith, c.if-m-j.false, c.loop-i.invariant.second))

pub loop-i-preserved-in-Less : goal.loop-i-preserved-in-Less
loop-i-preserved-in-Less c = share-below c.loop-i.invariant c.loop-i-test.true (omega (arith, c.if-m-j.false)) c.member-x.ensures c.member.ensures c.compare.ensures c.in-Less.is

pub returns-in_err-insert-in-Equal : goal.returns-in_err-insert-in-Equal
returns-in_err-insert-in-Equal c = share-full c.loop-i.invariant c.loop-i-test.true (omega (arith, c.if-m-j.false)) c.member-x.ensures c.member.ensures c.compare.ensures c.in-Equal.is c.insert.ensures c.in_err-insert-in-Equal.was (search rules)

pub loop-i-preserved-in-Equal : goal.loop-i-preserved-in-Equal
loop-i-preserved-in-Equal c = share-more c.loop-i.invariant c.loop-i-test.true (omega (arith, c.if-m-j.false)) c.member-x.ensures c.member.ensures c.compare.ensures c.in-Equal.is c.insert.ensures c.in_ok-insert-in-Equal.was

pub loop-i-preserved : goal.loop-i-preserved
loop-i-preserved c = share-above c.loop-i.invariant c.loop-i-test.true (omega (arith, c.if-m-j.false)) c.member-x.ensures c.member.ensures c.compare.ensures c.in-Greater.is

pub returns : goal.returns
returns c = search share-end
