-- `k_tuples::set::unfinished` meets its contract. Assumes nothing.
use Rattle.k_tuples.proofs.Words.{well-formed-at}
use Rattle.k_tuples.proofs.Walking.{tally-start, tally-skip, tally-class, tally-stop, tally-done}
use Rattle.k_tuples.proofs.Held.{some-set, some-well}
use Rattle.k_tuples.proofs.Classes.{long-from}
use native.Mathlib.Omega.{arith}
use borrow.Author.Rules.{rules}
use Rattle.k_tuples.proofs.set.unfinished.Goals as goal

-- from a long member on none is open
pub returns-then-is_long : goal.returns-then-is_long
returns-then-is_long c =
    tally-stop c.loop-i.invariant (long-from c.requires (omega (arith, c.loop-i.invariant.counted)) c.member-x.ensures c.args.k c.is_long.ensures c.if-is_long.true)

pub count-n-requires : goal.count-n-requires
count-n-requires c = search some-set

pub loop-i-init : goal.loop-i-init
loop-i-init c = search tally-start

pub member-x-requires : goal.member-x-requires
member-x-requires c = (search some-set, search rules)

pub is_complete-requires : goal.is_complete-requires
is_complete-requires c = search (well-formed-at, some-well)

pub loop-i-preserved-then-is_complete : goal.loop-i-preserved-then-is_complete
loop-i-preserved-then-is_complete c = search tally-skip

pub loop-i-preserved : goal.loop-i-preserved
loop-i-preserved c = search tally-class

pub returns : goal.returns
returns c = search tally-done
