-- `trees::order::arrange` meets its contract. Assumes nothing.
use Prim.Native.Nat.{◌≤◌}
use mathlib.Core.Path.{◌≡◌}
use lib.ListN.{length, take, drop}
use mathlib.Core.List.{◌++◌}
use native.Mathlib.Omega.{arith}
use Rattle.trees.proofs.Arranging.{num-size, num-inside, in_order}
use borrow.Author.Rules.{rules}
use Rattle.trees.proofs.order.arrange.Goals as goal

pub sort-requires : goal.sort-requires
sort-requires c = let p = c.requires in let o = c.args.order.now in let n = c.args.n in let num = c.count_up.new.order in let h : n ≤ length o = omega arith in let e = c.count_up.ensures in let z = num-size n o num h e in (p.0, (num-inside n o num h e, omega arith))

pub returns : goal.returns
returns c = let o = c.args.order.now in let n = c.args.n in let num = c.count_up.new.order in let h : n ≤ length o = omega arith in let e = c.count_up.ensures in let s = c.sort.new.order in let k : length s ≡ length (take n (num ++ drop n o)) = search rules in in_order n o num h e _ s k c.sort.ensures
