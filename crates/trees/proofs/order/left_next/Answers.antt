-- `trees::order::left_next` meets its contract. Assumes nothing.
use borrow.Author.Rules.{rules}
use Rattle.trees.proofs.Arranging.{inside-at, next-none, next-left, next_both}
use Rattle.trees.proofs.order.left_next.Goals as goal

pub returns-then-left-i : goal.returns-then-left-i
returns-then-left-i c = search next-none

pub returns-then-right-j : goal.returns-then-right-j
returns-then-right-j c = search next-left

pub not_after-requires : goal.not_after-requires
not_after-requires c = search (rules, inside-at)

pub returns : goal.returns
returns c = let e = rw (c.from-x.ensures, c.from-y.ensures) at c.not_after.ensures in search next_both
