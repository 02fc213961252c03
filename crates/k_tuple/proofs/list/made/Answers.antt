-- `k_tuple::list::made` meets its contract. The invariant: the string is what the terminals passed make. Assumes nothing.
use native.Mathlib.Omega.{arith}
use native.Mathlib.Numerals.{add-one}
use Prim.Native.Nat.{ℕ}
use mathlib.Core.Path.{ap, ◌∙◌}
use lib.Dec.{lit<}
use Rattle.k_tuple.specs.Packed.{words, reads, pushed_in}
use Rattle.k_tuple.proofs.Words.{word_value}
use Rattle.k_tuple.proofs.Pushing.{none_is}
use Rattle.k_tuple.proofs.Lists.{can-push, pushed-next}
use Rattle.k_tuple.proofs.list.made.Goals as goal

pub sealed-s-requires : goal.sealed-s-requires
sealed-s-requires c = let h = c.requires.narrow in (omega arith, omega arith, rw (word_value 0) (lit< tt))

pub loop-t-init : goal.loop-t-init
loop-t-init c = (omega arith, c.sealed-s.ensures ∙ ap words (none_is c.args.w))

pub push-s-requires : goal.push-s-requires
push-s-requires c =
    rw c.from.ensures
    (can-push c.args.w c.args.ts.now c.requires c.loop-t.t-index c.loop-t.s c.loop-t.invariant.1 (omega arith))

pub loop-t-preserved : goal.loop-t-preserved
loop-t-preserved c = (
  omega arith,
  rw (add-one c.loop-t.t-index) (c.push-s.ensures ∙ ap (λ (x : ℕ). pushed_in x (reads c.loop-t.s)) c.from.ensures ∙ pushed-next c.args.w c.args.ts.now c.requires c.loop-t.t-index c.loop-t.s c.loop-t.invariant.1 (omega arith)),
)
