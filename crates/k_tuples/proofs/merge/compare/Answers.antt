-- `k_tuples::merge::compare` meets its contract. Assumes nothing.
use native.Mathlib.Omega.{arith}
use mathlib.Core.Path.{◌≡◌, refl, ◌∙◌}
use mathlib.Core.Bool.{Bool, true, false, cond}
use Prim.Native.Nat.{ℕ}
use borrow.Author.Tests.{le-ltb, eq-eqb, ne_eqb}
use lib.Dec.{ltb}
use Rattle.std.specs.declared.cmp.Ordering.{Ordering}
use Rattle.std.specs.declared.cmp.Ordering.TheVariants.{Less, Greater}
use Rattle.std.specs.Ordering.{nat_cmp, ordering_then}
use Rattle.k_tuple.proofs.Ordered.{words-cmp}
use Rattle.k_tuples.specs.Merging.{side_of}
use Rattle.k_tuples.proofs.merge.compare.Goals as goal

-- the first of two orders decides, or where that is of equals the second
first-same : (a b : ℕ) (o : Ordering) → a ≡ b → o ≡ ordering_then (nat_cmp a b) o
first-same a b o e = rw (le-ltb a b (omega arith), eq-eqb a b e)

first-differs : (a b : ℕ) (o : Ordering) → (a ≡ b → ⊥) → nat_cmp a b ≡ ordering_then (nat_cmp a b) o
first-differs a b o n = rw (ne_eqb a b n) (by (ltb a b))
  where
    by : (t : Bool) → cond t Less Greater ≡ ordering_then (cond t Less Greater) o
    by true = refl
    by false = refl

pub returns-then-x-y : goal.returns-then-x-y
unfolding side_of
returns-then-x-y c =
    let x = c.args.x in
    let y = c.args.y in
    c.cmp.ensures ∙ first-same x.hi y.hi _ c.if-x-y.true ∙ words-cmp x.lo x.hi y.lo y.hi (omega arith) (omega arith)

pub returns-else-x-y : goal.returns-else-x-y
unfolding side_of
returns-else-x-y c =
    let x = c.args.x in
    let y = c.args.y in
    c.cmp-else-x-y.ensures ∙ first-differs x.hi y.hi _ c.if-x-y.false ∙ words-cmp x.lo x.hi y.lo y.hi (omega arith) (omega arith)
