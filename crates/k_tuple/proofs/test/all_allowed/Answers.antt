-- `k_tuple::test::all_allowed` meets its contract. The invariant: the test of what is left is the test of the whole. Assumes nothing.
use native.Mathlib.Omega.{arith}
use Prim.Native.Nat.{ℕ, ◌-◌}
use mathlib.Core.Path.{ap, ◌∙◌}
use Rattle.k_tuple.specs.Strings.{digits, allowed}
use Rattle.k_tuple.proofs.Allowed.{at_ones, at_zero, at_slot}
use Rattle.k_tuple.proofs.test.all_allowed.Goals as goal

pub returns-then-x-all : goal.returns-then-x-all
returns-then-x-all c =
    at_ones c.args.w c.ones-all.result c.loop-left.left c.loop-left.rest.lo c.loop-left.rest.hi c.ones-all.ensures c.requires (omega arith) c.loop-left.invariant.0 c.if-x-all.true
    ∙ c.loop-left.invariant.1

pub returns-then-x-eq0 : goal.returns-then-x-eq0
returns-then-x-eq0 c =
    at_zero c.args.w c.ones-all.result c.loop-left.left c.loop-left.rest.lo c.loop-left.rest.hi c.ones-all.ensures c.requires (omega arith) c.loop-left.invariant.0 c.if-x-all.false c.if-x-eq0.true
    ∙ c.loop-left.invariant.1

pub loop-left-preserved : goal.loop-left-preserved
loop-left-preserved c = (
  omega arith,
  ap (λ (v : ℕ). allowed c.args.w (digits c.args.w (c.loop-left.left - 1) v)) c.high_part-rest.ensures
      ∙ at_slot c.args.w c.ones-all.result c.loop-left.left c.loop-left.rest.lo c.loop-left.rest.hi c.ones-all.ensures c.requires (omega arith) c.loop-left.invariant.0 c.if-x-all.false c.if-x-eq0.false
      ∙ c.loop-left.invariant.1,
)
