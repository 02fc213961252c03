-- `first::level::start_sets` meets its contract. The loop's invariant: the first i sets are {ε}. Assumes nothing.
use mathlib.Core.Path.{◌≡◌, subst}
use mathlib.Core.List.{[], ◌∷◌}
use native.Mathlib.Omega.{arith}
use lib.ListN.{set}
use Rattle.k_tuple.specs.Strings.{eps}
use Rattle.k_tuples.specs.States.{State}
use Rattle.k_tuples.proofs.Blocks.{in-sets}
use Rattle.blocks.specs.Stores.{Turned}
use Rattle.blocks.proofs.Stores.{as-turned, turned-store, turned_then, repeat-more}
use Rattle.first.specs.Steps.{result_sets}
use Rattle.first.proofs.Spelling.{eps-fits}
use Rattle.first.proofs.level.start_sets.Goals as goal

pub loop-i-init : goal.loop-i-init
loop-i-init c = (omega arith, as-turned c.requires.0.0)

pub eps-requires : goal.eps-requires
eps-requires c = c.requires.1.0.1

pub put_single-requires : goal.put_single-requires
put_single-requires c =
    let bounds = c.requires.1.0 in (
      record {
        width = c.args.u.w;
        z = eps;
        store = turned-store c.loop-i.invariant.1;
        is = c.eps.ensures;
        fits = eps-fits c.args.u.w bounds.0 bounds.1 1 (omega arith);
      },
      (omega (arith, c.requires.1.1, c.loop-i-test.true), c.requires.0.1),
    )

pub loop-i-preserved : goal.loop-i-preserved
loop-i-preserved c =
    let l = c.loop-i in
    let u = c.args.u in
    let bounds = c.requires.1.0 in
    let put = c.put_single in (
      omega (arith, c.loop-i-test.true),
      subst (λ (F : State). Turned 1 u.w u.b u.rsets F c.args.res.now put.new.words)
          (repeat-more l.i (eps ∷ []) (result_sets u c.args.res.now) (in-sets c.requires.0.0 (omega (arith, c.requires.1.1, c.loop-i-test.true))))
          (turned_then l.invariant.1 (λ F. set F l.i (eps ∷ []))
          (put.ensures.step u.w eps (turned-store l.invariant.1) c.eps.ensures (eps-fits u.w bounds.0 bounds.1 1 (omega arith)))),
    )

pub returns : goal.returns
returns c =
    let l = c.loop-i in
    let all : l.i ≡ c.args.u.n = omega (arith, l.invariant.0, c.loop-i-test.false) in
    rw all at l.invariant.1
