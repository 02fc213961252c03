-- `blocks::clear_first` meets its contract. The loop's invariant: the first i sets are empty. Assumes nothing.
use mathlib.Core.Path.{subst}
use mathlib.Core.List.{[]}
use native.Mathlib.Omega.{arith}
use lib.ListN.{set}
use Rattle.k_tuples.specs.States.{State}
use Rattle.k_tuples.specs.Blocks.{sets_in}
use Rattle.k_tuples.proofs.Blocks.{in-sets}
use Rattle.blocks.specs.Stores.{Turned}
use Rattle.blocks.proofs.Stores.{as-turned, turned-store, turned_then, repeat-more}
use Rattle.blocks.proofs.clear_first.Goals as goal

pub loop-i-init : goal.loop-i-init
loop-i-init c = (omega arith, λ k w h. as-turned h)

pub clear_block-requires : goal.clear_block-requires
clear_block-requires c =
    let p = c.requires in
    (record { k = p.0.k; width = p.0.width; store = turned-store (c.loop-i.invariant.1 p.0.k p.0.width p.0.store) }, omega (arith, c.loop-i-test.true))

pub loop-i-preserved : goal.loop-i-preserved
loop-i-preserved c =
    let l = c.loop-i in
    let a = c.args in
    let more = c.loop-i-test.true in (
      omega arith,
      λ k w h.
          subst (λ (F : State). Turned k w a.b a.m F a.words.now c.clear_block.new.words)
          (repeat-more l.i [] (sets_in a.b a.m a.words.now) (in-sets h (omega (arith, c.requires.1))))
          (turned_then (l.invariant.1 k w h) (λ F. set F l.i []) (c.clear_block.ensures.step k w (turned-store (l.invariant.1 k w h)))),
    )
