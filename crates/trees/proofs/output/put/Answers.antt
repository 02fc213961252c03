-- `trees::output::put` meets its contract. Assumes nothing.
use Rattle.trees.proofs.Writing.{size-one, size-two, put_one, put_two}
use native.Mathlib.Omega.{arith}
use lib.ListN.{length-set}
use Rattle.trees.proofs.output.put.Goals as goal

pub bounds-bytes-at : goal.bounds-bytes-at
bounds-bytes-at c = let h = size-one _ c.if-v-lt128.true in omega arith

pub returns-then-v-lt128 : goal.returns-then-v-lt128
returns-then-v-lt128 c = search put_one

pub bounds-bytes-at-2 : goal.bounds-bytes-at-2
bounds-bytes-at-2 c = let h = size-two _ c.if-v-lt128.false in omega arith

pub bounds-bytes-at-3 : goal.bounds-bytes-at-3
bounds-bytes-at-3 c = let h = size-two _ c.if-v-lt128.false in simp length-set (omega arith)

pub returns : goal.returns
returns c = search put_two
