-- `first::right::join_nonterminal` meets its contract. Assumes nothing.
use mathlib.Core.Path.{sym, subst}
use mathlib.Core.List.{List, []}
use Prim.Native.Nat.{◌<◌}
use native.Mathlib.Omega.{arith}
use lib.Seq.{get_or-take}
use Rattle.k_tuple.specs.Strings.{Str}
use Rattle.k_tuples.specs.Sets.{join_sets}
use Rattle.k_tuples.specs.States.{set_of}
use Rattle.k_tuples.specs.Held.{Holds}
use Rattle.blocks.proofs.Stores.{block_room, block-holds}
use Rattle.first.specs.Steps.{InWork, result_sets}
use Rattle.first.proofs.right.join_nonterminal.Goals as goal
use Rattle.first.proofs.right.join_nonterminal.Goals.{After-block-y, Start}

-- the nonterminal's set is one of the result
i-in : (c : Start) → c.args.i < c.args.u.rsets
i-in c = omega (arith, c.requires.0.1.after, c.requires.0.1.within, c.requires.1)

-- the two sets
first : (c : After-block-y) → let a = c.args in Holds a.k a.u.w (set_of (result_sets a.u a.res.now) a.at) c.block-x.result.now
first c = rw c.block-x.ensures (block-holds c.requires.0.0.result-store c.requires.0.1.within)

second : (c : After-block-y) → let a = c.args in Holds a.k a.u.w (set_of (result_sets a.u a.res.now) a.i) c.block-y.result.now
second c = rw c.block-y.ensures (block-holds c.requires.0.0.result-store (i-in (goal.at.After-block-y c).Start))

pub block-x-requires : goal.block-x-requires
block-x-requires c = block_room c.requires.0.0.result-store c.requires.0.1.within

pub block-y-requires : goal.block-y-requires
block-y-requires c = block_room c.requires.0.0.result-store (i-in (goal.at.block-y-requires c).Start)

pub join_into-requires : goal.join_into-requires
join_into-requires c =
    let ready = c.requires.0.0 in
    let blocks = (goal.at.join_into-requires c).After-block-y in
    (record { width = c.args.u.w; x = _; y = _; some = ready.least; short = ready.most; store = ready.scratch-store; first = first blocks; second = second blocks }, ready.work)

pub returns : goal.returns
returns c =
    let a = c.args in
    let j = c.join_into in
    let sets = result_sets a.u a.res.now in
    let blocks = (goal.at.returns c).After-block-y in
    subst (λ (y : List Str). InWork a.u a.k a.u.n 0 (join_sets a.k (set_of sets a.at) y) j.result a.scratch.now j.new.words)
    (sym (get_or-take a.u.n sets a.i [] c.requires.1))
    (j.ensures.step a.u.w (set_of sets a.at) (set_of sets a.i) c.requires.0.0.scratch-store (first blocks) (second blocks))
