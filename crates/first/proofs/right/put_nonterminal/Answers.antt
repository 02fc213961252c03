-- `first::right::put_nonterminal` meets its contract. Assumes nothing.
use lib.ListN.{set}
use Rattle.k_tuples.specs.States.{set_of}
use Rattle.blocks.specs.Stores.{Turned}
use Rattle.blocks.proofs.Stores.{turned-store}
use Rattle.first.specs.Steps.{result_sets, scratch_sets}
use Rattle.first.proofs.Walk.{copied_placed}
use Rattle.first.proofs.right.put_nonterminal.Goals as goal
use Rattle.first.proofs.right.put_nonterminal.Goals.{After-copy_block}

-- set n of the scratch has become set i of the result
copied : (c : After-copy_block) → let a = c.args in
    Turned a.k a.u.w a.u.b a.u.ssets (set (scratch_sets a.u a.scratch.now) a.u.n (set_of (result_sets a.u a.res.now) a.i)) a.scratch.now c.copy_block.new.words
copied c =
    c.copy_block.ensures.step c.args.k c.args.u.w c.requires.0.0.scratch-store c.requires.0.0.result-store

pub copy_block-requires-2 : goal.copy_block-requires-2
copy_block-requires-2 c =
    let ready = c.requires.0.0 in
    (record { k = c.args.k; width = c.args.u.w; first = ready.result-store; second = turned-store (copied (goal.at.copy_block-requires-2 c).After-copy_block) }, (ready.work, c.requires.0.1.within))

pub returns : goal.returns
returns c =
    let first = copied (goal.at.returns c).After-copy_block in
    copied_placed c.requires.0.0 c.requires.1 first
    (c.copy_block-2.ensures.step c.args.k c.args.u.w c.requires.0.0.result-store (turned-store first))
