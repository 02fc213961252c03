-- `on_trees` meets its contract. Assumes nothing.
use Rattle.automaton.proofs.Ending.{made-wiped}
use Rattle.decision.proofs.Further.{regiven}
use Rattle.automaton.proofs.on_trees.Goals as goal

pub wipe_both-requires : goal.wipe_both-requires
wipe_both-requires c = let m = c.made-answer in regiven c.requires.given m.auto.res m.auto.scratch

pub returns : goal.returns
returns c = made-wiped _ _ _ _ c.made-answer.ensures c.wipe_both.ensures
