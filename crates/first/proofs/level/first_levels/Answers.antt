-- `first::level::first_levels` meets its contract. Assumes nothing.
use native.Mathlib.Omega.{arith}
use Rattle.first.proofs.Levels.{begin-ready, begin-run}
use Rattle.first.proofs.level.first_levels.Goals as goal

pub start_sets-requires : goal.start_sets-requires
start_sets-requires c =
    let ready = c.requires.0.0 in
    ((ready.result-store, ready.some), ((ready.wide, ready.narrow), omega (arith, c.requires.0.1.after, c.requires.0.1.within)))

pub run_levels-requires : goal.run_levels-requires
run_levels-requires c = ((begin-ready c.args.at c.requires.0.0 c.start_sets.ensures, c.requires.0.1), c.requires.1)

pub returns : goal.returns
returns c =
    begin-run c.args.at c.requires.0.0 c.start_sets.ensures c.args.k c.args.words.now c.run_levels.ensures
