-- What the loop of `first::round::add_productions` keeps.
use Rattle.cfg.specs.Productions.{productions_in}
use Rattle.first.specs.Steps.{old_sets}
use Rattle.first.specs.Rounds.{new_sets}
use Rattle.first.proofs.Rounds.{Adding, round_over}
use Rattle.first.proofs.round.add_productions.Given as goal

abbrev pub invariant-loop-q : goal.invariant-loop-q
invariant-loop-q l =
    let goal = round_over l.u l.k l.due (old_sets l.u l.initial.res) (new_sets l.u l.initial.scratch) l.u.p l.words in
    Adding l.u l.at l.k l.due goal l.initial.res l.initial.scratch (productions_in l.q-iterator) l.res l.scratch
