-- `first::round::first_round` meets its contract. Assumes nothing.
use Rattle.std.specs.Prelude.{Ok, Err}
use native.Mathlib.Omega.{arith}
use Rattle.first_theory.specs.Compute.{round}
use Rattle.first.specs.Steps.{old_sets, room, Ready}
use Rattle.first.specs.Rounds.{grammar_in, round_told, Rounded}
use Rattle.first.specs.Due.{Alike}
use borrow.Author.Rules.{rules}
use mathlib.Core.Path.{◌≡◌}
use Rattle.first.proofs.Rounds.{round-ready, round-over, round-made, round-done, round-alike}
use Rattle.first.proofs.round.first_round.Goals as goal
use Rattle.first.proofs.round.first_round.Goals.{After-take_first, In_ok-add_productions}

-- the new sets were made
made : (c : In_ok-add_productions) → let a = c.args in let m = c.add_productions in Ready a.u a.k m.new.res m.new.scratch
made c =
    round-made c.requires.0.0.0 c.requires.0.1 c.requires.1.0 c.clear_due.ensures c.in_ok-add_productions.ensures

pub add_productions-requires : goal.add_productions-requires
add_productions-requires c =
    ((round-ready c.requires.0.0.0 c.requires.0.1 c.requires.1.0 c.clear_due.ensures, c.requires.0.0.1), c.requires.0.1)

pub returns-in_err-add_productions-clause-rounded : goal.returns-in_err-add_productions-clause-rounded
returns-in_err-add_productions-clause-rounded c =
    let e : c.from_residual.result ≡ Err c.in_err-add_productions.field-0.0 = search rules in
    rw e (round-over c.requires.0.0.0 c.requires.0.1 c.requires.1.0 c.clear_due.ensures c.in_err-add_productions.ensures)

pub take_first-requires : goal.take_first-requires
take_first-requires c =
    let ready = made (goal.at.take_first-requires c).In_ok-add_productions in
    (record { k = c.args.k; width = c.args.u.w; first = ready.result-store; second = ready.scratch-store }, (omega (arith, c.requires.0.0.1.after, c.requires.0.0.1.within), (omega (arith, ready.work), c.requires.1.1)))

-- they took the place of the old ones
done : (c : After-take_first) → let a = c.args in let t = c.take_first in
    Rounded a.u a.at a.k (round (room a.u) (grammar_in a.u a.words.now) a.k (old_sets a.u a.res.now)) (Ok (round_told t.result)) a.res.now a.scratch.now t.new.words c.add_productions.new.scratch
done c =
    round-done c.requires.0.0.0 c.requires.0.1 c.requires.1.0 c.clear_due.ensures c.in_ok-add_productions.ensures c.take_first.ensures

-- and those that are marked were there before
alike : (c : After-take_first) → let a = c.args in let t = c.take_first in Alike a.u t.new.same a.res.now t.new.words
alike c =
    round-alike c.requires.0.0.0 c.requires.0.1 c.requires.1.0 c.clear_due.ensures c.in_ok-add_productions.ensures c.take_first.ensures

pub returns-then-take_first-clause-rounded : goal.returns-then-take_first-clause-rounded
returns-then-take_first-clause-rounded c = rw c.if-take_first.true at (done (goal.at.returns-then-take_first-clause-rounded c).After-take_first)

pub returns-then-take_first-clause-marked : goal.returns-then-take_first-clause-marked
returns-then-take_first-clause-marked c = alike (goal.at.returns-then-take_first-clause-marked c).After-take_first

pub returns-clause-rounded : goal.returns-clause-rounded
returns-clause-rounded c = rw c.if-take_first.false at (done (goal.at.returns-clause-rounded c).After-take_first)

pub returns-clause-marked : goal.returns-clause-marked
returns-clause-marked c = alike (goal.at.returns-clause-marked c).After-take_first
