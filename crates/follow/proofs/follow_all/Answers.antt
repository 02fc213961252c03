-- `follow_all` meets its contract: FOLLOW, and then the positions. Assumes nothing.
use Rattle.std.specs.Prelude.{Err}
use borrow.Author.Rules.{rules}
use mathlib.Core.Path.{◌≡◌}
use Rattle.follow.proofs.Composed.{follow-refused, follow-ready, follow-suffixed, positions-refused, positions-done}
use Rattle.follow.proofs.follow_all.Goals as goal

pub returns-in_err-rounds : goal.returns-in_err-rounds
returns-in_err-rounds c =
    let e : c.from_residual.result ≡ Err c.in_err-rounds.field-0.0 = search rules in
    rw e (follow-refused c.requires.0 c.requires.1 c.in_err-rounds.ensures)

pub make_positions-requires : goal.make_positions-requires
make_positions-requires c = (follow-ready c.requires.0 c.requires.1 c.in_ok-rounds.ensures, follow-suffixed c.requires.0 c.requires.1 c.in_ok-rounds.ensures)

pub returns-in_err-make_positions : goal.returns-in_err-make_positions
returns-in_err-make_positions c =
    let e : c.from_residual-in_err-make_positions.result ≡ Err c.in_err-make_positions.field-0.0 = search rules in
    rw e (positions-refused c.requires.0 c.requires.1 c.in_ok-rounds.ensures c.in_err-make_positions.ensures)

pub returns : goal.returns
returns c = positions-done c.requires.0 c.requires.1 c.in_ok-rounds.ensures c.in_ok-make_positions.ensures
