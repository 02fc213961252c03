-- `follow_sets` meets its contract: the suffix sets, the start, the rounds. Assumes nothing.
use Rattle.std.specs.Prelude.{Err}
use borrow.Author.Rules.{rules}
use mathlib.Core.Path.{◌≡◌}
use Rattle.follow.proofs.Composed.{suffixes-over, suffixes-begin, start-running, rounds-followed}
use Rattle.follow.proofs.follow_sets.Goals as goal

pub returns-in_err-make_suffixes : goal.returns-in_err-make_suffixes
returns-in_err-make_suffixes c =
    let e : c.from_residual.result ≡ Err c.in_err-make_suffixes.field-0.0 = search rules in
    rw e (suffixes-over c.requires.0 c.requires.1 c.in_err-make_suffixes.ensures)

pub start_follow-requires : goal.start_follow-requires
start_follow-requires c = suffixes-begin c.requires.0 c.requires.1 c.in_ok-make_suffixes.ensures

pub follow_rounds-requires : goal.follow_rounds-requires
follow_rounds-requires c = start-running c.requires.0 c.requires.1 c.in_ok-make_suffixes.ensures c.start_follow.ensures

pub returns : goal.returns
returns c = rounds-followed c.requires.0 c.requires.1 c.in_ok-make_suffixes.ensures c.start_follow.ensures c.follow_rounds.ensures
