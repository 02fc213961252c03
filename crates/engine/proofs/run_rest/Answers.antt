-- `engine::run_rest` meets its contract. Assumes nothing.
use mathlib.Core.Path.{◌≡◌}
use borrow.Author.Rules.{rules}
use Rattle.std.specs.Prelude.{Err}
use Rattle.engine.proofs.Running.{production-full, follow-ready, follow-words, rest-done, rest-refused}
use Rattle.engine.proofs.run_rest.Goals as goal

pub returns-in_err-first_productions : goal.returns-in_err-first_productions
returns-in_err-first_productions c =
    let e : c.from_residual.result ≡ Err c.in_err-first_productions.field-0.0 = search rules in
    rw e (production-full c.requires _ _ c.in_err-first_productions.ensures)

pub follow_all-requires : goal.follow_all-requires
follow_all-requires c = (follow-ready c.requires c.in_ok-first_productions.ensures, follow-words c.requires)

pub returns-in_err-follow : goal.returns-in_err-follow
returns-in_err-follow c =
    let e : c.from_residual-in_err-follow.result ≡ Err c.in_err-follow.field-0.0 = search rules in
    rw e (rest-refused c.requires _ _ c.in_ok-first_productions.ensures c.in_err-follow.ensures)

pub returns : goal.returns
returns c = rest-done c.requires _ _ c.in_ok-first_productions.ensures c.in_ok-follow.ensures
