-- `round::take_due` meets its contract. Assumes nothing.
use mathlib.Core.Path.{◌≡◌, refl}
use native.Mathlib.Omega.{arith}
use borrow.Author.Rules.{rules}
use Rattle.std.specs.Prelude.{Err}
use Rattle.follow.specs.Due.{was-due, not-due}
use Rattle.follow.proofs.Rounding.{numbers_fit}
use Rattle.follow.proofs.round.take_due.Goals as goal

pub returns-then-due-source : goal.returns-then-due-source
returns-then-due-source c = not-due c.if-due-source.true refl refl refl refl

pub returns-in_err-take_equation : goal.returns-in_err-take_equation
returns-in_err-take_equation c =
    let e : c.from_residual.result ≡ Err c.in_err-take_equation.field-0.0 = search rules in
    rw e (was-due c.in_err-take_equation.ensures refl)

pub overflow_add-due : goal.overflow_add-due
overflow_add-due c = omega (arith, c.requires.0.1.place, c.well_formed.0, numbers_fit c.requires.0.0.0)

pub overflow_add-due-in-Added : goal.overflow_add-due-in-Added
overflow_add-due-in-Added c = omega (arith, c.requires.0.1.place, c.well_formed.0, numbers_fit c.requires.0.0.0)

pub returns-in-Added : goal.returns-in-Added
returns-in-Added c = was-due (rw c.in-Added.is at c.in_ok-take_equation.ensures) refl

pub returns-in-Same : goal.returns-in-Same
returns-in-Same c = was-due (rw c.in-Same.is at c.in_ok-take_equation.ensures) refl
