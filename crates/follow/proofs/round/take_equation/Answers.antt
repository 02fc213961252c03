-- `round::take_equation` meets its contract. Assumes nothing.
use mathlib.Core.Path.{◌≡◌}
use native.Mathlib.Omega.{arith}
use borrow.Author.Rules.{rules}
use Rattle.std.specs.Prelude.{Err}
use Rattle.follow.proofs.Standing.{taken-full, taken-same, added-both, taken-added}
use Rattle.follow.proofs.round.take_equation.Goals as goal

pub returns-in_err-join_equation : goal.returns-in_err-join_equation
returns-in_err-join_equation c =
    let a = c.args in
    let e : c.from_residual.result ≡ Err c.in_err-join_equation.field-0.0 = search rules in
    rw e (taken-full a.u a.k a.i a.source a.target c.requires.0.0 c.requires.1 c.in_err-join_equation.ensures)

pub copy_block-requires : goal.copy_block-requires
copy_block-requires c =
    let a = c.args in (
      added-both a.u a.k a.i a.source a.target c.requires.0.0 c.requires.1 (rw c.in-Added.is at c.in_ok-join_equation.ensures),
      (omega (arith, c.requires.1.to, c.requires.0.0.work), omega (arith, c.requires.1.to, c.requires.1.place)),
    )

pub returns-in-Added : goal.returns-in-Added
returns-in-Added c =
    let a = c.args in
    taken-added a.u a.k a.i a.source a.target c.requires.0.0 c.requires.1 (rw c.in-Added.is at c.in_ok-join_equation.ensures) c.copy_block.ensures

pub returns-in-Same : goal.returns-in-Same
returns-in-Same c =
    let a = c.args in
    taken-same a.u a.k a.i a.source a.target c.requires.0.0 c.requires.1 (rw c.in-Same.is at c.in_ok-join_equation.ensures)
