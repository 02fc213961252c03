-- `first::round::add_production` meets its contract. Assumes nothing.
use mathlib.Core.Path.{◌≡◌}
use mathlib.Core.List.{map}
use native.Mathlib.Omega.{arith}
use Rattle.cfg.specs.Written.{symbol_of}
use Rattle.std.specs.Prelude.{Err}
use borrow.Author.Rules.{rules}
use Rattle.first.proofs.Rounds.{add-over, add-ready, add-full, add-made}
use Rattle.first.proofs.round.add_production.Goals as goal

pub returns-in_err-first_of_right_side : goal.returns-in_err-first_of_right_side
returns-in_err-first_of_right_side c =
    let e : c.from_residual.result ≡ Err c.in_err-first_of_right_side.field-0.0 = search rules in
    rw e (add-over c.args.left (map symbol_of c.args.right.now) c.in_err-first_of_right_side.ensures)

pub unite_block-requires : goal.unite_block-requires
unite_block-requires c =
    let a = c.args in
    let ready = add-ready a.left (map symbol_of a.right.now) c.requires.0.0 c.requires.0.1 c.in_ok-first_of_right_side.ensures in (
      record { width = a.u.w; first = ready.scratch-store; second = ready.result-store },
      (c.requires.0.1.within, omega (arith, ready.work, c.requires.1.0)),
    )

pub returns-in_err-unite_block : goal.returns-in_err-unite_block
returns-in_err-unite_block c =
    let a = c.args in
    let γ = map symbol_of a.right.now in
    let m = c.in_ok-first_of_right_side.ensures in
    let ready = add-ready a.left γ c.requires.0.0 c.requires.0.1 m in
    let e : c.from_residual-in_err-unite_block.result ≡ Err c.in_err-unite_block.field-0.0 = search rules in
    rw e (add-full a.left γ c.requires.0.0 c.requires.0.1 m c.requires.1.0 (c.in_err-unite_block.ensures.step a.u.w ready.scratch-store ready.result-store))

pub returns : goal.returns
returns c =
    let a = c.args in
    let γ = map symbol_of a.right.now in
    let m = c.in_ok-first_of_right_side.ensures in
    let ready = add-ready a.left γ c.requires.0.0 c.requires.0.1 m in
    add-made a.left γ c.requires.0.0 c.requires.0.1 m c.requires.1.0 (c.in_ok-unite_block.ensures.step a.u.w ready.scratch-store ready.result-store)
