-- `k_tuples::set::renumber` meets its contract. Assumes nothing.
use mathlib.Core.Path.{ap, ◌∙◌}
use Prim.Native.Nat.{ℕ}
use native.Mathlib.Omega.{arith}
use lib.ListN.{length}
use Rattle.k_tuples.specs.Words.{count_word, count_in, encode, decode}
use Rattle.k_tuples.proofs.Words.{set-some, length-below, renumbered}
use Rattle.k_tuples.proofs.Walking.{open-few}
use Rattle.k_tuples.proofs.Held.{some-set}
use Rattle.k_tuples.proofs.set.renumber.Goals as goal

pub overflow_mul-set : goal.overflow_mul-set
overflow_mul-set c =
    let a = c.args in
    let ms = decode a.set.now in
    omega (arith, c.unfinished-open.ensures, open-few a.k ms, length-below a.set.now)

pub bounds-set-0 : goal.bounds-set-0
bounds-set-0 c = omega (arith, set-some (some-set c.requires))

pub overflow_add-set : goal.overflow_add-set
overflow_add-set c =
    let a = c.args in
    omega (arith, c.unfinished-open.ensures, open-few a.k (decode a.set.now), length-below a.set.now)

pub bounds-set-0-2 : goal.bounds-set-0-2
bounds-set-0-2 c = omega (arith, set-some (some-set c.requires))

pub returns : goal.returns
unfolding count_word count_in
returns c =
    let ws = c.args.set.now in
    renumbered c.unfinished-open.result (some-set c.requires) ∙ ap (λ (u : ℕ). encode u (length ws) (decode ws)) c.unfinished-open.ensures
