-- `k_tuples::set::single` meets its contract. Assumes nothing.
use mathlib.Core.Path.{ap}
use mathlib.Core.List.{[], ◌∷◌}
use Prim.Native.Nat.{ℕ}
use native.Mathlib.Omega.{arith}
use Rattle.k_tuples.specs.Words.{flat, count_word, encode}
use Rattle.k_tuples.proofs.Walking.{open-few}
use Rattle.k_tuples.proofs.set.single.Goals as goal

pub overflow_mul-result : goal.overflow_mul-result
overflow_mul-result c = let a = c.args in omega (arith, c.open_one-open.ensures, open-few a.k (a.t ∷ []))

pub overflow_add-result : goal.overflow_add-result
overflow_add-result c = let a = c.args in omega (arith, c.open_one-open.ensures, open-few a.k (a.t ∷ []))

pub returns : goal.returns
unfolding encode count_word flat
returns c = let t = c.args.t in ap (λ (u : ℕ). encode u 3 (t ∷ [])) c.open_one-open.ensures
