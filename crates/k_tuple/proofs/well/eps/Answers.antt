-- `k_tuple::well::eps` meets its contract. Assumes nothing.
use native.Mathlib.Omega.{arith}
use Prim.Native.Nat.{ℕ}
use mathlib.Core.Path.{ap, ◌∙◌}
use Rattle.k_tuple.specs.Wide.{value}
use Rattle.k_tuple.specs.Strings.{fields}
use Rattle.k_tuple.specs.Packed.{words}
use Rattle.k_tuple.proofs.Words.{word_value}
use Rattle.k_tuple.proofs.Pushing.{eps-is, ones_small}
use Rattle.k_tuple.proofs.well.eps.Goals as goal

pub sealed-requires : goal.sealed-requires
sealed-requires c = (omega arith, omega arith, rw (word_value c.ones.result, c.ones.ensures) (ones_small c.args.w c.requires))

pub returns : goal.returns
returns c =
    let w = c.args.w in
    c.sealed.ensures ∙ ap (λ (o : ℕ). words (fields w 1 (value o 0))) c.ones.ensures ∙ ap words (eps-is w)
