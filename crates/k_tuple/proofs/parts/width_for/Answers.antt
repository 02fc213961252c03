-- `k_tuple::parts::width_for` meets its contract. Assumes nothing.
use native.Mathlib.Omega.{arith}
use Rattle.k_tuple.proofs.Binary.{leading-width}
use Rattle.k_tuple.proofs.parts.width_for.Goals as goal

pub returns : goal.returns
returns c = omega (arith, leading-width c.args.m c.requires)
