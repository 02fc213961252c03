-- `k_joins::runs::join_large` meets its contract. Assumes nothing.
use native.Mathlib.Omega.{arith}
use Rattle.k_joins.proofs.Joining.{joining-of}
use borrow.Author.Rules.{rules}
use Rattle.k_joins.proofs.runs.join_large.Goals as goal

pub join_runs-requires : goal.join_runs-requires
join_runs-requires c = (
  (search rules, (search rules, search rules)),
  joining-of c.requires.1.0 c.requires.0.1.0 c.requires.0.1.1 (λ i. omega (arith, c.type_inv.xs i)) (λ i. omega (arith, c.type_inv.ys i))
      c.requires.1.1.0 c.requires.1.1.1 c.has_sizes.ensures c.if-has_sizes.true,
)
