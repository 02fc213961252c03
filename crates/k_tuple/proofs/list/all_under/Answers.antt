-- `k_tuple::list::all_under` meets its contract. Assumes nothing.
use Rattle.std.proofs.Common.{◌≤◌, ◌↔◌, IsTrue, All, arith}
use Rattle.std.proofs.lemmas.Grind.{common_steps}
use Rattle.k_tuple.proofs.Lists.{under-means}
use Rattle.k_tuple.proofs.list.all_under.Goals as goal

pub returns : goal.returns
returns c =
    let each : (IsTrue c.all.result ↔ All (λ t. t ≤ c.args.m) c.args.ts.now) = grind (arith, common_steps) in
    under-means c.args.m c.args.ts.now c.all.result each
