-- `table::count_nonterminals` meets its contract. Assumes nothing.
use Rattle.std.proofs.Common.{◌≡◌, ◌∙◌, ◌%◌, count_by, nat_eq, arith, rules}
use Rattle.std.proofs.lemmas.List.Sums.{count_by-le-length}
use Rattle.cfg.proofs.Count.{nonterminals-even}
use Rattle.cfg.proofs.table.count_nonterminals.Goals as goal

pub returns : goal.returns
returns c =
    let e : c.count.result ≡ count_by (λ x. nat_eq (x % 2) 0) c.args.right.now = search rules in
    (e ∙ nonterminals-even c.args.right.now, omega (arith, count_by-le-length (λ x. nat_eq (x % 2) 0) c.args.right.now))
