-- `k_tuple::well::is_complete` meets its contract. Assumes nothing.
use borrow.Author.Tests.{le-leb, lt-leb}
use mathlib.Core.Path.{sym, ◌∙◌}
use Rattle.k_tuple.proofs.Held.{complete-by}
use Rattle.k_tuple.proofs.well.is_complete.Goals as goal

pub returns-then-k-count : goal.returns-then-k-count
returns-then-k-count c =
    let l = c.count in
    let most = le-leb c.args.k l.result c.if-k-count.true in
    most ∙ sym (complete-by c.args.t c.requires c.args.k l.result l.ensures (sym c.is_eps.ensures ∙ c.if-not-is_eps.true) ∙ rw most)

pub returns-else-k-count : goal.returns-else-k-count
returns-else-k-count c =
    let l = c.count in
    sym (complete-by c.args.t c.requires c.args.k l.result l.ensures (sym c.is_eps.ensures ∙ c.if-not-is_eps.true)
    ∙ rw (lt-leb c.args.k l.result c.if-k-count.false) (sym c.is_ended.ensures))
