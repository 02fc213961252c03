-- `k_joins::runs::add_kept` meets its contract. Assumes nothing.
use Rattle.std.specs.Prelude.{◌≡◌, Err}
use Rattle.k_tuples.proofs.Words.{well-formed-at}
use Rattle.k_joins.proofs.Running.{kept-given, not-kept}
use borrow.Author.Rules.{rules}
use Rattle.k_joins.proofs.runs.add_kept.Goals as goal

pub is_complete-requires : goal.is_complete-requires
is_complete-requires c = search well-formed-at

pub returns-then-not-is_complete : goal.returns-then-not-is_complete
returns-then-not-is_complete c = not-kept _ c.member-x.ensures _ c.is_complete.ensures c.if-not-is_complete.true c.requires.0

pub returns-in_err-insert_at : goal.returns-in_err-insert_at
returns-in_err-insert_at c =
    let e : c.from_residual.result ≡ Err c.in_err-insert_at.field-0.0 = search rules in
    kept-given _ c.member-x.ensures c.place_near-p.result _ c.is_complete.ensures c.if-not-is_complete.false c.insert_at.ensures (rw (e, c.in_err-insert_at.was))

pub returns : goal.returns
returns c = kept-given _ c.member-x.ensures c.place_near-p.result _ c.is_complete.ensures c.if-not-is_complete.false c.insert_at.ensures (rw c.in_ok-insert_at.was)
