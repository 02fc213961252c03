-- `k_joins::runs::next_class` meets its contract. Assumes nothing.
use Rattle.k_joins.proofs.Joining.{first-formed, class-at, class-step}
use Rattle.std.specs.Prelude.{◌≡◌, Err}
use borrow.Author.Rules.{rules}
use Rattle.k_joins.proofs.runs.next_class.Goals as goal

pub class_end-to-requires : goal.class_end-to-requires
class_end-to-requires c =
    let p = c.requires in
    ((search rules, first-formed p.joining), (search rules, class-at c.args.k c.count-slots.result c.args.i c.args.x c.args.xs.now p.here.1 c.count-slots.ensures p.here.2))

pub returns-in_err-join_class-clause-step : goal.returns-in_err-join_class-clause-step
returns-in_err-join_class-clause-step c =
    let e : c.from_residual.result ≡ Err c.in_err-join_class.field-0.0 = search rules in
    class-step c.requires.joining c.class_end-to.ensures c.join_class.ensures.grew (rw (e, c.in_err-join_class.was))

pub returns-clause-step : goal.returns-clause-step
returns-clause-step c = class-step c.requires.joining c.class_end-to.ensures c.join_class.ensures.grew (rw c.in_ok-join_class.was)
