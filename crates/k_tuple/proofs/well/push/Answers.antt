-- `k_tuple::well::push` meets its contract. Assumes nothing.
use native.Mathlib.Omega.{arith}
use mathlib.Core.Path.{sym, ◌∙◌}
use Rattle.k_tuple.specs.Wide.{value}
use Rattle.k_tuple.proofs.Pushing.{push-stays, push-room, push-grows}
use Rattle.k_tuple.proofs.well.push.Goals as goal

pub returns-then-is_ended : goal.returns-then-is_ended
returns-then-is_ended c =
    push-stays c.args.t c.args.x c.requires (omega arith) (sym c.is_ended.ensures ∙ c.if-is_ended.true)

pub appended-requires : goal.appended-requires
appended-requires c =
    let h = c.held in
    push-room c.args.t c.args.x c.requires c.width.result h.result.count (value h.result.slots.lo h.result.slots.hi) c.width.ensures h.ensures.0 h.ensures.1

pub returns : goal.returns
returns c =
    let h = c.held in
    c.appended.ensures
    ∙ push-grows c.args.t c.args.x c.requires c.width.result h.result.count (value h.result.slots.lo h.result.slots.hi) c.width.ensures h.ensures.0 h.ensures.1 (sym c.is_ended.ensures ∙ c.if-is_ended.false)
