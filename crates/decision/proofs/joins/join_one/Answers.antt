-- `joins::join_one` meets its contract. Assumes nothing.
use mathlib.Core.Path.{refl}
use Rattle.std.specs.Prelude.{Err, get_or}
use native.Mathlib.Omega.{arith}
use Rattle.decision.proofs.Numbers.{refusals-set, open-at, ks-refused}
use Rattle.decision.proofs.Joining.{one-skipped, one-over, one_kept}
use Rattle.decision.proofs.joins.join_one.Goals as goal

pub offset_bounds-answers-a : goal.offset_bounds-answers-a
offset_bounds-answers-a c = let f = c.requires.0.1 in let l = f.inside _ c.requires.1.0 in omega (arith, f.few)

pub bounds-answers-a : goal.bounds-answers-a
bounds-answers-a c = let f = c.requires.0.1 in let l = f.inside _ c.requires.1.0 in omega (arith, f.few)

pub returns-then-not-is_open : goal.returns-then-not-is_open
returns-then-not-is_open c =
    let a = get_or c.args.links.now.left c.args.i 0 in
    record { joined = one-skipped refl c.requires.0.0 ((open-at c.args.answers.now a c.is_open.ensures).no c.if-not-is_open.true); ks = refl }

pub overflow_add-from-2 : goal.overflow_add-from-2
overflow_add-from-2 c = let f = c.requires.0.1 in let l = f.inside _ c.requires.1.0 in omega (arith, f.few, f.linked.few)

pub take_join-requires : goal.take_join-requires
take_join-requires c = let f = c.requires.0.1 in let l = f.inside _ c.requires.1.0 in (c.requires.0.0, (omega (arith, f.whole), omega (arith, f.whole)))

pub offset_bounds-answers-a-in-Err : goal.offset_bounds-answers-a-in-Err
offset_bounds-answers-a-in-Err c = let f = c.requires.0.1 in let l = f.inside _ c.requires.1.0 in omega (arith, f.few)

pub bounds-answers-a-in-Err : goal.bounds-answers-a-in-Err
bounds-answers-a-in-Err c = let f = c.requires.0.1 in let l = f.inside _ c.requires.1.0 in omega (arith, f.few)

pub returns-in-Err : goal.returns-in-Err
returns-in-Err c =
    let a = get_or c.args.links.now.left c.args.i 0 in
    let xs = c.args.answers.now in
    let o = (open-at xs a c.is_open.ensures).yes c.if-not-is_open.false in
    let large = (c.take_join.ensures.over c.in-Err.e c.in-Err.is).0 in
    record {
      joined = rw (refusals-set xs a (Err c.in-Err.e), large) (one-over refl o c.take_join.ensures c.in-Err.e c.in-Err.is);
      ks = ks-refused xs a c.in-Err.e o;
    }

pub returns-in_default : goal.returns-in_default
returns-in_default c =
    let a = get_or c.args.links.now.left c.args.i 0 in
    let o = (open-at c.args.answers.now a c.is_open.ensures).yes c.if-not-is_open.false in
    record { joined = one_kept refl o c.take_join.ensures c.in_default.field-0 c.in_default.is; ks = refl }
