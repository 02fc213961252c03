-- `trees::written` meets its contract. Assumes nothing.
use Rattle.trees.proofs.Meaning.{written_over, ready, written-not, write-room, written_all}
use Rattle.trees.proofs.Building.{can-order}
use Rattle.std.proofs.Common.{◌≡◌, Err}
use borrow.Author.Rules.{rules}
use Rattle.trees.proofs.written.Goals as goal

pub build-requires : goal.build-requires
build-requires c = record { ordered = can-order _ _ _ c.requires.0 c.arrange.ensures; queue-room = search rules; kids-room = search rules; places-room = search rules }

pub returns-in_err-m : goal.returns-in_err-m
returns-in_err-m c = let e : c.from_residual.result ≡ Err c.in_err-m.field-0.0 = search rules in rw e (written_over _ _ c.requires.0 _ _ _ _ _ c.build.ensures _ c.in_err-m.was _ _)

pub measure-size-requires : goal.measure-size-requires
measure-size-requires c = ready _ _ c.requires.0 _ _ _ _ _ c.build.ensures _ c.in_ok-m.was (search rules) (search rules)

pub returns-then-bytes-at : goal.returns-then-bytes-at
returns-then-bytes-at c = written-not _ _ c.requires.0 _ _ _ _ _ c.build.ensures _ c.in_ok-m.was (search rules) (search rules) _ _ c.measure-size.ensures _ c.requires.1 c.if-bytes-at.true

pub write-next-requires : goal.write-next-requires
write-next-requires c = let a = ready _ _ c.requires.0 _ _ _ _ _ c.build.ensures _ c.in_ok-m.was (search rules) (search rules) in (a.0, (a.1, write-room _ _ c.requires.0 _ _ _ _ _ c.build.ensures _ c.in_ok-m.was (search rules) (search rules) _ _ c.measure-size.ensures c.args.bytes.now c.requires.1 c.if-bytes-at.false))

pub returns : goal.returns
returns c = written_all _ _ c.requires.0 _ _ _ _ _ c.build.ensures _ c.in_ok-m.was (search rules) (search rules) _ _ c.measure-size.ensures _ c.requires.1 c.if-bytes-at.false _ _ c.write-next.ensures
