-- `trees::measured` meets its contract. Assumes nothing.
use Rattle.trees.proofs.Meaning.{measured-over, ready, measured-size}
use Rattle.trees.proofs.Building.{can-order}
use Rattle.std.proofs.Common.{◌≡◌, Err}
use borrow.Author.Rules.{rules}
use Rattle.trees.proofs.measured.Goals as goal

pub build-requires : goal.build-requires
build-requires c = record { ordered = can-order _ _ _ c.requires c.arrange.ensures; queue-room = search rules; kids-room = search rules; places-room = search rules }

pub returns-in_err-m : goal.returns-in_err-m
returns-in_err-m c = let e : c.from_residual.result ≡ Err c.in_err-m.field-0.0 = search rules in rw e (measured-over _ _ c.requires _ _ _ _ _ c.build.ensures _ c.in_err-m.was)

pub measure-size-requires : goal.measure-size-requires
measure-size-requires c = ready _ _ c.requires _ _ _ _ _ c.build.ensures _ c.in_ok-m.was (search rules) (search rules)

pub returns : goal.returns
returns c = measured-size _ _ c.requires _ _ _ _ _ c.build.ensures _ c.in_ok-m.was (search rules) (search rules) _ c.measure-size.ensures
