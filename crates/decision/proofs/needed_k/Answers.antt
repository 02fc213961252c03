-- `needed_k` meets its contract. Assumes nothing.
use Rattle.refusals.specs.declared.Refusal.TheVariants.{KOutside, RoomOutside}
use Rattle.decision.proofs.Finishing.{refused-is, limit-low, limit-high, c-low, c-high}
use Rattle.decision.proofs.needed_k.Goals as goal

pub returns-then-limit-lt1 : goal.returns-then-limit-lt1
returns-then-limit-lt1 c = search (limit-low, refused-is KOutside)

pub returns-then-limit-gt10 : goal.returns-then-limit-gt10
returns-then-limit-gt10 c = search (limit-high, refused-is KOutside)

pub returns-then-c-lt1 : goal.returns-then-c-lt1
returns-then-c-lt1 c = search (c-low, refused-is RoomOutside)

pub returns-then-c-gt1024 : goal.returns-then-c-gt1024
returns-then-c-gt1024 c = search (c-high, refused-is RoomOutside)
