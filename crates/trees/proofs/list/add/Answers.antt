-- `trees::list::add` meets its contract. Assumes nothing.
use Rattle.trees.specs.Listed.{no_room}
use Rattle.trees.proofs.Reading.{added}
use mathlib.Core.Path.{refl}
use native.Mathlib.Omega.{arith}
use Rattle.trees.proofs.list.add.Goals as goal

pub returns-then-n-ge2048 : goal.returns-then-n-ge2048
returns-then-n-ge2048 c = no_room refl (omega arith) refl

pub returns : goal.returns
returns c = search added
