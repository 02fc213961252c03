-- `own::begin_one` meets its contract: there is a first production, and none behind it. Assumes nothing.
use mathlib.Core.Path.{refl}
use Rattle.decision.proofs.Sides.{begins-none, begins-several, begins-one}
use Rattle.decision.proofs.own.begin_one.Goals as goal

pub returns-then-p-i : goal.returns-then-p-i
returns-then-p-i c = record { begun = begins-none c.requires.0 c.requires.1 c.if-p-i.true; k = refl }

pub returns-then-j-p : goal.returns-then-j-p
returns-then-j-p c = record { begun = begins-several c.requires.0 c.requires.1 c.if-p-i.false c.if-j-p.true; k = refl }

pub returns : goal.returns
returns c = record { begun = begins-one c.requires.0 c.requires.1 c.if-p-i.false c.if-j-p.false; k = refl }
