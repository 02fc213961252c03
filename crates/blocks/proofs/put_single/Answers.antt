-- `blocks::put_single` meets its contract. Assumes nothing.
use mathlib.Core.Path.{ap, ◌∙◌}
use mathlib.Core.List.{[], ◌∷◌}
use native.Mathlib.Omega.{arith}
use Rattle.k_tuple.specs.Packed.{reads}
use Rattle.k_tuple.proofs.Closed.{reads-packed}
use Rattle.blocks.proofs.Stores.{only-holds, only-length}
use Rattle.blocks.proofs.put_single.Goals as goal

pub single-one-requires : goal.single-one-requires
single-one-requires c = let p = c.requires.0 in record { width = p.width; str = p.z; is = ap reads p.is ∙ reads-packed p.width p.z p.fits.well }

pub copy_into-requires : goal.copy_into-requires
copy_into-requires c =
    let p = c.requires.0 in
    let one = c.single-one.ensures in (
      record { k = c.args.k; width = p.width; x = p.z ∷ []; store = p.store; one = only-holds p.width p.z one p.is p.fits },
      (c.requires.1.0, omega (arith, only-length p.width p.z one p.is p.fits, c.requires.1.1)),
    )

pub returns : goal.returns
returns c =
    record {
      step = λ w z h e f. c.copy_into.ensures.step _ w (z ∷ []) h (only-holds w z c.single-one.ensures e f);
    }
