-- `k_tuples::merge::put` meets its contract. Assumes nothing.
use native.Mathlib.Omega.{arith}
use lib.ListN.{length-set}
use Rattle.k_tuples.proofs.Merging.{put_is}
use Rattle.k_tuples.proofs.merge.put.Goals as goal

pub bounds-dst-n-2 : goal.bounds-dst-n-2
bounds-dst-n-2 c = simp length-set (omega arith)

pub returns : goal.returns
returns c = search put_is
