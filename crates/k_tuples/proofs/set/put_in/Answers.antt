-- `k_tuples::set::put_in` meets its contract. Assumes nothing.
use Rattle.k_tuples.proofs.Shift.{gap-put}
use Rattle.k_tuples.proofs.set.put_in.Goals as goal

pub returns : goal.returns
returns c = gap-put c.args.set.now c.args.at c.args.end c.args.x c.requires.0 c.requires.1 c.copy_within.ensures.after
