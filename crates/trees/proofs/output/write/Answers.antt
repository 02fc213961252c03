-- `trees::output::write` meets its contract. Assumes nothing.
use Rattle.trees.proofs.Writing.{puts-append, puts-length}
use native.Mathlib.Omega.{arith}
use lib.ListN.{length-append}
use Rattle.cfg.specs.Write.{write_number, write_numbers}
use Rattle.trees.specs.Output.{states_in}
use Rattle.trees.proofs.output.write.Goals as goal

pub put-next-requires : goal.put-next-requires
put-next-requires c = let l = length-append (write_number c.args.m) (write_numbers (states_in c.args.list.now c.args.n c.args.queue.now c.args.kids.now 1 0 c.args.m)) in let f = c.requires.1.0.few in (omega arith, omega arith)

pub put_states-requires : goal.put_states-requires
put_states-requires c = let l = length-append (write_number c.args.m) (write_numbers (states_in c.args.list.now c.args.n c.args.queue.now c.args.kids.now 1 0 c.args.m)) in let p = c.put-next.ensures in let e = puts-length p in let q = p.place in (c.requires.0, (c.requires.1.0, omega arith))

pub returns : goal.returns
returns c = puts-append c.put-next.ensures c.put_states.ensures
