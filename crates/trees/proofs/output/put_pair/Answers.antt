-- `trees::output::put_pair` meets its contract. Assumes nothing.
use Rattle.trees.proofs.Writing.{puts-append, puts-length}
use native.Mathlib.Omega.{arith}
use lib.ListN.{length-append}
use Rattle.cfg.specs.Write.{write_number}
use Rattle.trees.proofs.output.put_pair.Goals as goal

pub put-next-requires : goal.put-next-requires
put-next-requires c = let l = length-append (write_number c.args.x) (write_number c.args.y) in (c.requires.0, omega arith)

pub put-requires : goal.put-requires
put-requires c = let l = length-append (write_number c.args.x) (write_number c.args.y) in let p = c.put-next.ensures in let e = puts-length p in let q = p.place in (c.requires.1.0, omega arith)

pub returns : goal.returns
returns c = puts-append c.put-next.ensures c.put.ensures
