-- `trees::list::same_start` meets its contract. Assumes nothing.
use Rattle.trees.proofs.Reading.{word-short, string-well, same-starts}
use native.Mathlib.Omega.{arith}
use Rattle.trees.proofs.list.same_start.Goals as goal

pub cut-x-requires : goal.cut-x-requires
cut-x-requires c = let p = c.requires in let w = word-short _ _ _ p.0 p.1.0 in let l = p.2 in (string-well _ _ _ p.0 p.1.0 _ c.string.ensures, omega arith)

pub cut-y-requires : goal.cut-y-requires
cut-y-requires c = let p = c.requires in let w = word-short _ _ _ p.0 p.1.0 in let l = p.2 in (string-well _ _ _ p.0 p.1.1 _ c.string-2.ensures, omega arith)

pub returns : goal.returns
returns c = let p = c.requires in same-starts _ _ p.0 _ _ _ p.1.0 p.1.1 _ _ _ _ c.string.ensures c.string-2.ensures c.cut-x.ensures c.cut-y.ensures _ c.same.ensures
