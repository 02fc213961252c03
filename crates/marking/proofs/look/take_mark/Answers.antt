-- `look::take_mark` meets its contract. Assumes nothing.
use native.Mathlib.Omega.{arith}
use Rattle.marking.proofs.Looking.{block_room, mark-absent, mark-small, mark-again, mark-taken}
use Rattle.marking.proofs.look.take_mark.Goals as goal

pub returns-in_default : goal.returns-in_default
returns-in_default c = mark-absent c.seek.ensures c.in_default.is

pub overflow_add-e : goal.overflow_add-e
overflow_add-e c = let l = mark-small c.seek.ensures c.in-Some.is (block_room c.requires.0.0 _ c.requires.1.0) c.requires.0.1 c.requires.1.1.0 in omega arith

pub is_marked-requires : goal.is_marked-requires
is_marked-requires c = mark-small c.seek.ensures c.in-Some.is (block_room c.requires.0.0 _ c.requires.1.0) c.requires.0.1 c.requires.1.1.0

pub returns-then-is_marked : goal.returns-then-is_marked
returns-then-is_marked c = mark-again c.seek.ensures c.in-Some.is c.is_marked.ensures c.if-is_marked.true

pub set_mark-requires : goal.set_mark-requires
set_mark-requires c = (mark-small c.seek.ensures c.in-Some.is (block_room c.requires.0.0 _ c.requires.1.0) c.requires.0.1 c.requires.1.1.0, c.requires.1.1.1)

pub returns : goal.returns
returns c = mark-taken c.seek.ensures c.in-Some.is c.is_marked.ensures c.if-is_marked.false c.set_mark.ensures
