-- The cycle of calls of `accept::visit_corners` and `accept::walk_from`: the measure is twice the depth, and one more for `visit_corners`.
-- The invariants, `Visits` and `Walks`, say that what is left completes the answer. Assumes nothing.
use Rattle.std.proofs.Common.{◌-◌, ◌+◌, ◌*◌, map}
use Rattle.cfg.specs.Written.{symbol_of}
use Rattle.cfg.specs.Productions.{productions_in}
use Rattle.cfg.specs.Corners.{leading, visit, walk}
use Rattle.cfg.proofs.Walk.{Visits, Walks}
use Rattle.cfg.proofs.accept.+visit_corners_walk_from.Given as goal

abbrev pub decreases-visit_corners : goal.decreases-visit_corners
decreases-visit_corners l = 2 * l.depth + 1

abbrev pub decreases-walk_from : goal.decreases-walk_from
decreases-walk_from l = 2 * l.depth

abbrev pub invariant-visit_corners-loop-code : goal.invariant-visit_corners-loop-code
invariant-visit_corners-loop-code l =
    Visits
    l.nullable
    (walk l.nullable (productions_in l.ps) l.depth)
    (visit (walk l.nullable (productions_in l.ps) l.depth) (leading l.nullable (map symbol_of l.right)) l.initial.marks)
    l.right
    l.marks
    l.code-index

abbrev pub invariant-walk_from-loop-q : goal.invariant-walk_from-loop-q
invariant-walk_from-loop-q l =
    Walks
    l.nullable
    (walk l.nullable (productions_in l.ps) (l.depth - 1))
    l.a
    (walk l.nullable (productions_in l.ps) l.depth l.a l.initial.marks)
    (productions_in l.q-iterator)
    l.marks
