-- The cycle of calls of `accept::visit_corners` and `accept::walk_from` meets its contracts: each goal is a turn of the walk.
-- Assumes nothing.
use Rattle.std.proofs.Common.{ap}
use Rattle.cfg.specs.Productions.{productions_in}
use Rattle.cfg.proofs.Walk.{visits-done, terminal-stops, visit-stops, visits-more, turn-walked, turn-kept, walk_none, walks-start, walks-done, walks-corner}
use Rattle.cfg.proofs.accept.+visit_corners_walk_from.Goals as goal
use Rattle.cfg.proofs.accept.+visit_corners_walk_from.Goals.{visit_corners-then-not-marks-b, visit_corners-else-not-marks-b}

pub visit_corners-returns-then-code-eq1 : goal.visit_corners-returns-then-code-eq1
visit_corners-returns-then-code-eq1 t c = search terminal-stops

pub visit_corners-returns-then-not-passed : goal.visit_corners-returns-then-not-passed
visit_corners-returns-then-not-passed t c =
    elim c.if-not-marks-b.branch [
      | visit_corners-then-not-marks-b w ↦ search (visit-stops, turn-walked)
      | visit_corners-else-not-marks-b w ↦ search (visit-stops, turn-kept)
    ]

pub visit_corners-loop-code-preserved : goal.visit_corners-loop-code-preserved
visit_corners-loop-code-preserved t c =
    elim c.if-not-marks-b.branch [
      | visit_corners-then-not-marks-b w ↦ search (visits-more, turn-walked)
      | visit_corners-else-not-marks-b w ↦ search (visits-more, turn-kept)
    ]

pub visit_corners-returns : goal.visit_corners-returns
visit_corners-returns t c = search visits-done

pub walk_from-returns-then-depth-eq0 : goal.walk_from-returns-then-depth-eq0
walk_from-returns-then-depth-eq0 t c = search walk_none

pub walk_from-loop-q-init : goal.walk_from-loop-q-init
walk_from-loop-q-init t c = walks-start _ _ _ _ _ _ c.if-depth-eq0.false (ap productions_in c.into_iter-q-iterator.ensures.into_iter_gives)

pub walk_from-loop-q-preserved-then-q-a : goal.walk_from-loop-q-preserved-then-q-a
walk_from-loop-q-preserved-then-q-a t c = walks-corner _ _ _ _ _ _ c.loop-q.invariant _ _ _ c.in-Some.ensures.steps c.if-q-a.true _ c.visit_corners.ensures

pub walk_from-returns : goal.walk_from-returns
walk_from-returns t c = walks-done _ _ _ _ _ _ c.loop-q.invariant c.in-None.ensures.steps.0
