-- `table::count_occurrences` meets its contract: the count does not pass the words, of which there are at least as many. Assumes nothing.
use Rattle.std.proofs.Common.{arith}
use Rattle.cfg.proofs.Count.{occurrences-few, counted-more}
use Rattle.cfg.proofs.table.count_occurrences.Goals as goal

pub overflow_add-count : goal.overflow_add-count
overflow_add-count c =
    let a = c.args in
    let all = counted-more _ _ _ c.loop-q.invariant _ _ _ c.in-Some.ensures.steps _ c.count_nonterminals-count.ensures.0 in
    omega (arith, all, occurrences-few 128 a.p a.words.now c.requires)
