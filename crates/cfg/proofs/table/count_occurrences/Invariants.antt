-- What the loop of `cfg::table::count_occurrences` keeps: what is counted and what is left make the whole.
use Rattle.std.proofs.Common.{◌≡◌, ◌+◌}
use Rattle.cfg.specs.Written.{productions_of, occurrences}
use Rattle.cfg.specs.Productions.{productions_in}
use Rattle.cfg.proofs.table.count_occurrences.Given as goal

abbrev pub invariant-loop-q : goal.invariant-loop-q
invariant-loop-q l = l.count + occurrences (productions_in l.q-iterator) ≡ occurrences (productions_of l.p l.words)
