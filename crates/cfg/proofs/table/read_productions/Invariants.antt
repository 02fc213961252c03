-- What the loop of `cfg::table::read_productions` keeps.
use Rattle.cfg.proofs.Productions.{Reads}
use Rattle.cfg.specs.Table.{productions}
use lib.ListN.{length}
use mathlib.Core.List.{[]}
use Rattle.cfg.proofs.table.read_productions.Given as goal

abbrev pub invariant-loop-i : goal.invariant-loop-i
invariant-loop-i l =
    Reads l.table l.shape.n l.shape.t l.shape.p (productions l.table l.shape.n l.shape.t 0 l.shape.p [] l.at) (length l.initial.words) l.words l.done.value l.i l.done.next
