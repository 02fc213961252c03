-- What the loop of `cfg::table::read_symbols` keeps.
use Rattle.cfg.proofs.Symbols.{Reads}
use Rattle.cfg.specs.Table.{symbols}
use lib.ListN.{length, take}
use Rattle.cfg.proofs.table.read_symbols.Given as goal

abbrev pub invariant-loop-i : goal.invariant-loop-i
invariant-loop-i l =
    Reads l.table l.shape.n l.shape.t (symbols l.table l.shape.n l.shape.t l.count (take l.used l.initial.words) l.at) (length l.initial.words) l.end l.words l.i l.next
