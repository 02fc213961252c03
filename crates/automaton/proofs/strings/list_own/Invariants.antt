-- What the loop of `automaton::strings::list_own` keeps.
use Prim.Native.Nat.{◌-◌}
use lib.ListN.{length}
use Rattle.automaton.proofs.Listing.{Gathers}
use Rattle.automaton.proofs.strings.list_own.Given as goal

abbrev pub invariant-loop-i : goal.invariant-loop-i
invariant-loop-i l = Gathers l.t.limit l.t.c l.t.table.now l.t.layout l.t.links.now l.k l.a l.res (length l.initial.list) l.m l.i l.list

abbrev pub decreases-loop-i : goal.decreases-loop-i
decreases-loop-i l = l.p - l.i
