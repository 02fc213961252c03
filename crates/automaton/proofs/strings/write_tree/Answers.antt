-- `strings::write_tree` meets its contract. Assumes nothing.
use Rattle.automaton.proofs.Sizing.{listed-strings, tree-written, none_written}
use Rattle.automaton.proofs.strings.write_tree.Goals as goal

pub returns-in_default : goal.returns-in_default
returns-in_default c = let s = c.requires in none_written s.0.0 s.0.1 c.list_for.ensures _ c.in_default.is _ _

pub written-told-requires : goal.written-told-requires
written-told-requires c = let s = c.requires in (listed-strings s.0.0 s.0.1 c.list_for.ensures _ c.in-Ok.is, s.1.1)

pub returns : goal.returns
returns c = let s = c.requires in tree-written s.0.0 s.0.1 c.list_for.ensures _ c.in-Ok.is c.written-told.ensures
