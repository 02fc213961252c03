-- `strings::size_of_tree` meets its contract. Assumes nothing.
use borrow.Author.Rules.{rules}
use Rattle.std.proofs.Common.{◌≡◌, Err}
use Rattle.automaton.proofs.Sizing.{listed-over, listed-strings, measured-is}
use Rattle.automaton.proofs.strings.size_of_tree.Goals as goal

pub returns-in_err-m : goal.returns-in_err-m
returns-in_err-m c = let s = c.requires in let e : c.from_residual.result ≡ Err c.in_err-m.field-0.0 = search rules in rw e (listed-over s.0.0 s.0.1 c.list_for.ensures _ c.in_err-m.was)

pub measured-requires : goal.measured-requires
measured-requires c = let s = c.requires in listed-strings s.0.0 s.0.1 c.list_for.ensures _ c.in_ok-m.was

pub returns : goal.returns
returns c = let s = c.requires in measured-is s.0.0 s.0.1 c.list_for.ensures _ c.in_ok-m.was c.measured.ensures
