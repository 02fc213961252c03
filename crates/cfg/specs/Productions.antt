-- The productions that the words of an iterator hold. Assumes nothing.
use Rattle.std.specs.Prelude.{List, map}
use Rattle.cfg.specs.declared.grammar.Sides.{Sides}
use Rattle.cfg.specs.declared.grammar.Productions.{Productions}
use Rattle.cfg.specs.Grammar.{Production}
use Rattle.cfg.specs.Written.{symbol_of, productions_of}

abbrev pub production_in : Sides → Production
production_in q = record { left = q.left; right = map symbol_of q.right.now }

abbrev pub productions_in : Productions → List Production
productions_in ps = productions_of ps.p ps.words.now
