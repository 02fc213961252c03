-- What the loop of `cfg::accept::all_marked` keeps.
use Rattle.cfg.proofs.Rounds.{Sees}
use Rattle.cfg.specs.Closure.{all_marked}
use Rattle.cfg.specs.Written.{symbol_of}
use mathlib.Core.List.{map}
use Rattle.cfg.proofs.accept.all_marked.Given as goal

abbrev pub invariant-loop-code : goal.invariant-loop-code
invariant-loop-code l = Sees l.free l.marks l.right (all_marked l.free l.marks (map symbol_of l.right)) l.code-index
