-- The sets that are answered hold what messages show. Assumes nothing.
use Prim.Native.Nat.{ℕ, ◌≤◌}
use mathlib.Core.List.{List}
use mathlib.Core.Logic.Iff
use mathlib.Core.Path.{◌≡◌}
use Rattle.cfg.specs.Grammar.{Grammar, Accepted}
use Rattle.k_tuple.specs.Strings.{Str}
use Rattle.k_tuples.specs.States.{set_of}
use Rattle.k_tuples.specs.Work.{got}
use Rattle.follow_theory.specs.Follow.{Follow}
use Rattle.analysis.specs.Analysis.{Analysis, work}
use Rattle.analysis.specs.Promises.{IsSetOf}
use Rattle.analysis.proofs.Kept.{answers-right}
use Rattle.messages.specs.Messages.{InMessages, AllReachable}
use Rattle.messages.proofs.Messages.{messages}

-- Where every nonterminal can be reached, the set of FOLLOW of A is that of the messages, each once and in order.
pub set-of-messages : (g : Grammar) → Accepted g → AllReachable g → (k : ℕ) → 1 ≤ k → (A : ℕ) (a : List Str) → IsSetOf (Follow g k A) a → IsSetOf (InMessages g k A) a
set-of-messages g ok reach k k>0 A a is = record { has = λ w. Iff.trans (is.has w) (messages g ok k k>0 reach A w); words = is.words; sorted = is.sorted }

-- So is the one that is answered.
pub answered-messages : (g : Grammar) → Accepted g → AllReachable g → (k c : ℕ) → 1 ≤ k → 1 ≤ c → (a : Analysis) → work k c g ≡ got a
    → (A : ℕ) → IsSetOf (InMessages g k A) (set_of a.follows A)
answered-messages g ok reach k c k>0 room a e A = set-of-messages g ok reach k k>0 A (set_of a.follows A) ((answers-right g k c ok k>0 room a e).follow-sets A)
