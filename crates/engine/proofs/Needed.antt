-- How many words an accepted grammar needs. Assumes nothing.
use Prim.Native.Nat.{ℕ, ◌+◌, ◌*◌, ◌≤◌}
use native.Mathlib.Omega.{arith}
use mathlib.Core.Path.{◌≡◌, ◌∙◌}
use mathlib.Core.List.{List}
use Rattle.cfg.specs.Written.{productions_of, occurrences}
use Rattle.cfg.specs.Words.{Sound}
use Rattle.cfg.proofs.Sizes.{length-productions}
use Rattle.cfg.proofs.Tests.{sound-wider}
use Rattle.analysis.specs.Analysis.{result_needs}
use Rattle.analysis.proofs.Counts.{occurrences-count}
use Rattle.cfg.specs.declared.table.Shape.{Shape}
use Rattle.engine.specs.Steps.{grammar_in, Ready}

module _ {k c : ℕ} {s : Shape} {words : List ℕ} (ready : Ready k c s words) where
  -- what the functions of cfg ask
  pub sound-128 : Sound 128 s.p words
  sound-128 = sound-wider s.n 128 ready.sizes.nonterminals s.p words ready.sound

  pub productions-few : s.p ≤ 512
  productions-few = let l = length-productions s.p words in omega (arith, ready.sizes.productions)

  module _ {n p q : ℕ} (en : n ≡ s.n) (ep : p ≡ s.p) (eq : q ≡ occurrences (productions_of s.p words)) where
    pub sets-few : 2 * n + p + q ≤ 4864
    sets-few = omega (arith, ready.sizes.nonterminals, productions-few, ready.sizes.positions)

    pub result-size : {r : ℕ} → r ≡ (2 * n + p + q) * (2 * c + 1) → r ≡ result_needs c (grammar_in s words)
    result-size e =
        e ∙ rw (en, ep, eq, length-productions s.p words, occurrences-count (productions_of s.p words))

pub scratch-size : (n c : ℕ) {x r : ℕ} → x ≡ n → r ≡ (2 * x + 4) * (2 * c + 1) → r ≡ (2 * n + 4) * (2 * c + 1)
scratch-size n c e f = f ∙ rw e
