-- The cases of `test_refusal` and of `accept_table`. Assumes nothing.
use Prim.Native.Nat.{ℕ, zero, suc, ◌+◌, ◌≤◌}
use native.Mathlib.Omega.{arith}
use mathlib.Core.Path.{◌≡◌, sym}
use mathlib.Core.List.{List, [], ◌∷◌, map}
use mathlib.Core.Bool.{Bool, true, false}
use lib.ListN.{get_or, take, drop}
use borrow.Author.Tests.{ne_eqb}
use Rattle.refusals.specs.Numbers.{number as number_of}
use Rattle.refusals.specs.declared.Refusal.{Refusal}
use Rattle.refusals.proofs.Numbers.{number-positive}
use Rattle.cfg.specs.Reading.{got, refused}
use Rattle.cfg.specs.Grammar.{Sym, nonterminal, terminal, Production}
use Rattle.cfg.specs.Written.{productions_of, symbol_of}
use Rattle.cfg.specs.Words.{Sound, Below}
use Rattle.cfg.specs.Table.{Header, grammar_of, read_table, GrammarSound}
use Rattle.cfg.specs.Closure.{closure}
use Rattle.cfg.specs.Corners.{left_recursive}
use Rattle.cfg.specs.Accept.{unproductive, test_refusal, accept_table}

module _ (ps : List Production) (n : ℕ) (u : Bool) (e : u ≡ unproductive ps n) where
  pub unproductive-refused : u ≡ true → 8 ≡ test_refusal ps n
  unfolding test_refusal
  unproductive-refused t = rw (← e, t)

  module _ (f : u ≡ false) (nullable : List Bool) (g : nullable ≡ closure false ps n) (l : Bool) (h : l ≡ left_recursive nullable ps n) where
    pub left-recursive-refused : l ≡ true → 9 ≡ test_refusal ps n
    unfolding test_refusal
    left-recursive-refused t = rw (← e, f, ← g, ← h, t)

    pub tests-passed : l ≡ false → 0 ≡ test_refusal ps n
    unfolding test_refusal
    tests-passed t = rw (← e, f, ← g, ← h, t)

-- words that are sound below n are sound below any greater number
pub below_wider : (n m : ℕ) → n ≤ m → (ss : List Sym) → Below n ss → Below m ss
below_wider n m h [] b = tt
below_wider n m h (nonterminal i ∷ ss) b = (omega (arith, b.0), below_wider n m h ss b.1)
below_wider n m h (terminal x ∷ ss) b = below_wider n m h ss b

pub sound-wider : (n m : ℕ) → n ≤ m → (p : ℕ) (ws : List ℕ) → Sound n p ws → Sound m p ws
sound-wider n m h zero ws s = tt
sound-wider n m h (suc p) ws s = (
  record { whole = s.0.whole; left = omega (arith, s.0.left); right = below_wider n m h (map symbol_of (take (get_or ws 1 0) (drop 2 ws))) s.0.right },
  sound-wider n m h p (drop (2 + get_or ws 1 0) ws) s.1,
)

-- what is read is sound below 128, in the words in use
pub words-sound : (n p used k : ℕ) → k ≡ used → (words : List ℕ) → GrammarSound n p used words → Sound 128 p (take k words)
words-sound n p used k same words known = rw same (sound-wider n 128 known.nonterminals p (take used words) known.sound)

module _ (b : List ℕ) (h : Header) (words : List ℕ) (used next k : ℕ) (s : got (grammar_of h (take used words)) next ≡ read_table b) (same : k ≡ used) where
  pub grammar-accepted : 0 ≡ test_refusal (productions_of h.p (take k words)) h.n → got (grammar_of h (take used words)) next ≡ accept_table b
  unfolding accept_table
  grammar-accepted z = rw (← s, sym (rw same at z))

  pub grammar-refused : (e : Refusal) → number_of e ≡ test_refusal (productions_of h.p (take k words)) h.n → refused (number_of e) ≡ accept_table b
  unfolding accept_table
  grammar-refused e z = rw (← s, sym (rw same at z), ne_eqb (number_of e) 0 (λ k. omega (arith, number-positive e)))

pub table-refused : (r : ℕ) (b : List ℕ) → refused r ≡ read_table b → refused r ≡ accept_table b
unfolding accept_table
table-refused r b s = rw (← s)
