-- What the functions below the call ask and promise: the call with its table read, and with its words counted. Not for the reader of the call.
-- Assumes nothing.
use Rattle.std.specs.Prelude.{ℕ, ◌+◌, ◌*◌, ◌≤◌, ◌&&◌, List, ◌≡◌, leb, length, drop}
use Rattle.cfg.specs.Grammar.{Grammar, Accepted}
use Rattle.cfg.specs.Words.{Sound}
use Rattle.cfg.specs.Table.{header_of, grammar_of}
use Rattle.cfg.proofs.Sizes.{Sizes}
use Rattle.cfg.proofs.Meaning.{TableRead}
use Rattle.k_tuples.specs.Work.{Answer, got, ◌>>◌, demand}
use Rattle.k_tuples.specs.Blocks.{store}
use Rattle.analysis.specs.Analysis.{Analysis, work, result_needs, scratch_needs}
use Rattle.cfg.specs.declared.table.Shape.{Shape}
use Rattle.engine.specs.Call.{Record, answer_of, sets_of, wiped, Left}

-- the grammar of a shape, whose productions stand in some words
abbrev pub grammar_in : Shape → List ℕ → Grammar
grammar_in s words = grammar_of (header_of s) words

-- k and c in range, and a grammar that was accepted
pub record Ready (k c : ℕ) (s : Shape) (words : List ℕ) : Type 0 where
  pub k>0 : 1 ≤ k
  pub k<11 : k ≤ 10
  pub c>0 : 1 ≤ c
  pub c<1025 : c ≤ 1024
  pub accepted : Accepted (grammar_in s words)
  pub read : TableRead (grammar_in s words)
  pub sizes : Sizes (grammar_in s words)
  pub sound : Sound s.n s.p words

-- buffers with enough words, of which so many are needed
pub record Enough (c : ℕ) (g : Grammar) (needed work-needed : ℕ) (result scratch : List ℕ) : Type 0 where
  pub result-needs : needed ≡ result_needs c g
  pub scratch-needs : work-needed ≡ scratch_needs c g
  pub result_words : needed ≤ length result
  pub scratch-words : work-needed ≤ length scratch

-- buffers whose needed words are there and zero
pub record Clean (c : ℕ) (g : Grammar) (result scratch : List ℕ) : Type 0 where
  pub result-clean : result ≡ wiped (result_needs c g) result
  pub scratch-clean : scratch ≡ wiped (scratch_needs c g) scratch

-- the analysis once the grammar is read
unfoldable pub on_grammar : (k c : ℕ) → Grammar → (result scratch : ℕ) → Answer Analysis
on_grammar k c g result scratch = demand 10 (leb (result_needs c g) result && leb (scratch_needs c g) scratch) >> work k c g

-- the work was done in buffers whose needed words were zero: the answer is its record, the sets stand in the result, and nothing past the needed words has changed
pub record Ran (k c : ℕ) (g : Grammar) (result scratch : List ℕ) (r : Record) (result' scratch' : List ℕ) : Type 0 where
  pub answer : r ≡ answer_of (work k c g)
  pub sets : (a : Analysis) → work k c g ≡ got a → result' ≡ store k (2 * c + 1) a.width (sets_of a) (drop (result_needs c g) result)
  pub result-beyond : drop (result_needs c g) result' ≡ drop (result_needs c g) result
  pub scratch-beyond : drop (scratch_needs c g) scratch' ≡ drop (scratch_needs c g) scratch

-- after the work on a grammar, and after the test for its words too
abbrev pub Worked : (k c : ℕ) → Grammar → (result scratch : List ℕ) → Record → (result' scratch' : List ℕ) → Type 0
Worked k c g result scratch r result' scratch' = Left (work k c g) k c (result_needs c g) (scratch_needs c g) result scratch r result' scratch'

abbrev pub Asked : (k c : ℕ) → Grammar → (result scratch : List ℕ) → Record → (result' scratch' : List ℕ) → Type 0
Asked k c g result scratch r result' scratch' = Left (on_grammar k c g (length result) (length scratch)) k c (result_needs c g) (scratch_needs c g) result scratch r result' scratch'
