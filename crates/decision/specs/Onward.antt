-- What a call that goes on from the answers asks and is promised: the first refusal, a table's layout and links, and the joined sets of those nonterminals
-- that need one k. Assumes nothing.
use Rattle.std.specs.Prelude.{ℕ, ◌+◌, ◌≤◌, ◌<◌, ◌≡◌, cond, List, [], ◌∷◌, map, eqb, get_or, Result, Ok, Err}
use Rattle.refusals.specs.Numbers.{number}
use Rattle.refusals.specs.declared.Refusal.{Refusal}
use Rattle.cfg.specs.Grammar.{Grammar}
use Rattle.k_tuple.specs.Strings.{width_of}
use Rattle.k_tuples.specs.States.{State}
use Rattle.k_tuples.specs.Work.{got}
use Rattle.k_tuples.specs.Blocks.{IsStored}
use Rattle.analysis.specs.Analysis.{result_needs, scratch_needs}
use Rattle.engine.specs.Call.{wiped}
use Rattle.decision_theory.specs.Needed.{Choice, own, decide, needed_k}
use Rattle.decision.specs.declared.Links.{Links}
use Rattle.decision.specs.declared.Layout.{Layout}
use Rattle.decision.specs.Call.{refusals_in, ks_in}
use Rattle.decision.specs.Steps.{Long, held, production_set, grammar_of, Given, Beyond}

-- ---- the first refusal

-- the first number other than 0; 0 where there is none
unfoldable pub first_of : List ℕ → ℕ
first_of [] = 0
first_of (x ∷ xs) = cond (eqb x 0) (first_of xs) x

-- that of the whole call, or the lowest nonterminal's
unfoldable pub first_refusal : ℕ → List ℕ → ℕ
first_refusal whole each = cond (eqb whole 0) (first_of each) whole

-- every k where all have one; else the refusal of the lowest that has none
pub record AllKs (xs : List (Result ℕ Refusal)) (r : Result (List ℕ) Refusal) : Type 0 where
  pub known : (ks : List ℕ) → r ≡ Ok ks → (0 ≡ first_refusal 0 (refusals_in xs)) × (ks ≡ ks_in xs)
  pub lacks : (e : Refusal) → r ≡ Err e → number e ≡ first_refusal 0 (refusals_in xs)

-- ---- every nonterminal is decided

-- each at the k of the list
pub record Known (limit c : ℕ) (g : Grammar) (ks : List ℕ) : Type 0 where
  pub long : Long ks
  pub each : (A : ℕ) → A < g.n → needed_k c g A limit ≡ got (get_or ks A 0)

-- ---- the table, read again

-- a layout and links with which buffers of enough words are given
pub record Prepared (limit c : ℕ) (table : List ℕ) (u : Layout) (links : Links) : Type 0 where
  pub given : (result scratch : ℕ) → result_needs c (grammar_of table) ≤ result → scratch_needs c (grammar_of table) ≤ scratch → Given limit c table u links result scratch

-- ---- one k

-- 22 for each of n nonterminals whose k this is, and 0 for the others
pub record Marked (n k : ℕ) (ks marks : List ℕ) : Type 0 where
  pub these : (A : ℕ) → A < n → get_or ks A 0 ≡ k → get_or marks A 0 ≡ 22
  pub others : (A : ℕ) → A < n → ¬ get_or ks A 0 ≡ k → get_or marks A 0 ≡ 0
  pub long : Long marks

-- A's productions, each with its set in the result
abbrev pub choices_in : Layout → Grammar → State → ℕ → List Choice
choices_in u g R A = map (λ (i : ℕ). record { production = i; ahead = production_set u R i }) (own g A)

-- the result holds sets at k, of the grammar's width, and those of A's productions are what is decided for A
pub record JoinedFor (limit c k : ℕ) (g : Grammar) (u : Layout) (A : ℕ) (result : List ℕ) : Type 0 where
  pub store : IsStored k (width_of (g.t + 5)) u.b u.sets result
  pub decided : decide c g A limit ≡ got (record { k = k; choices = choices_in u g (held u result) A })

-- so for each nonterminal whose k this is
pub record KJoined (limit c k : ℕ) (g : Grammar) (u : Layout) (ks result scratch result' scratch' : List ℕ) : Type 0 where
  pub each : (A : ℕ) → A < g.n → get_or ks A 0 ≡ k → JoinedFor limit c k g u A result'
  -- whatever sets of the grammar's width stood in the result, some do
  pub stored : (j : ℕ) → IsStored j (width_of (g.t + 5)) u.b u.sets result → (i : ℕ) × IsStored i (width_of (g.t + 5)) u.b u.sets result'
  pub beyond : Beyond c g result scratch result' scratch'

-- ---- at the end

-- what the engine needs of both buffers is wiped
pub record Wiped (c : ℕ) (g : Grammar) (result scratch result' scratch' : List ℕ) : Type 0 where
  pub result_words : result' ≡ wiped (result_needs c g) result
  pub scratch-words : scratch' ≡ wiped (scratch_needs c g) scratch
