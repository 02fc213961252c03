-- K3 and K6 by the steps that a program takes: one k after the other, for all nonterminals; letters one after the other. Assumes nothing.
use Rattle.std.specs.Prelude.{ℕ, zero, suc, Bool, false, cond, List, [], ◌∷◌, eqb, ltb}
use Rattle.cfg.specs.Grammar.{Grammar}
use Rattle.k_tuples.specs.Work.{Answer, got, refused, ◌>>=◌}
use Rattle.analysis.specs.Analysis.{Analysis, work}
use Rattle.decision_theory.specs.Needed.{own, Choice, choices_of, apart}

-- Before any k is tried: decided by one production, or open, for which 22 stands.
abbrev pub begun : List ℕ → Answer ℕ
begun [] = refused 22
begun (i ∷ []) = got 0
begun (i ∷ j ∷ is) = refused 22

-- It is still open.
abbrev pub is_open : Answer ℕ → Bool
is_open (got k) = false
is_open (refused r) = eqb r 22

-- What k makes of an open one: an engine refusal is passed on, 11 of its own, k where it serves, and else it stays open.
abbrev pub tried_at : ℕ → Answer (List Choice) → Answer ℕ
tried_at k (refused r) = refused r
tried_at k (got xs) = cond (apart xs) (got k) (refused 22)

-- From the engine's answer at k.
unfoldable pub tried : (c : ℕ) (g : Grammar) (A k : ℕ) → Answer Analysis → Answer ℕ
tried c g A k m = tried_at k (m >>= λ a. choices_of c k a.productions a.follows A (own g A))

-- How A stands once 1, .., k have been tried, each from one engine's answer for all nonterminals.
unfoldable pub standing : (c : ℕ) (g : Grammar) (A k : ℕ) → Answer ℕ
standing c g A zero = begun (own g A)
standing c g A (suc k) = let before = standing c g A k in cond (is_open before) (tried c g A (suc k) (work (suc k) c g)) before

-- ---- K6

-- The members of a rising list from f on.
unfoldable pub at_least : ℕ → List ℕ → List ℕ
at_least f [] = []
at_least f (t ∷ ts) = cond (ltb t f) (at_least f ts) (t ∷ ts)
