-- Which k each nonterminal needs: what it means, by the sets alone; the function that tries k = 1, 2, ..; and what it answers, exactly when. Assumes nothing.
use Rattle.std.specs.Prelude.{ℕ, zero, suc, ◌≤◌, ◌<◌, ◌≡◌, Bool, true, false, cond, ◌&&◌, List, [], ◌∷◌, map, ◌⊎◌, leb, eqb, length, get_or}
use Rattle.cfg.specs.Grammar.{Word, Grammar, Production, Accepted}
use Rattle.cfg.specs.Reading.{got as read}
use Rattle.cfg.specs.Table.{read_table}
use Rattle.cfg.specs.Accept.{accept_table}
use Rattle.k_tuple.specs.Strings.{Str, eps}
use Rattle.k_tuples.specs.Sets.{◌∈◌, disjoint, join_sets}
use Rattle.k_tuples.specs.States.{State, set_of, Each}
use Rattle.k_tuples.specs.Work.{Answer, got, refused, ◌>>=◌, ◌>>◌, demand, within}
use Rattle.first_theory.specs.Room.{MoreWords}
use Rattle.follow_theory.specs.Follow.{AtPosition}
use Rattle.analysis.specs.Analysis.{work, accepts, analyse, result_needs, scratch_needs}
use Rattle.analysis.specs.Promises.{IsSetOf, SomePasses, EnoughRoom, Between, EnoughWords}

-- ---- the meaning

-- Production number i.
abbrev pub production_at : Grammar → ℕ → Production
production_at g i = get_or g.productions i (record { left = 0; right = [] })

-- Production i is one of A's.
abbrev pub Of : Grammar → ℕ → ℕ → Type 0
Of g A i = (i < length g.productions) × ((production_at g i).left ≡ A)

-- Production i's set joined with FOLLOW of its left side: what a reader that takes it may have ahead.
abbrev pub Ahead : Grammar → ℕ → ℕ → Word → Type 0
Ahead g k i = AtPosition g k (production_at g i).left (production_at g i).right

-- These sets of A are pairwise disjoint: productions of A with a word in common are one.
abbrev pub Serves : Grammar → ℕ → ℕ → Type 0
Serves g k A = (i j : ℕ) → Of g A i → Of g A j → (w : Word) → Ahead g k i w → Ahead g k j w → i ≡ j

-- A has one production.
abbrev pub OneProduction : Grammar → ℕ → Type 0
OneProduction g A = (i : ℕ) × Of g A i × ((j : ℕ) → Of g A j → j ≡ i)

-- A needs k: the smallest that serves; 0 where it has one production.
pub data Needs (g : Grammar) (A : ℕ) : ℕ → Type 0 where
  needs-none : OneProduction g A → Needs g A 0
  smallest : {k : ℕ} → ¬ OneProduction g A → 1 ≤ k → Serves g k A → ((j : ℕ) → 1 ≤ j → j < k → ¬ Serves g j A) → Needs g A k

-- ---- the function

-- The numbers of A's productions, in order; the first of those given is number i.
unfoldable pub own_from : ℕ → ℕ → List Production → List ℕ
own_from A i [] = []
own_from A i (p ∷ ps) = let more = own_from A (suc i) ps in cond (eqb p.left A) (i ∷ more) more

-- The numbers of A's productions.
abbrev pub own : Grammar → ℕ → List ℕ
own g A = own_from A 0 g.productions

-- Each number is below those after it.
abbrev pub Rising : List ℕ → Type 0
Rising [] = Unit {0}
Rising (i ∷ is) = ((j : ℕ) → j ∈ is → i < j) × Rising is

-- A production and its joined set.
pub record Choice : Type 0 where
  pub production : ℕ
  pub ahead : List Str

-- The choice is production i with its joined set.
pub record ChoiceIs (g : Grammar) (k i : ℕ) (x : Choice) : Type 0 where
  pub number : x.production ≡ i
  pub set : IsSetOf (Ahead g k i) x.ahead

-- The choices of A at k, from the sets of the productions and FOLLOW; refused 11 where one passes the room c.
unfoldable pub choices_of : (c k : ℕ) (productions follows : State) (A : ℕ) → List ℕ → Answer (List Choice)
choices_of c k P F A [] = got []
choices_of c k P F A (i ∷ is) = do
  s ← within c (join_sets k (set_of P i) (set_of F A))
  more ← choices_of c k P F A is
  got (record { production = i; ahead = s } ∷ more)

-- The set is disjoint from each of these.
unfoldable pub apart_from : List Str → List Choice → Bool
apart_from a [] = true
apart_from a (x ∷ xs) = disjoint a x.ahead && apart_from a xs

-- They are pairwise disjoint.
unfoldable pub apart : List Choice → Bool
apart [] = true
apart (x ∷ xs) = apart_from x.ahead xs && apart xs

-- What was decided for a nonterminal: its k, and its choices at that k; where k is 0 the one production, with {ε}: nothing ahead is looked at.
pub record Decided : Type 0 where
  pub k : ℕ
  pub choices : List Choice

-- The k of what was decided.
abbrev pub only_k : Answer Decided → Answer ℕ
only_k m = m >>= λ d. got d.k

module _ (c : ℕ) (g : Grammar) (A : ℕ) where
  -- The choices at k, from the engine's sets.
  unfoldable pub choices_at : ℕ → Answer (List Choice)
  choices_at k = do
    a ← work k c g
    choices_of c k a.productions a.follows A (own g A)

  -- k, k + 1, .. are tried, `left` of them.
  unfoldable pub try_from : ℕ → ℕ → Answer Decided
  try_from zero k = refused 22
  try_from (suc left) k = do
    xs ← choices_at k
    elim (apart xs) [ true ↦ got (record { k = k; choices = xs }) | false ↦ try_from left (suc k) ]

  -- One production decides alone; else k = 1 and up are tried.
  abbrev pub decide_for : List ℕ → ℕ → Answer Decided
  decide_for [] limit = try_from limit 1
  decide_for (i ∷ []) limit = got (record { k = 0; choices = record { production = i; ahead = eps ∷ [] } ∷ [] })
  decide_for (i ∷ j ∷ is) limit = try_from limit 1

  -- By A's own productions.
  unfoldable pub decide : ℕ → Answer Decided
  decide limit = decide_for (own g A) limit

  -- The k alone.
  unfoldable pub needed_k : ℕ → Answer ℕ
  needed_k limit = only_k (decide limit)

-- What was decided is right: the one production; or each production of A with its joined set, at the k that A needs.
pub data RightFor (g : Grammar) (A : ℕ) : Decided → Type 0 where
  right-one : {i : ℕ} → Of g A i → OneProduction g A → RightFor g A (record { k = 0; choices = record { production = i; ahead = eps ∷ [] } ∷ [] })
  right-several : {k : ℕ} {xs : List Choice} → ¬ OneProduction g A → 1 ≤ k → Each (ChoiceIs g k) (own g A) xs → Serves g k A → Needs g A k → RightFor g A (record { k = k; choices = xs })

-- ---- what is answered for a nonterminal, and exactly when

module _ (g : Grammar) (c A : ℕ) where
  -- A joined set of A's own passes the room.
  abbrev pub OwnPasses : ℕ → Type 0
  OwnPasses k = (i : ℕ) × Of g A i × MoreWords c (Ahead g k i)

  -- k was worked out: no set of the engine's passes the room, and none of A's own.
  abbrev pub WorkedOut : ℕ → Type 0
  WorkedOut k = EnoughRoom g k c × ¬ OwnPasses k

  -- Every k from 1 to below `end` was worked out, and none serves.
  abbrev pub NoneBelow : ℕ → Type 0
  NoneBelow end = (j : ℕ) → 1 ≤ j → j < end → WorkedOut j × ¬ Serves g j A

-- Some k up to the limit was not worked out, for a set of the engine's or one of A's own, and none before it serves.
abbrev pub NotWorkedOut : Grammar → (c limit A : ℕ) → Type 0
NotWorkedOut g c limit A = (k : ℕ) × Between 1 limit k × NoneBelow g c A k × (SomePasses g k c ⊎ (EnoughRoom g k c × OwnPasses g c A k))

pub data Answered (g : Grammar) (c limit A : ℕ) : Answer ℕ → Type 0 where
  one-production : OneProduction g A → Answered g c limit A (got 0)
  serves : {k : ℕ} → ¬ OneProduction g A → Between 1 limit k → NoneBelow g c A k → WorkedOut g c A k → Serves g k A → Answered g c limit A (got k)
  -- an engine refusal at k is passed on, which is 11
  passed_on : {k : ℕ} → ¬ OneProduction g A → Between 1 limit k → NoneBelow g c A k → SomePasses g k c → Answered g c limit A (refused 11)
  own-set : {k : ℕ} → ¬ OneProduction g A → Between 1 limit k → NoneBelow g c A k → EnoughRoom g k c → OwnPasses g c A k → Answered g c limit A (refused 11)
  none-serves : ¬ OneProduction g A → NoneBelow g c A (suc limit) → Answered g c limit A (refused 22)

-- ---- the whole call

-- A function's values from i on, n of them.
abbrev pub each_from : {X : Type 0} → (ℕ → X) → ℕ → ℕ → List X
each_from f i zero = []
each_from f i (suc n) = f i ∷ each_from f (suc i) n

-- The grammar, or the first refusal of 2 to 10: the engine's tests, those of k aside.
unfoldable pub grammar_for : (c : ℕ) (table : List ℕ) (result scratch : ℕ) → Answer Grammar
grammar_for c table result scratch = do
  demand 2 (leb 1 c && leb c 1024)
  g ← accepts (accept_table table)
  demand 10 (leb (result_needs c g) result && leb (scratch_needs c g) scratch)
  got g

-- What is decided for each nonterminal. Lent are the engine's two buffers.
unfoldable pub decisions : (limit c : ℕ) (table : List ℕ) (result scratch : ℕ) → Answer (List (Answer Decided))
decisions limit c table result scratch = do
  demand 1 (leb 1 limit && leb limit 10)
  g ← grammar_for c table result scratch
  got (each_from (λ A. decide c g A limit) 0 g.n)

-- The k of each.
unfoldable pub needed_ks : (limit c : ℕ) (table : List ℕ) (result scratch : ℕ) → Answer (List (Answer ℕ))
needed_ks limit c table result scratch = do
  ds ← decisions limit c table result scratch
  got (map only_k ds)

-- The table is read as this grammar.
abbrev pub Reads : List ℕ → Grammar → Type 0
Reads table g = (next : ℕ) × (read_table table ≡ read g next)

-- 1 for the limit, 2 to 10 as the engine gives them; else an answer for each nonterminal.
pub data CallAnswered (limit c : ℕ) (table : List ℕ) (result scratch : ℕ) : Answer (List (Answer ℕ)) → Type 0 where
  bad-limit : ¬ Between 1 10 limit → CallAnswered limit c table result scratch (refused 1)
  as-engine :
      {r : ℕ} → Between 1 10 limit → Between 2 10 r → analyse 1 c table result scratch ≡ refused r
      → CallAnswered limit c table result scratch (refused r)
  each-answered :
      {g : Grammar} {ks : List (Answer ℕ)}
      → Between 1 10 limit → Between 1 1024 c → Reads table g → Accepted g → EnoughWords g c result scratch
      → length ks ≡ g.n → ((A : ℕ) → A < g.n → Answered g c limit A (get_or ks A (refused 0)))
      → CallAnswered limit c table result scratch (got ks)
