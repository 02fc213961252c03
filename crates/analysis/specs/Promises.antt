-- What is promised of the analysis. Each promise is a definition here, and a theorem of that type in proofs/Kept.antt. Assumes nothing.
use Rattle.std.specs.Prelude.{ℕ, suc, ◌+◌, ◌≤◌, ◌<◌, List, [], ◌∷◌, ◌↔◌, ◌⊎◌, ◌≡◌, length, replicate}
use Rattle.cfg.specs.Grammar.{nonterminal, Word, Grammar, Production, Productive, LeftRecursive, Accepted}
use Rattle.cfg.specs.Write.{write_table, Bytes, Limits}
use Rattle.cfg.specs.Refused.{TableRefused}
use Rattle.k_tuple.specs.Strings.{Str, eps, ones, width_of}
use Rattle.k_tuples.specs.Sets.{◌∈◌, Sorted, Proper}
use Rattle.k_tuples.specs.States.{State, set_of, ◌⊑◌, size, Each}
use Rattle.k_tuples.specs.Work.{Answer, got, refused, Settles}
use Rattle.first_theory.specs.First.{First, AhoUllman}
use Rattle.first_theory.specs.Compute.{str, Has, Counted}
use Rattle.first_theory.specs.Room.{FirstPasses, ProductionPasses}
use Rattle.follow_theory.specs.Equations.{Equation, start, Reached, Settled}
use Rattle.follow_theory.specs.Follow.{Follow, AtPosition, Occurrence, occurrences_of, equations_for, take_all, SuffixPasses, FollowPasses}
use Rattle.analysis.specs.Analysis.{Analysis, work, analyse, result_needs, scratch_needs}

-- A set that refusal 11 speaks of has more members than the room c.
abbrev pub SomePasses : Grammar → ℕ → ℕ → Type 0
SomePasses g k c = FirstPasses g c k ⊎ ProductionPasses g c k ⊎ SuffixPasses g c k ⊎ FollowPasses g c k

abbrev pub EnoughRoom : Grammar → ℕ → ℕ → Type 0
EnoughRoom g k c = ¬ SomePasses g k c

-- The set holds the words of P, each once and in order, and nothing else: it is determined by P.
pub record IsSetOf (P : Word → Type 0) (a : List Str) : Type 0 where
  pub has : (w : Word) → Has a w ↔ P w
  pub words : (z : Str) → z ∈ a → (w : Word) × (z ≡ str w)
  pub sorted : Sorted a

-- ---- the sets

-- FIRST of a nonterminal is the first k terminals of every word derived from it; and as Aho and Ullman have it.
abbrev pub FirstSets : Grammar → ℕ → Analysis → Type 0
FirstSets g k a = (A : ℕ) → A < g.n → IsSetOf (First g k (nonterminal A ∷ [])) (set_of a.nonterminals A)

abbrev pub FirstSetsByAhoUllman : Grammar → ℕ → Analysis → Type 0
FirstSetsByAhoUllman g k a = (A : ℕ) → A < g.n → IsSetOf (AhoUllman g k (nonterminal A ∷ [])) (set_of a.nonterminals A)

-- FIRST of a production is that of its right side; and as Aho and Ullman have it.
abbrev pub ProductionSets : Grammar → ℕ → Analysis → Type 0
ProductionSets g k a = Each (λ (p : Production). IsSetOf (First g k p.right)) g.productions a.productions

abbrev pub ProductionSetsByAhoUllman : Grammar → ℕ → Analysis → Type 0
ProductionSetsByAhoUllman g k a = Each (λ (p : Production). IsSetOf (AhoUllman g k p.right)) g.productions a.productions

-- FOLLOW is the least solution of its equations.
abbrev pub FollowSets : Grammar → ℕ → Analysis → Type 0
FollowSets g k a = (A : ℕ) → IsSetOf (Follow g k A) (set_of a.follows A)

-- The set of a position is its equation's join.
abbrev pub PositionSets : Grammar → ℕ → Analysis → Type 0
PositionSets g k a = Each (λ (o : Occurrence). IsSetOf (AtPosition g k o.source o.rest)) (occurrences_of g.productions) a.positions

-- ---- the rounds

-- Each level's count is that of its first round whose sets equal those before it, the last level's last sets are X, and each count is at most n + 1.
pub record LevelRounds (g : Grammar) (k c : ℕ) (rounds : List ℕ) (X : State) : Type 0 where
  pub counted : Counted c g 0 (replicate g.n (eps ∷ [])) rounds X
  pub one_each : length rounds ≡ k
  pub few : (r : ℕ) → r ∈ rounds → r ≤ suc g.n

-- So is FOLLOW's, over the FIRST sets X, and it is at most the members of all final FOLLOW sets F together.
pub record FollowRounds (g : Grammar) (k c : ℕ) (X : State) (rounds : ℕ) (F : State) : Type 0 where
  pub counted : Settles (take_all c k X (occurrences_of g.productions)) (start g.n g.start) rounds F
  pub few : rounds ≤ size F

-- The equations over X taken in any order, each any number of times, stay within the FOLLOW sets F, and once none adds a string they are these.
pub record AnyOrder (g : Grammar) (k c : ℕ) (X F : State) : Type 0 where
  pub equations : List Equation
  pub computed : equations_for c k X (occurrences_of g.productions) ≡ got equations
  pub within : (G : State) → Reached k g.n g.start equations G → G ⊑ F
  pub settled : (G : State) → Reached k g.n g.start equations G → Settled k equations G → G ≡ F

-- ---- the numbers

pub record Sizes (g : Grammar) (a : Analysis) : Type 0 where
  pub n : a.n ≡ g.n
  pub p : a.p ≡ length g.productions
  pub q : a.q ≡ length (occurrences_of g.productions)
  pub width : a.width ≡ width_of (g.t + 5)
  pub nonterminals : length a.nonterminals ≡ g.n
  pub follows : length a.follows ≡ g.n

-- ---- the members

abbrev pub AllProper : ℕ → ℕ → State → Type 0
AllProper k w F = (i : ℕ) (z : Str) → z ∈ set_of F i → Proper k w z

-- At any width whose all-ones slot is above t + 5, every member of every set is a well-formed string of at most k slots, and not empty.
pub record Members (g : Grammar) (k w : ℕ) (a : Analysis) : Type 0 where
  pub nonterminals : AllProper k w a.nonterminals
  pub productions : AllProper k w a.productions
  pub follows : AllProper k w a.follows
  pub positions : AllProper k w a.positions

-- ---- the whole

pub record Analysed (g : Grammar) (k c : ℕ) (a : Analysis) : Type 0 where
  pub sizes : Sizes g a
  pub first-sets : FirstSets g k a
  pub first-sets-by-aho-ullman : FirstSetsByAhoUllman g k a
  pub production-sets : ProductionSets g k a
  pub production-sets-by-aho-ullman : ProductionSetsByAhoUllman g k a
  pub follow-sets : FollowSets g k a
  pub position-sets : PositionSets g k a
  pub level-rounds : LevelRounds g k c a.rounds a.nonterminals
  pub follow-rounds : FollowRounds g k c a.nonterminals a.follow_rounds a.follows
  pub any_order : AnyOrder g k c a.nonterminals a.follows
  pub members : (w : ℕ) → g.t + 5 < ones w → Members g k w a

-- Where room is enough the grammar is analysed.
abbrev pub NotRefused : Type 0
NotRefused = (g : Grammar) (k c : ℕ) → Accepted g → 1 ≤ k → 1 ≤ c → EnoughRoom g k c → (a : Analysis) × (work k c g ≡ got a)

-- What is answered is right.
abbrev pub AnswersRight : Type 0
AnswersRight = (g : Grammar) (k c : ℕ) → Accepted g → 1 ≤ k → 1 ≤ c → (a : Analysis) → work k c g ≡ got a → Analysed g k c a

-- And determined by this.
abbrev pub AnswersOne : Type 0
AnswersOne = (g : Grammar) (k c : ℕ) (a b : Analysis) → Analysed g k c a → Analysed g k c b → a ≡ b

-- 11 is given exactly when a set passes its room, and no other refusal is: 12 never.
abbrev pub ElevenExactly : Type 0
ElevenExactly = (g : Grammar) (k c : ℕ) → Accepted g → 1 ≤ k → 1 ≤ c → (work k c g ≡ refused 11) ↔ SomePasses g k c

abbrev pub OnlyEleven : Type 0
OnlyEleven = (g : Grammar) (k c : ℕ) → Accepted g → 1 ≤ k → 1 ≤ c → (r : ℕ) → work k c g ≡ refused r → r ≡ 11

-- ---- every input

abbrev pub Between : ℕ → ℕ → ℕ → Type 0
Between least most x = (least ≤ x) × (x ≤ most)

-- The table is the writing of this grammar, which keeps the limits of a table.
pub record IsTableOf (g : Grammar) (table : List ℕ) : Type 0 where
  pub written : table ≡ write_table g
  pub limits : Limits g

abbrev pub AllProductive : Grammar → Type 0
AllProductive g = (A : ℕ) → A < g.n → Productive g (nonterminal A ∷ [])

abbrev pub EnoughWords : Grammar → ℕ → ℕ → ℕ → Type 0
EnoughWords g c result scratch = (result_needs c g ≤ result) × (scratch_needs c g ≤ scratch)

-- What is answered, and exactly when. Refusals 3 to 7 say of the table's bytes why they are no such writing.
pub data Verdict (k c : ℕ) (table : List ℕ) (result scratch : ℕ) : Answer Analysis → Type 0 where
  bad-k : ¬ Between 1 10 k → Verdict k c table result scratch (refused 1)
  bad-room : Between 1 10 k → ¬ Between 1 1024 c → Verdict k c table result scratch (refused 2)
  bad-table : {r : ℕ} → Between 1 10 k → Between 1 1024 c → TableRefused table r → Verdict k c table result scratch (refused r)
  unproductive : {g : Grammar} → Between 1 10 k → Between 1 1024 c → IsTableOf g table → ¬ AllProductive g → Verdict k c table result scratch (refused 8)
  left-recursive :
      {g : Grammar} → Between 1 10 k → Between 1 1024 c → IsTableOf g table → AllProductive g → LeftRecursive g
      → Verdict k c table result scratch (refused 9)
  few_words :
      {g : Grammar} → Between 1 10 k → Between 1 1024 c → IsTableOf g table → Accepted g → ¬ EnoughWords g c result scratch
      → Verdict k c table result scratch (refused 10)
  no_room :
      {g : Grammar} → Between 1 10 k → Between 1 1024 c → IsTableOf g table → Accepted g → EnoughWords g c result scratch → SomePasses g k c
      → Verdict k c table result scratch (refused 11)
  analysed :
      {g : Grammar} {a : Analysis}
      → Between 1 10 k → Between 1 1024 c → IsTableOf g table → Accepted g → EnoughWords g c result scratch → EnoughRoom g k c → Analysed g k c a
      → Verdict k c table result scratch (got a)

-- Every number of a table is a byte, as every element of a lent `&[u8]` is.
abbrev pub AnswersAll : Type 0
AnswersAll = (k c : ℕ) (table : List ℕ) (result scratch : ℕ) → Bytes table → Verdict k c table result scratch (analyse k c table result scratch)

-- No two of the cases hold of one input: what satisfies the verdict is what is answered.
abbrev pub OneAnswer : Type 0
OneAnswer = (k c : ℕ) (table : List ℕ) (result scratch : ℕ) (m : Answer Analysis) → Verdict k c table result scratch m → m ≡ analyse k c table result scratch
