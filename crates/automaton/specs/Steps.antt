-- What the functions below the call ask and promise, tree by tree and k by k. Not for the reader of the call. Assumes nothing.
use Rattle.std.specs.Prelude.{ℕ, zero, suc, ◌+◌, ◌≤◌, ◌<◌, ◌≡◌, List, [], ◌∷◌, ◌++◌, leb, length, get_or, take, drop, Result, Ok, Err}
use Rattle.cfg.specs.Grammar.{Grammar}
use Rattle.k_tuples.specs.Work.{Answer, got, refused, ◌>>◌, demand}
use Rattle.analysis.specs.Analysis.{result_needs, scratch_needs}
use Rattle.engine.specs.Call.{wiped}
use Rattle.decision_theory.specs.Needed.{Decided, decide, needed_k, each_from}
use Rattle.decision_theory.specs.Automaton.{Entry, State, entries_of, automaton, automata_bytes, all_small}
use Rattle.refusals.specs.declared.Refusal.{Refusal}
use Rattle.refusals.specs.declared.Refusal.TheVariants.{TooManyStates, LentTooFew}
use Rattle.trees.specs.Listed.{Listed, entries}
use Rattle.trees.specs.Answer.{bytes_of}
use Rattle.decision.specs.Own.{SidesOf}
use Rattle.decision.specs.Steps.{Fit, Sized, OnTable, grammar_of, Given, Beyond}
use Rattle.decision.specs.Onward.{Known, JoinedFor}
use Rattle.automaton.specs.declared.task.Task.{Task}
use Rattle.automaton.specs.Call.{recorded, record_of, bytes_after}

-- ---- one tree

-- the strings and the automaton of what was decided; none where it was refused
abbrev pub strings_by : Answer Decided → List Entry
strings_by (got d) = entries_of d.choices
strings_by (refused r) = []

abbrev pub tree_by : Answer Decided → List State
tree_by (got d) = automaton d
tree_by (refused r) = []

-- those of A
abbrev pub strings : (limit c : ℕ) → Grammar → ℕ → List Entry
strings limit c g A = strings_by (decide c g A limit)

abbrev pub tree : (limit c : ℕ) → Grammar → ℕ → List State
tree limit c g A = tree_by (decide c g A limit)

-- those of a task
abbrev pub strings_of : Task → ℕ → List Entry
strings_of t = strings t.limit t.c (grammar_of t.table.now)

abbrev pub trees_of : Task → ℕ → List State
trees_of t = tree t.limit t.c (grammar_of t.table.now)

-- two buffers of so many words are enough for a task, and its k are those of the table
pub record Ready (t : Task) (m n : ℕ) : Type 0 where
  pub given : Given t.limit t.c t.table.now t.layout t.links.now m n
  pub known : Known t.limit t.c (grammar_of t.table.now) t.ks.now

-- its table was accepted, and has this layout and these links
pub record Planned (t : Task) : Type 0 where
  pub on : OnTable t.limit t.c t.table.now
  pub sized : Sized t.c (grammar_of t.table.now) t.layout
  pub fit : Fit t.layout t.links.now
  pub sides : SidesOf (grammar_of t.table.now).productions t.links.now

-- A needs k, and where that is above 0 its joined sets stand in the result
pub record Stands (t : Task) (k A : ℕ) (result : List ℕ) : Type 0 where
  pub needs : needed_k t.c (grammar_of t.table.now) A t.limit ≡ got k
  pub joined : 1 ≤ k → JoinedFor t.limit t.c k (grammar_of t.table.now) t.layout A result

-- these strings are listed, or there are more than 2,048
pub data Gathered (R : List Entry) (list : List ℕ) (r : Result ℕ Refusal) : Type 0 where
  over : r ≡ Err TooManyStates → 2048 < length R → Gathered R list r
  gathered : (m : ℕ) → r ≡ Ok m → m ≤ 2048 → Listed list m → entries list m ≡ R → Gathered R list r

-- a tree of at most 2,048 states, and the number of its bytes
pub record SizeIs (S : List State) (r : ℕ) : Type 0 where
  pub few : length S ≤ 2048
  pub is : r ≡ length (bytes_of S)

-- a tree's bytes are written at a place, where they fit
pub record Writes (S : List State) (at : ℕ) (before after : List ℕ) : Type 0 where
  pub done : length S ≤ 2048 → at + length (bytes_of S) ≤ length before → after ≡ take at before ++ bytes_of S ++ drop (at + length (bytes_of S)) before

-- ---- the trees of one k

-- each of n nonterminals whose k this is stands
pub record AllStand (t : Task) (k : ℕ) (result : List ℕ) : Type 0 where
  pub each : (A : ℕ) → A < t.layout.n → get_or t.ks.now A 0 ≡ k → Stands t k A result

-- and words past what is needed are as they came
pub record KStands (t : Task) (k : ℕ) (result scratch result' scratch' : List ℕ) : Type 0 where
  pub all : AllStand t k result'
  pub beyond : Beyond t.c (grammar_of t.table.now) result scratch result' scratch'

-- the sizes of those below `end` whose k this is; the others are as they were
pub record KMeasured (T : ℕ → List State) (k end : ℕ) (ks sizes sizes' : List ℕ) : Type 0 where
  pub these : (A : ℕ) → A < end → get_or ks A 0 ≡ k → SizeIs (T A) (get_or sizes' A 0)
  pub others : (A : ℕ) → ¬ get_or ks A 0 ≡ k → get_or sizes' A 0 ≡ get_or sizes A 0
  pub long : length sizes' ≡ length sizes

-- one of n trees has more than 2,048 states
pub record OneLarge (T : ℕ → List State) (n : ℕ) : Type 0 where
  pub which : ℕ
  pub inside : which < n
  pub many : 2048 < length (T which)

-- those sizes are put down, or one tree has too many states
pub data SizesPut (T : ℕ → List State) (k n : ℕ) (ks sizes sizes' : List ℕ) (r : Result (Unit {0}) Refusal) : Type 0 where
  over : r ≡ Err TooManyStates → OneLarge T n → SizesPut T k n ks sizes sizes' r
  put : r ≡ Ok tt → KMeasured T k n ks sizes sizes' → SizesPut T k n ks sizes sizes' r

-- the sizes of n trees
pub record AllSized (T : ℕ → List State) (n : ℕ) (sizes : List ℕ) : Type 0 where
  pub each : (A : ℕ) → A < n → SizeIs (T A) (get_or sizes A 0)
  pub long : length sizes ≡ 128

-- the sizes of n trees, or that one has too many states
pub data Sizes (T : ℕ → List State) (n : ℕ) (r : Result (List ℕ) Refusal) : Type 0 where
  over : r ≡ Err TooManyStates → OneLarge T n → Sizes T n r
  sized : (sizes : List ℕ) → r ≡ Ok sizes → AllSized T n sizes → Sizes T n r

-- all were measured, or one has too many states
pub record Measured (t : Task) (result scratch : List ℕ) (r : Result (List ℕ) Refusal) (result' scratch' : List ℕ) : Type 0 where
  pub sizes : Sizes (trees_of t) t.layout.n r
  pub beyond : Beyond t.c (grammar_of t.table.now) result scratch result' scratch'

-- ---- their sizes

unfoldable pub sum_to : List ℕ → ℕ → ℕ
sum_to sizes zero = 0
sum_to sizes (suc n) = sum_to sizes n + get_or sizes n 0

-- the sum of n of them, or that it is over the room
pub data Totals (n : ℕ) (sizes : List ℕ) (room : ℕ) (r : Result ℕ Refusal) : Type 0 where
  short : room < sum_to sizes n → r ≡ Err LentTooFew → Totals n sizes room r
  fits : sum_to sizes n ≤ room → r ≡ Ok (sum_to sizes n) → Totals n sizes room r

-- ---- their bytes

unfoldable pub concat : List (List ℕ) → List ℕ
concat [] = []
concat (x ∷ xs) = x ++ concat xs

-- the bytes in parts, one for each tree, of their sizes
pub record Laid (n : ℕ) (sizes : List ℕ) (parts : List (List ℕ)) (rest out : List ℕ) : Type 0 where
  pub is : out ≡ concat parts ++ rest
  pub many : length parts ≡ n
  pub each : (A : ℕ) → A < n → length (get_or parts A []) ≡ get_or sizes A 0

-- sizes of small trees for which there is room
pub record Fitting (T : ℕ → List State) (n : ℕ) (sizes : List ℕ) (room : ℕ) : Type 0 where
  pub sized : AllSized T n sizes
  pub fits : sum_to sizes n ≤ room

-- the parts of those below `end` whose k this is are their bytes; the others are as they were
pub record Parts (T : ℕ → List State) (k end : ℕ) (ks : List ℕ) (parts parts' : List (List ℕ)) : Type 0 where
  pub these : (A : ℕ) → A < end → get_or ks A 0 ≡ k → get_or parts' A [] ≡ bytes_of (T A)
  pub others : (A : ℕ) → ¬ get_or ks A 0 ≡ k → get_or parts' A [] ≡ get_or parts A []

pub record KWritten (T : ℕ → List State) (n k end : ℕ) (ks sizes out out' : List ℕ) : Type 0 where
  pub same : length out' ≡ length out
  pub step : (parts : List (List ℕ)) (rest : List ℕ) → Laid n sizes parts rest out
      → (parts' : List (List ℕ)) × Laid n sizes parts' rest out' × Parts T k end ks parts parts'

-- all were written
pub record Wrote (t : Task) (sizes out result scratch out' result' scratch' : List ℕ) : Type 0 where
  pub written : out' ≡ automata_bytes (each_from (trees_of t) 0 t.layout.n) ++ drop (sum_to sizes t.layout.n) out
  pub beyond : Beyond t.c (grammar_of t.table.now) result scratch result' scratch'

-- ---- the call, where every nonterminal is decided

-- the answer for some trees
unfoldable pub answer_for : ℕ → List (List State) → Answer (List ℕ)
answer_for room Ts = demand 23 (all_small Ts) >> (demand 10 (leb (length (automata_bytes Ts)) room) >> got (automata_bytes Ts))

-- the outcome by the trees, before the buffers are wiped
pub record Made (t : Task) (out result scratch : List ℕ) (r : Result ℕ Refusal) (out' result' scratch' : List ℕ) : Type 0 where
  pub answer : recorded r ≡ record_of (answer_for (length out) (each_from (trees_of t) 0 t.layout.n))
  pub out-bytes : out' ≡ bytes_after out (answer_for (length out) (each_from (trees_of t) 0 t.layout.n))
  pub beyond : Beyond t.c (grammar_of t.table.now) result scratch result' scratch'

-- and after: both were wiped where they are needed
pub record Done (t : Task) (out result scratch : List ℕ) (r : Result ℕ Refusal) (out' result' scratch' : List ℕ) : Type 0 where
  pub answer : recorded r ≡ record_of (answer_for (length out) (each_from (trees_of t) 0 t.layout.n))
  pub out-bytes : out' ≡ bytes_after out (answer_for (length out) (each_from (trees_of t) 0 t.layout.n))
  pub result_words : result' ≡ wiped (result_needs t.c (grammar_of t.table.now)) result
  pub scratch-words : scratch' ≡ wiped (scratch_needs t.c (grammar_of t.table.now)) scratch
