-- What is promised of the definitions of K3, K6 and K8. Each promise is a definition here, and a theorem of that type in proofs/Kept.antt. Assumes nothing.
use Rattle.std.specs.Prelude.{ℕ, suc, ◌≤◌, ◌<◌, ◌≡◌, true, ◌↔◌, List, [], ◌++◌, map, length, get_or}
use Rattle.cfg.specs.Grammar.{Word, Grammar, Accepted}
use Rattle.cfg.specs.Write.{Bytes, Limits}
use Rattle.k_tuple.specs.Strings.{complete}
use Rattle.k_tuples.specs.Sets.{◌∈◌}
use Rattle.k_tuples.specs.Work.{Answer, got, refused}
use Rattle.first_theory.specs.Compute.{str}
use Rattle.decision_theory.specs.Needed.{Of, Ahead, Serves, OneProduction, Needs, Decided, RightFor, needed_k, WorkedOut, NoneBelow, NotWorkedOut, Reads, needed_ks, CallAnswered}
use Rattle.decision_theory.specs.Automaton.{State, automaton, AutomatonOf, automaton_numbers, automata_bytes, AllAre, AllSmall, automata, AutomataAnswered}
use Rattle.decision_theory.specs.Marking.{Row, Mark, accepted, mark, CallMarked, automata_rows}

-- ---- the answers

-- Every input is answered as the rules say.
abbrev pub NeededAnswered : Type 0
NeededAnswered = (limit c : ℕ) (table : List ℕ) (result scratch : ℕ) → CallAnswered limit c table result scratch (needed_ks limit c table result scratch)

-- There is one such answer.
abbrev pub NeededOne : Type 0
NeededOne = (limit c : ℕ) (table : List ℕ) (result scratch : ℕ) (x : Answer (List (Answer ℕ)))
    → CallAnswered limit c table result scratch x → x ≡ needed_ks limit c table result scratch

-- ---- one nonterminal of an accepted grammar

-- A nonterminal needs one k.
abbrev pub NeedsOne : Type 0
NeedsOne = (g : Grammar) (A j k : ℕ) → Needs g A j → Needs g A k → j ≡ k

-- what holds for every nonterminal of an accepted grammar, with room for at least one member
abbrev Always : (Grammar → (c limit A : ℕ) → Type 0) → Type 0
Always P = (g : Grammar) → Accepted g → (c : ℕ) → 1 ≤ c → (limit A : ℕ) → P g c limit A

-- A k that is answered for a nonterminal is the k that it needs.
abbrev pub NeededRight : Type 0
NeededRight = Always (λ g c limit A. (k : ℕ) → needed_k c g A limit ≡ got k → Needs g A k)

-- And the k that it needs is answered, where it and those before it were worked out.
abbrev pub NeededFound : Type 0
NeededFound = Always (λ g c limit A. (k : ℕ) → Needs g A k → k ≤ limit → ((j : ℕ) → 1 ≤ j → j ≤ k → WorkedOut g c A j) → needed_k c g A limit ≡ got k)

-- 0 is answered exactly where there is one production.
abbrev pub ZeroExactly : Type 0
ZeroExactly = Always (λ g c limit A. (needed_k c g A limit ≡ got 0) ↔ OneProduction g A)

-- 22 is given exactly when every k up to the limit was worked out and none serves.
abbrev pub TwentyTwoExactly : Type 0
TwentyTwoExactly = Always (λ g c limit A. (needed_k c g A limit ≡ refused 22) ↔ (¬ OneProduction g A × NoneBelow g c A (suc limit)))

-- 11 is given exactly when some k up to the limit was not worked out, by the engine or for a set of its own, and none before it serves.
abbrev pub ElevenExactly : Type 0
ElevenExactly = Always (λ g c limit A. (needed_k c g A limit ≡ refused 11) ↔ (¬ OneProduction g A × NotWorkedOut g c limit A))

-- What is decided stays decided at any limit that reaches its k.
abbrev pub StaysDecided : Type 0
StaysDecided = Always (λ g c limit A. (more k : ℕ) → needed_k c g A limit ≡ got k → k ≤ more → needed_k c g A more ≡ got k)

-- ---- the joined strings

-- Every joined string is complete; so none is ε.
abbrev pub JoinedComplete : Type 0
JoinedComplete = (g : Grammar) → Accepted g → (k : ℕ) → 1 ≤ k → (i : ℕ) → i < length g.productions → (w : Word) → Ahead g k i w
    → (complete k (str w) ≡ true) × ¬ (w ≡ [])

-- None begins another one: of two joined strings, of whatever productions, neither is a proper prefix of the other.
abbrev pub NoneBegins : Type 0
NoneBegins = (g : Grammar) → Accepted g → (k : ℕ) → 1 ≤ k → (i j : ℕ) → i < length g.productions → j < length g.productions
    → (u x : Word) → Ahead g k i u → Ahead g k j (u ++ x) → x ≡ []

-- And where k serves a nonterminal, a string that begins one of its strings is of the same production.
abbrev pub JoinedApart : Type 0
JoinedApart = (g : Grammar) → Accepted g → (k : ℕ) → 1 ≤ k → (A : ℕ) → Serves g k A → (i j : ℕ) → Of g A i → Of g A j
    → (u x : Word) → Ahead g k i u → Ahead g k j (u ++ x) → (x ≡ []) × (i ≡ j)

-- ---- the automata

-- Every input is answered as the rules say.
abbrev pub AutomataAll : Type 0
AutomataAll = (limit c : ℕ) (table : List ℕ) (result scratch room : ℕ) → AutomataAnswered limit c table result scratch room (automata limit c table result scratch room)

-- There is one such answer.
abbrev pub AutomataOne : Type 0
AutomataOne = (limit c : ℕ) (table : List ℕ) (result scratch room : ℕ) (x : Answer (List ℕ))
    → AutomataAnswered limit c table result scratch room x → x ≡ automata limit c table result scratch room

-- For each nonterminal of the table's grammar, what K3 decides is right, and its automaton is that of its joined sets.
pub record RightAutomata (table : List ℕ) (ds : List Decided) : Type 0 where
  pub g : Grammar
  pub reads : Reads table g
  pub accepted-grammar : Accepted g
  pub one_each : length ds ≡ g.n
  pub decided : (A : ℕ) (d : Decided) → A < g.n → RightFor g A (get_or ds A d)
  pub automata-of : (A : ℕ) (d : Decided) → A < g.n → AutomatonOf g A (get_or ds A d) (automaton (get_or ds A d))

-- So it is whenever all are decided.
abbrev pub AutomataRight : Type 0
AutomataRight = (limit c : ℕ) (table : List ℕ) (result scratch : ℕ) (ds : List Decided) → AllAre limit c table result scratch ds → RightAutomata table ds

-- ---- their bytes

-- Every number of an automaton fits two groups of seven bits.
abbrev pub Fits : List State → Type 0
Fits S = (v : ℕ) → v ∈ automaton_numbers S → v < 16384

-- So it is for what is decided, where the tree has at most 2,048 states.
abbrev pub NumbersFit : Type 0
NumbersFit = (g : Grammar) → Accepted g → Limits g → (A : ℕ) (d : Decided) → RightFor g A d → length (automaton d) ≤ 2048 → Fits (automaton d)

-- The bytes of automata whose numbers fit determine how many there are, and each of them.
abbrev pub BytesDetermine : Type 0
BytesDetermine = (Ss Ts : List (List State)) → ((S : List State) → S ∈ Ss → Fits S) → ((T : List State) → T ∈ Ts → Fits T)
    → automata_bytes Ss ≡ automata_bytes Ts → Ss ≡ Ts

-- The automata of a call that writes them.
pub record Writes (table : List ℕ) (Ss : List (List State)) : Type 0 where
  pub limit : ℕ
  pub c : ℕ
  pub result : ℕ
  pub scratch : ℕ
  pub ds : List Decided
  pub bytes : Bytes table
  pub decided : AllAre limit c table result scratch ds
  pub small : AllSmall ds
  pub are : Ss ≡ map automaton ds

-- So two calls, of whatever tables, that write the same bytes have the same automata.
abbrev pub WrittenDetermine : Type 0
WrittenDetermine = (table other : List ℕ) (Ss Ts : List (List State)) → Writes table Ss → Writes other Ts → automata_bytes Ss ≡ automata_bytes Ts → Ss ≡ Ts

-- ---- marking a table of predictions

-- Every input is answered as the rules say.
abbrev pub MarkAll : Type 0
MarkAll = (limit c : ℕ) (table : List ℕ) (result scratch : ℕ) (rows : List Row) → CallMarked limit c table result scratch rows (mark limit c table result scratch rows)

-- There is one such answer.
abbrev pub MarkOne : Type 0
MarkOne = (limit c : ℕ) (table : List ℕ) (result scratch : ℕ) (rows : List Row) (x : Answer Mark)
    → CallMarked limit c table result scratch rows x → x ≡ mark limit c table result scratch rows

-- The automata, those with k = 0 left aside, listed as rows, are always accepted.
abbrev pub AutomataAccepted : Type 0
AutomataAccepted = (limit c : ℕ) (table : List ℕ) (result scratch : ℕ) (ds : List Decided)
    → AllAre limit c table result scratch ds → mark limit c table result scratch (automata_rows ds) ≡ got accepted
