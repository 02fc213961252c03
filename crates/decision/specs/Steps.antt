-- What the functions below the call ask and promise, k by k. Not for the reader of the call. Assumes nothing.
use Rattle.std.specs.Prelude.{ℕ, ◌+◌, ◌*◌, ◌≤◌, ◌<◌, ◌≡◌, Bool, true, false, cond, List, [], length, get_or, drop, set, Result, Ok, Err}
use Rattle.refusals.specs.declared.Refusal.{Refusal}
use Rattle.refusals.specs.declared.Refusal.TheVariants.{SetTooLarge}
use Rattle.cfg.specs.Grammar.{Grammar}
use Rattle.cfg.specs.Reading.{Reading, got as read, refused as unread}
use Rattle.cfg.specs.Accept.{accept_table}
use Rattle.k_tuple.specs.Strings.{Str}
use Rattle.k_tuples.specs.Sets.{disjoint, join_sets}
use Rattle.k_tuples.specs.States.{State, set_of}
use Rattle.k_tuples.specs.Words.{room_of}
use Rattle.k_tuples.specs.Work.{Answer, got}
use Rattle.k_tuples.specs.Blocks.{sets_in, IsStored}
use Rattle.analysis.specs.Analysis.{work, result_needs, scratch_needs}
use Rattle.follow_theory.specs.Follow.{occurrences_of}
use Rattle.decision_theory.specs.Needed.{each_from, needed_k}
use Rattle.decision_theory.specs.Steps.{is_open, tried, standing}
use Rattle.decision.specs.declared.Links.{Links}
use Rattle.decision.specs.declared.Layout.{Layout}
use Rattle.decision.specs.Call.{Record, refusal_of, k_of, Left}
use Rattle.decision.specs.Own.{left_at, Linked, SidesOf}

-- a number for each nonterminal that there may be
abbrev pub Long : {X : Type 0} → List X → Type 0
Long ρ = length ρ ≡ 128

-- ---- the left sides

-- numbers that suit each other: the blocks of the result, and the productions by their left sides
pub record Fit (u : Layout) (links : Links) : Type 0 where
  pub whole : u.n + u.p + u.n ≤ u.sets
  pub few : u.n ≤ 128
  pub inside : (i : ℕ) → i < u.p → left_at links i < u.n
  pub linked : Linked links u.p

-- ---- the sets in the result

abbrev pub held : Layout → List ℕ → State
held u ws = sets_in u.b u.sets ws

abbrev pub past : Layout → List ℕ → List ℕ
past u ws = drop (u.sets * u.b) ws

-- how many members a set has room for
abbrev pub room : Layout → ℕ
room u = room_of u.b

-- the set that stands for production i
abbrev pub production_set : Layout → State → ℕ → List Str
production_set u R i = set_of R (u.n + i)

-- production i's set joined with FOLLOW of its left side, by the sets of the result
abbrev pub joined_of : (u : Layout) (links : Links) (k : ℕ) → State → ℕ → List Str
joined_of u links k R i = join_sets k (set_of R (u.n + i)) (set_of R (u.n + u.p + left_at links i))

-- words that hold sets at k, and a block of their size to work in
pub record Ready (u : Layout) (k : ℕ) (result work : List ℕ) : Type 0 where
  pub width : ℕ
  pub result-store : IsStored k width u.b u.sets result
  pub work-store : IsStored k width u.b 1 work
  pub least : 1 ≤ k
  pub most : k ≤ 10

-- words that hold sets of some width, and a block to work in, do so once others stand in their place
abbrev pub KeepsWidth : (u : Layout) (k : ℕ) (result work result' work' : List ℕ) → Type 0
KeepsWidth u k result work result' work' =
    (w : ℕ) → IsStored k w u.b u.sets result → IsStored k w u.b 1 work → IsStored k w u.b u.sets result' × IsStored k w u.b 1 work'

-- ---- joins in place

-- set `at` has become its join with set `from`, or that was too large
pub record Taken (u : Layout) (k at from : ℕ) (r : Result (Unit {0}) Refusal) (result work result' work' : List ℕ) : Type 0 where
  pub ready : Ready u k result' work'
  pub keeps : KeepsWidth u k result work result' work'
  pub over : (e : Refusal) → r ≡ Err e → (e ≡ SetTooLarge) × (room u < length (join_sets k (set_of (held u result) at) (set_of (held u result) from))) × (held u result' ≡ held u result)
  pub done : (x : Unit {0}) → r ≡ Ok x → (length (join_sets k (set_of (held u result) at) (set_of (held u result) from)) ≤ room u)
      × (held u result' ≡ set (held u result) at (join_sets k (set_of (held u result) at) (set_of (held u result) from)))
  pub beyond : past u result' ≡ past u result

-- production i was joined where its left side is open; 11 for the left side where that was too large
pub data OneJoined (u : Layout) (links : Links) (k i : ℕ) (R R' : State) (ρ ρ' : List ℕ) : Type 0 where
  skipped : ¬ get_or ρ (left_at links i) 0 ≡ 22 → R' ≡ R → ρ' ≡ ρ → OneJoined u links k i R R' ρ ρ'
  over : get_or ρ (left_at links i) 0 ≡ 22 → room u < length (joined_of u links k R i) → R' ≡ R → ρ' ≡ set ρ (left_at links i) 11 → OneJoined u links k i R R' ρ ρ'
  kept : get_or ρ (left_at links i) 0 ≡ 22 → length (joined_of u links k R i) ≤ room u → R' ≡ set R (u.n + i) (joined_of u links k R i) → ρ' ≡ ρ → OneJoined u links k i R R' ρ ρ'

pub record JoinedOne (u : Layout) (links : Links) (k i : ℕ) (ρ ρ' result work result' work' : List ℕ) : Type 0 where
  pub ready : Ready u k result' work'
  pub keeps : KeepsWidth u k result work result' work'
  pub case : OneJoined u links k i (held u result) (held u result') ρ ρ'
  pub beyond : past u result' ≡ past u result

-- what the first i productions have made of A's refusal: nothing, 11, or its joined sets stand in the result
pub data JoinedTo (u : Layout) (links : Links) (k i A : ℕ) (R R' : State) (old new : ℕ) : Type 0 where
  closed : ¬ old ≡ 22 → new ≡ old → JoinedTo u links k i A R R' old new
  over : (j : ℕ) → j < i → left_at links j ≡ A → room u < length (joined_of u links k R j) → old ≡ 22 → new ≡ 11 → JoinedTo u links k i A R R' old new
  fits : old ≡ 22 → new ≡ 22 → ((j : ℕ) → j < i → left_at links j ≡ A → (length (joined_of u links k R j) ≤ room u) × (set_of R' (u.n + j) ≡ joined_of u links k R j))
      → JoinedTo u links k i A R R' old new

pub record Joining (u : Layout) (links : Links) (k i : ℕ) (R R' : State) (ρ ρ' : List ℕ) : Type 0 where
  pub each : (A : ℕ) → A < u.n → JoinedTo u links k i A R R' (get_or ρ A 0) (get_or ρ' A 0)
  pub waiting : (j : ℕ) → i ≤ j → j < u.p → set_of R' (u.n + j) ≡ set_of R (u.n + j)
  pub follows : (A : ℕ) → A < u.n → set_of R' (u.n + u.p + A) ≡ set_of R (u.n + u.p + A)
  pub others : (A : ℕ) → u.n ≤ A → get_or ρ' A 0 ≡ get_or ρ A 0
  pub long : length ρ' ≡ length ρ

pub record JoinedAll (u : Layout) (links : Links) (k i : ℕ) (ρ ρ' result work result' work' : List ℕ) : Type 0 where
  pub ready : Ready u k result' work'
  pub keeps : KeepsWidth u k result work result' work'
  pub joined : Joining u links k i (held u result) (held u result') ρ ρ'
  pub beyond : past u result' ≡ past u result

-- ---- pairs

-- whether a fact holds
pub record Says (r : Bool) (P : Type 0) : Type 0 where
  pub yes : r ≡ true → P
  pub no : r ≡ false → ¬ P

-- production i's set has no string in common with those of the productions from `j` to before `e` of the same left side
abbrev pub ApartFrom : (u : Layout) (links : Links) → State → (i from to : ℕ) → Type 0
ApartFrom u links R i from to = (j : ℕ) → from ≤ j → j < to → left_at links j ≡ left_at links i → disjoint (production_set u R i) (production_set u R j) ≡ true

-- the sets of A's productions are pairwise disjoint, those of which the first is below `end`
abbrev pub ApartBelow : (u : Layout) (links : Links) → State → (A end : ℕ) → Type 0
ApartBelow u links R A end = (i : ℕ) → i < end → left_at links i ≡ A → ApartFrom u links R i (i + 1) u.p

abbrev pub Apart : (u : Layout) (links : Links) → State → ℕ → Type 0
Apart u links R A = ApartBelow u links R A u.p

-- what k makes of A, by the sets of the result: where it is open and k serves, k
pub data DecidedTo (Serves : Type 0) (k old new old-k new-k : ℕ) : Type 0 where
  closed : ¬ old ≡ 22 → new ≡ old → new-k ≡ old-k → DecidedTo Serves k old new old-k new-k
  serves : old ≡ 22 → Serves → new ≡ 0 → new-k ≡ k → DecidedTo Serves k old new old-k new-k
  stays : old ≡ 22 → ¬ Serves → new ≡ 22 → new-k ≡ old-k → DecidedTo Serves k old new old-k new-k

-- those of the first a nonterminals are decided
pub record Deciding (u : Layout) (links : Links) (k a : ℕ) (R : State) (ρ κ ρ' κ' : List ℕ) : Type 0 where
  pub each : (A : ℕ) → A < a → DecidedTo (Apart u links R A) k (get_or ρ A 0) (get_or ρ' A 0) (get_or κ A 0) (get_or κ' A 0)
  pub others : (A : ℕ) → a ≤ A → (get_or ρ' A 0 ≡ get_or ρ A 0) × (get_or κ' A 0 ≡ get_or κ A 0)
  pub long : (length ρ' ≡ length ρ) × (length κ' ≡ length κ)

-- one nonterminal was decided
pub record DecidedOne (u : Layout) (links : Links) (k a : ℕ) (R : State) (ρ κ ρ' κ' : List ℕ) : Type 0 where
  pub here : DecidedTo (Apart u links R a) k (get_or ρ a 0) (get_or ρ' a 0) (get_or κ a 0) (get_or κ' a 0)
  pub others : (A : ℕ) → ¬ A ≡ a → (get_or ρ' A 0 ≡ get_or ρ A 0) × (get_or κ' A 0 ≡ get_or κ A 0)
  pub long : (length ρ' ≡ length ρ) × (length κ' ≡ length κ)

-- ---- one k

-- joined, and then decided
pub record SetsTried (u : Layout) (links : Links) (k : ℕ) (R : State) (ρ κ ρ' κ' : List ℕ) : Type 0 where
  pub made : State
  pub marks : List ℕ
  pub joined : Joining u links k u.p R made ρ marks
  pub decided : Deciding u links k u.n made marks κ ρ' κ'

-- an engine refusal is passed on to those that are open
pub data PassedTo (old new : ℕ) : Type 0 where
  closed : ¬ old ≡ 22 → new ≡ old → PassedTo old new
  passed : old ≡ 22 → new ≡ 11 → PassedTo old new

pub record Passing (a : ℕ) (ρ ρ' : List ℕ) : Type 0 where
  pub each : (A : ℕ) → A < a → PassedTo (get_or ρ A 0) (get_or ρ' A 0)
  pub others : (A : ℕ) → a ≤ A → get_or ρ' A 0 ≡ get_or ρ A 0
  pub long : length ρ' ≡ length ρ

-- ---- how the nonterminals stand

-- the numbers of A tell its answer
pub record Told (ρ κ : List ℕ) (A : ℕ) (x : Answer ℕ) : Type 0 where
  pub refusal : get_or ρ A 0 ≡ refusal_of x
  pub k : get_or κ A 0 ≡ k_of x

-- what k makes of an answer
abbrev pub after_k : (c : ℕ) (g : Grammar) (A k : ℕ) → Answer ℕ → Answer ℕ
after_k c g A k x = cond (is_open x) (tried c g A k (work k c g)) x

-- k was tried for each nonterminal
pub record TriedAt (c : ℕ) (g : Grammar) (k : ℕ) (ρ κ ρ' κ' : List ℕ) : Type 0 where
  pub each : (A : ℕ) → A < g.n → (x : Answer ℕ) → Told ρ κ A x → Told ρ' κ' A (after_k c g A k x)
  pub others : (A : ℕ) → g.n ≤ A → (get_or ρ' A 0 ≡ get_or ρ A 0) × (get_or κ' A 0 ≡ get_or κ A 0)
  pub long : (length ρ' ≡ length ρ) × (length κ' ≡ length κ)

-- how all stand once 1, .., k have been tried; the numbers behind them are 0
pub record StandAt (c : ℕ) (g : Grammar) (k : ℕ) (ρ κ : List ℕ) : Type 0 where
  pub each : (A : ℕ) → A < g.n → Told ρ κ A (standing c g A k)
  pub others : (A : ℕ) → g.n ≤ A → (get_or ρ A 0 ≡ 0) × (get_or κ A 0 ≡ 0)
  pub long : Long ρ × Long κ

-- whether some nonterminal is open
pub record Sought (n : ℕ) (ρ : List ℕ) (r : Bool) : Type 0 where
  pub none : r ≡ false → (A : ℕ) → A < n → ¬ get_or ρ A 0 ≡ 22
  pub some : r ≡ true → (A : ℕ) × (A < n) × (get_or ρ A 0 ≡ 22)

-- ---- the grammar and the buffers

-- the layout of a grammar's sets, with room for c members in each
pub record Sized (c : ℕ) (g : Grammar) (u : Layout) : Type 0 where
  pub n : u.n ≡ g.n
  pub p : u.p ≡ length g.productions
  pub b : u.b ≡ 2 * c + 1
  pub all : u.sets ≡ 2 * g.n + length g.productions + length (occurrences_of g.productions)

abbrev pub read_in : Reading Grammar → Grammar
read_in (read g next) = g
read_in (unread r) = record { n = 0; t = 0; start = 0; productions = [] }

-- the grammar of a table
unfoldable pub grammar_of : List ℕ → Grammar
grammar_of table = read_in (accept_table table)

-- a table that was accepted, with limits in range
pub record OnTable (limit c : ℕ) (table : List ℕ) : Type 0 where
  pub next : ℕ
  pub reads : accept_table table ≡ read (grammar_of table) next
  pub limit>0 : 1 ≤ limit
  pub limit<11 : limit ≤ 10
  pub c>0 : 1 ≤ c
  pub c<1025 : c ≤ 1024

-- and a layout of its sizes, its left sides, and buffers of enough words
pub record Given (limit c : ℕ) (table : List ℕ) (u : Layout) (links : Links) (result scratch : ℕ) : Type 0 where
  pub on : OnTable limit c table
  pub sized : Sized c (grammar_of table) u
  pub fit : Fit u links
  pub sides : SidesOf (grammar_of table).productions links
  pub result_words : result_needs c (grammar_of table) ≤ result
  pub scratch-words : scratch_needs c (grammar_of table) ≤ scratch

-- the words past what is needed are as they were
pub record Beyond (c : ℕ) (g : Grammar) (result scratch result' scratch' : List ℕ) : Type 0 where
  pub result-beyond : drop (result_needs c g) result' ≡ drop (result_needs c g) result
  pub scratch-beyond : drop (scratch_needs c g) scratch' ≡ drop (scratch_needs c g) scratch

-- after the sets of k were tried: the first block of the scratch was worked in
pub record SetsDone (u : Layout) (links : Links) (k : ℕ) (ρ κ ρ' κ' result scratch result' scratch' : List ℕ) : Type 0 where
  pub tried : SetsTried u links k (held u result) ρ κ ρ' κ'
  pub result-beyond : past u result' ≡ past u result
  pub scratch-beyond : drop u.b scratch' ≡ drop u.b scratch

-- after k was tried
pub record KDone (c : ℕ) (g : Grammar) (k : ℕ) (ρ κ ρ' κ' result scratch result' scratch' : List ℕ) : Type 0 where
  pub tried : TriedAt c g k ρ κ ρ' κ'
  pub beyond : Beyond c g result scratch result' scratch'

-- after all were
pub record AllDone (c : ℕ) (g : Grammar) (limit : ℕ) (ρ κ result scratch result' scratch' : List ℕ) : Type 0 where
  pub stand : StandAt c g limit ρ κ
  pub beyond : Beyond c g result scratch result' scratch'

-- every nonterminal is answered, and the buffers are wiped
abbrev pub AnsweredAll : (limit c : ℕ) → Grammar → (result scratch : List ℕ) → Record → (result' scratch' : List ℕ) → Type 0
AnsweredAll limit c g result scratch r result' scratch' =
    Left (got (each_from (λ A. needed_k c g A limit) 0 g.n)) (result_needs c g) (scratch_needs c g) result scratch r result' scratch'
