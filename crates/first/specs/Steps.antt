-- What the steps of FIRST do to the two lent buffers. Assumes nothing.
use Rattle.std.specs.Prelude.{◌≡◌, List, [], map, Result, Ok, Err, ℕ, ◌+◌, ◌*◌, ◌≤◌, ◌<◌, set, take, drop}
use Rattle.k_tuple.specs.Strings.{Str, ones}
use Rattle.k_tuples.specs.Sets.{join_sets}
use Rattle.k_tuples.specs.States.{State, set_of}
use Rattle.k_tuples.specs.Words.{room_of, Growth}
use Rattle.k_tuples.specs.Blocks.{sets_in, IsStored}
use Rattle.k_tuples.specs.Work.{Answer, refused, got}
use Rattle.refusals.specs.declared.Refusal.{Refusal}
use Rattle.refusals.specs.declared.Refusal.TheVariants.{SetTooLarge}
use Rattle.blocks.specs.Stores.{Turned, Filled}
use Rattle.cfg.specs.Grammar.{Sym, terminal, Grammar, AllInRange}
use Rattle.first_theory.specs.First.{Part, run, single}
use Rattle.first_theory.specs.Compute.{part_set}
use Rattle.first.specs.declared.Setup.{Setup}

-- ---- the buffers

abbrev pub result_sets : Setup → List ℕ → State
result_sets u ws = sets_in u.b u.rsets ws

abbrev pub scratch_sets : Setup → List ℕ → State
scratch_sets u ws = sets_in u.b u.ssets ws

-- the words past the sets
abbrev pub past_result : Setup → List ℕ → List ℕ
past_result u ws = drop (u.rsets * u.b) ws

abbrev pub past_scratch : Setup → List ℕ → List ℕ
past_scratch u ws = drop (u.ssets * u.b) ws

-- the sets of the nonterminals, which come first in the result
abbrev pub old_sets : Setup → List ℕ → State
old_sets u ws = take u.n (result_sets u ws)

-- how many members a set has room for
abbrev pub room : Setup → ℕ
room u = room_of u.b

-- buffers to work in at k: set n of the scratch is free for joins, and every terminal is a slot of the width
pub record Ready (u : Setup) (k : ℕ) (result scratch : List ℕ) : Type 0 where
  pub result-store : IsStored k u.w u.b u.rsets result
  pub scratch-store : IsStored k u.w u.b u.ssets scratch
  pub work : u.n < u.ssets
  pub some : 3 ≤ u.b
  pub least : 1 ≤ k
  pub most : k ≤ 10
  pub wide : 1 ≤ u.w
  pub narrow : u.w ≤ 12
  pub slots : u.t + 5 < ones u.w

-- buffers that are ready at some level up to k
pub record ReadyBelow (u : Setup) (k : ℕ) (result scratch : List ℕ) : Type 0 where
  pub j : ℕ
  pub low : j ≤ k
  pub high : k ≤ 10
  pub ready : Ready u j result scratch

-- a set of the result that is free for the product in hand
pub record Free (u : Setup) (at : ℕ) : Type 0 where
  pub after : u.n ≤ at
  pub within : at < u.rsets

-- ---- symbols in range

-- the grammar's numbers, on which the range of a symbol depends
abbrev pub sizes : Setup → Grammar
sizes u = record { n = u.n; t = u.t; start = u.start; productions = [] }

abbrev pub Symbols : Setup → List Sym → Type 0
Symbols u = AllInRange (sizes u)

abbrev pub PartIn : Setup → Part → Type 0
PartIn u (run v) = Symbols u (map terminal v)
PartIn u (single A) = A < u.n

-- ---- products

-- the product in hand joined with a part
abbrev pub part_join : Setup → ℕ → ℕ → List ℕ → Part → List Str
part_join u at k result q = join_sets k (set_of (result_sets u result) at) (part_set k (old_sets u result) q)

-- set out of the scratch, of `old` members, has become `new`, or was too large
abbrev pub InWork : Setup → (k out old : ℕ) → List Str → Growth → (scratch scratch' : List ℕ) → Type 0
InWork u k out old new r scratch scratch' = Filled k u.w u.b u.ssets out old new r scratch scratch'

-- set at of the result has become the product, set n of the scratch anything; the other sets are as they were
pub record Placed (u : Setup) (at k : ℕ) (product : List Str) (result scratch result' scratch' : List ℕ) : Type 0 where
  pub held : Turned k u.w u.b u.rsets (set (result_sets u result) at product) result result'
  pub work : List Str
  pub worked : Turned k u.w u.b u.ssets (set (scratch_sets u scratch) u.n work) scratch scratch'

-- the answer is a product, which has been placed
pub record Done (u : Setup) (at k : ℕ) (answer : Answer (List Str)) (result scratch result' scratch' : List ℕ) : Type 0 where
  pub product : List Str
  pub made : answer ≡ got product
  pub placed : Placed u at k product result scratch result' scratch'

-- a step has come to a value, of which Came holds; or a set was too large, its only refusal, and Over holds
abbrev pub OrTooLarge : {T : Type 0} → Result T Refusal → (Over : Type 0) → (Came : T → Type 0) → Type 0
OrTooLarge (Ok v) Over Came = Came v
OrTooLarge (Err e) Over Came = Over × (e ≡ SetTooLarge)

-- a product has been made as the answer says, or a set was too large
pub record Made (u : Setup) (at k : ℕ) (answer : Answer (List Str)) (r : Result (Unit {0}) Refusal) (result scratch result' scratch' : List ℕ) : Type 0 where
  pub ends : OrTooLarge r (answer ≡ refused 11) (λ _. Done u at k answer result scratch result' scratch')
  pub result-beyond : past_result u result' ≡ past_result u result
  pub scratch-beyond : past_scratch u scratch' ≡ past_scratch u scratch
