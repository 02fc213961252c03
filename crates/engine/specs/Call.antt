-- The engine's call: its answer as a record of numbers, and what then stands in the two lent buffers, for every input. Assumes nothing.
use Rattle.std.specs.Prelude.{ℕ, ◌+◌, ◌*◌, ◌≡◌, cond, List, [], ◌++◌, leb, eqb, length, drop, replicate, Result, Ok, Err}
use Rattle.refusals.specs.Numbers.{number}
use Rattle.refusals.specs.declared.Refusal.{Refusal}
use Rattle.cfg.specs.Grammar.{Grammar}
use Rattle.cfg.specs.Reading.{Reading, got as read, refused as unread}
use Rattle.cfg.specs.Accept.{accept_table}
use Rattle.k_tuple.specs.Strings.{places}
use Rattle.k_tuples.specs.States.{State}
use Rattle.k_tuples.specs.Work.{Answer, got, refused}
use Rattle.k_tuples.specs.Blocks.{store}
use Rattle.analysis.specs.Analysis.{Analysis, analyse, result_needs, scratch_needs}
use Rattle.engine.specs.declared.Lookahead.{Lookahead}

-- The answer in numbers: that of the refusal, or 0; the grammar's sizes; the width of its strings; the rounds of the levels and of FOLLOW.
pub record Record : Type 0 where
  pub refusal : ℕ
  pub n : ℕ
  pub p : ℕ
  pub q : ℕ
  pub width : ℕ
  pub rounds : List ℕ
  pub follow : ℕ

-- What the call returns, in numbers.
abbrev pub record_of : Result Lookahead Refusal → Record
record_of (Ok a) = record { refusal = 0; n = a.n; p = a.p; q = a.q; width = a.width; rounds = a.rounds; follow = a.follow }
record_of (Err e) = record { refusal = number e; n = 0; p = 0; q = 0; width = 0; rounds = replicate 10 0; follow = 0 }

-- The analysis in numbers: on a refusal every other number is 0; levels that were not run have 0 rounds.
unfoldable pub answer_of : Answer Analysis → Record
answer_of (refused r) = record { refusal = r; n = 0; p = 0; q = 0; width = 0; rounds = replicate 10 0; follow = 0 }
answer_of (got a) = record {
  refusal = 0;
  n = a.n;
  p = a.p;
  q = a.q;
  width = a.width;
  rounds = places 10 a.rounds;
  follow = a.follow_rounds;
}

-- The sets of the result in its order: FIRST of nonterminals, of productions, FOLLOW of nonterminals, of positions.
unfoldable pub sets_of : Analysis → State
sets_of a = a.nonterminals ++ (a.productions ++ (a.follows ++ a.positions))

-- How many words a table needs of a buffer: none where it is not accepted.
abbrev needed_by : (Grammar → ℕ) → Reading Grammar → ℕ
needed_by needs (read g next) = needs g
needed_by needs (unread r) = 0

unfoldable pub result_needed : ℕ → List ℕ → ℕ
result_needed c table = needed_by (result_needs c) (accept_table table)

unfoldable pub scratch_needed : ℕ → List ℕ → ℕ
scratch_needed c table = needed_by (scratch_needs c) (accept_table table)

-- The first words zero, the others as they came.
abbrev pub wiped : ℕ → List ℕ → List ℕ
wiped needed ws = replicate needed 0 ++ drop needed ws

-- The result: refusals 1 to 10 leave it as it came, 11 and 12 wipe what is needed; else it begins with the sets, in 2c + 1 words each.
unfoldable pub result_after : (k c needed : ℕ) → List ℕ → Answer Analysis → List ℕ
result_after k c needed ws (refused r) = cond (leb r 10) ws (wiped needed ws)
result_after k c needed ws (got a) = store k (2 * c + 1) a.width (sets_of a) (drop needed ws)

-- The scratch: refusals 1 to 10 leave it as it came; else what is needed is wiped.
unfoldable pub scratch_after : (needed : ℕ) → List ℕ → Answer Analysis → List ℕ
scratch_after needed ws (refused r) = cond (leb r 10) ws (wiped needed ws)
scratch_after needed ws (got a) = wiped needed ws

-- What stands after work with the answer m: the record r, and the words of the two buffers, of which so many were needed.
pub record Left (m : Answer Analysis) (k c needed needed' : ℕ) (result scratch : List ℕ) (r : Record) (result' scratch' : List ℕ) : Type 0 where
  pub answer : r ≡ answer_of m
  pub result_words : result' ≡ result_after k c needed result m
  pub scratch-words : scratch' ≡ scratch_after needed' scratch m

-- What the call promises, for every input: its answer and every lent word are those of the analysis.
abbrev pub Promised : (k c : ℕ) (table result scratch : List ℕ) (r : Record) (result' scratch' : List ℕ) → Type 0
Promised k c table result scratch r result' scratch' =
    Left (analyse k c table (length result) (length scratch)) k c (result_needed c table) (scratch_needed c table) result scratch r result' scratch'

-- The sets of a kind.
unfoldable pub of_kind : ℕ → Analysis → State
of_kind kind a =
    cond (eqb kind 0) a.nonterminals
    (cond (eqb kind 1) a.productions
    (cond (eqb kind 2) a.follows
    (cond (eqb kind 3) a.positions [])))
