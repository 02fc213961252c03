-- What the work within the call promises, step by step, over the buffers in which FIRST and FOLLOW are worked out. Not for the reader of the call.
-- Assumes nothing.
use Rattle.std.specs.Prelude.{ℕ, ◌+◌, ◌*◌, List, ◌++◌, ◌≡◌, length}
use Rattle.cfg.specs.Grammar.{Grammar}
use Rattle.k_tuple.specs.Strings.{width_of}
use Rattle.k_tuples.specs.States.{State}
use Rattle.k_tuples.specs.Work.{Answer, got, refused, ◌>>=◌}
use Rattle.k_tuples.specs.Blocks.{store}
use Rattle.first_theory.specs.Compute.{production_sets}
use Rattle.follow_theory.specs.Follow.{occurrences_of, follow, position_sets}
use Rattle.first.specs.declared.Setup.{Setup}
use Rattle.first.specs.Steps.{old_sets, past_result, past_scratch, room, Ready}
use Rattle.first.specs.Rounds.{grammar_in, Rules}
use Rattle.cfg.specs.declared.table.Shape.{Shape}
use Rattle.engine.specs.Call.{Record, answer_of}

abbrev pub setup_of : ℕ → Shape → ℕ → Setup
setup_of c s q = record {
  n = s.n;
  t = s.t;
  start = s.start;
  p = s.p;
  b = 2 * c + 1;
  rsets = 2 * s.n + s.p + q;
  ssets = 2 * s.n + 4;
  w = width_of (s.t + 5);
}

-- the answer with FOLLOW's rounds
abbrev pub finished : Setup → ℕ → List ℕ → ℕ → Record
finished u q rounds f = record { refusal = 0; n = u.n; p = u.p; q = q; width = u.w; rounds = rounds; follow = f }

-- buffers in which FIRST of the nonterminals stands
pub record Begun (u : Setup) (k : ℕ) (words result scratch : List ℕ) : Type 0 where
  pub ready : Ready u k result scratch
  pub rules : Rules u words
  pub sets : u.rsets ≡ u.n + u.p + u.n + length (occurrences_of (grammar_in u words).productions)

-- what is worked out behind FIRST of the nonterminals
pub record Rest : Type 0 where
  pub productions : State
  pub follows : State
  pub follow_rounds : ℕ
  pub positions : State

unfoldable pub rest_of : (c k : ℕ) → Grammar → State → Answer Rest
rest_of c k g X = do
  productions ← production_sets c k X g.productions
  follows ← follow c k g X
  positions ← position_sets c k X (occurrences_of g.productions) follows.sets
  got (record { productions = productions; follows = follows.sets; follow_rounds = follows.rounds; positions = positions })

abbrev pub rest_answer : Setup → ℕ → List ℕ → Answer Rest → Record
rest_answer u q rounds (refused r) = answer_of (refused r)
rest_answer u q rounds (got x) = finished u q rounds x.follow_rounds

abbrev pub rest_for : Setup → ℕ → (words result : List ℕ) → Answer Rest
rest_for u k words result = rest_of (room u) k (grammar_in u words) (old_sets u result)

pub record RestRan (u : Setup) (k q : ℕ) (rounds words result scratch : List ℕ) (r : Record) (result' scratch' : List ℕ) : Type 0 where
  pub answer : r ≡ rest_answer u q rounds (rest_for u k words result)
  pub sets : (x : Rest) → rest_for u k words result ≡ got x
      → result' ≡ store k u.b u.w (old_sets u result ++ (x.productions ++ (x.follows ++ x.positions))) (past_result u result)
  pub result-beyond : past_result u result' ≡ past_result u result
  pub scratch-beyond : past_scratch u scratch' ≡ past_scratch u scratch
