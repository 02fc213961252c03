-- The analysis, whole: a table's bytes give FIRST and FOLLOW, or the number of a refusal. Assumes nothing.
use Rattle.std.specs.Prelude.{ℕ, ◌+◌, ◌*◌, ◌&&◌, List, leb, length}
use Rattle.cfg.specs.Grammar.{Grammar}
use Rattle.cfg.specs.Reading.{Reading, got as read, refused as unread}
use Rattle.cfg.specs.Accept.{accept_table}
use Rattle.k_tuple.specs.Strings.{width_of}
use Rattle.k_tuples.specs.States.{State}
use Rattle.k_tuples.specs.Work.{Answer, got, refused, ◌>>=◌, ◌>>◌, demand}
use Rattle.first_theory.specs.Compute.{first, production_sets}
use Rattle.follow_theory.specs.Follow.{occurrences_of, follow, position_sets}

-- The rounds are one count for each level, and then those of FOLLOW.
pub record Analysis : Type 0 where
  pub n : ℕ
  pub p : ℕ
  pub q : ℕ
  pub width : ℕ
  pub rounds : List ℕ
  pub follow_rounds : ℕ
  pub nonterminals : State
  pub productions : State
  pub follows : State
  pub positions : State

-- The work on an accepted grammar, in its order.
unfoldable pub work : ℕ → ℕ → Grammar → Answer Analysis
work k c g = do
  firsts ← first c g k
  productions ← production_sets c k firsts.sets g.productions
  follows ← follow c k g firsts.sets
  positions ← position_sets c k firsts.sets (occurrences_of g.productions) follows.sets
  got (record {
    n = g.n;
    p = length g.productions;
    q = length (occurrences_of g.productions);
    width = width_of (g.t + 5);
    rounds = firsts.rounds;
    follow_rounds = follows.rounds;
    nonterminals = firsts.sets;
    productions = productions;
    follows = follows.sets;
    positions = positions;
  })

abbrev pub accepts : Reading Grammar → Answer Grammar
accepts (read g next) = got g
accepts (unread r) = refused r

-- A set takes its count and two words for each member that it has room for.
abbrev pub result_needs : ℕ → Grammar → ℕ
result_needs c g = (2 * g.n + length g.productions + length (occurrences_of g.productions)) * (2 * c + 1)

abbrev pub scratch_needs : ℕ → Grammar → ℕ
scratch_needs c g = (2 * g.n + 4) * (2 * c + 1)

-- k, the room c, the table, and how many words are lent for the result and for the scratch.
unfoldable pub analyse : ℕ → ℕ → List ℕ → ℕ → ℕ → Answer Analysis
analyse k c table result scratch = do
  demand 1 (leb 1 k && leb k 10)
  demand 2 (leb 1 c && leb c 1024)
  g ← accepts (accept_table table)
  demand 10 (leb (result_needs c g) result && leb (scratch_needs c g) scratch)
  work k c g
