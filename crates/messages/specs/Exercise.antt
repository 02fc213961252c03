-- The exercise on messages: S → 6 5, and U → 6 U S | nothing, which S does not reach. The 6 with which S begins follows U in U's rule, and so
-- arrives in FOLLOW(S), though in every message S ends it. Assumes nothing.
use Rattle.std.specs.Prelude.{ℕ, List, [], ◌∷◌, ◌≡◌, refl}
use Rattle.cfg.specs.Grammar.{nonterminal, terminal, Grammar}
use Rattle.cfg.specs.Reading.{got as read}
use Rattle.cfg.specs.Table.{read_table, productions, symbols}
use Rattle.cfg.specs.Marks.{any_below}
use Rattle.cfg.specs.Closure.{close_rounds, close_round, close_one, all_marked}
use Rattle.cfg.specs.Corners.{comes_back, walk, visit, turn}
use Rattle.cfg.specs.Accept.{accept_table, test_refusal, misses}
use Rattle.k_tuple.specs.Strings.{eps, slots, digits_in, width_of}
use Rattle.k_tuple.specs.Order.{cmp, cmp_slots}
use Rattle.k_tuples.specs.Sets.{same_set, insert, union, join_sets}
use Rattle.k_tuples.specs.States.{same_sets}
use Rattle.k_tuples.specs.Work.{got, within, settle}
use Rattle.first_theory.specs.Compute.{join_parts, right_side, round_from, round, level, levels, first, production_sets}
use Rattle.follow_theory.specs.Equations.{start}
use Rattle.follow_theory.specs.Follow.{join_for, take_one, take_all, position_sets, follow}
use Rattle.analysis.specs.Analysis.{work, analyse}

-- U is nonterminal 0, S is nonterminal 1.
abbrev pub table : List ℕ
table = 2 ∷ 2 ∷ 1 ∷ 3 ∷ 1 ∷ 2 ∷ 0x0D ∷ 0x0B ∷ 0 ∷ 3 ∷ 0x0D ∷ 0 ∷ 2 ∷ 0 ∷ 0 ∷ []

-- The grammar of the table.
abbrev pub unreached : Grammar
unreached = record {
  n = 2;
  t = 2;
  start = 1;
  productions =
      record { left = 1; right = terminal 6 ∷ terminal 5 ∷ [] }
      ∷ record { left = 0; right = terminal 6 ∷ nonterminal 0 ∷ nonterminal 1 ∷ [] }
      ∷ record { left = 0; right = [] }
      ∷ [];
}

-- The table is accepted, and is this grammar's.
pub table-accepted : accept_table table ≡ read unreached 15
unfolding accept_table test_refusal misses read_table productions symbols any_below close_rounds close_round close_one all_marked comes_back walk visit turn
table-accepted = refl

-- At k = 1 the answer has [0] and [6] in FOLLOW(S).
pub table-answered : analyse 1 8 table 4096 4096
    ≡ got (record {
      n = 2;
      p = 3;
      q = 2;
      width = 4;
      rounds = 2 ∷ [];
      follow_rounds = 2;
      nonterminals = (slots (6 ∷ []) ∷ eps ∷ []) ∷ (slots (6 ∷ []) ∷ []) ∷ [];
      productions = (slots (6 ∷ []) ∷ []) ∷ (slots (6 ∷ []) ∷ []) ∷ (eps ∷ []) ∷ [];
      follows = (slots (6 ∷ []) ∷ []) ∷ (slots (0 ∷ []) ∷ slots (6 ∷ []) ∷ []) ∷ [];
      positions = (slots (6 ∷ []) ∷ []) ∷ (slots (6 ∷ []) ∷ []) ∷ [];
    })
unfolding analyse work accept_table test_refusal misses read_table productions symbols any_below close_rounds close_round close_one all_marked comes_back walk visit turn first levels level round round_from right_side join_parts production_sets within settle same_sets same_set insert union join_sets cmp cmp_slots follow take_all take_one join_for position_sets start width_of digits_in
table-answered = refl
