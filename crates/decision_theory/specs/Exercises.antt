-- Small grammars with their answers, as an independent model gives them: one claim about the definitions. Assumes nothing.
use Rattle.std.specs.Prelude.{ℕ, List, [], ◌∷◌, ◌≡◌, refl}
use Rattle.k_tuple.specs.Strings.{slots, digits_in, width_of}
use Rattle.k_tuple.specs.Order.{cmp, cmp_slots}
use Rattle.k_tuples.specs.Work.{Answer, got, refused, within, settle}
use Rattle.k_tuples.specs.States.{same_sets}
use Rattle.k_tuples.specs.Sets.{same_set, insert, union, join_sets, member, disjoint}
use Rattle.cfg.specs.Table.{read_table, productions, symbols}
use Rattle.cfg.specs.Marks.{any_below}
use Rattle.cfg.specs.Closure.{close_rounds, close_round, close_one, all_marked}
use Rattle.cfg.specs.Corners.{comes_back, walk, visit, turn}
use Rattle.cfg.specs.Accept.{accept_table, test_refusal, misses}
use Rattle.first_theory.specs.Compute.{join_parts, right_side, round_from, round, level, levels, first, production_sets}
use Rattle.follow_theory.specs.Equations.{start}
use Rattle.follow_theory.specs.Follow.{join_for, take_one, take_all, position_sets, follow}
use Rattle.analysis.specs.Analysis.{work}
use Rattle.cfg.specs.Write.{write_number}
use Rattle.decision_theory.specs.Needed.{own_from, choices_of, apart_from, apart, choices_at, try_from, decide, needed_k, grammar_for, decisions, needed_ks}
use Rattle.decision_theory.specs.Automaton.{entries_of, behind, put, letters, accepts, below, nodes, states_from, automaton, automata_bytes, all_decided, all_small, automata}
use Rattle.decision_theory.specs.Marking.{Row, Mark, accepted, bad-row, missing, strings_of, production_for, wanted_rows, rows_from, has, check_rows, first_absent, mark_rows, mark}

-- S → 5 V; V → 6; V → nothing
abbrev pub listing : List ℕ
listing = 2 ∷ 2 ∷ 0 ∷ 3 ∷ 0 ∷ 2 ∷ 11 ∷ 2 ∷ 1 ∷ 1 ∷ 13 ∷ 1 ∷ 0 ∷ []

-- S → 5 S | 6
abbrev pub fives : List ℕ
fives = 1 ∷ 2 ∷ 0 ∷ 2 ∷ 0 ∷ 2 ∷ 11 ∷ 0 ∷ 0 ∷ 1 ∷ 13 ∷ []

-- S → 5 5 | 5 6
abbrev pub two-ahead : List ℕ
two-ahead = 1 ∷ 2 ∷ 0 ∷ 2 ∷ 0 ∷ 2 ∷ 11 ∷ 11 ∷ 0 ∷ 2 ∷ 11 ∷ 13 ∷ []

-- S → 5 S | 5 S 6 | 5
abbrev pub never : List ℕ
never = 1 ∷ 2 ∷ 0 ∷ 3 ∷ 0 ∷ 2 ∷ 11 ∷ 0 ∷ 0 ∷ 3 ∷ 11 ∷ 0 ∷ 13 ∷ 0 ∷ 1 ∷ 11 ∷ []

-- S → 5 5 A 7 | 5 5 A 8; A → B | 5 5; B → 5 | 6
abbrev pub own-sets : List ℕ
own-sets = 3 ∷ 4 ∷ 0 ∷ 6 ∷ 0 ∷ 4 ∷ 11 ∷ 11 ∷ 2 ∷ 15 ∷ 0 ∷ 4 ∷ 11 ∷ 11 ∷ 2 ∷ 17 ∷ 1 ∷ 1 ∷ 4 ∷ 1 ∷ 2 ∷ 11 ∷ 11 ∷ 2 ∷ 1 ∷ 11 ∷ 2 ∷ 1 ∷ 13 ∷ []

-- S → 7 S S | 8 6
abbrev pub missing-seven : List ℕ
missing-seven = 1 ∷ 4 ∷ 0 ∷ 2 ∷ 0 ∷ 3 ∷ 15 ∷ 0 ∷ 0 ∷ 0 ∷ 2 ∷ 17 ∷ 13 ∷ []

-- ---- which k: with 4,096 words lent for each of the engine's buffers

abbrev ks : ℕ → ℕ → List ℕ → Answer (List (Answer ℕ))
ks limit c table = needed_ks limit c table 4096 4096

pub record Needed : Type 0 where
  pub of-listing : ks 2 8 listing ≡ got (got 0 ∷ got 1 ∷ [])
  pub of-fives : ks 3 8 fives ≡ got (got 1 ∷ [])
  pub of_two : ks 2 8 two-ahead ≡ got (got 2 ∷ [])
  pub of-two-at-one : ks 1 8 two-ahead ≡ got (refused 22 ∷ [])
  pub of-never : ks 2 8 never ≡ got (refused 22 ∷ [])
  -- no room for a set of the engine's: passed on
  pub no_room : ks 2 1 two-ahead ≡ got (refused 11 ∷ [])
  -- no room for a set of A's own, of four strings: A alone is refused
  pub no-own-room : ks 2 3 own-sets ≡ got (refused 22 ∷ refused 11 ∷ got 1 ∷ [])
  pub own_room : ks 2 4 own-sets ≡ got (refused 22 ∷ got 2 ∷ got 1 ∷ [])
  pub no-limit : ks 0 0 [] ≡ refused 1
  pub too_far : ks 11 8 listing ≡ refused 1
  pub no-c : ks 1 0 listing ≡ refused 2
  pub cut_short : ks 3 8 (1 ∷ []) ≡ refused 3
  pub left-recursive : ks 3 8 (1 ∷ 1 ∷ 0 ∷ 2 ∷ 0 ∷ 1 ∷ 0 ∷ 0 ∷ 1 ∷ 11 ∷ []) ≡ refused 9
  pub enough-words : needed_ks 2 8 listing 136 136 ≡ ks 2 8 listing
  pub few_words : needed_ks 2 8 listing 4096 135 ≡ refused 10

pub needed : Needed
unfolding work accept_table test_refusal misses read_table productions symbols any_below close_rounds close_round close_one all_marked comes_back walk visit turn first levels level round round_from right_side join_parts production_sets within settle same_sets same_set insert union join_sets cmp cmp_slots follow take_all take_one join_for position_sets start width_of digits_in member disjoint own_from choices_of apart_from apart choices_at try_from decide needed_k grammar_for decisions needed_ks
needed = record {
  of-listing = refl;
  of-fives = refl;
  of_two = refl;
  of-two-at-one = refl;
  of-never = refl;
  no_room = refl;
  no-own-room = refl;
  own_room = refl;
  no-limit = refl;
  too_far = refl;
  no-c = refl;
  cut_short = refl;
  left-recursive = refl;
  enough-words = refl;
  few_words = refl;
}

-- ---- automata: the bytes of all nonterminals in turn

abbrev trees : ℕ → ℕ → List ℕ → ℕ → Answer (List ℕ)
trees limit c table room = automata limit c table 4096 4096 room

pub record Trees : Type 0 where
  -- nonterminal 0 by its one production; nonterminal 1 by the end marker and by 6
  pub of-listing : trees 2 8 listing 4096 ≡ got (1 ∷ 1 ∷ 0 ∷ 3 ∷ 0 ∷ 2 ∷ 0 ∷ 1 ∷ 6 ∷ 2 ∷ 3 ∷ 0 ∷ 2 ∷ 0 ∷ [])
  pub of-fives : trees 3 8 fives 4096 ≡ got (3 ∷ 0 ∷ 2 ∷ 5 ∷ 1 ∷ 6 ∷ 2 ∷ 1 ∷ 0 ∷ 2 ∷ 0 ∷ [])
  pub of_two : trees 2 8 two-ahead 4096 ≡ got (4 ∷ 0 ∷ 1 ∷ 5 ∷ 1 ∷ 0 ∷ 2 ∷ 5 ∷ 2 ∷ 6 ∷ 3 ∷ 1 ∷ 0 ∷ 2 ∷ 0 ∷ [])
  pub just-room : trees 2 8 listing 14 ≡ trees 2 8 listing 4096
  pub few_bytes : trees 2 8 listing 13 ≡ refused 10
  -- the lowest nonterminal's refusal, before the number of states and the bytes are looked at
  pub lowest : trees 2 3 own-sets 0 ≡ refused 22
  pub cut_short : trees 3 8 (1 ∷ []) 0 ≡ refused 3

pub trees-are : Trees
unfolding work accept_table test_refusal misses read_table productions symbols any_below close_rounds close_round close_one all_marked comes_back walk visit turn first levels level round round_from right_side join_parts production_sets within settle same_sets same_set insert union join_sets cmp cmp_slots follow take_all take_one join_for position_sets start width_of digits_in member disjoint own_from choices_of apart_from apart choices_at try_from decide grammar_for decisions entries_of behind put letters accepts below nodes states_from automaton write_number automata_bytes all_decided all_small automata
trees-are = record {
  of-listing = refl;
  of-fives = refl;
  of_two = refl;
  just-room = refl;
  few_bytes = refl;
  lowest = refl;
  cut_short = refl;
}

-- ---- prediction tables

abbrev row : ℕ → List ℕ → ℕ → Row
row A w i = record { nonterminal = A; string = slots w; production = i }

abbrev marks : ℕ → List ℕ → List Row → Answer Mark
marks limit table rows = mark limit 8 table 4096 4096 rows

pub record Marks : Type 0 where
  -- in any order
  pub fine : marks 2 listing (row 1 (6 ∷ []) 1 ∷ row 1 (0 ∷ []) 2 ∷ []) ≡ got accepted
  pub turned : marks 2 listing (row 1 (0 ∷ []) 2 ∷ row 1 (6 ∷ []) 1 ∷ []) ≡ got accepted
  -- of a row given twice the second is bad
  pub twice : marks 2 listing (row 1 (6 ∷ []) 1 ∷ row 1 (6 ∷ []) 1 ∷ []) ≡ got (bad-row 1)
  -- no row is wanted for a nonterminal with one production
  pub one-production : marks 2 listing (row 0 (5 ∷ []) 0 ∷ []) ≡ got (bad-row 0)
  pub other-production : marks 2 listing (row 1 (6 ∷ []) 1 ∷ row 1 (0 ∷ []) 1 ∷ []) ≡ got (bad-row 1)
  pub lacks-end : marks 2 listing (row 1 (6 ∷ []) 1 ∷ []) ≡ got (missing 1 (slots (0 ∷ [])))
  pub lacks-first : marks 2 two-ahead (row 0 (5 ∷ 6 ∷ []) 1 ∷ []) ≡ got (missing 0 (slots (5 ∷ 5 ∷ [])))
  pub refused-first : marks 1 two-ahead (row 7 [] 7 ∷ []) ≡ refused 22
  -- two stored cases: refused 25 with 0 and [7]; accepted
  pub stored-missing : marks 3 missing-seven (row 0 (8 ∷ []) 1 ∷ []) ≡ got (missing 0 (slots (7 ∷ [])))
  pub stored-accepted : marks 2 (2 ∷ 4 ∷ 0 ∷ 3 ∷ 1 ∷ 2 ∷ 17 ∷ 17 ∷ 0 ∷ 1 ∷ 11 ∷ 1 ∷ 1 ∷ 13 ∷ []) (row 1 (8 ∷ []) 0 ∷ row 1 (6 ∷ []) 2 ∷ []) ≡ got accepted

pub marks-are : Marks
unfolding work accept_table test_refusal misses read_table productions symbols any_below close_rounds close_round close_one all_marked comes_back walk visit turn first levels level round round_from right_side join_parts production_sets within settle same_sets same_set insert union join_sets cmp cmp_slots follow take_all take_one join_for position_sets start width_of digits_in member disjoint own_from choices_of apart_from apart choices_at try_from decide grammar_for decisions all_decided strings_of production_for wanted_rows rows_from has check_rows first_absent mark_rows mark
marks-are = record {
  fine = refl;
  turned = refl;
  twice = refl;
  one-production = refl;
  other-production = refl;
  lacks-end = refl;
  lacks-first = refl;
  refused-first = refl;
  stored-missing = refl;
  stored-accepted = refl;
}
