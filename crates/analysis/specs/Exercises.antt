-- Exercises a to l of the rules, and its listing: one table, and one claim about the definitions. Assumes nothing.
use Rattle.std.specs.Prelude.{ℕ, List, [], ◌∷◌, map, ◌≡◌, refl}
use Rattle.k_tuple.specs.Wide.{value}
use Rattle.k_tuple.specs.Strings.{Str, eps, slots, digits_in, width_of, fields, width_field, count_field, slots_field, pack, well_formed, decode}
use Rattle.k_tuple.specs.Packed.{packed, reads}
use Rattle.k_tuple.specs.Paper.{Paper, gives, refused as no}
use Rattle.k_tuple.specs.Answers.{string, width_answer, eps_answer, push_answer, join_answer, order_answer}
use Rattle.k_tuple.specs.declared.Terminals.{Terminals}
use Rattle.k_tuples.specs.Work.{Answer, got, refused, within, settle}
use Rattle.k_tuples.specs.States.{same_sets}
use Rattle.k_tuples.specs.Sets.{same_set, insert, union, join_sets}
use Rattle.k_tuple.specs.Order.{cmp, cmp_slots}
use Rattle.cfg.specs.Table.{read_table, productions, symbols}
use Rattle.cfg.specs.Marks.{any_below}
use Rattle.cfg.specs.Closure.{close_rounds, close_round, close_one, all_marked}
use Rattle.cfg.specs.Corners.{comes_back, walk, visit, turn}
use Rattle.cfg.specs.Accept.{accept_table, test_refusal, misses}
use Rattle.first_theory.specs.Compute.{join_parts, right_side, round_from, round, level, levels, first, production_sets}
use Rattle.follow_theory.specs.Equations.{start}
use Rattle.follow_theory.specs.Follow.{join_for, take_one, take_all, position_sets, follow}
use Rattle.analysis.specs.Analysis.{Analysis, work, analyse}

-- What an exercise asks for: a string operation's answer on paper, or an analysis.
pub data Result : Type 0 where
  paper : Paper → Result
  sets : Answer Analysis → Result

pub record Exercise : Type 0 where
  pub asked : Result
  pub answer : Result

abbrev one : ℕ → Str
one a = slots (a ∷ [])

abbrev two : ℕ → ℕ → Str
two a b = slots (a ∷ b ∷ [])

-- a string of width 4
abbrev four : Str → Terminals
four s = packed 4 s

abbrev joined : ℕ → Str → Str → Result
joined k x y = paper (join_answer k (reads (four x)) (reads (four y)))

abbrev ordered : Str → Str → Result
ordered x y = paper (order_answer (reads (four x)) (reads (four y)))

abbrev less : Result
less = paper (gives (0 ∷ []))

-- at k, with room c, the table, and 4,096 words lent for each buffer
abbrev analysed : ℕ → ℕ → List ℕ → Result
analysed k c table = sets (analyse k c table 4096 4096)

abbrev pub exercises : List Exercise
exercises =
    -- a: four widths
    record { asked = paper (width_answer 0); answer = paper (gives (1 ∷ [])) }
    ∷ record { asked = paper (width_answer 6); answer = paper (gives (3 ∷ [])) }
    ∷ record { asked = paper (width_answer 7); answer = paper (gives (4 ∷ [])) }
    ∷ record { asked = paper (width_answer 4094); answer = paper (gives (12 ∷ [])) }
    -- b: 4,095 is refused
    ∷ record { asked = paper (width_answer 4095); answer = paper (no 14 (0 ∷ [])) }
    -- c, d: the words of [5 6] and of ε
    ∷ record { asked = paper (string (four (two 5 6))); answer = paper (gives (101 ∷ 0x4200000000000000 ∷ [])) }
    ∷ record { asked = paper (eps_answer 7); answer = paper (gives (15 ∷ 0x4100000000000000 ∷ [])) }
    -- e, f, g: joins
    ∷ record { asked = joined 3 (one 5) (slots (6 ∷ 7 ∷ 8 ∷ [])); answer = paper (string (four (slots (5 ∷ 6 ∷ 7 ∷ [])))) }
    ∷ record { asked = joined 1 eps (one 0); answer = paper (string (four (one 0))) }
    ∷ record { asked = joined 0 eps (one 5); answer = paper (string (four (slots []))) }
    -- h: a push after an end marker is refused
    ∷ record { asked = paper (push_answer 6 (reads (four (two 5 0)))); answer = paper (no 21 (0 ∷ 0 ∷ [])) }
    -- i: [0], [5], ε, [6 5], [5 6] rise
    ∷ record { asked = ordered (one 0) (one 5); answer = less }
    ∷ record { asked = ordered (one 5) eps; answer = less }
    ∷ record { asked = ordered eps (two 6 5); answer = less }
    ∷ record { asked = ordered (two 6 5) (two 5 6); answer = less }
    -- j: S → S, and S → S | 5
    ∷ record { asked = analysed 1 8 (1 ∷ 1 ∷ 0 ∷ 1 ∷ 0 ∷ 1 ∷ 0 ∷ []); answer = sets (refused 8) }
    ∷ record { asked = analysed 1 8 (1 ∷ 1 ∷ 0 ∷ 2 ∷ 0 ∷ 1 ∷ 0 ∷ 0 ∷ 1 ∷ 11 ∷ []); answer = sets (refused 9) }
    -- k: S → 5 S | 6 with two terminals, where c = 3 serves and c = 2 does not
    ∷ record {
      asked = analysed 2 3 (1 ∷ 2 ∷ 0 ∷ 2 ∷ 0 ∷ 2 ∷ 11 ∷ 0 ∷ 0 ∷ 1 ∷ 13 ∷ []);
      answer = sets (got (record {
        n = 1;
        p = 2;
        q = 1;
        width = 4;
        rounds = 2 ∷ 2 ∷ [];
        follow_rounds = 1;
        nonterminals = (one 6 ∷ two 5 5 ∷ two 5 6 ∷ []) ∷ [];
        productions = (two 5 5 ∷ two 5 6 ∷ []) ∷ (one 6 ∷ []) ∷ [];
        follows = (one 0 ∷ []) ∷ [];
        positions = (one 0 ∷ []) ∷ [];
      }));
    }
    ∷ record { asked = analysed 2 2 (1 ∷ 2 ∷ 0 ∷ 2 ∷ 0 ∷ 2 ∷ 11 ∷ 0 ∷ 0 ∷ 1 ∷ 13 ∷ []); answer = sets (refused 11) }
    -- l: S → nothing
    ∷ record {
      asked = analysed 1 8 (1 ∷ 0 ∷ 0 ∷ 1 ∷ 0 ∷ 0 ∷ []);
      answer = sets (got (record {
        n = 1;
        p = 1;
        q = 0;
        width = 3;
        rounds = 1 ∷ [];
        follow_rounds = 1;
        nonterminals = (eps ∷ []) ∷ [];
        productions = (eps ∷ []) ∷ [];
        follows = (one 0 ∷ []) ∷ [];
        positions = [];
      }));
    }
    -- the listing: S → 5 V, V → 6, V → nothing
    ∷ record {
      asked = analysed 2 8 (2 ∷ 2 ∷ 0 ∷ 3 ∷ 0 ∷ 2 ∷ 11 ∷ 2 ∷ 1 ∷ 1 ∷ 13 ∷ 1 ∷ 0 ∷ []);
      answer = sets (got (record {
        n = 2;
        p = 3;
        q = 1;
        width = 4;
        rounds = 2 ∷ 2 ∷ [];
        follow_rounds = 2;
        nonterminals = (one 5 ∷ two 5 6 ∷ []) ∷ (one 6 ∷ eps ∷ []) ∷ [];
        productions = (one 5 ∷ two 5 6 ∷ []) ∷ (one 6 ∷ []) ∷ (eps ∷ []) ∷ [];
        follows = (one 0 ∷ []) ∷ (one 0 ∷ []) ∷ [];
        positions = (one 0 ∷ []) ∷ [];
      }));
    }
    ∷ []

-- Each is answered as the paper has it.
pub answered : map (λ (e : Exercise). e.asked) exercises ≡ map (λ (e : Exercise). e.answer) exercises
unfolding analyse work accept_table test_refusal misses read_table productions symbols any_below close_rounds close_round close_one all_marked comes_back walk visit turn first levels level round round_from right_side join_parts production_sets within settle same_sets same_set insert union join_sets cmp cmp_slots follow take_all take_one join_for position_sets start width_of digits_in value fields width_field count_field slots_field pack well_formed decode
answered = refl
