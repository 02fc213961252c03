-- Which tables are accepted: none of the refusals 3 to 9 applies. Assumes nothing.
use Rattle.std.specs.Prelude.{ℕ, ◌≡◌, refl, Result, Ok, Err, List, [], ◌∷◌, Bool, true, false, not, get_or, eqb}
use Rattle.refusals.specs.Numbers.{number as number_of}
use Rattle.refusals.specs.declared.Refusal.{Refusal}
use Rattle.cfg.specs.Reading.{Reading, got, refused, pick, ◌then◌}
use Rattle.cfg.specs.Grammar.{Grammar, Production}
use Rattle.cfg.specs.Table.{read_table, productions, symbols}
use Rattle.cfg.specs.Marks.{any_below}
use Rattle.cfg.specs.Closure.{closure, close_rounds, close_round, close_one, all_marked}
use Rattle.cfg.specs.Corners.{left_recursive, comes_back, walk, visit, turn}

-- whether a number is not among some marks
unfoldable pub misses : List Bool → ℕ → Bool
misses m a = not (get_or m a false)

-- some nonterminal is unproductive
abbrev pub unproductive : List Production → ℕ → Bool
unproductive ps n = any_below n (misses (closure true ps n))

-- what the tests refuse: 8 or 9, or 0 where they pass
unfoldable pub test_refusal : List Production → ℕ → ℕ
test_refusal ps n = pick (unproductive ps n) 8 (pick (left_recursive (closure false ps n) ps n) 9 0)

-- what the tests' answer says of it
abbrev pub tests_say : Result (Unit {0}) Refusal → ℕ
tests_say (Ok _) = 0
tests_say (Err e) = number_of e

abbrev pub passes : ℕ → Grammar → ℕ → Reading Grammar
passes r g next = pick (eqb r 0) (got g next) (refused r)

unfoldable pub accept_table : List ℕ → Reading Grammar
accept_table b = read_table b then λ g next. passes (test_refusal g.productions g.n) g next

-- exercise j: S → S is refused by 8, S → S | 5 by 9
unproductive-refused : accept_table (1 ∷ 1 ∷ 0 ∷ 1 ∷ 0 ∷ 1 ∷ 0 ∷ []) ≡ refused 8
unfolding accept_table test_refusal read_table productions symbols misses close_rounds close_round close_one all_marked any_below
unproductive-refused = refl

left-recursive-refused : accept_table (1 ∷ 1 ∷ 0 ∷ 2 ∷ 0 ∷ 1 ∷ 0 ∷ 0 ∷ 1 ∷ 11 ∷ []) ≡ refused 9
unfolding accept_table test_refusal read_table productions symbols misses close_rounds close_round close_one all_marked any_below comes_back walk visit turn
left-recursive-refused = refl

-- S → V S 5 | 5, V → 6 | nothing: a nullable nonterminal stands before S
hidden-left-recursion-refused : accept_table (2 ∷ 2 ∷ 0 ∷ 4 ∷ 0 ∷ 3 ∷ 2 ∷ 0 ∷ 11 ∷ 0 ∷ 1 ∷ 11 ∷ 1 ∷ 1 ∷ 13 ∷ 1 ∷ 0 ∷ []) ≡ refused 9
unfolding accept_table test_refusal read_table productions symbols misses close_rounds close_round close_one all_marked any_below comes_back walk visit turn
hidden-left-recursion-refused = refl
