-- A tree and its bytes, worked out by hand. Assumes nothing.
use Rattle.std.specs.Prelude.{◌≡◌, refl, List, [], ◌∷◌}
use Rattle.cfg.specs.Write.{write_number}
use Rattle.decision_theory.specs.Automaton.{Entry, behind, put, letters, accepts, below, nodes, states_from}
use Rattle.trees.specs.Answer.{tree_of, bytes_of}

-- 5 200 6 for production 2, 0 for 0, 5 7 0 for 1, 9 0 for 300
four : List Entry
four =
    record { word = 5 ∷ 200 ∷ 6 ∷ []; production = 2 }
    ∷ record { word = 0 ∷ []; production = 0 }
    ∷ record { word = 5 ∷ 7 ∷ 0 ∷ []; production = 1 }
    ∷ record { word = 9 ∷ 0 ∷ []; production = 300 }
    ∷ []

-- nine states: the root; behind 0, 5, 9; behind 5 7, 5 200, 9 0; behind 5 7 0, 5 200 6
four_bytes : bytes_of (tree_of four 3)
    ≡ 9
    ∷ 0 ∷ 3 ∷ 0 ∷ 1 ∷ 5 ∷ 2 ∷ 9 ∷ 3
    ∷ 1 ∷ 0
    ∷ 0 ∷ 2 ∷ 7 ∷ 4 ∷ 0xC8 ∷ 1 ∷ 5
    ∷ 0 ∷ 1 ∷ 0 ∷ 6
    ∷ 0 ∷ 1 ∷ 0 ∷ 7
    ∷ 0 ∷ 1 ∷ 6 ∷ 8
    ∷ 0xAD ∷ 2 ∷ 0
    ∷ 2 ∷ 0
    ∷ 3 ∷ 0
    ∷ []
unfolding four behind put letters accepts below nodes states_from write_number
four_bytes = refl

-- no strings: one state that accepts nothing
none-bytes : bytes_of (tree_of [] 3) ≡ 1 ∷ 0 ∷ 0 ∷ []
unfolding behind put letters accepts below nodes states_from write_number
none-bytes = refl

-- the empty string alone, as for one production: one accepting state
one-bytes : bytes_of (tree_of (record { word = []; production = 4 } ∷ []) 0) ≡ 1 ∷ 5 ∷ 0 ∷ []
unfolding behind put letters accepts below nodes states_from write_number
one-bytes = refl
