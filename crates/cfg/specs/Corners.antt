-- Left corners, and the walk over them. Assumes nothing.
use Rattle.std.specs.Prelude.{ℕ, zero, suc, List, [], ◌∷◌, ◌++◌, Bool, true, false, get_or, set, eqb}
use Rattle.cfg.specs.Reading.{pick}
use Rattle.cfg.specs.Grammar.{Sym, nonterminal, terminal, Production}
use Rattle.cfg.specs.Marks.{no_marks, any_below}

-- the nonterminals of a right side that only nullable nonterminals stand before, in order
abbrev pub leading : List Bool → List Sym → List ℕ
leading nullable [] = []
leading nullable (terminal x ∷ ss) = []
leading nullable (nonterminal i ∷ ss) = i ∷ pick (get_or nullable i false) (leading nullable ss) []

-- the left corners of a nonterminal
abbrev pub corners : List Bool → List Production → ℕ → List ℕ
corners nullable [] a = []
corners nullable (p ∷ ps) a = pick (eqb p.left a) (leading nullable p.right) [] ++ corners nullable ps a

-- a nonterminal's turn in the walk: one that is marked is passed over; another is marked, and walked from
unfoldable pub turn : (ℕ → List Bool → List Bool) → ℕ → List Bool → List Bool
turn step b marks = pick (get_or marks b false) marks (step b (set marks b true))

unfoldable pub visit : (ℕ → List Bool → List Bool) → List ℕ → List Bool → List Bool
visit step [] marks = marks
visit step (b ∷ bs) marks = visit step bs (turn step b marks)

-- marks all that chains of left corners reach from a nonterminal
unfoldable pub walk : List Bool → List Production → ℕ → ℕ → List Bool → List Bool
walk nullable ps zero a marks = marks
walk nullable ps (suc depth) a marks = visit (walk nullable ps depth) (corners nullable ps a) marks

-- whether the walk from a nonterminal comes back to it
unfoldable pub comes_back : List Bool → List Production → ℕ → ℕ → Bool
comes_back nullable ps n a = get_or (walk nullable ps n a no_marks) a false

abbrev pub left_recursive : List Bool → List Production → ℕ → Bool
left_recursive nullable ps n = any_below n (comes_back nullable ps n)
