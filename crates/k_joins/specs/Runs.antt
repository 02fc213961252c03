-- The join of two sets by runs: the members of one set that have l slots, each followed by each member of the other, cut to what k leaves room for. Assumes nothing.
use Rattle.std.specs.Prelude.{cond, List, [], ◌∷◌, ◌++◌, ℕ}
use Rattle.k_tuple.specs.Strings.{Str, slots, terminals, is_eps, cut}
use Rattle.k_tuples.specs.Sets.{union}

-- x and then the whole of y
abbrev pub follow : Str → Str → Str
follow x y = slots (terminals x ++ terminals y)

-- each of a list followed by y
unfoldable pub row : List Str → Str → List Str
row [] y = []
row (x ∷ a) y = follow x y ∷ row a y

-- each of a list followed by each of another, by the second first
unfoldable pub run : List Str → List Str → List Str
run a [] = []
run a (y ∷ b) = row a y ++ run a b

-- the members but ε, each cut to r slots
unfoldable pub cuts : ℕ → List Str → List Str
cuts r [] = []
cuts r (y ∷ b) = cond (is_eps y) (cuts r b) (cut r y ∷ cuts r b)

-- and put in order, each once
unfoldable pub cut_set : ℕ → List Str → List Str
cut_set r b = union [] (cuts r b)
