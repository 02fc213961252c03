-- Nullable and productive, as marks. Assumes nothing.
use Rattle.std.specs.Prelude.{ℕ, zero, suc, List, [], ◌∷◌, Bool, true, false, ◌&&◌, get_or, set}
use Rattle.cfg.specs.Reading.{pick}
use Rattle.cfg.specs.Grammar.{Sym, nonterminal, terminal, Production}
use Rattle.cfg.specs.Marks.{no_marks}

-- nullable where `free` is false, productive where it is true, computed: n rounds over the productions, each of which marks the left sides whose symbols are all marked
unfoldable pub all_marked : Bool → List Bool → List Sym → Bool
all_marked free m [] = true
all_marked free m (nonterminal i ∷ ss) = get_or m i false && all_marked free m ss
all_marked free m (terminal x ∷ ss) = free && all_marked free m ss

unfoldable pub close_one : Bool → Production → List Bool → List Bool
close_one free p m = pick (all_marked free m p.right) (set m p.left true) m

unfoldable pub close_round : Bool → List Production → List Bool → List Bool
close_round free [] m = m
close_round free (p ∷ ps) m = close_round free ps (close_one free p m)

unfoldable pub close_rounds : Bool → List Production → ℕ → List Bool → List Bool
close_rounds free ps zero m = m
close_rounds free ps (suc k) m = close_rounds free ps k (close_round free ps m)

abbrev pub closure : Bool → List Production → ℕ → List Bool
closure free ps n = close_rounds free ps n no_marks
