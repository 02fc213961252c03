-- A prediction table in words, four a row. Assumes nothing.
use Rattle.std.specs.Prelude.{ℕ, ◌+◌, ◌*◌, ◌/◌, cond, List, [], eqb, leb, length, get_or}
use Rattle.k_tuple.specs.Strings.{Str, slots, Decoded, good, bad, decode}
use Rattle.k_tuple.specs.Wide.{value}
use Rattle.decision_theory.specs.Needed.{each_from}
use Rattle.decision_theory.specs.Marking.{Row}

-- A string of width w; a number that is none is read as the empty string, which is in no set.
abbrev pub string_in : ℕ → Decoded → Str
string_in w bad = slots []
string_in w (good v s) = cond (eqb v w) s (slots [])

-- Row t: the nonterminal, the two words of the string, low word first, the production. Where its words are cut off it has the empty string.
unfoldable pub row_in : ℕ → List ℕ → ℕ → Row
row_in w ws t = record {
  nonterminal = get_or ws (4 * t) 0;
  string = cond (leb (4 * t + 4) (length ws)) (string_in w (decode (value (get_or ws (4 * t + 1) 0) (get_or ws (4 * t + 2) 0)))) (slots []);
  production = get_or ws (4 * t + 3) 0;
}

-- All rows; one that is cut off is the last.
unfoldable pub rows_in : ℕ → List ℕ → List Row
rows_in w ws = each_from (row_in w ws) 0 ((length ws + 3) / 4)
