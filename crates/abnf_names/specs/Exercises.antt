-- The numbers of one text and the parts they stand for: one claim about the definitions. Assumes nothing.
use Rattle.std.specs.Prelude.{ℕ, List, [], ◌∷◌, map, ◌≡◌, refl}
use Rattle.abnf_tables.specs.Bytes.{blank, letter, name_byte, literal_byte, comment_byte, lower}
use Rattle.abnf_tables.specs.Words.{word, compare, position, rank}
use Rattle.abnf_tables.specs.Words.{part as part_is}
use Rattle.abnf_tables.specs.Tables.{among, first_element, element, noted, listed, used, ruled, defined, literal, opened, closed, holder, in_hand}
use Rattle.abnf_rules.specs.Machine.{scanned, step, inside, whole, fresh, finished, empty, equals, wanted, spaced, behind, begins}
use Rattle.abnf_names.specs.Parts.{part, no_part, word_part, name_numbered, state_after, group_part, nonterminal_in, terminal_in, nonterminal_part, terminal_part}

-- `s = ["a" ["b"] / s "A"]` CRLF
abbrev pub example : List ℕ
example = 115 ∷ 32 ∷ 61 ∷ 32 ∷ 91 ∷ 34 ∷ 97 ∷ 34 ∷ 32 ∷ 91 ∷ 34 ∷ 98 ∷ 34 ∷ 93 ∷ 32 ∷ 47 ∷ 32 ∷ 115 ∷ 32 ∷ 34 ∷ 65 ∷ 34 ∷ 93 ∷ 13 ∷ 10 ∷ []

-- nonterminal 0 is the name at 0, the groups 1 and 2 begin at 4 and 9, and there is no 3; terminals 5 and 6 are the literals' bytes at 6 and 11, and there is no 7
pub answered :
    map (λ (i : ℕ). nonterminal_part example i) (0 ∷ 1 ∷ 2 ∷ 3 ∷ []) ≡ part 0 1 ∷ part 4 5 ∷ part 9 10 ∷ no_part ∷ []
unfolding nonterminal_part nonterminal_in name_numbered word_part group_part state_after scanned step inside whole fresh finished empty equals wanted spaced behind begins blank letter name_byte literal_byte comment_byte lower part_is word compare position rank among first_element element noted listed used ruled defined literal opened closed holder in_hand
answered = refl

pub literals-answered :
    map (λ (x : ℕ). terminal_part example x) (4 ∷ 5 ∷ 6 ∷ 7 ∷ []) ≡ no_part ∷ part 6 7 ∷ part 11 12 ∷ no_part ∷ []
unfolding terminal_part terminal_in word_part scanned step inside whole fresh finished empty equals wanted spaced behind begins blank letter name_byte literal_byte comment_byte lower part_is word compare position rank among first_element element noted listed used ruled defined literal opened closed holder in_hand
literals-answered = refl
