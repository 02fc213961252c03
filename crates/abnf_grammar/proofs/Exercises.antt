-- A text that is a rulelist and is read, and one that is neither. Assumes nothing.
use Prim.Native.Nat.{ℕ, suc}
use native.Mathlib.Omega.{arith}
use mathlib.Core.Path.{◌≡◌, refl}
use mathlib.Core.Logic.{inl, inr}
use mathlib.Core.List.{List, [], ◌∷◌}
use lib.ListN.{drop}
use Rattle.cfg.specs.Grammar.{nonterminal, terminal}
use Rattle.abnf_tables.specs.Run.{on, refused}
use Rattle.abnf_tables.specs.Bytes.{blank, letter, name_byte, literal_byte, comment_byte, lower}
use Rattle.abnf_tables.specs.Words.{part, word, compare, position}
use Rattle.abnf_tables.specs.Tables.{tables, among, first_element, element, noted, listed, used, ruled, defined, literal, opened, closed, holder, in_hand}
use Rattle.abnf_rules.specs.Machine.{start, scanned, step, inside, whole, fresh, finished, empty, equals, wanted, spaced, behind, begins}
use Rattle.abnf.specs.Abnf.{read_rules, table_of}
use Rattle.abnf_grammar.specs.Subset.{named, quoted, optional, last, next, only, Definition, none, more, c-wsp, element as piece, alternation, defined-as, rule, Rulelist, end, rules, InSubset}
use Rattle.abnf_grammar.specs.Meaning.{meant, words, words_rule, words_part, options, options_part, start_of, before, index, with, symbol, right_side, alternatives, inside_part, productions}
use Rattle.abnf_grammar.proofs.Theorems.{subset-accepted}

-- `s = [s] ;` CRLF ` "a"` CRLF: an option, then a comment, and the rule goes on in the next line
abbrev small : List ℕ
small = 115 ∷ 32 ∷ 61 ∷ 32 ∷ 91 ∷ 115 ∷ 93 ∷ 32 ∷ 59 ∷ 13 ∷ 10 ∷ 32 ∷ 34 ∷ 97 ∷ 34 ∷ 13 ∷ 10 ∷ []

-- what it means
abbrev meaning : Definition
meaning = record { name = 115 ∷ []; choice = only (next (optional (only (last (named (115 ∷ []))))) (last (quoted (97 ∷ [])))) }

-- the text from a place on
abbrev from : ℕ → List ℕ
from k = drop k small

-- its one rule, piece by piece
small-rule : rule meaning small []
unfolding letter blank literal_byte
small-rule =
    let blank-at : (k : ℕ) → from k ≡ 32 ∷ from (suc k) → c-wsp (from k) (from (suc k)) = λ k e. inl (32, e, refl) in
    let option : piece (optional (only (last (named (115 ∷ []))))) (from 4) (from 7) = (from 5, refl, (from 5, none, (from 6, (from 6, refl, refl, refl), (from 6, none, refl)))) in
    let comment-line : c-wsp (from 8) (from 12) = inr (from 11, inl (from 9, refl, (from 9, none, (from 10, refl, refl))), (32, refl, refl)) in
    let letter-a : piece (quoted (97 ∷ [])) (from 12) (from 15) = (from 13, refl, (from 14, (from 14, refl, refl, refl), refl)) in
    let row : alternation meaning.choice (from 4) (from 15) = (from 7, option, (from 12, (from 8, blank-at 7 refl, more comment-line none), letter-a)) in
    let sign : defined-as (from 1) (from 4) = (from 2, more (blank-at 1 refl) none, (from 3, refl, more (blank-at 3 refl) none)) in
    (from 1, (from 1, refl, refl, refl), (from 4, sign, (from 15, (from 15, row, none), inr (from 16, refl, refl))))

small-rulelist : Rulelist (meaning ∷ []) small
small-rulelist = (omega arith, rules small-rule end)

-- it is read: the names are those at 0, the literals those at 13, and the left sides are name 0 and group 0
small-read : scanned small 0 small start ≡ on (tables (0 ∷ []) (13 ∷ []) (0 ∷ 128 ∷ []) (1 ∷ 256 ∷ 65537 ∷ 65536 ∷ 11 ∷ []) 1 3 3 0 2)
unfolding scanned step inside whole fresh finished empty equals wanted spaced behind begins blank letter name_byte literal_byte comment_byte lower part word compare position among first_element element noted listed used ruled defined literal opened closed holder in_hand
small-read = refl

-- `s = "a""b"` CRLF has no blank between its elements: it is refused, and is no rulelist whose names are defined once
abbrev joined : List ℕ
joined = 115 ∷ 32 ∷ 61 ∷ 32 ∷ 34 ∷ 97 ∷ 34 ∷ 34 ∷ 98 ∷ 34 ∷ 13 ∷ 10 ∷ []

-- 18 at the second quote that touches
joined-refused : table_of joined 100 ≡ refused 18 7
unfolding table_of read_rules scanned step inside whole fresh finished empty equals wanted spaced behind begins blank letter name_byte literal_byte comment_byte lower part word compare position among first_element element noted listed used ruled defined literal opened closed holder in_hand
joined-refused = refl

joined-outside : ¬ InSubset joined
joined-outside s = subset-accepted joined 100 7 s joined-refused

-- what the small text means: s is 0 and its option 1; the option's alternative and its empty production come behind the rule's
small-meant : meant (meaning ∷ []) ≡ record {
  n = 2;
  t = 1;
  start = 0;
  productions = record { left = 0; right = nonterminal 1 ∷ terminal 5 ∷ [] } ∷ record { left = 1; right = nonterminal 0 ∷ [] } ∷ record { left = 1; right = [] } ∷ [];
}
unfolding meant words words_rule words_part options options_part start_of before index with symbol right_side alternatives inside_part productions lower compare
small-meant = refl
