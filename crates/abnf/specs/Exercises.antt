-- Texts of rules with their tables or refusals: one table, and one claim about the definitions. Assumes nothing.
use Rattle.std.specs.Prelude.{ℕ, List, [], ◌∷◌, map, ◌≡◌, refl}
use Rattle.cfg.specs.Write.{write_table, write_number}
use Rattle.abnf_tables.specs.Run.{Run, on, refused}
use Rattle.abnf_tables.specs.Bytes.{blank, letter, name_byte, literal_byte, comment_byte, lower}
use Rattle.abnf_tables.specs.Words.{part, word, compare, position, rank}
use Rattle.abnf_tables.specs.Tables.{among, first_element, element, noted, listed, used, ruled, defined, literal, opened, closed, holder, in_hand}
use Rattle.abnf_rules.specs.Machine.{scanned, step, inside, whole, fresh, finished, empty, equals, wanted, spaced, behind, begins}
use Rattle.abnf.specs.Numbering.{missing, number_of, symbol_of, right, alternatives, productions_from, grammar_of}
use Rattle.abnf.specs.Abnf.{read_rules, table_of}

-- A text, the bytes that are lent, and what comes of it.
pub record Exercise : Type 0 where
  pub text : List ℕ
  pub room : ℕ
  pub answer : Run (List ℕ)

abbrev pub exercises : List Exercise
exercises =
    -- a rating message with an optional version clause, over two lines, and a comment: `rating = "r" num [v]` CRLF ` ; c` CRLF `num = "1" / "2"` CRLF
    -- `V = "v" num` CRLF
    record {
      text =
          114 ∷ 97 ∷ 116 ∷ 105 ∷ 110 ∷ 103 ∷ 32 ∷ 61 ∷ 32 ∷ 34 ∷ 114 ∷ 34 ∷ 32 ∷ 110 ∷ 117 ∷ 109 ∷ 32 ∷ 91 ∷ 118 ∷ 93 ∷ 13 ∷ 10 ∷ 32 ∷ 59 ∷ 32 ∷ 99 ∷ 13 ∷ 10 ∷ 110 ∷ 117 ∷ 109 ∷ 32 ∷ 61 ∷ 32 ∷ 34 ∷ 49 ∷ 34 ∷ 32 ∷ 47 ∷ 32 ∷
          34 ∷ 50 ∷ 34 ∷ 13 ∷ 10 ∷ 86 ∷ 32 ∷ 61 ∷ 32 ∷ 34 ∷ 118 ∷ 34 ∷ 32 ∷ 110 ∷ 117 ∷ 109 ∷ 13 ∷ 10 ∷ [];
      room = 100;
      answer = on (4 ∷ 4 ∷ 1 ∷ 6 ∷ 1 ∷ 3 ∷ 11 ∷ 0 ∷ 6 ∷ 3 ∷ 1 ∷ 4 ∷ 3 ∷ 0 ∷ 0 ∷ 1 ∷ 13 ∷ 0 ∷ 1 ∷ 15 ∷ 2 ∷ 2 ∷ 17 ∷ 0 ∷ []);
    }
    -- groups in a group, in order of appearance, and a literal in two cases: `s = ["a" ["b"] / s "A"]` CRLF
    ∷ record {
      text =
          115 ∷ 32 ∷ 61 ∷ 32 ∷ 91 ∷ 34 ∷ 97 ∷ 34 ∷ 32 ∷ 91 ∷ 34 ∷ 98 ∷ 34 ∷ 93 ∷ 32 ∷ 47 ∷ 32 ∷ 115 ∷ 32 ∷ 34 ∷ 65 ∷ 34 ∷ 93 ∷ 13 ∷ 10 ∷ [];
      room = 100;
      answer = on (3 ∷ 2 ∷ 0 ∷ 6 ∷ 0 ∷ 1 ∷ 2 ∷ 1 ∷ 2 ∷ 11 ∷ 4 ∷ 1 ∷ 2 ∷ 0 ∷ 11 ∷ 1 ∷ 0 ∷ 2 ∷ 1 ∷ 13 ∷ 2 ∷ 0 ∷ []);
    }
    -- 18 at the first byte that begins no text: `s = "a"[s]` CRLF
    ∷ record {
      text =
          115 ∷ 32 ∷ 61 ∷ 32 ∷ 34 ∷ 97 ∷ 34 ∷ 91 ∷ 115 ∷ 93 ∷ 13 ∷ 10 ∷ [];
      room = 100;
      answer = refused 18 7;
    }
    -- 18 at a name defined again, in another case: `s = "a"` CRLF `S = "b"` CRLF
    ∷ record {
      text =
          115 ∷ 32 ∷ 61 ∷ 32 ∷ 34 ∷ 97 ∷ 34 ∷ 13 ∷ 10 ∷ 83 ∷ 32 ∷ 61 ∷ 32 ∷ 34 ∷ 98 ∷ 34 ∷ 13 ∷ 10 ∷ [];
      room = 100;
      answer = refused 18 9;
    }
    -- 18 at an empty literal: `s = ""` CRLF
    ∷ record {
      text =
          115 ∷ 32 ∷ 61 ∷ 32 ∷ 34 ∷ 34 ∷ 13 ∷ 10 ∷ [];
      room = 100;
      answer = refused 18 4;
    }
    -- 18 at the end of a text without a rule: `; c` CRLF
    ∷ record {
      text =
          59 ∷ 32 ∷ 99 ∷ 13 ∷ 10 ∷ [];
      room = 100;
      answer = refused 18 5;
    }
    -- 19 at the first place of a name that is never defined: `s = "a" b b` CRLF
    ∷ record {
      text =
          115 ∷ 32 ∷ 61 ∷ 32 ∷ 34 ∷ 97 ∷ 34 ∷ 32 ∷ 98 ∷ 32 ∷ 98 ∷ 13 ∷ 10 ∷ [];
      room = 100;
      answer = refused 19 8;
    }
    -- 20 at the first byte of a name of 65 bytes: `s = nn..n` CRLF
    ∷ record {
      text =
          115 ∷ 32 ∷ 61 ∷ 32 ∷ 110 ∷ 110 ∷ 110 ∷ 110 ∷ 110 ∷ 110 ∷ 110 ∷ 110 ∷ 110 ∷ 110 ∷ 110 ∷ 110 ∷ 110 ∷ 110 ∷ 110 ∷ 110 ∷ 110 ∷ 110 ∷ 110 ∷ 110 ∷ 110 ∷ 110 ∷ 110 ∷ 110 ∷ 110 ∷ 110 ∷ 110 ∷ 110 ∷ 110 ∷ 110 ∷ 110 ∷ 110 ∷ 110 ∷ 110 ∷ 110 ∷ 110 ∷
          110 ∷ 110 ∷ 110 ∷ 110 ∷ 110 ∷ 110 ∷ 110 ∷ 110 ∷ 110 ∷ 110 ∷ 110 ∷ 110 ∷ 110 ∷ 110 ∷ 110 ∷ 110 ∷ 110 ∷ 110 ∷ 110 ∷ 110 ∷ 110 ∷ 110 ∷ 110 ∷ 110 ∷ 110 ∷ 110 ∷ 110 ∷ 110 ∷ 110 ∷ 13 ∷ 10 ∷ [];
      room = 100;
      answer = refused 20 4;
    }
    -- 10: the table of `s = "a"` CRLF has seven bytes
    ∷ record {
      text =
          115 ∷ 32 ∷ 61 ∷ 32 ∷ 34 ∷ 97 ∷ 34 ∷ 13 ∷ 10 ∷ [];
      room = 6;
      answer = refused 10 0;
    }
    ∷ []

-- Each comes out as it stands there.
pub answered : map (λ (e : Exercise). table_of e.text e.room) exercises ≡ map (λ (e : Exercise). e.answer) exercises
unfolding table_of read_rules write_table write_number scanned step inside whole fresh finished empty equals wanted spaced behind begins blank letter name_byte literal_byte comment_byte lower part word compare position rank among first_element element noted listed used ruled defined literal opened closed holder in_hand missing number_of symbol_of right alternatives productions_from grammar_of
answered = refl
