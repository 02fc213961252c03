-- Asking for one set of a result: the part of the words that holds it, by kind and number. Assumes nothing.
use Rattle.std.specs.Prelude.{ℕ, ◌+◌, ◌*◌, Bool, cond, ◌&&◌, List, [], leb, ltb, eqb, length, take, drop, ◌≡◌, ◌<◌, Option, Some, None, Result, Ok, Err}
use Rattle.engine.specs.declared.ask.Kind.{Kind}
use Rattle.engine.specs.declared.ask.Kind.TheVariants.{First, Production, Follow, Position}
use Rattle.engine.specs.declared.ask.UnknownKind.{UnknownKind}

-- The kinds in the result's order: FIRST of nonterminals, FIRST of productions, FOLLOW of nonterminals, positions.
abbrev pub kind_number : Kind → ℕ
kind_number First = 0
kind_number Production = 1
kind_number Follow = 2
kind_number Position = 3

-- The kind of a number, or that it has none.
abbrev pub Decodes : ℕ → Result Kind UnknownKind → Type 0
Decodes number (Ok kind) = number ≡ kind_number kind
Decodes number (Err e) = 3 < number

-- Which set of the result is the first of a kind.
unfoldable pub kind_start : ℕ → ℕ → ℕ → ℕ
kind_start kind n p = cond (eqb kind 0) 0 (cond (eqb kind 1) n (cond (eqb kind 2) (n + p) (2 * n + p)))

-- How many sets there are of a kind; of any other kind there is none.
unfoldable pub kind_count : ℕ → ℕ → ℕ → ℕ → ℕ
kind_count kind n p q = cond (eqb kind 0) n (cond (eqb kind 1) p (cond (eqb kind 2) n (cond (eqb kind 3) q 0)))

-- The limits of the rules.
unfoldable pub in_limits : ℕ → ℕ → ℕ → ℕ → Bool
in_limits n p q c = leb 1 n && (leb n 128 && (leb p 512 && (leb q 4096 && (leb 1 c && leb c 1024))))

-- The words that a whole result takes.
unfoldable pub result_size : ℕ → ℕ → ℕ → ℕ → ℕ
result_size n p q c = (2 * n + p + q) * (2 * c + 1)

-- There is such a set, and as many words as a whole result takes.
unfoldable pub there_is : (words kind number n p q c : ℕ) → Bool
there_is words kind number n p q c = in_limits n p q c && (ltb number (kind_count kind n p q) && leb (result_size n p q c) words)

-- Where it begins.
abbrev pub place_of : (words kind number n p q c : ℕ) → Option ℕ
place_of words kind number n p q c = cond (there_is words kind number n p q c) (Some ((kind_start kind n p + number) * (2 * c + 1))) None

-- The part that holds set `number` of a kind; empty where there is no such set, or the words are fewer than the whole result needs.
unfoldable pub set_part : (kind number n p q c : ℕ) → List ℕ → List ℕ
set_part kind number n p q c ws =
    cond (there_is (length ws) kind number n p q c) (take (2 * c + 1) (drop ((kind_start kind n p + number) * (2 * c + 1)) ws)) []
