-- What the functions for C leave: a refusal by its number, numbers in lent words, and what is done where those words are too few. Assumes nothing.
use Rattle.std.specs.Prelude.{ℕ, ◌+◌, ◌*◌, ◌≡◌, Bool, cond, ◌&&◌, List, [], ◌∷◌, ◌++◌, leb, ltb, length, get_or, drop, replicate, Result, Ok, Err}
use Rattle.refusals.specs.Numbers.{number}
use Rattle.refusals.specs.declared.Refusal.{Refusal}
use Rattle.k_tuple.specs.Paper.{Paper, refused, gives, number_of, values_of}
use Rattle.k_tuple.specs.Answers.{UnpackedRecord}
use Rattle.engine.specs.Ask.{there_is, kind_start}

-- ---- words too few, for any call

-- A call answers by n numbers in words that are lent last: these are too few.
abbrev pub few : ℕ → List ℕ → Bool
few n out = ltb (length out) n

-- The refusals that come before 10 in the table's order: 1 to 9.
abbrev pub before_ten : ℕ → Bool
before_ten r = leb 1 r && leb r 9

-- Where they are too few the call is refused 10, but first by a refusal r of its own that comes before 10.
abbrev pub too_few : ℕ → ℕ
too_few r = cond (before_ten r) r 10

-- And every other word that it was lent stays.
abbrev pub unless_few : (n : ℕ) (out old new : List ℕ) → List ℕ
unless_few n out old new = cond (few n out) old new

-- ---- numbers in lent words

-- Lent words that begin with these numbers, the others as they came.
abbrev pub fronted : List ℕ → List ℕ → List ℕ
fronted values ws = values ++ drop (length values) ws

-- A refusal r₀ and n numbers are told in the words out: r is the number given, out' the words left.
pub record Wrote (n r₀ : ℕ) (values out : List ℕ) (r : ℕ) (out' : List ℕ) : Type 0 where
  pub number : r ≡ cond (few n out) (too_few r₀) r₀
  pub words : out' ≡ unless_few n out out (fronted values out)

-- The n numbers of a paper are told, each of them 0 on a refusal.
pub record Told (n : ℕ) (p : Paper) (out : List ℕ) (r : ℕ) (out' : List ℕ) : Type 0 where
  pub wrote : Wrote n (number_of p) (values_of p) out r out'

-- The number of a result's refusal, 0 where there is none.
abbrev pub number_told : {A : Type 0} → Result A Refusal → ℕ
number_told (Ok x) = 0
number_told (Err e) = number e

-- A result of n numbers on paper.
abbrev pub on_paper : ℕ → Result (List ℕ) Refusal → Paper
on_paper n (Ok v) = gives v
on_paper n (Err e) = refused (number e) (replicate n 0)

-- A set operation that tells its refusal's number alone, and leaves the words new.
pub record Left (p : Paper) (new : List ℕ) (r : ℕ) (out' : List ℕ) : Type 0 where
  pub number : r ≡ number_of p
  pub words : out' ≡ new

-- One that tells n numbers too, in words of their own.
pub record Made (n : ℕ) (p : Paper) (new out told : List ℕ) (r : ℕ) (out' told' : List ℕ) : Type 0 where
  pub wrote : Wrote n (number_of p) (values_of p) told r told'
  pub words : out' ≡ unless_few n told out new

-- ---- a string unpacked

-- What it leaves: its length and ten slots.
abbrev pub slot_words : ℕ → List ℕ → List ℕ
slot_words length slots =
    length ∷
    get_or slots 0 0 ∷ get_or slots 1 0 ∷ get_or slots 2 0 ∷ get_or slots 3 0 ∷ get_or slots 4 0 ∷
    get_or slots 5 0 ∷ get_or slots 6 0 ∷ get_or slots 7 0 ∷ get_or slots 8 0 ∷ get_or slots 9 0 ∷ []

abbrev pub unpacked_words : UnpackedRecord → List ℕ
unpacked_words u = slot_words u.length u.slots

abbrev pub UnpackedTo : UnpackedRecord → List ℕ → ℕ → List ℕ → Type 0
UnpackedTo u out r out' = Wrote 11 u.refused (unpacked_words u) out r out'

-- ---- the part of a set

-- Where it begins and how many words it has; both 0 where there is no such set.
unfoldable pub part_of : (words kind number n p q c : ℕ) → List ℕ
part_of words kind number n p q c = cond (there_is words kind number n p q c) ((kind_start kind n p + number) * (2 * c + 1) ∷ (2 * c + 1) ∷ []) (0 ∷ 0 ∷ [])
