-- Rows that are written in words are read as they were. Assumes nothing.
use Prim.Native.Nat.{ℕ, zero, suc, ◌+◌, ◌*◌, ◌<◌}
use native.Mathlib.Omega.{arith}
use mathlib.Core.Path.{◌≡◌, refl, sym, ap, ◌∙◌}
use mathlib.Core.Bool.{true}
use mathlib.Core.List.{List, [], ◌∷◌}
use lib.ListN.{length, get_or}
use lib.Seq.{ext_get_or}
use Rattle.k_tuple.specs.Strings.{eps, well_formed, pack, decode}
use Rattle.k_tuple.specs.Wide.{value}
use Rattle.k_tuple.specs.Packed.{packed}
use Rattle.k_tuple.proofs.Words.{number-words}
use Rattle.k_tuples.specs.Sets.{◌∈◌}
use Rattle.decision_theory.specs.Marking.{Row, row_at}
use Rattle.decision_theory.proofs.Lists.{at_place}
use Rattle.decision_theory.proofs.Marking.{row_same}
use Rattle.marking.specs.Rows.{string_in, rows_in}
use Rattle.marking.specs.Promises.{words_of, RowsRead}
use Rattle.marking.proofs.Meaning.{read_back, rows-many, row_line}

module _ (w : ℕ) where
  -- four words a row
  words-many : (ρ : List Row) → length (words_of w ρ) ≡ 4 * length ρ
  unfolding words_of
  words-many [] = refl
  words-many (x ∷ ρ) = let e = words-many ρ in omega arith

  -- the words behind the first row
  behind : (a b c d : ℕ) (ws : List ℕ) (t j : ℕ) → get_or (a ∷ b ∷ c ∷ d ∷ ws) (4 * suc t + j) 0 ≡ get_or ws (4 * t + j) 0
  behind a b c d ws t j = let e : 4 * suc t + j ≡ suc (suc (suc (suc (4 * t + j)))) = omega arith in rw e refl

  -- the words of row t
  pub record WordsAre (ws : List ℕ) (t : ℕ) (x : Row) : Type 0 where
    pub first : get_or ws (4 * t + 0) 0 ≡ x.nonterminal
    pub second : get_or ws (4 * t + 1) 0 ≡ (packed w x.string).lo
    pub third : get_or ws (4 * t + 2) 0 ≡ (packed w x.string).hi
    pub fourth : get_or ws (4 * t + 3) 0 ≡ x.production

  words-at : (ρ : List Row) (t : ℕ) → t < length ρ → WordsAre (words_of w ρ) t (row_at ρ t)
  unfolding words_of
  words-at [] t h = absurd (omega arith)
  words-at (x ∷ ρ) zero h = record { first = refl; second = refl; third = refl; fourth = refl }
  words-at (x ∷ ρ) (suc t) h =
      let m = words-at ρ t (omega arith) in
      let next : (j : ℕ) → get_or (x.nonterminal ∷ (packed w x.string).lo ∷ (packed w x.string).hi ∷ x.production ∷ words_of w ρ) (4 * suc t + j) 0 ≡ get_or (words_of w ρ) (4 * t + j) 0 =
      λ j. behind x.nonterminal (packed w x.string).lo (packed w x.string).hi x.production (words_of w ρ) t j in
      record { first = next 0 ∙ m.first; second = next 1 ∙ m.second; third = next 2 ∙ m.third; fourth = next 3 ∙ m.fourth }

  -- row t
  row-at : (ρ : List Row) → ((x : Row) → x ∈ ρ → well_formed w x.string ≡ true) → (t : ℕ) → t < length ρ → row_at (rows_in w (words_of w ρ)) t ≡ row_at ρ t
  row-at ρ well t h =
      let m = words-at ρ t h in
      let z : 4 * t + 0 ≡ 4 * t = omega arith in
      let x : Row = row_at ρ t in
      let number : value (get_or (words_of w ρ) (4 * t + 1) 0) (get_or (words_of w ρ) (4 * t + 2) 0) ≡ pack w x.string = rw (m.second, m.third) (number-words (pack w x.string)) in
      row_line w (words_of w ρ) t (let l = words-many ρ in omega arith)
      ∙ row_same _ x (ap (λ (i : ℕ). get_or (words_of w ρ) i 0) (sym z) ∙ m.first)
      (ap (λ (v : ℕ). string_in w (decode v)) number ∙ read_back w x.string (well x (at_place ρ (record { nonterminal = 0; string = eps; production = 0 }) t h)))
      m.fourth

pub rows-read : RowsRead
rows-read w ρ well =
    let many : length (rows_in w (words_of w ρ)) ≡ length ρ = rows-many w (words_of w ρ) ∙ (let l = words-many w ρ in omega arith) in
    ext_get_or (record { nonterminal = 0; string = eps; production = 0 }) (rows_in w (words_of w ρ)) ρ many (λ t h. row-at w ρ well t (omega arith))
