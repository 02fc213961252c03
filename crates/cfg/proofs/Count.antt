-- The nonterminals of right sides, counted: those of one by its even words, those of all by a loop. Assumes nothing.
use Prim.Native.Nat.{ℕ, zero, suc, ◌+◌, ◌/◌, ◌%◌, ◌≤◌}
use native.Mathlib.Omega.{arith}
use mathlib.Core.Path.{◌≡◌, refl, ◌∙◌}
use mathlib.Core.Bool.{Bool, true, false, cond}
use Rattle.std.proofs.Common.{count_by, nat_eq}
use Rattle.std.proofs.lemmas.List.Sums.{sum_by-cons, count_by-le-length}
use Rattle.cfg.specs.Reading.{pick}
use Rattle.cfg.specs.Grammar.{Sym, nonterminal, terminal, Production}
use mathlib.Core.List.{List, [], ◌∷◌, map}
use lib.ListN.{length, get_or, take, drop, length-take, length-drop}
use Rattle.cfg.specs.Written.{productions_of, symbol_of, nonterminals, occurrences}
use Rattle.cfg.specs.Words.{Sound}

-- one symbol more
one_more : (even : Bool) (i n : ℕ) (ss : List Sym) → n ≡ nonterminals ss → cond even 1 0 + n ≡ nonterminals (pick even (nonterminal i) (terminal i) ∷ ss)
one_more true i n ss e = omega arith
one_more false i n ss e = omega arith

-- the nonterminals of a right side are its even words
pub nonterminals-even : (right : List ℕ) → count_by (λ c. nat_eq (c % 2) 0) right ≡ nonterminals (map symbol_of right)
nonterminals-even [] = refl
nonterminals-even (c ∷ cs) = sum_by-cons (λ x. cond (nat_eq (x % 2) 0) 1 0) c cs ∙ one_more (nat_eq (c % 2) 0) (c / 2) _ _ (nonterminals-even cs)

-- there are no more of them than words
pub nonterminals-few : (right : List ℕ) → nonterminals (map symbol_of right) ≤ length right
nonterminals-few right = rw (← nonterminals-even right) (count_by-le-length (λ c. nat_eq (c % 2) 0) right)

-- nor are there in all right sides
pub occurrences-few : (n p : ℕ) (ws : List ℕ) → Sound n p ws → occurrences (productions_of p ws) ≤ length ws
occurrences-few n zero ws s = omega arith
occurrences-few n (suc p) ws s =
    let size = get_or ws 1 0 in
    omega (arith, s.0.whole, nonterminals-few (take size (drop 2 ws)), length-take size (drop 2 ws), occurrences-few n p (drop (2 + size) ws) s.1, length-drop (2 + size) ws)

-- the nonterminals counted, and those of the productions that are left, `rest`, make the whole
module _ (goal count : ℕ) (rest : List Production) (w : count + occurrences rest ≡ goal) where
  pub counted-all : rest ≡ [] → count ≡ goal
  counted-all e = let all : count + 0 ≡ goal = rw e at w in omega arith

  pub counted-more : (left : ℕ) (right : List Sym) (behind : List Production) → rest ≡ record { left = left; right = right } ∷ behind
      → (more : ℕ) → more ≡ nonterminals right → count + more + occurrences behind ≡ goal
  counted-more left right behind e more f =
      let opened : count + (nonterminals right + occurrences behind) ≡ goal = rw e at w in
      omega arith
