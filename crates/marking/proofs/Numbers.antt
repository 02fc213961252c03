-- A set's strings as numbers: they rise, and a number's place among them is the one that halving finds. Assumes nothing.
use Prim.Native.Nat.{ℕ, zero, suc, ◌+◌, ◌*◌, ◌^◌, ◌≤◌, ◌<◌}
use native.Mathlib.Omega.{arith}
use native.Mathlib.Decide.{dec_lt}
use native.Mathlib.Nat.{mod-lt}
use lib.Pow.{pow_pos}
use mathlib.Core.Path.{◌≡◌, refl, sym, ap, ◌∙◌, subst}
use mathlib.Core.Bool.{Bool, true, false}
use mathlib.Core.List.Memᴰ.{head as here}
use mathlib.Core.List.Memᴰ.{not-nil}
use mathlib.Core.List.Memᴰ.{tail as there}
use mathlib.Core.List.{List, [], ◌∷◌, map}
use borrow.Author.Tests.{ltb-true, lt-ltb, le-ltb, eqb-true, eqb-false}
use lib.ListN.{length, get_or, length-map}
use Rattle.std.specs.Prelude.{Some, None}
use Rattle.k_tuple.specs.declared.Terminals.{Terminals}
use Rattle.k_tuple.specs.Strings.{Str, pack}
use Rattle.k_tuple.specs.Packed.{number_of, less_of}
use Rattle.k_tuples.specs.Sets.{◌∈◌}
use Rattle.k_tuples.specs.Members.{before, rising, rank, same_member}
use Rattle.k_tuples.specs.Words.{decode, member_at, IsSet}
use Rattle.k_tuples.specs.Held.{Holds}
use Rattle.k_tuples.proofs.Held.{holds-member}
use Rattle.k_tuples.proofs.Rising.{both}
use Rattle.k_tuples.proofs.Sorted.{cases}
use Rattle.k_tuples.proofs.Words.{length-decode, get_d-decode}
use Rattle.decision_theory.specs.Needed.{Rising}
use Rattle.marking.specs.Lines.{numbers_in, Placed}

-- the numbers of members that rise, rise
members-rise : (ms : List Terminals) → rising ms ≡ true → Rising (map number_of ms)
unfolding before rising less_of
members-rise [] r = tt
members-rise (y ∷ ys) r = let p = both (before y ys) (rising ys) r in (by ys p.0 (members-rise ys p.1), members-rise ys p.1)
  where
    by : (zs : List Terminals) → before y zs ≡ true → Rising (map number_of zs) → (v : ℕ) → v ∈ map number_of zs → number_of y < v
    by [] b up v m = absurd (not-nil m)
    by (z ∷ zs) b up v m =
        let l : number_of y < number_of z = ltb-true (number_of y) (number_of z) b in
        cases m (λ (e : v ≡ number_of z). rw e l) (λ n. let h = up.0 v n in omega arith)

-- what stands at a place is in the list
pub place_in : (a : List ℕ) (j : ℕ) → j < length a → get_or a j 0 ∈ a
place_in [] j h = absurd (omega arith)
place_in (x ∷ a) zero h = here refl
place_in (x ∷ a) (suc j) h = there (place_in a j (omega arith))

-- of places in a rising list
pub rising-places : (a : List ℕ) → Rising a → (i j : ℕ) → i < j → j < length a → get_or a i 0 < get_or a j 0
rising-places [] up i j h l = absurd (omega arith)
rising-places (x ∷ a) up i zero h l = absurd (omega arith)
rising-places (x ∷ a) up zero (suc j) h l = up.0 (get_or a j 0) (place_in a j (omega arith))
rising-places (x ∷ a) up (suc i) (suc j) h l = rising-places a up.1 i j (omega arith) (omega arith)

-- two places with one number are one
pub one_place : (a : List ℕ) → Rising a → (i j : ℕ) → i < length a → j < length a → get_or a i 0 ≡ get_or a j 0 → i ≡ j
one_place a up i j h l e = by (dec_lt i j) (dec_lt j i)
  where
    by : Dec (i < j) → Dec (j < i) → i ≡ j
    by (yes m) n = let z = rising-places a up i j m l in absurd (omega arith)
    by (no m) (yes n) = let z = rising-places a up j i n h in absurd (omega arith)
    by (no m) (no n) = omega arith

-- a number that is there stands at its rank
rank-of : (x : Terminals) (ms : List Terminals) → Rising (map number_of ms) → number_of x ∈ map number_of ms → (rank x ms < length ms) × (get_or (map number_of ms) (rank x ms) 0 ≡ number_of x)
unfolding rank less_of
rank-of x [] up m = absurd (not-nil m)
rank-of x (y ∷ ys) up m = cases m
    (λ (e : number_of x ≡ number_of y). rw (le-ltb (number_of y) (number_of x) (omega arith)) (omega arith, sym e))
    (λ n. let ih = rank-of x ys up.1 n in rw (lt-ltb (number_of y) (number_of x) (up.0 (number_of x) n)) (let h = ih.0 in omega arith, ih.1))

module _ {ws : List ℕ} (s : IsSet ws) where
  -- the numbers of a set rise
  pub numbers-rise : Rising (numbers_in ws)
  unfolding numbers_in
  numbers-rise = members-rise (decode ws) s.rises

pub numbers-length : (ws : List ℕ) → length (numbers_in ws) ≡ length (decode ws)
unfolding numbers_in
numbers-length ws = length-map (decode ws) number_of

-- a place among the numbers is one among the members
pub inside-members : (ws : List ℕ) {j : ℕ} → j < length (numbers_in ws) → j < length (decode ws)
inside-members ws {j} h = subst (λ (n : ℕ). j < n) (numbers-length ws) h

-- member i as a number
pub number_at : (ws : List ℕ) (i : ℕ) → i < length (decode ws) → get_or (numbers_in ws) i 0 ≡ number_of (member_at ws (2 * i + 1))
unfolding numbers_in
number_at ws i h = by (decode ws) i h (member_at ws (2 * i + 1)) ∙ ap number_of (get_d-decode ws i (member_at ws (2 * i + 1)) (let z = length-decode ws in omega arith))
  where
    by : (ms : List Terminals) (i : ℕ) → i < length ms → (d : Terminals) → get_or (map number_of ms) i 0 ≡ number_of (get_or ms i d)
    by [] i h d = absurd (omega arith)
    by (m ∷ ms) zero h d = refl
    by (m ∷ ms) (suc i) h d = by ms i (omega arith) d

-- the low word of a member of a set fits in 64 bits
pub member-fits : {k w : ℕ} {a : List Str} {ws : List ℕ} → Holds k w a ws → (i : ℕ) → i < length (decode ws) → (member_at ws (2 * i + 1)).lo < 2 ^ 64
member-fits {w = w} {ws = ws} h i l =
    let (z, m, e) = holds-member h i (let q = length-decode ws in omega arith) in
    subst (λ (t : Terminals). t.lo < 2 ^ 64) (sym e) (mod-lt (pack w z) (pow_pos 64))

-- ---- what halving finds

module _ {ws : List ℕ} (x : Terminals) {p n : ℕ} (s : IsSet ws) (place : p ≡ rank x (decode ws)) (count : n ≡ length (decode ws)) where
  there-then : number_of x ∈ numbers_in ws → (p < n) × (get_or (numbers_in ws) p 0 ≡ number_of x)
  unfolding numbers_in
  there-then m =
      let r = rank-of x (decode ws) (members-rise (decode ws) s.rises) m in
      (let h = r.0 in omega arith, ap (λ (i : ℕ). get_or (map number_of (decode ws)) i 0) place ∙ r.1)

  pub past_all : n ≤ p → Placed (numbers_in ws) (number_of x) None
  past_all h = Placed.absent (λ m. let l = (there-then m).0 in omega arith) refl

  module _ {m : Terminals} {b : Bool} (inside : p < n) (at : m ≡ member_at ws (2 * p + 1)) (asked : b ≡ same_member x m) where
    at-is : get_or (numbers_in ws) p 0 ≡ number_of m
    at-is = number_at ws p (omega arith) ∙ ap number_of (sym at)

    pub is-there : b ≡ true → Placed (numbers_in ws) (number_of x) (Some p)
    is-there t = Placed.found p refl (let l = numbers-length ws in omega arith) (at-is ∙ sym (eqb-true (number_of x) (number_of m) (sym asked ∙ t)))

    pub is-not : b ≡ false → Placed (numbers_in ws) (number_of x) None
    is-not t = Placed.absent (λ q. eqb-false (number_of x) (number_of m) (sym asked ∙ t) (sym (there-then q).1 ∙ at-is)) refl
