-- A loop that asks something of the members of a set, one after the other, until one decides. Its invariant is `Asking`: the members that are left
-- have the answer that all have. Likewise `Matching`, for two sets member by member, and `Tallying`, for a count. Assumes nothing.
use mathlib.Core.Path.{◌≡◌, refl, sym, ap, ap₂, ◌∙◌}
use mathlib.Core.Bool.{Bool, true, false, cond, not, ◌&&◌}
use mathlib.Core.List.{List, [], ◌∷◌, ◌++◌}
use Prim.Native.Nat.{ℕ, zero, suc, ◌+◌, ◌-◌, ◌*◌, ◌≤◌, ◌<◌}
use native.Mathlib.Omega.{arith}
use lib.ListN.{length, drop}
use Rattle.k_tuple.specs.declared.Terminals.{Terminals}
use Rattle.k_tuple.specs.Packed.{reads, complete_in}
use Rattle.k_tuples.specs.Members.{same_member, same_members, has_of, none_of, open_of, joins_of, pairs_of}
use Rattle.k_tuples.specs.Words.{member_at, decode}
use Rattle.k_tuples.specs.Cores.{Class}
use Rattle.k_tuples.proofs.Rising.{same_length}
use Rattle.k_tuples.proofs.Words.{next-member, none_left}

-- ---- one set

-- what is asked of each member, which answers end the loop, and the answer of a list
pub record Question : Type 0 where
  pub asked : Terminals → Bool
  pub ends : Bool → Bool
  pub all : List Terminals → Bool
  pub none : all [] ≡ true
  pub more : (x : Terminals) (xs : List Terminals) → all (x ∷ xs) ≡ cond (ends (asked x)) false (all xs)

pub stops-if : (t u : Bool) → (not t && u) ≡ cond t false u
stops-if true u = refl
stops-if false u = refl

-- whether none is in the set ms
abbrev pub none_in : List Terminals → Question
none_in ms = record { asked = λ x. has_of x ms; ends = λ b. b; all = λ xs. none_of xs ms; none = refl; more = λ x xs. stops-if (has_of x ms) (none_of xs ms) }

-- at member i of n
pub record Asking (Q : Question) (src : List ℕ) (answer : Bool) (n i : ℕ) : Type 0 where
  pub counted : n ≡ length (decode src)
  pub left : answer ≡ Q.all (drop i (decode src))

pub ask-start : {src : List ℕ} {n : ℕ} (Q : Question) → n ≡ length (decode src) → Asking Q src (Q.all (decode src)) n 0
ask-start Q e = record { counted = e; left = refl }

module _ {Q : Question} {src : List ℕ} {answer b : Bool} {n i : ℕ} {x : Terminals} (a : Asking Q src answer n i) (turn : i < n) (at : x ≡ member_at src (2 * i + 1)) (told : b ≡ Q.asked x) where
  decides : answer ≡ cond (Q.ends b) false (Q.all (drop (i + 1) (decode src)))
  decides = a.left ∙ ap Q.all (next-member src a.counted turn at) ∙ Q.more x (drop (i + 1) (decode src)) ∙ rw told

  pub ask-more : Q.ends b ≡ false → Asking Q src answer n (i + 1)
  ask-more t = record { counted = a.counted; left = decides ∙ rw t }

  pub ask-ended : Q.ends b ≡ true → false ≡ answer
  ask-ended t = sym (decides ∙ rw t)

pub ask-done : {Q : Question} {src : List ℕ} {answer : Bool} {n i : ℕ} → Asking Q src answer n i → n ≤ i → true ≡ answer
ask-done {Q} {src} a h = sym (a.left ∙ ap Q.all (none_left src a.counted h) ∙ Q.none)

-- ---- two sets

pub record Matching (a b : List ℕ) (answer : Bool) (n i : ℕ) : Type 0 where
  pub counted : n ≡ length (decode a)
  pub as_many : n ≡ length (decode b)
  pub left : answer ≡ same_members (drop i (decode a)) (drop i (decode b))

pub match-not : {n m : ℕ} (a b : List ℕ) → n ≡ length (decode a) → m ≡ length (decode b) → (m ≡ n → ⊥) → false ≡ same_members (decode a) (decode b)
match-not a b e f h = sym (same_length (decode a) (decode b) (λ s. h (f ∙ sym s ∙ sym e)))

pub match-start : {n m : ℕ} {a b : List ℕ} → n ≡ length (decode a) → m ≡ length (decode b) → m ≡ n → Matching a b (same_members (decode a) (decode b)) n 0
match-start e f s = record { counted = e; as_many = sym s ∙ f; left = refl }

module _ {a b : List ℕ} {answer t : Bool} {n i : ℕ} {x y : Terminals} (m : Matching a b answer n i) (turn : i < n) (at : x ≡ member_at a (2 * i + 1)) (by : y ≡ member_at b (2 * i + 1)) (told : t ≡ same_member x y) where
  matches : answer ≡ (t && same_members (drop (i + 1) (decode a)) (drop (i + 1) (decode b)))
  unfolding same_members
  matches = m.left ∙ ap₂ same_members (next-member a m.counted turn at) (next-member b m.as_many turn by) ∙ rw told

  pub match-more : t ≡ true → Matching a b answer n (i + 1)
  match-more e = record { counted = m.counted; as_many = m.as_many; left = matches ∙ rw e }

  pub match-ended : t ≡ false → false ≡ answer
  match-ended e = sym (matches ∙ rw e)

pub match-done : {a b : List ℕ} {answer : Bool} {n i : ℕ} → Matching a b answer n i → n ≤ i → true ≡ answer
unfolding same_members
match-done {a} {b} m h = sym (m.left ∙ ap₂ same_members (none_left a m.counted h) (none_left b m.as_many h))

-- ---- a count

-- `open_one`
pub one-complete : {t : Bool} (k : ℕ) (x : Terminals) → t ≡ complete_in k (reads x) → t ≡ true → 0 ≡ open_of k (x ∷ [])
unfolding open_of
one-complete k x e t = sym (rw (← e, t))

pub one-open : {t : Bool} (k : ℕ) (x : Terminals) → t ≡ complete_in k (reads x) → t ≡ false → 1 ≡ open_of k (x ∷ [])
unfolding open_of
one-open k x e t = sym (rw (← e, t))

open_more : (k : ℕ) (x : Terminals) (xs : List Terminals) → open_of k (x ∷ xs) ≡ open_of k (x ∷ []) + open_of k xs
unfolding open_of
open_more k x xs = by (complete_in k (reads x))
  where
    by : (t : Bool) → cond t (open_of k xs) (suc (open_of k xs)) ≡ cond t zero (suc zero) + open_of k xs
    by true = omega arith
    by false = omega arith

pub open-few : (k : ℕ) (xs : List Terminals) → open_of k xs ≤ length xs
unfolding open_of
open-few k [] = omega arith
open-few k (x ∷ xs) = by (complete_in k (reads x)) (open-few k xs)
  where
    by : (t : Bool) → open_of k xs ≤ length xs → cond t (open_of k xs) (suc (open_of k xs)) ≤ suc (length xs)
    by true h = omega arith
    by false h = omega arith

-- at member i of n, with so many counted
pub record Tallying (k : ℕ) (src : List ℕ) (n so_far i : ℕ) : Type 0 where
  pub counted : n ≡ length (decode src)
  pub all : so_far + open_of k (drop i (decode src)) ≡ open_of k (decode src)
  pub few : so_far ≤ i

pub tally-start : {src : List ℕ} {n : ℕ} (k : ℕ) → n ≡ length (decode src) → Tallying k src n 0 0
tally-start k e = record { counted = e; all = omega arith; few = omega arith }

-- past a member that is complete
pub tally-skip : {k n m i : ℕ} {t : Bool} {src : List ℕ} {x : Terminals} → Tallying k src n m i → i < n → x ≡ member_at src (2 * i + 1) → t ≡ complete_in k (reads x) → t ≡ true → Tallying k src n m (i + 1)
tally-skip {k} {i = i} {src = src} {x = x} t turn at told e = record {
  counted = t.counted;
  all = omega (arith, t.all, ap (open_of k) (next-member src t.counted turn at), open_more k x (drop (i + 1) (decode src)), one-complete k x told e);
  few = omega (arith, t.few);
}

-- past members that are unfinished as the first of them is
pub tally-class : {k n m i j : ℕ} {t : Bool} {src : List ℕ} {x : Terminals} → Tallying k src n m i → x ≡ member_at src (2 * i + 1) → t ≡ complete_in k (reads x) → t ≡ false → Class src i j → Tallying k src n (m + (j - i)) j
tally-class {k} t at told e c = record {
  counted = t.counted;
  all = omega (arith, t.all, c.like k (ap (λ (y : Terminals). complete_in k (reads y)) (sym at) ∙ sym told ∙ e));
  few = omega (arith, t.few, c.some);
}

-- where none of the members that are left is open
pub tally-stop : {k n m i : ℕ} {src : List ℕ} → Tallying k src n m i → open_of k (drop i (decode src)) ≡ 0 → m ≡ open_of k (decode src)
tally-stop t e = omega (arith, t.all)

pub tally-done : {k n m i : ℕ} {src : List ℕ} → Tallying k src n m i → n ≤ i → m ≡ open_of k (decode src)
unfolding open_of
tally-done {k} {src = src} t h = omega (arith, t.all, ap (open_of k) (none_left src t.counted h))

-- where none is open each member of the first set stays in a join
pub none_open : (k : ℕ) (xs ys : List Terminals) → open_of k xs ≡ 0 → pairs_of k xs ys ≡ xs
unfolding open_of
none_open k [] ys e = refl
none_open k (x ∷ xs) ys e = by (complete_in k (reads x)) e (λ h. none_open k xs ys h)
  where
    by : (t : Bool) → cond t (open_of k xs) (suc (open_of k xs)) ≡ 0 → (open_of k xs ≡ 0 → pairs_of k xs ys ≡ xs) → cond t (x ∷ []) (joins_of k x ys) ++ pairs_of k xs ys ≡ x ∷ xs
    by true h rest = ap (λ (l : List Terminals). x ∷ l) (rest h)
    by false h rest = absurd (omega arith)
