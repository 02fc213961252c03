-- A union that tells whether it added: with no word for that, its refusal is that of an output of no words, which nothing is written to. Assumes nothing.
use Prim.Native.Nat.{ℕ}
use mathlib.Core.Path.{◌≡◌, refl, ap, ◌∙◌}
use mathlib.Core.Bool.{Bool, true, false, not, ◌||◌}
use mathlib.Core.List.{List, [], ◌++◌}
use borrow.Author.Tests.{lt-ltb, le-ltb}
use lib.Dec.{ltb, eqb}
use lib.ListN.{length}
use Rattle.k_tuple.specs.Strings.{Str}
use Rattle.k_tuple.specs.Paper.{Paper, flag, number_of, Tests, answers, ◌if◌else◌, outcome}
use Rattle.k_tuples.specs.Held.{set_in}
use Rattle.k_tuples.specs.Words.{Growth, room_of}
use Rattle.k_tuples.specs.declared.set.Grown.TheVariants.{Added, Same}
use Rattle.std.specs.Prelude.{Ok, Err}
use native.Mathlib.Omega.{arith}
use Rattle.k_tuples.specs.Answers.{is_bad, width_in, members_in, suits, common_width, no_words, outside, two_sets, new_set, written, union_set, union_on_paper, union_answer, union_words}
use Rattle.exports.specs.Told.{too_few, Told, number_told, Made}
use Rattle.exports.proofs.Telling.{told-few}

-- a test that ends so holds
or-true : (x : Bool) → (x || true) ≡ true
or-true true = refl
or-true false = refl

-- the tests in their order: where a buffer has no words, what is refused is 1, or else 10 whatever comes behind it
few-first : (out none none' bad other full : Bool) (t : Tests) (v : List ℕ) → none ≡ true
    → number_of (outcome (1 if out else 10 if none else t)) ≡ too_few (number_of (outcome (1 if out else 10 if none' else 13 if bad else 15 if other else 11 if full else answers v)))
few-first true none none' bad other full t v e = refl
few-first false none true bad other full t v e = rw e
few-first false none false true other full t v e = rw e
few-first false none false false true full t v e = rw e
few-first false none false false false true t v e = rw e
few-first false none false false false false t v e = rw e

growth-number : (r : Growth) → number_told r ≡ number_of (union_on_paper r)
growth-number (Ok Added) = refl
growth-number (Ok Same) = refl
growth-number (Err e) = refl

module _ (k : ℕ) (a b : List ℕ) where
  -- whether a set has no words; and what is tested behind that
  abbrev none : Bool
  none = no_words a || no_words b

  abbrev behind : ℕ → Tests
  behind n =
      13 if is_bad (set_in k a) || is_bad (set_in k b) else
      15 if not (suits (width_in (set_in k a)) (width_in (set_in k b))) else
      new_set n (union_set k a b) (flag (ltb (length (members_in (set_in k a))) (length (union_set k a b))))

  pub union-few : (n : ℕ) → number_of (union_answer k 0 a b) ≡ too_few (number_of (union_answer k n a b))
  unfolding union_answer two_sets
  union-few n =
      few-first (outside k) (none || true) (none || eqb n 0) (is_bad (set_in k a) || is_bad (set_in k b)) (not (suits (width_in (set_in k a)) (width_in (set_in k b))))
      (ltb (room_of n) (length (union_set k a b))) (behind 0) (flag (ltb (length (members_in (set_in k a))) (length (union_set k a b)))) (or-true none)

  -- no words stay no words
  union-none : union_words k a b [] ≡ []
  unfolding union_words union_answer two_sets
  union-none = by (outside k) (none || true) (behind 0) (common_width (set_in k a) (set_in k b)) (union_set k a b) (or-true none)
    where
      by : (out empty : Bool) (t : Tests) (w : ℕ) (set : List Str) → empty ≡ true → written (outcome (1 if out else 10 if empty else t)) k w set [] ≡ []
      by true empty t w set e = refl
      by false empty t w set e = rw e

  module _ {out told : List ℕ} where
    pub made-few : (r : Growth) {m : ℕ} {part : List ℕ} → length told ≡ 0 → union_on_paper r ≡ union_answer k 0 a b → part ≡ union_words k a b [] → m ≡ number_told r
        → Made 1 (union_answer k (length out) a b) (union_words k a b out) out told m (part ++ out) told
    made-few r h e f n = record {
      wrote = told-few (omega arith) (n ∙ growth-number r ∙ ap number_of e ∙ union-few (length out));
      words = ap (λ (l : List ℕ). l ++ out) (f ∙ union-none) ∙ rw (lt-ltb (length told) 1 (omega arith));
    }

    pub made-whole : {p : Paper} {out' told' : List ℕ} {r : ℕ} → (length told ≡ 0 → ⊥) → p ≡ union_answer k (length out) a b → out' ≡ union_words k a b out
        → Told 1 p told r told' → Made 1 (union_answer k (length out) a b) (union_words k a b out) out told r out' told'
    made-whole h e f t = record { wrote = (rw e at t).wrote; words = f ∙ rw (le-ltb (length told) 1 (omega arith)) }
