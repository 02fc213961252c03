-- Any two answers, and any two contents of the output, that meet the contract of a public function on sets are equal. Assumes nothing.
use mathlib.Core.Path.{◌≡◌, refl, sym, ap, ◌∙◌}
use mathlib.Core.Bool.{Bool, true, false, cond}
use mathlib.Core.List.{List}
use Prim.Native.Nat.{ℕ}
use lib.Dec.{eqb}
use lib.ListN.{length, get_or}
use Rattle.k_tuple.specs.Paper.{Paper, refused, gives}
use Rattle.k_tuple.proofs.One.{One, known}
use Rattle.k_tuples.specs.Answers.{union_on_paper, set_on_paper, test_on_paper, union_answer, union_words, intersect_answer, intersect_words, disjoint_answer, complete_answer}
use Rattle.k_tuples.specs.Words.{Growth}
use Rattle.k_tuples.specs.declared.set.Grown.TheVariants.{Added, Same}
use Rattle.refusals.specs.declared.Refusal.{Refusal}
use Rattle.refusals.proofs.Numbers.{named, named-number}
use Rattle.std.specs.Prelude.{Result, Ok, Err}

-- ---- answers are known by what they are on paper

abbrev union-back : Paper → Growth
union-back (refused r z) = Err (named r)
union-back (gives v) = cond (eqb (get_or v 0 0) 1) (Ok Added) (Ok Same)

pub union-known : (p : Paper) → One union_on_paper p
union-known = known union_on_paper union-back way
  where
    way : (r : Growth) → union-back (union_on_paper r) ≡ r
    way (Ok Added) = refl
    way (Ok Same) = refl
    way (Err e) = ap (λ (d : Refusal). Err d) (named-number e)

abbrev set_back : Paper → Result (Unit {0}) Refusal
set_back (refused r z) = Err (named r)
set_back (gives v) = Ok tt

pub set_known : (p : Paper) → One set_on_paper p
set_known = known set_on_paper set_back way
  where
    way : (r : Result (Unit {0}) Refusal) → set_back (set_on_paper r) ≡ r
    way (Ok tt) = refl
    way (Err e) = ap (λ (d : Refusal). Err d) (named-number e)

abbrev test_back : Paper → Result Bool Refusal
test_back (refused r z) = Err (named r)
test_back (gives v) = Ok (eqb (get_or v 0 0) 1)

pub test_known : (p : Paper) → One test_on_paper p
test_known = known test_on_paper test_back way
  where
    way : (r : Result Bool Refusal) → test_back (test_on_paper r) ≡ r
    way (Ok true) = refl
    way (Ok false) = refl
    way (Err e) = ap (λ (d : Refusal). Err d) (named-number e)

-- the contents of lent words
abbrev pub OneWords : List ℕ → Type 0
OneWords ws = One (λ (o : List ℕ). o) ws

pub words-known : (ws : List ℕ) → OneWords ws
words-known ws o p e f = e ∙ sym f

-- ---- the functions, by their contracts

module _ (k : ℕ) (a b : List ℕ) where
  pub union-one : (out : List ℕ) → One union_on_paper (union_answer k (length out) a b) × OneWords (union_words k a b out)
  union-one out = (union-known _, words-known _)

  pub intersect-one : (out : List ℕ) → One set_on_paper (intersect_answer k (length out) a b) × OneWords (intersect_words k a b out)
  intersect-one out = (set_known _, words-known _)

  pub disjoint-one : One test_on_paper (disjoint_answer k a b)
  disjoint-one = test_known _

pub complete-one : (k : ℕ) (a : List ℕ) → One test_on_paper (complete_answer k a)
complete-one k a = test_known _
