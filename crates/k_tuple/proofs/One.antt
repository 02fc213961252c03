-- Any two answers that meet the contract of a public function on strings are equal: an answer can be read back from what it is on paper. Assumes nothing.
use mathlib.Core.Path.{◌≡◌, refl, sym, ap, ap₂, ◌∙◌}
use mathlib.Core.Bool.{Bool, true, false, cond}
use mathlib.Core.List.{List}
use Prim.Native.Nat.{ℕ}
use native.Mathlib.Omega.{arith}
use borrow.Author.Tests.{ne_eqb}
use lib.Dec.{eqb}
use lib.ListN.{get_or}
use Rattle.k_tuple.specs.Packed.{reads}
use Rattle.k_tuple.specs.Paper.{Paper, refused, gives, number_of, values_of}
use Rattle.k_tuple.specs.Answers.{string_on_paper, width_on_paper, complete_on_paper, order_on_paper, UnpackedRecord, unpacked_record, width_answer, eps_answer, end_answer, make_answer, unpack_answer, complete_answer, cut_answer, push_answer, join_answer, order_answer}
use Rattle.k_tuple.specs.declared.Terminals.{Terminals}
use Rattle.k_tuple.specs.declared.Unpacked.{Unpacked}
use Rattle.refusals.specs.Numbers.{number}
use Rattle.refusals.specs.declared.Refusal.{Refusal}
use Rattle.refusals.proofs.Numbers.{named, named-number, number-positive}
use Rattle.std.specs.Prelude.{Result, Ok, Err}
use Rattle.std.specs.declared.cmp.Ordering as O
use Rattle.std.specs.declared.cmp.Ordering.TheVariants.{Less, Equal, Greater}

-- at most one r has f r ≡ b
abbrev pub One : {A B : Type 0} → (A → B) → B → Type 0
One {A} f b = (r s : A) → f r ≡ b → f s ≡ b → r ≡ s

-- what has a way back is known by its image
pub known : {A B : Type 0} (f : A → B) (back : B → A) → ((r : A) → back (f r) ≡ r) → (b : B) → One f b
known f back way b r s e g = sym (way r) ∙ ap back (e ∙ sym g) ∙ way s

-- ---- what is on paper is known by its number and its values, where no refusal is 0

pub paper-known : (p q : Paper) → ((z : List ℕ) → p ≡ refused 0 z → ⊥) → ((z : List ℕ) → q ≡ refused 0 z → ⊥) → number_of p ≡ number_of q → values_of p ≡ values_of q → p ≡ q
paper-known (refused r y) (refused s z) hp hq e f = ap₂ refused e f
paper-known (refused r y) (gives v) hp hq e f = absurd (hp y (ap (λ (n : ℕ). refused n y) e))
paper-known (gives u) (refused s z) hp hq e f = absurd (hq z (ap (λ (n : ℕ). refused n z) (sym e)))
paper-known (gives u) (gives v) hp hq e f = ap gives f

-- ---- answers are known by what they are on paper

-- a result's way back: the refusal of a number, or the value that numbers stand for
abbrev result-back : {A : Type 0} → (List ℕ → A) → Paper → Result A Refusal
result-back value (refused r z) = Err (named r)
result-back value (gives v) = Ok (value v)

refused-back : {A : Type 0} (e : Refusal) → ◌≡◌ {A = Result A Refusal} (Err (named (number e))) (Err e)
refused-back e = ap Err (named-number e)

pub string-known : (p : Paper) → One string_on_paper p
string-known = known string_on_paper (result-back (λ v. record { lo = get_or v 0 0; hi = get_or v 1 0 })) way
  where
    way : (r : Result Terminals Refusal) → result-back {A = Terminals} (λ v. record { lo = get_or v 0 0; hi = get_or v 1 0 }) (string_on_paper r) ≡ r
    way (Ok t) = refl
    way (Err e) = refused-back e

pub width-known : (p : Paper) → One width_on_paper p
width-known = known width_on_paper (result-back (λ v. get_or v 0 0)) way
  where
    way : (r : Result ℕ Refusal) → result-back (λ v. get_or v 0 0) (width_on_paper r) ≡ r
    way (Ok w) = refl
    way (Err e) = refused-back e

abbrev complete-value : List ℕ → Bool
complete-value v = eqb (get_or v 0 0) 1

pub complete-known : (p : Paper) → One complete_on_paper p
complete-known = known complete_on_paper (result-back complete-value) way
  where
    way : (r : Result Bool Refusal) → result-back complete-value (complete_on_paper r) ≡ r
    way (Ok true) = refl
    way (Ok false) = refl
    way (Err e) = refused-back e

abbrev order-value : List ℕ → O.Ordering
order-value v = cond (eqb (get_or v 0 0) 0) Less (cond (eqb (get_or v 0 0) 1) Equal Greater)

pub order-known : (p : Paper) → One order_on_paper p
order-known = known order_on_paper (result-back order-value) way
  where
    way : (r : Result O.Ordering Refusal) → result-back order-value (order_on_paper r) ≡ r
    way (Ok Less) = refl
    way (Ok Equal) = refl
    way (Ok Greater) = refl
    way (Err e) = refused-back e

-- a record unpacked: a refusal leaves zeros, and no refusal is 0
abbrev unpacked-back : UnpackedRecord → Result Unpacked Refusal
unpacked-back u = cond (eqb u.refused 0) (Ok (record { length = u.length; slots = u.slots })) (Err (named u.refused))

pub unpacked-known : (u : UnpackedRecord) → One unpacked_record u
unpacked-known = known unpacked_record unpacked-back way
  where
    way : (r : Result Unpacked Refusal) → unpacked-back (unpacked_record r) ≡ r
    way (Ok u) = refl
    way (Err e) = rw (ne_eqb (number e) 0 (λ z. omega (arith, number-positive e))) (refused-back e)

-- ---- the functions, by their contracts

pub width_one : (m : ℕ) → One width_on_paper (width_answer m)
width_one m = width-known (width_answer m)

pub eps-one : (m : ℕ) → One string_on_paper (eps_answer m)
eps-one m = string-known (eps_answer m)

pub end-one : (m : ℕ) → One string_on_paper (end_answer m)
end-one m = string-known (end_answer m)

pub make-one : (k m : ℕ) (ts : List ℕ) → One string_on_paper (make_answer k m ts)
make-one k m ts = string-known (make_answer k m ts)

pub unpack-one : (t : Terminals) → One unpacked_record (unpack_answer (reads t))
unpack-one t = unpacked-known (unpack_answer (reads t))

pub complete-one : (k : ℕ) (t : Terminals) → One complete_on_paper (complete_answer k (reads t))
complete-one k t = complete-known (complete_answer k (reads t))

pub cut-one : (k : ℕ) (t : Terminals) → One string_on_paper (cut_answer k (reads t))
cut-one k t = string-known (cut_answer k (reads t))

pub push-one : (x : ℕ) (t : Terminals) → One string_on_paper (push_answer x (reads t))
push-one x t = string-known (push_answer x (reads t))

pub join_one : (k : ℕ) (t u : Terminals) → One string_on_paper (join_answer k (reads t) (reads u))
join_one k t u = string-known (join_answer k (reads t) (reads u))

pub order-one : (t u : Terminals) → One order_on_paper (order_answer (reads t) (reads u))
order-one t u = order-known (order_answer (reads t) (reads u))
