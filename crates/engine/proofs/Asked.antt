-- After a call that was not refused, asking for a set gives the words of that set. Assumes nothing.
use Prim.Native.Nat.{ℕ, zero, suc, ◌+◌, ◌*◌, ◌≤◌, ◌<◌}
use native.Mathlib.Omega.{arith}
use mathlib.Core.Path.{◌≡◌, refl, sym, ap, ◌∙◌, subst}
use mathlib.Core.Bool.{Bool, true, false, cond}
use mathlib.Core.List.{List, [], ◌∷◌, ◌++◌}
use borrow.Author.Tests.{le-leb, lt-ltb}
use lib.Dec.{eqb}
use lib.ListN.{length, drop, length-append}
use lib.Seq.{get_or-append-add}
use Rattle.cfg.specs.Grammar.{Grammar, Accepted}
use Rattle.cfg.proofs.Sizes.{accepted-sizes}
use Rattle.cfg.proofs.Meaning.{TableRead, accepted}
use Rattle.k_tuples.specs.States.{State, set_of, Each, each_none, each_more}
use Rattle.k_tuples.specs.Work.{got}
use Rattle.k_tuples.specs.Held.{set_words}
use Rattle.k_tuples.specs.Blocks.{store, Kept, AllKept}
use Rattle.k_tuples.proofs.Blocks.{kept_at, length-store, block-store}
use Rattle.analysis.specs.Analysis.{Analysis, analyse}
use Rattle.analysis.specs.Promises.{Analysed}
use Rattle.analysis.proofs.Kept.{answers-right}
use Rattle.analysis.proofs.Counts.{occurrences-count}
use Rattle.engine.specs.Ask.{kind_start, kind_count, in_limits, result_size, there_is, set_part}
use Rattle.engine.specs.Call.{sets_of, result_needed, result_after, of_kind}
use Rattle.engine.proofs.Got.{Got, analyse-got}
use Rattle.engine.proofs.Sets.{sets-kept}
use Rattle.engine.proofs.Asking.{place_inside}

each-length : {A B : Type 0} {R : A → B → Type 0} {xs : List A} {ys : List B} → Each R xs ys → length ys ≡ length xs
each-length each_none = refl
each-length (each_more r rest) = ap suc (each-length rest)

set_of-front : (F G : State) (i : ℕ) → i < length F → set_of (F ++ G) i ≡ set_of F i
set_of-front [] G i h = absurd (omega arith)
set_of-front (a ∷ F) G zero h = refl
set_of-front (a ∷ F) G (suc i) h = set_of-front F G i (omega arith)

set_of-back : (F G : State) (i : ℕ) → set_of (F ++ G) (length F + i) ≡ set_of G i
set_of-back F G i = get_or-append-add F G i []

-- how many sets there are of each kind
pub record Counted (a : Analysis) : Type 0 where
  pub nonterminals : length a.nonterminals ≡ a.n
  pub productions : length a.productions ≡ a.p
  pub follows : length a.follows ≡ a.n
  pub positions : length a.positions ≡ a.q

pub counted : (g : Grammar) (k c : ℕ) (a : Analysis) → Analysed g k c a → Counted a
counted g k c a is = record {
  nonterminals = is.sizes.nonterminals ∙ sym is.sizes.n;
  productions = each-length is.production-sets ∙ sym is.sizes.p;
  follows = is.sizes.follows ∙ sym is.sizes.n;
  positions = each-length is.position-sets ∙ sym is.sizes.q;
}

module _ (a : Analysis) (s : Counted a) where
  pub sets-count : length (sets_of a) ≡ 2 * a.n + a.p + a.q
  unfolding sets_of
  sets-count = simp length-append (omega (arith, s))

  pub kind-length : (kind : ℕ) → length (of_kind kind a) ≡ kind_count kind a.n a.p a.q
  unfolding of_kind kind_count
  kind-length kind = by (eqb kind 0) (eqb kind 1) (eqb kind 2) (eqb kind 3)
    where
      by : (t u v w : Bool) → length (cond t a.nonterminals (cond u a.productions (cond v a.follows (cond w a.positions []))))
          ≡ cond t a.n (cond u a.p (cond v a.n (cond w a.q 0)))
      by true u v w = s.nonterminals
      by false true v w = s.productions
      by false false true w = s.follows
      by false false false true = s.positions
      by false false false false = refl

  -- set `number` of a kind stands at its place among all
  pub kind-place : (kind number : ℕ) → number < kind_count kind a.n a.p a.q → set_of (sets_of a) (kind_start kind a.n a.p + number) ≡ set_of (of_kind kind a) number
  unfolding sets_of of_kind kind_count kind_start
  kind-place kind number = by (eqb kind 0) (eqb kind 1) (eqb kind 2) (eqb kind 3)
    where
      N : State
      N = a.nonterminals

      P : State
      P = a.productions

      F : State
      F = a.follows

      Q : State
      Q = a.positions

      in-productions : (i : ℕ) → set_of (N ++ (P ++ (F ++ Q))) (a.n + i) ≡ set_of (P ++ (F ++ Q)) i
      in-productions i = ap (λ (j : ℕ). set_of (N ++ (P ++ (F ++ Q))) (j + i)) (sym s.nonterminals) ∙ set_of-back N (P ++ (F ++ Q)) i

      in-follows : (i : ℕ) → set_of (N ++ (P ++ (F ++ Q))) (a.n + (a.p + i)) ≡ set_of (F ++ Q) i
      in-follows i = in-productions (a.p + i) ∙ ap (λ (j : ℕ). set_of (P ++ (F ++ Q)) (j + i)) (sym s.productions) ∙ set_of-back P (F ++ Q) i

      in-positions : (i : ℕ) → set_of (N ++ (P ++ (F ++ Q))) (a.n + (a.p + (a.n + i))) ≡ set_of Q i
      in-positions i = in-follows (a.n + i) ∙ ap (λ (j : ℕ). set_of (F ++ Q) (j + i)) (sym s.follows) ∙ set_of-back F Q i

      at : (i j : ℕ) → i ≡ j → set_of (N ++ (P ++ (F ++ Q))) i ≡ set_of (N ++ (P ++ (F ++ Q))) j
      at i j e = ap (set_of (N ++ (P ++ (F ++ Q)))) e

      by : (t u v w : Bool) → number < cond t a.n (cond u a.p (cond v a.n (cond w a.q 0)))
          → set_of (N ++ (P ++ (F ++ Q))) (cond t 0 (cond u a.n (cond v (a.n + a.p) (2 * a.n + a.p))) + number) ≡ set_of (cond t N (cond u P (cond v F (cond w Q [])))) number
      by true u v w h = at (0 + number) number (omega arith) ∙ set_of-front N (P ++ (F ++ Q)) number (omega (arith, s.nonterminals))
      by false true v w h = in-productions number ∙ set_of-front P (F ++ Q) number (omega (arith, s.productions))
      by false false true w h = at (a.n + a.p + number) (a.n + (a.p + number)) (omega arith) ∙ in-follows number ∙ set_of-front F Q number (omega (arith, s.follows))
      by false false false true h = at (2 * a.n + a.p + number) (a.n + (a.p + (a.n + number))) (omega arith) ∙ in-positions number
      by false false false false h = absurd (omega arith)

-- an analysis that was got
module _ (k c : ℕ) (table result scratch : List ℕ) (a : Analysis) (e : analyse k c table (length result) (length scratch) ≡ got a) where
  known : Got k c table (length result) (length scratch) a
  known = analyse-got k c table (length result) (length scratch) a e

  ok : Accepted known.g × TableRead known.g
  ok = accepted table known.g known.next known.reads

  is : Analysed known.g k c a
  is = answers-right known.g k c ok.0 known.k>0 known.c>0 a known.works

  many : Counted a
  many = counted known.g k c a is

  kept : AllKept k a.width (2 * c + 1) (sets_of a)
  kept = sets-kept known.g k c ok.0 ok.1.terminals known.k>0 known.k<11 known.c>0 known.c<1025 a known.works

  module _ (kind number : ℕ) (h : number < length (of_kind kind a)) where
    below : number < kind_count kind a.n a.p a.q
    below = rw (kind-length a many kind) at h

    inside : kind_start kind a.n a.p + number < length (sets_of a)
    inside = omega (arith, sets-count a many, place_inside kind number a.n a.p a.q below)

    -- set `number` of a kind can be kept in its words
    pub asked-kept : Kept k a.width (2 * c + 1) (set_of (of_kind kind a) number)
    asked-kept =
        subst (Kept k a.width (2 * c + 1)) (kind-place a many kind number below) (kept_at (sets_of a) (kind_start kind a.n a.p + number) kept inside)

    -- asking for it gives its words
    pub asked : set_part kind number a.n a.p a.q c (result_after k c (result_needed c table) result (got a)) ≡ set_words k (2 * c + 1) a.width (set_of (of_kind kind a) number)
    unfolding set_part result_after there_is in_limits result_size
    asked =
        let sizes = accepted-sizes table known.g known.next known.reads in
        let rest = drop (result_needed c table) result in
        let n : a.n ≡ known.g.n = is.sizes.n in
        let p = is.sizes.p in
        let q = is.sizes.q ∙ occurrences-count known.g.productions in
        let long = length-store k a.width (2 * c + 1) rest (sets_of a) kept in
        let whole : (2 * a.n + a.p + a.q) * (2 * c + 1) ≤ length (store k (2 * c + 1) a.width (sets_of a) rest) = rw (long, sets-count a many) (omega arith) in
        rw (
          le-leb 1 a.n (omega (arith, sizes.some)),
          le-leb a.n 128 (omega (arith, sizes.nonterminals)),
          le-leb a.p 512 (omega (arith, sizes.productions)),
          le-leb a.q 4096 (omega (arith, sizes.positions)),
          le-leb 1 c known.c>0,
          le-leb c 1024 known.c<1025,
          lt-ltb number (kind_count kind a.n a.p a.q) below,
          le-leb ((2 * a.n + a.p + a.q) * (2 * c + 1)) (length (store k (2 * c + 1) a.width (sets_of a) rest)) whole,
        )
        (block-store k a.width (2 * c + 1) rest (sets_of a) (kind_start kind a.n a.p + number) kept inside
        ∙ ap (set_words k (2 * c + 1) a.width) (kind-place a many kind number below))
