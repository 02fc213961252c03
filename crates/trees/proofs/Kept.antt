-- For what K3 decides: the strings are apart, and what is measured and written is its automaton, on which walking reaches the productions. Assumes nothing.
use Prim.Native.Nat.{ℕ, suc, ◌≤◌, ◌<◌}
use native.Mathlib.Omega.{arith}
use mathlib.Core.Path.{◌≡◌, refl, sym, ap, ◌∙◌, subst}
use mathlib.Core.Logic.{inr, ⊎_elim}
use mathlib.Core.List.Memᴰ
use mathlib.Core.List.Memᴰ.{append_cases}
use mathlib.Core.List.Memᴰ.{eq_of_singleton as only}
use mathlib.Core.List.Memᴰ.{head as here}
use mathlib.Core.List.Memᴰ.{not-nil}
use mathlib.Core.List.Memᴰ.{tail as there}
use mathlib.Core.List.{List, [], ◌∷◌, ◌++◌, map, map-append, append-nil}
use lib.ListN.{length, length-append, length-map}
use Rattle.cfg.specs.Grammar.{Word, Grammar, Accepted}
use Rattle.k_tuples.specs.Sets.{◌∈◌, Sorted}
use Rattle.k_tuples.proofs.Sorted.{cases}
use Rattle.decision_theory.specs.Needed.{Rising, Choice, ChoiceIs, Decided, RightFor, right-one, right-several}
use Rattle.decision_theory.specs.Automaton.{Entry, entries_in, entries_of, automaton, prefixes, AutomatonOf}
use Rattle.decision_theory.proofs.Ahead.{ahead-prefix}
use Rattle.decision_theory.proofs.Automaton.{entries-mean, entries-are, entries-short, entries-one, automaton-right}
use Rattle.decision_theory.proofs.Tree.{entry, OneEach}
use Rattle.decision_theory.proofs.Needed.{own-rising, production-of}
use Rattle.first_theory.specs.Compute.{str}
use Rattle.first_theory.proofs.WordSets.{terminals-str}
use Rattle.k_tuple.specs.Strings.{Str, terminals}
use Rattle.k_tuple.specs.Order.{◌≺◌}
use Rattle.k_tuple.proofs.Order.{≺-irrefl}
use Rattle.k_tuples.specs.States.{Each, each_none, each_more}
use Rattle.decision_theory.proofs.Prefixes.{tree-numbered}
use Rattle.std.specs.Prelude.{Result}
use Rattle.refusals.specs.declared.Refusal.{Refusal}
use Rattle.trees.specs.Listed.{entries}
use Rattle.trees.specs.Queue.{Within}
use Rattle.trees.specs.Answer.{tree_of, Apart, SizeTold, Wrote, Measured, Written}
use Rattle.trees.proofs.Meaning.{tree-length}

-- ---- the strings of a decision

-- One that is the empty string alone.
one_apart : (i : ℕ) → Apart (entry [] i ∷ [])
one_apart i = record {
  one = λ w j k m n. ap (λ (e : Entry). e.production) (only m ∙ sym (only n));
  free = λ u x j k m n. none x (let e = ap (λ (e : Entry). length e.word) (only n) in let l = length-append u x in omega arith);
}
  where
    none : (x : Word) → length x ≡ 0 → x ≡ []
    none [] e = refl
    none (a ∷ x) e = absurd (omega arith)

-- What was decided rightly has strings that are apart,
pub decided-apart : (g : Grammar) → Accepted g → (A : ℕ) (d : Decided) → RightFor g A d → Apart (entries_of d.choices)
unfolding entries_of
decided-apart g ok A d (right-one {i = i} o one) = one_apart i
decided-apart g ok A d (right-several {k = k} {xs = xs} n k>0 each s needs) = record {
  one = entries-one g ok A k k>0 xs each s;
  free = λ u x i j m n.
      let (o, a) = (entries-are g ok A k k>0 xs each u i).0 m in
      let (r, b) = (entries-are g ok A k k>0 xs each (u ++ x) j).0 n in
      ahead-prefix g ok k k>0 i j o.0 r.0 u x a b;
}

-- and of at most k terminals.
pub decided-within : (g : Grammar) → Accepted g → (A : ℕ) (d : Decided) → RightFor g A d → Within d.k (entries_of d.choices)
unfolding entries_of
decided-within g ok A d (right-one {i = i} o one) = λ e m. let q = ap (λ (e : Entry). length e.word) (only m) in omega arith
decided-within g ok A d (right-several {k = k} {xs = xs} n k>0 each s needs) = entries-short g ok A k k>0 xs each

module _ (g : Grammar) (ok : Accepted g) (A : ℕ) (d : Decided) (right : RightFor g A d) (ws : List ℕ) (n : ℕ) (same : entries ws n ≡ entries_of d.choices) where
  within : Within d.k (entries ws n)
  within = rw same (decided-within g ok A d right)

  pub strings-apart : Apart (entries ws n)
  strings-apart = rw same (decided-apart g ok A d right)

  tree_is : tree_of (entries ws n) d.k ≡ automaton d
  unfolding automaton
  tree_is = ap (λ (R : List Entry). tree_of R d.k) same

  -- What is measured is the automaton.
  pub decided-measured : (r : Result ℕ Refusal) → Measured ws n r → SizeTold (automaton d) r
  decided-measured r m = rw tree_is at (m.is d.k within)

  -- What is written is the automaton.
  pub decided-written : (at : ℕ) (before after : List ℕ) (r : Result ℕ Refusal) → Written ws n at before after r → Wrote (automaton d) at before after r
  decided-written at before after r m = rw tree_is at (m.is d.k within)

  -- And that is right for the nonterminal: walking any string of a set reaches its production, and no other string reaches one.
  pub decided-right : AutomatonOf g A d (automaton d)
  decided-right = automaton-right g ok A d right

-- ---- too many strings

-- No member twice.
abbrev pub Distinct : List Word → Type 0
Distinct [] = Unit {0}
Distinct (x ∷ xs) = (¬ (x ∈ xs)) × Distinct xs

-- A member stands somewhere.
somewhere : (x : Word) (ys : List Word) → x ∈ ys → (a : List Word) × (b : List Word) × (ys ≡ a ++ x ∷ b)
somewhere x [] m = absurd (not-nil m)
somewhere x (y ∷ ys) m = cases m (λ (e : x ≡ y). ([], ys, ap (λ (z : Word). z ∷ ys) (sym e))) (λ k. let (a, b, e) = somewhere x ys k in (y ∷ a, b, ap (λ (l : List Word). y ∷ l) e))

-- Different members are not more than there are.
pub not_more : (xs ys : List Word) → Distinct xs → ((x : Word) → x ∈ xs → x ∈ ys) → length xs ≤ length ys
not_more [] ys d h = omega arith
not_more (x ∷ xs) ys d h =
    let (a, b, e) = somewhere x ys (h x (here refl)) in
    let r = not_more xs (a ++ b) d.1 (λ z m.
    ⊎_elim (λ i. Memᴰ.append_left b i)
    (λ i. cases i (λ (q : z ≡ x). absurd (d.0 (subst (λ (w : Word). w ∈ xs) q m))) (λ k. Memᴰ.append_right a k))
    (append_cases a (subst (λ (l : List Word). z ∈ l) e (h z (there m))))) in
    let l = ap length e ∙ length-append a (x ∷ b) in
    let k = length-append a b in
    omega arith

-- Strings that are all different are not more than the states: where a 2,049th comes, there are more than 2,048.
pub strings-states : (R : List Entry) (depth : ℕ) → Within depth R → (xs : List Word) → Distinct xs → ((x : Word) → x ∈ xs → (i : ℕ) × (entry x i ∈ R)) → length xs ≤ length (tree_of R depth)
strings-states R depth short xs d h =
    let t = tree-length R depth in
    let l = not_more xs (prefixes R (suc depth) ([] ∷ [])) d (λ x m. let (i, k) = h x m in ((tree-numbered depth R short).all x).1 (inr ([], i, rw append-nil k))) in
    omega arith

-- ---- the strings of a decision are all different

distinct_append : (L M : List Word) → Distinct L → Distinct M → ((x : Word) → x ∈ L → x ∈ M → ⊥) → Distinct (L ++ M)
distinct_append [] M d e h = e
distinct_append (x ∷ L) M d e h = (λ m. ⊎_elim d.0 (h x (here refl)) (append_cases L m), distinct_append L M d.1 e (λ y i j. h y (there i) j))

-- Those of one set.
set-distinct : (a : List Str) → Sorted a → ((z : Str) → z ∈ a → (w : Word) × (z ≡ str w)) → Distinct (map terminals a)
set-distinct [] up all = tt
set-distinct (z ∷ a) up all = (
  λ m.
      let (y, i, e) = Memᴰ.of_map terminals a m in
      let (w, p) = all z (here refl) in
      let (v, q) = all y (there i) in
      let same : y ≡ z = q ∙ ap str (sym (terminals-str v) ∙ ap terminals (sym q) ∙ e ∙ ap terminals p ∙ terminals-str w) ∙ sym p in
      ≺-irrefl z (subst (λ (x : Str). z ≺ x) same (up.0 y i)),
  set-distinct a up.1 (λ y i. all y (there i)),
)

-- The words of some entries.
abbrev pub words_of : List Entry → List Word
words_of R = map (λ (e : Entry). e.word) R

words-in : (i : ℕ) (a : List Str) → words_of (entries_in i a) ≡ map terminals a
words-in i [] = refl
words-in i (z ∷ a) = ap (λ (l : List Word). terminals z ∷ l) (words-in i a)

-- Those of several, in the order of productions.
choices-distinct : (g : Grammar) (k : ℕ) {is : List ℕ} {xs : List Choice} → Rising is → Each (ChoiceIs g k) is xs → OneEach (entries_of xs) → Distinct (words_of (entries_of xs))
unfolding entries_of
choices-distinct g k up each_none one = tt
choices-distinct g k up (each_more {a = i} {b = x} {xs = is} {ys = xs} c more) one =
    rw (map-append (λ (e : Entry). e.word) (entries_in x.production x.ahead) (entries_of xs), words-in x.production x.ahead)
    (distinct_append (map terminals x.ahead) (words_of (entries_of xs)) (set-distinct x.ahead c.set.sorted c.set.words)
    (choices-distinct g k up.1 more (λ w a b m n. one w a b (Memᴰ.append_right (entries_in x.production x.ahead) m) (Memᴰ.append_right (entries_in x.production x.ahead) n)))
    (λ w m n.
    let (z, o, e) = Memᴰ.of_map terminals x.ahead m in
    let (f, q, r) = Memᴰ.of_map (λ (e : Entry). e.word) (entries_of xs) n in
    let here_in : entry w x.production ∈ entries_of (x ∷ xs) = Memᴰ.append_left (entries_of xs) (Memᴰ.cast (ap (λ (v : Word). entry v x.production) (sym e)) (Memᴰ.map (λ z. record { word = terminals z; production = x.production }) o)) in
    let there-in : entry w f.production ∈ entries_of (x ∷ xs) = Memᴰ.append_right (entries_in x.production x.ahead) (Memᴰ.cast (ap (λ (v : Word). entry v f.production) (sym r)) q) in
    let same = one w x.production f.production here_in there-in in
    let (y, s, t, u) = (entries-mean xs f.word f.production).0 q in
    let (l, v, is_y) = production-of g k more y s in
    let later = up.0 l v in
    let a = c.number in
    let b = is_y.number in
    omega arith))

-- Where a decision has more than 2,048 strings, its automaton has more than 2,048 states.
pub decided-many : (g : Grammar) → Accepted g → (A : ℕ) (d : Decided) → RightFor g A d → 2048 < length (entries_of d.choices) → 2048 < length (automaton d)
unfolding entries_of automaton
decided-many g ok A d (right-one {i = i} o one) h = absurd (omega arith)
decided-many g ok A d (right-several {k = k} {xs = xs} n k>0 each s needs) h =
    let l = strings-states (entries_of xs) k (entries-short g ok A k k>0 xs each) (words_of (entries_of xs))
    (choices-distinct g k (own-rising A 0 g.productions) each (entries-one g ok A k k>0 xs each s))
    (λ x m. let (e, i, q) = Memᴰ.of_map (λ (e : Entry). e.word) (entries_of xs) m in (e.production, Memᴰ.cast (ap (λ (v : Word). entry v e.production) (sym q)) i)) in
    let m = length-map (entries_of xs) (λ (e : Entry). e.word) in
    omega arith
