-- The automata are those of the joined sets; what the call answers, exactly when. Assumes nothing.
use Prim.Native.Nat.{ℕ, zero, suc, ◌+◌, ◌≤◌, ◌<◌}
use native.Mathlib.Omega.{arith}
use mathlib.Core.Path.{◌≡◌, refl, sym, ap, ap₂, ◌∙◌, subst}
use mathlib.Core.Bool.{Bool, true, false, ◌&&◌}
use mathlib.Core.Logic.{◌↔◌, ⊎_elim}
use mathlib.Core.List.Memᴰ
use mathlib.Core.List.Memᴰ.{append_cases}
use mathlib.Core.List.Memᴰ.{head as here}
use mathlib.Core.List.Memᴰ.{not-nil}
use mathlib.Core.List.Memᴰ.{tail as there}
use mathlib.Core.List.{List, [], ◌∷◌, ◌++◌, map}
use lib.Dec.{T, leb, leb→le, le→leb, nleb→lt}
use lib.ListN.{length, get_or}
use Rattle.cfg.specs.Grammar.{Word, Grammar, Accepted}
use Rattle.k_tuple.specs.Strings.{Str, terminals}
use Rattle.k_tuples.specs.Sets.{◌∈◌}
use Rattle.k_tuples.specs.States.{Each, each_none, each_more}
use Rattle.k_tuples.specs.Work.{Answer, got, refused, ◌>>=◌, ◌>>◌, demand}
use Rattle.k_tuples.proofs.Sorted.{cases}
use Rattle.k_tuples.proofs.Tests.{passed, failed, fails, holds, unpassed, and_left, and_right, and_both}
use Rattle.first_theory.specs.Compute.{str}
use Rattle.first_theory.proofs.WordSets.{terminals-str}
use Rattle.decision_theory.specs.Needed.{Rising, Of, Ahead, Serves, own, Choice, ChoiceIs, Decided, RightFor, right-one, right-several, decisions}
use Rattle.decision_theory.specs.Automaton.{Entry, entries_in, entries_of, letters, accepts, below, nodes, State, Edge, states_from, state_at, automaton, terminals_of, AutomatonOf, automata_bytes, all_decided, all_small, automata, AllAre, AllSmall, AutomataAnswered, call-refused, one-refused, too-many-states, few_bytes, written}
use Rattle.decision_theory.proofs.Ahead.{ahead-proper, ahead-prefix, wide_enough}
use Rattle.decision_theory.proofs.Needed.{own-means, choice-of, production-of}
use Rattle.decision_theory.proofs.Call.{FromGrammar, decisions-from, all_right}
use Rattle.decision_theory.proofs.Prefixes.{tree-numbered}
use Rattle.decision_theory.proofs.Tree.{entry, OneEach, tree-walk, tree-later, tree-rising, tree-leaf}

-- ---- the entries

-- They are the choices' strings.
pub entries-mean : (xs : List Choice) (w : Word) (i : ℕ) → entry w i ∈ entries_of xs ↔ ((x : Choice) × (x ∈ xs) × (x.production ≡ i) × ((z : Str) × (z ∈ x.ahead) × (terminals z ≡ w)))
unfolding entries_of
entries-mean [] w i = (λ m. absurd (not-nil m), λ p. absurd (not-nil p.1))
entries-mean (x ∷ xs) w i = (
  λ m. ⊎_elim
      (λ n. let (z, j, e) = Memᴰ.of_map (λ z. record { word = terminals z; production = x.production }) x.ahead n in (x, here refl, ap (λ (e : Entry). e.production) e, (z, j, ap (λ (e : Entry). e.word) e)))
      (λ n. let (y, j, q, r) = (entries-mean xs w i).0 n in (y, there j, q, r)) (append_cases (entries_in x.production x.ahead) m),
  λ (y, m, q, r). cases m
      (λ (f : y ≡ x).
      let n : r.0 ∈ x.ahead = subst (λ (c : Choice). r.0 ∈ c.ahead) f r.1 in
      let e : entry w i ≡ entry (terminals r.0) x.production = ap₂ entry (sym r.2) (sym q ∙ ap (λ (c : Choice). c.production) f) in
      Memᴰ.append_left (entries_of xs) (Memᴰ.cast e (Memᴰ.map (λ z. record { word = terminals z; production = x.production }) n)))
      (λ n. Memᴰ.append_right (entries_in x.production x.ahead) ((entries-mean xs w i).1 (y, n, q, r))),
)

module _ (g : Grammar) (ok : Accepted g) (A k : ℕ) (k>0 : 1 ≤ k) (xs : List Choice) (all : Each (ChoiceIs g k) (own g A) xs) where
  -- They are the strings of A's joined sets, each with its production.
  pub entries-are : (w : Word) (i : ℕ) → entry w i ∈ entries_of xs ↔ (Of g A i × Ahead g k i w)
  entries-are w i = (
    λ m.
        let (x, j, q, r) = (entries-mean xs w i).0 m in
        let (l, n, is) = production-of g k all x j in
        let same : l ≡ i = sym is.number ∙ q in
        let (v, e) = is.set.words r.0 r.1 in
        let a : Ahead g k l v = (is.set.has v).0 (Memᴰ.cast (sym e) r.1) in
        let word : v ≡ w = sym (terminals-str v) ∙ ap terminals (sym e) ∙ r.2 in
        ((own-means g A i).0 (subst (λ (j : ℕ). j ∈ own g A) same n), subst (λ (j : ℕ). Ahead g k j w) same (subst (Ahead g k l) word a)),
    λ (o, a).
        let (x, j, is) = choice-of g k all i ((own-means g A i).1 o) in
        (entries-mean xs w i).1 (x, j, is.number, (str w, (is.set.has w).1 a, terminals-str w)),
  )

  -- They have at most k terminals.
  pub entries-short : (e : Entry) → e ∈ entries_of xs → length e.word ≤ k
  entries-short e m =
      let (o, a) = (entries-are e.word e.production).0 m in
      rw (terminals-str e.word) at (ahead-proper g ok k k>0 e.production o.0 e.word a (g.t + 7) (wide_enough g.t)).short

  -- None begins another.
  entries-free : (u x : Word) (i j : ℕ) → entry u i ∈ entries_of xs → entry (u ++ x) j ∈ entries_of xs → x ≡ []
  entries-free u x i j m n =
      let (o, a) = (entries-are u i).0 m in
      let (r, b) = (entries-are (u ++ x) j).0 n in
      ahead-prefix g ok k k>0 i j o.0 r.0 u x a b

  module _ (s : Serves g k A) where
    -- Where k serves, each has one production.
    pub entries-one : OneEach (entries_of xs)
    entries-one w i j m n =
        let (o, a) = (entries-are w i).0 m in
        let (r, b) = (entries-are w j).0 n in
        s i j o r w a b

    -- So the automaton is right,
    several-right : AutomatonOf g A (record { k = k; choices = xs }) (automaton (record { k = k; choices = xs }))
    unfolding automaton
    several-right =
        let R = entries_of xs in
        record {
          later = tree-later k R entries-short;
          rising = tree-rising k R entries-short;
          leaves = λ t i h e. tree-leaf k R entries-short entries-free t h i e;
          walks = λ h w i.
              let t = tree-walk k R entries-short entries-one w i in
              let a = entries-are w i in
              (λ e. a.0 (t.0 e), λ p. t.1 (a.1 p));
          numbered = tree-numbered k R entries-short;
          single = λ (e : k ≡ 0). absurd (omega arith);
        }

-- and so is that of one production.
one_right : (g : Grammar) (A i : ℕ) → Of g A i → AutomatonOf g A (record { k = 0; choices = record { production = i; ahead = Str.eps ∷ [] } ∷ [] }) (automaton (record { k = 0; choices = record { production = i; ahead = Str.eps ∷ [] } ∷ [] }))
unfolding automaton entries_of nodes below states_from letters accepts
one_right g A i o = record {
  later = λ s h e m. absurd (none s e m);
  rising = λ s h. no_edges s;
  leaves = λ s j h e. leaf s;
  walks = λ h. absurd (omega arith);
  numbered = tree-numbered 0 (entry [] i ∷ []) (λ e m. cases m (λ (f : e ≡ entry [] i). rw f (omega arith)) (λ n. absurd (not-nil n)));
  single = λ e. (i, o, refl);
}
  where
    S : List State
    S = record { accepting = suc i; edges = [] } ∷ []

    leaf : (s : ℕ) → (state_at S s).edges ≡ []
    leaf zero = refl
    leaf (suc s) = refl

    none : (s : ℕ) (e : Edge) → e ∈ (state_at S s).edges → ⊥
    none s e m = not-nil (rw (leaf s) at m)

    no_edges : (s : ℕ) → Rising (terminals_of (state_at S s).edges)
    no_edges zero = tt
    no_edges (suc s) = tt

-- The automaton of what was decided rightly is right.
pub automaton-right : (g : Grammar) → Accepted g → (A : ℕ) (d : Decided) → RightFor g A d → AutomatonOf g A d (automaton d)
automaton-right g ok A d (right-one {i = i} o one) = one_right g A i o
automaton-right g ok A d (right-several {k = k} {xs = xs} n h all s needs) = several-right g ok A k h xs all s

-- ---- all are decided, or the lowest that is not

-- Where each is decided, all are.
pub all-got : {ms : List (Answer Decided)} {ds : List Decided} → Each (λ (m : Answer Decided) (d : Decided). m ≡ got d) ms ds → all_decided ms ≡ got ds
unfolding all_decided
all-got each_none = refl
all-got (each_more e more) = rw (e, all-got more)

-- Where one is refused and none before it, all are refused by it.
pub lowest-refused : (ms : List (Answer Decided)) (A r : ℕ) → A < length ms → get_or ms A (refused 0) ≡ refused r → ((B : ℕ) → B < A → (d : Decided) × (get_or ms B (refused 0) ≡ got d)) → all_decided ms ≡ refused r
unfolding all_decided
lowest-refused [] A r h e low = absurd (omega arith)
lowest-refused (m ∷ ms) zero r h e low = rw e
lowest-refused (m ∷ ms) (suc A) r h e low =
    let (d, q) = low 0 (omega arith) in
    rw (q, lowest-refused ms A r (omega arith) e (λ B l. low (suc B) (omega arith)))

-- All are decided, or the lowest that is not.
pub data Deciding (ms : List (Answer Decided)) : Answer (List Decided) → Type 0 where
  every : {ds : List Decided} → Each (λ (m : Answer Decided) (d : Decided). m ≡ got d) ms ds → Deciding ms (got ds)
  lowest-is : {r : ℕ} (A : ℕ) → A < length ms → get_or ms A (refused 0) ≡ refused r → ((B : ℕ) → B < A → (d : Decided) × (get_or ms B (refused 0) ≡ got d)) → Deciding ms (refused r)

-- One of the two is the case.
pub deciding : (ms : List (Answer Decided)) → Deciding ms (all_decided ms)
unfolding all_decided
deciding [] = every each_none
deciding (m ∷ ms) = by m refl (all_decided ms) (deciding ms)
  where
    by : (n : Answer Decided) → m ≡ n → (r : Answer (List Decided)) → Deciding ms r → Deciding (m ∷ ms) (n >>= λ d. r >>= λ ds. got (d ∷ ds))
    by (refused q) e r rest = lowest-is 0 (omega arith) e (λ B h. absurd (omega arith))
    by (got d) e r (every all) = every (each_more e all)
    by (got d) e r (lowest-is A h q low) = lowest-is (suc A) (omega arith) q before
      where
        before : (B : ℕ) → B < suc A → (d : Decided) × (get_or (m ∷ ms) B (refused 0) ≡ got d)
        before zero l = (d, e)
        before (suc B) l = low B (omega arith)

-- The test of the states' number.
all_small_lem : (ds : List Decided) → T (all_small (map automaton ds)) ↔ ((d : Decided) → d ∈ ds → length (automaton d) ≤ 2048)
unfolding all_small
all_small_lem [] = (λ t d m. absurd (not-nil m), λ h. tt)
all_small_lem (d ∷ ds) = by (all_small_lem ds)
  where
    by : T (all_small (map automaton ds)) ↔ ((d : Decided) → d ∈ ds → length (automaton d) ≤ 2048)
        → T (leb (length (automaton d)) 2048 && all_small (map automaton ds)) ↔ ((e : Decided) → e ∈ (d ∷ ds) → length (automaton e) ≤ 2048)
    by rest = (
      λ t e m. cases m (λ (f : e ≡ d). rw f (leb→le (length (automaton d)) 2048 (and_left (leb (length (automaton d)) 2048) (all_small (map automaton ds)) t))) (rest.0 (and_right (leb (length (automaton d)) 2048) (all_small (map automaton ds)) t) e),
      λ h. and_both (leb (length (automaton d)) 2048) (all_small (map automaton ds)) (le→leb (length (automaton d)) 2048 (h d (here refl))) (rest.1 (λ e m. h e (there m))),
    )

-- ---- the call

module _ (limit c : ℕ) (table : List ℕ) (result scratch room : ℕ) where
  -- what the rules give
  abbrev Is : Answer (List ℕ) → Type 0
  Is = AutomataAnswered limit c table result scratch room

  -- Every input has its answer.
  pub automata-answered : Is (automata limit c table result scratch room)
  unfolding automata
  automata-answered = by (decisions limit c table result scratch) refl
    where
      Bytes : List Decided → Bool → Answer (List ℕ)
      Bytes ds b = demand 10 b >> got (automata_bytes (map automaton ds))

      Trees : List Decided → Bool → Answer (List ℕ)
      Trees ds b = demand 23 b >> Bytes ds (leb (length (automata_bytes (map automaton ds))) room)

      bytes : (ds : List Decided) → AllAre limit c table result scratch ds → AllSmall ds → (b : Bool) → leb (length (automata_bytes (map automaton ds))) room ≡ b → Is (Bytes ds b)
      bytes ds all small true e = written all small (leb→le (length (automata_bytes (map automaton ds))) room (passed e))
      bytes ds all small false e = few_bytes all small (nleb→lt (length (automata_bytes (map automaton ds))) room (failed e))

      trees : (ds : List Decided) → AllAre limit c table result scratch ds → (b : Bool) → all_small (map automaton ds) ≡ b → Is (Trees ds b)
      trees ds all true e = bytes ds all ((all_small_lem ds).0 (passed e)) (leb (length (automata_bytes (map automaton ds))) room) refl
      trees ds all false e = too-many-states all (λ h. fails e ((all_small_lem ds).1 h))

      on : (ms : List (Answer Decided)) → decisions limit c table result scratch ≡ got ms → (r : Answer (List Decided)) → Deciding ms r → Is (r >>= λ ds. Trees ds (all_small (map automaton ds)))
      on ms e (refused r) (lowest-is A h q low) = one-refused (record { answers_of = ms; called = e; A = A; inside = h; refuses = q; lowest = low })
      on ms e (got ds) (every all) = trees ds (record { answers_of = ms; called = e; each = all }) (all_small (map automaton ds)) refl

      by : (m : Answer (List (Answer Decided))) → decisions limit c table result scratch ≡ m → Is (m >>= λ ms. all_decided ms >>= λ ds. Trees ds (all_small (map automaton ds)))
      by (refused r) e = call-refused e
      by (got ms) e = on ms e (all_decided ms) (deciding ms)

  -- And one only.
  pub automata-one : {x : Answer (List ℕ)} → Is x → x ≡ automata limit c table result scratch room
  unfolding automata
  automata-one (call-refused e) = rw e
  automata-one (one-refused {r = r} o) = rw (o.called, lowest-refused o.answers_of o.A r o.inside o.refuses o.lowest)
  automata-one (too-many-states {ds = ds} all n) = rw (all.called, all-got all.each, unpassed (all_small (map automaton ds)) (λ t. n ((all_small_lem ds).0 t)))
  automata-one (few_bytes {ds = ds} all small h) =
      rw (all.called, all-got all.each, holds (all_small (map automaton ds)) ((all_small_lem ds).1 small), unpassed (leb (length (automata_bytes (map automaton ds))) room) (λ t. omega (arith, leb→le (length (automata_bytes (map automaton ds))) room t)))
  automata-one (written {ds = ds} all small h) =
      rw (all.called, all-got all.each, holds (all_small (map automaton ds)) ((all_small_lem ds).1 small), holds (leb (length (automata_bytes (map automaton ds))) room) (le→leb (length (automata_bytes (map automaton ds))) room h))

-- ---- where all are decided

-- Something was decided rightly for each nonterminal.
pub record AllRight (g : Grammar) (ds : List Decided) : Type 0 where
  pub one_each : length ds ≡ g.n
  pub right : (A : ℕ) (d : Decided) → A < g.n → RightFor g A (get_or ds A d)

module _ (limit c : ℕ) (table : List ℕ) (result scratch : ℕ) (ds : List Decided) (all : AllAre limit c table result scratch ds) where
  -- There is a grammar,
  pub grammar-of : FromGrammar limit c table all.answers_of
  grammar-of = decisions-from limit c table result scratch all.answers_of all.called

  -- and what is decided is right for it.
  pub rights : AllRight grammar-of.g ds
  rights = let (l, r) = all_right limit c table all.answers_of ds grammar-of all.each in record { one_each = l; right = r }
