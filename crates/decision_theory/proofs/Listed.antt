-- The automata, listed as rows, are accepted. Assumes nothing.
use Prim.Native.Nat.{ℕ, zero, suc, ◌+◌, ◌≤◌, ◌<◌}
use native.Mathlib.Omega.{arith}
use mathlib.Core.Path.{◌≡◌, refl, sym, ap, ap₂, ◌∙◌, subst}
use mathlib.Core.Bool.{Bool, true, false, cond}
use mathlib.Core.Logic.{◌↔◌, ◌⊎◌, inl, inr, ⊎_elim}
use mathlib.Core.List.Memᴰ
use mathlib.Core.List.Memᴰ.{append_cases}
use mathlib.Core.List.Memᴰ.{eq_of_singleton as only}
use mathlib.Core.List.Memᴰ.{head as here}
use mathlib.Core.List.Memᴰ.{not-nil}
use mathlib.Core.List.Memᴰ.{tail as there}
use mathlib.Core.List.{List, [], ◌∷◌, ◌++◌, map, append_assoc, append-nil, append_cancel_left}
use lib.Dec.{eqb, eqb→eq}
use lib.ListN.{length, get_or, take, length-append}
use Rattle.cfg.specs.Grammar.{Word, Grammar, Accepted}
use Rattle.k_tuple.specs.Strings.{eps}
use Rattle.k_tuples.specs.Sets.{◌∈◌}
use Rattle.k_tuples.proofs.Sorted.{cases}
use Rattle.k_tuples.proofs.Tests.{unpassed}
use Rattle.first_theory.proofs.WordSets.{str-inj}
use Rattle.decision_theory.specs.Needed.{Rising, Decided, RightFor, right-one, right-several}
use Rattle.decision_theory.specs.Automaton.{Entry, entries_of, behind, letters, accepts, below, nodes, Edge, State, edges_from, states_from, state_at, automaton, along}
use Rattle.decision_theory.specs.Marking.{Row, row_at, accepted, accepted_here, for_each, list_from, entry_row, automaton_rows, rows_from, automata_rows, wanted_rows, wanted_from, mark_rows}
use Rattle.decision_theory.proofs.Tree.{entry, OneEach, behind-none, along-none, among, letters-rising, accepts-means, state-is, child-at, root-inside, root_is}
use Rattle.decision_theory.proofs.Lists.{at_place}
use Rattle.decision_theory.proofs.Automaton.{entries-are, entries-short, entries-one, AllRight}
use Rattle.decision_theory.proofs.Marking.{row, row_same, undecided, rows-from, WantedAt, several-rows, wanted-means, accepted-exactly}

-- ---- the nodes, listed

-- The strings that end at a node or below it, by fewer than `depth` terminals more; x leads to it.
pub tree_list : ℕ → List Entry → Word → List Entry
tree_list zero N x = []
tree_list (suc depth) N x = accepted_here (accepts N) x ++ for_each (λ (t : ℕ). tree_list depth (behind t N) (x ++ t ∷ [])) (letters N)

-- Over transitions, as over their terminals.
over-edges : (F : ℕ → ℕ → List Entry) (G : ℕ → List Entry) (next : ℕ) (ts : List ℕ) → ((j : ℕ) → j < length ts → F (get_or ts j 0) (next + j) ≡ G (get_or ts j 0))
    → for_each (λ (e : Edge). F e.by e.to) (edges_from next ts) ≡ for_each G ts
over-edges F G next [] h = refl
over-edges F G next (t ∷ ts) h =
    ap₂ {C = List Entry} ◌++◌ (let z : next + 0 ≡ next = omega arith in rw z at (h 0 (omega arith)))
    (over-edges F G (suc next) ts (λ j l. let z : next + suc j ≡ suc next + j = omega arith in rw z at (h (suc j) (omega arith))))

module _ (depth : ℕ) (R : List Entry) (short : (e : Entry) → e ∈ R → length e.word ≤ depth) where
  -- all nodes
  abbrev Ns : List (List Entry)
  Ns = nodes (suc depth) (R ∷ [])

  -- Listing the states is listing the nodes.
  list-nodes : (f s : ℕ) (x : Word) → s < length Ns → list_from f (states_from 1 Ns) s x ≡ tree_list f (get_or Ns s []) x
  unfolding list_from tree_list
  list-nodes zero s x h = refl
  list-nodes (suc f) s x h = by (list-nodes f)
    where
      N : List Entry
      N = get_or Ns s []

      by : ((s : ℕ) (x : Word) → s < length Ns → list_from f (states_from 1 Ns) s x ≡ tree_list f (get_or Ns s []) x)
          → accepted_here (state_at (states_from 1 Ns) s).accepting x ++ for_each (λ (e : Edge). list_from f (states_from 1 Ns) e.to (x ++ e.by ∷ [])) (state_at (states_from 1 Ns) s).edges
          ≡ accepted_here (accepts N) x ++ for_each (λ (t : ℕ). tree_list f (behind t N) (x ++ t ∷ [])) (letters N)
      by rest =
          ap (λ (a : State). accepted_here a.accepting x ++ for_each (λ (e : Edge). list_from f (states_from 1 Ns) e.to (x ++ e.by ∷ [])) a.edges) (state-is 1 Ns s h)
          ∙ ap (λ (l : List Entry). accepted_here (accepts N) x ++ l)
          (over-edges (λ (t to : ℕ). list_from f (states_from 1 Ns) to (x ++ t ∷ [])) (λ (t : ℕ). tree_list f (behind t N) (x ++ t ∷ [])) (1 + length (below (take s Ns))) (letters N)
          (λ j l.
          let (inside, child) = child-at depth R short s j h l in
          let z : 1 + length (below (take s Ns)) + j ≡ suc (length (below (take s Ns)) + j) = omega arith in
          ap (λ (n : ℕ). list_from f (states_from 1 Ns) n (x ++ get_or (letters N) j 0 ∷ [])) z
          ∙ rest (suc (length (below (take s Ns)) + j)) (x ++ get_or (letters N) j 0 ∷ []) inside
          ∙ ap (λ (M : List Entry). tree_list f M (x ++ get_or (letters N) j 0 ∷ [])) child))

  -- From the first state on.
  pub list-tree : (f : ℕ) → list_from f (states_from 1 Ns) 0 [] ≡ tree_list f R []
  list-tree f = list-nodes f 0 [] (root-inside depth R short) ∙ ap (λ (N : List Entry). tree_list f N []) (root_is depth R short)

-- ---- what is listed

-- What one gives, all give.
in-each : {X : Type 0} (f : X → List Entry) (xs : List X) (x : X) (e : Entry) → x ∈ xs → e ∈ f x → e ∈ for_each f xs
in-each f [] x e m n = absurd (not-nil m)
in-each f (y ∷ xs) x e m n = cases m (λ (q : x ≡ y). Memᴰ.append_left (for_each f xs) (subst (λ u. e ∈ f u) q n)) (λ i. Memᴰ.append_right (f y) (in-each f xs x e i n))

-- What all give, one gives.
of-each : {X : Type 0} (f : X → List Entry) (xs : List X) (e : Entry) → e ∈ for_each f xs → (x : X) × (x ∈ xs) × (e ∈ f x)
of-each f [] e m = absurd (not-nil m)
of-each f (y ∷ xs) e m = ⊎_elim (λ n. (y, here refl, n)) (λ n. let (x, i, j) = of-each f xs e n in (x, there i, j)) (append_cases (f y) m)

-- A string that leads on to a production is listed.
listed : (f : ℕ) (N : List Entry) (x y : Word) (i : ℕ) → length y < f → accepts (along y N) ≡ suc i → entry (x ++ y) i ∈ tree_list f N x
unfolding tree_list accepts
listed zero N x y i h e = absurd (omega arith)
listed (suc f) N x [] i h e = rw append-nil (Memᴰ.append_left {s = accepted_here (accepts N) x} (for_each (λ (t : ℕ). tree_list f (behind t N) (x ++ t ∷ [])) (letters N)) (rw e (here refl)))
listed (suc f) N x (t ∷ y) i h e = by (among t (letters N)) (listed f (behind t N) (x ++ t ∷ []) y i (omega arith) e)
  where
    by : (t ∈ letters N) ⊎ (¬ (t ∈ letters N)) → entry ((x ++ t ∷ []) ++ y) i ∈ tree_list f (behind t N) (x ++ t ∷ [])
        → entry (x ++ t ∷ y) i ∈ (accepted_here (accepts N) x ++ for_each (λ (t : ℕ). tree_list f (behind t N) (x ++ t ∷ [])) (letters N))
    by (inl m) rest =
        Memᴰ.append_right (accepted_here (accepts N) x)
        (in-each (λ (t : ℕ). tree_list f (behind t N) (x ++ t ∷ [])) (letters N) t (entry (x ++ t ∷ y) i) m (rw (append_assoc x (t ∷ []) y) at rest))
    by (inr n) rest = absurd (omega (arith, sym (ap (λ (M : List Entry). accepts (along y M)) (behind-none t N n) ∙ ap accepts (along-none y)) ∙ e))

-- And nothing else.
listed-only : (f : ℕ) (N : List Entry) (x : Word) (e : Entry) → e ∈ tree_list f N x → (y : Word) × (e.word ≡ x ++ y) × (accepts (along y N) ≡ suc e.production)
unfolding tree_list
listed-only zero N x e m = absurd (not-nil m)
listed-only (suc f) N x e m =
    ⊎_elim (λ n. top (accepts N) refl n)
    (λ n.
    let (t, i, j) = of-each (λ (t : ℕ). tree_list f (behind t N) (x ++ t ∷ [])) (letters N) e n in
    let (y, q, a) = listed-only f (behind t N) (x ++ t ∷ []) e j in
    (t ∷ y, q ∙ append_assoc x (t ∷ []) y, a))
    (append_cases (accepted_here (accepts N) x) m)
  where
    top : (a : ℕ) → accepts N ≡ a → e ∈ accepted_here a x → (y : Word) × (e.word ≡ x ++ y) × (accepts (along y N) ≡ suc e.production)
    top zero q n = absurd (not-nil n)
    top (suc i) q n = let s = only n in ([], ap (λ (e : Entry). e.word) s ∙ sym (append-nil x), q ∙ ap suc (sym (ap (λ (e : Entry). e.production) s)))

-- ---- none twice

-- No word twice.
abbrev Distinct : List Entry → Type 0
Distinct [] = Unit {0}
Distinct (e ∷ es) = ((d : Entry) → d ∈ es → ¬ (e.word ≡ d.word)) × Distinct es

-- Two lists without a word in common.
distinct_append : (L M : List Entry) → Distinct L → Distinct M → ((d e : Entry) → d ∈ L → e ∈ M → ¬ (d.word ≡ e.word)) → Distinct (L ++ M)
distinct_append [] M p q h = q
distinct_append (e ∷ L) M p q h = (λ d m. ⊎_elim (p.0 d) (h e d (here refl)) (append_cases L m), distinct_append L M p.1 q (λ d c m n. h d c (there m) n))

-- Words that go on by different terminals differ.
same_next : (x y z : Word) (t u : ℕ) → (x ++ t ∷ []) ++ y ≡ (x ++ u ∷ []) ++ z → t ≡ u
same_next x y z t u e = head (append_cancel_left x (t ∷ y) (u ∷ z) (sym (append_assoc x (t ∷ []) y) ∙ e ∙ append_assoc x (u ∷ []) z))
  where
    head : t ∷ y ≡ u ∷ z → t ≡ u
    head q = cc

-- No word is listed twice.
list-distinct : (f : ℕ) (N : List Entry) (x : Word) → Distinct (tree_list f N x)
unfolding tree_list
list-distinct zero N x = tt
list-distinct (suc f) N x =
    distinct_append (accepted_here (accepts N) x) (for_each rest (letters N)) (alone (accepts N)) (many (letters N) (letters-rising N) (λ t. list-distinct f (behind t N) (x ++ t ∷ [])))
    (λ d e m n q.
    let (t, i, j) = of-each rest (letters N) e n in
    let (y, w, _) = listed-only f (behind t N) (x ++ t ∷ []) e j in
    let long : length x ≡ length x + 1 + length y = ap length (sym (top (accepts N) d m) ∙ q ∙ w) ∙ length-append (x ++ t ∷ []) y ∙ ap (λ (n : ℕ). n + length y) (length-append x (t ∷ [])) in
    omega arith)
  where
    rest : ℕ → List Entry
    rest t = tree_list f (behind t N) (x ++ t ∷ [])

    alone : (a : ℕ) → Distinct (accepted_here a x)
    alone zero = tt
    alone (suc i) = (λ d m. absurd (not-nil m), tt)

    top : (a : ℕ) (d : Entry) → d ∈ accepted_here a x → d.word ≡ x
    top zero d m = absurd (not-nil m)
    top (suc i) d m = ap (λ (e : Entry). e.word) (only m)

    many : (ts : List ℕ) → Rising ts → ((t : ℕ) → Distinct (rest t)) → Distinct (for_each rest ts)
    many [] up all = tt
    many (t ∷ ts) up all =
        distinct_append (rest t) (for_each rest ts) (all t) (many ts up.1 all)
        (λ d e m n q.
        let (u, i, j) = of-each rest ts e n in
        let (y, w, _) = listed-only f (behind t N) (x ++ t ∷ []) d m in
        let (z, v, _) = listed-only f (behind u N) (x ++ u ∷ []) e j in
        let same : t ≡ u = same_next x y z t u (sym w ∙ q ∙ v) in
        let before = up.0 u i in
        omega arith)

-- ---- as rows

-- The rows of an automaton are those wanted.
rows-wanted : (g : Grammar) → Accepted g → (A : ℕ) (d : Decided) → RightFor g A d → (r : Row) → r ∈ automaton_rows A d ↔ r ∈ wanted_rows A d
unfolding automaton_rows wanted_rows
rows-wanted g ok A d (right-one o one) r = (λ m. m, λ m. m)
rows-wanted g ok A d (right-several {k = k} {xs = xs} n k>0 each s needs) r = (
  λ m.
      let p : r ∈ map (entry_row A) (tree_list (suc k) R []) = rw (positive, are) at m in
      let (e, i, q) = Memᴰ.of_map (entry_row A) (tree_list (suc k) R []) p in
      let (y, w, a) = listed-only (suc k) R [] e i in
      let same : e.word ≡ y = w in
      let (o, h) = (entries-are g ok A k k>0 xs each e.word e.production).0 ((accepts-means R one e.word e.production).0 (rw same a)) in
      (several-rows g A k k>0 xs each s r).1 (subst (WantedAt g A k) q (record { of = refl; own = o; word = e.word; spelled = refl; ahead = h })),
  λ m.
      let w = (several-rows g A k k>0 xs each s r).0 m in
      let j : entry w.word r.production ∈ R = (entries-are g ok A k k>0 xs each w.word r.production).1 (w.own, w.ahead) in
      let i : entry w.word r.production ∈ tree_list (suc k) R [] =
      listed (suc k) R [] w.word r.production (let l = entries-short g ok A k k>0 xs each (entry w.word r.production) j in omega arith) ((accepts-means R one w.word r.production).1 j) in
      let q : r ≡ entry_row A (entry w.word r.production) = row_same r (entry_row A (entry w.word r.production)) w.of w.spelled refl in
      rw (positive, are) (Memᴰ.cast q (Memᴰ.map (entry_row A) i)),
)
  where
    R : List Entry
    R = entries_of xs

    one : OneEach R
    one = entries-one g ok A k k>0 xs each s

    positive : eqb k 0 ≡ false
    positive = unpassed (eqb k 0) (λ t. omega (arith, eqb→eq k 0 t))

    are : list_from (suc k) (automaton (record { k = k; choices = xs })) 0 [] ≡ tree_list (suc k) R []
    are = unfold automaton in list-tree k R (entries-short g ok A k k>0 xs each) (suc k)

-- No row twice.
abbrev NoRepeat : List Row → Type 0
NoRepeat [] = Unit {0}
NoRepeat (r ∷ rows) = ((s : Row) → s ∈ rows → ¬ (r ≡ s)) × NoRepeat rows

-- Two lists without a row in common.
repeat-append : (L M : List Row) → NoRepeat L → NoRepeat M → ((r s : Row) → r ∈ L → s ∈ M → ¬ (r ≡ s)) → NoRepeat (L ++ M)
repeat-append [] M p q h = q
repeat-append (r ∷ L) M p q h = (λ s m. ⊎_elim (p.0 s) (h r s (here refl)) (append_cases L m), repeat-append L M p.1 q (λ s t m n. h s t (there m) n))

-- Words that differ give rows that differ.
entries-differ : (A : ℕ) (es : List Entry) → Distinct es → NoRepeat (map (entry_row A) es)
entries-differ A [] h = tt
entries-differ A (e ∷ es) h = (
  λ s m q.
      let (d, n, f) = Memᴰ.of_map (entry_row A) es m in
      h.0 d n (str-inj e.word d.word (ap (λ (r : Row). r.string) (q ∙ sym f))),
  entries-differ A es h.1,
)

-- No row of an automaton is given twice.
rows-differ : (g : Grammar) → Accepted g → (A : ℕ) (d : Decided) → RightFor g A d → NoRepeat (automaton_rows A d)
unfolding automaton_rows automaton
rows-differ g ok A d (right-one o one) = tt
rows-differ g ok A d (right-several {k = k} {xs = xs} n k>0 each s needs) =
    rw (unpassed (eqb k 0) (λ t. omega (arith, eqb→eq k 0 t)), list-tree k (entries_of xs) (entries-short g ok A k k>0 xs each) (suc k))
    (entries-differ A (tree_list (suc k) (entries_of xs) []) (list-distinct (suc k) (entries_of xs) []))

-- They are A's.
rows-of : (A : ℕ) (d : Decided) (r : Row) → r ∈ automaton_rows A d → r.nonterminal ≡ A
unfolding automaton_rows
rows-of A d r m = by (eqb d.k 0) m
  where
    by : (b : Bool) → r ∈ cond b [] (map (entry_row A) (list_from (suc d.k) (automaton d) 0 [])) → r.nonterminal ≡ A
    by true m = absurd (not-nil m)
    by false m = let (y, n, e) = Memᴰ.of_map (entry_row A) (list_from (suc d.k) (automaton d) 0 []) m in ap (λ (r : Row). r.nonterminal) (sym e)

-- No row of all automata is given twice.
all-differ : (g : Grammar) → Accepted g → (A : ℕ) (ds : List Decided) → ((j : ℕ) → j < length ds → RightFor g (A + j) (get_or ds j undecided)) → NoRepeat (rows_from automaton_rows A ds)
unfolding rows_from
all-differ g ok A [] right = tt
all-differ g ok A (d ∷ ds) right =
    repeat-append (automaton_rows A d) (rows_from automaton_rows (suc A) ds)
    (rows-differ g ok A d (let z : A + 0 ≡ A = omega arith in rw z at (right 0 (omega arith))))
    (all-differ g ok (suc A) ds (λ j h. let z : A + suc j ≡ suc A + j = omega arith in rw z at (right (suc j) (omega arith))))
    (λ r s m n q.
    let a = rows-of A d r m in
    let (j, h, i) = (rows-from automaton_rows (suc A) ds s).0 n in
    let b = rows-of (suc A + j) (get_or ds j undecided) s i in
    let same : r.nonterminal ≡ s.nonterminal = ap (λ (r : Row). r.nonterminal) q in
    omega arith)

-- So no two places have one row.
once-at : (rows : List Row) → NoRepeat rows → (i j : ℕ) → i < j → j < length rows → ¬ (row_at rows i ≡ row_at rows j)
once-at [] p i j l h = absurd (omega arith)
once-at (r ∷ rows) p i zero l h = absurd (omega arith)
once-at (r ∷ rows) p zero (suc j) l h = p.0 (row_at rows j) (at_place rows (row 0 eps 0) j (omega arith))
once-at (r ∷ rows) p (suc i) (suc j) l h = once-at rows p.1 i j (omega arith) (omega arith)

-- The automata, those with k = 0 left aside, listed as rows, are always accepted.
pub automata-accepted : (g : Grammar) → Accepted g → (ds : List Decided) → AllRight g ds → mark_rows (wanted_from 0 ds) (automata_rows ds) ≡ accepted
automata-accepted g ok ds all = (accepted-exactly g ds all (automata_rows ds)).1 (record {
  wanted = λ r m. (wanted-means g ds all r).0 ((same r).0 m);
  once = once-at (automata_rows ds) (all-differ g ok 0 ds (λ j h. let z : 0 + j ≡ j = omega arith in rw z (right-at j h)));
  whole = λ r w. (same r).1 ((wanted-means g ds all r).1 w);
})
  where
    right-at : (j : ℕ) → j < length ds → RightFor g j (get_or ds j undecided)
    right-at j h = all.right j undecided (rw all.one_each at h)

    same : (r : Row) → r ∈ automata_rows ds ↔ r ∈ wanted_from 0 ds
    same r = (
      λ m.
          let (j, h, n) = (rows-from automaton_rows 0 ds r).0 m in
          let z : 0 + j ≡ j = omega arith in
          (rows-from wanted_rows 0 ds r).1 (j, h, rw z ((rows-wanted g ok j (get_or ds j undecided) (right-at j h) r).0 (rw z at n))),
      λ m.
          let (j, h, n) = (rows-from wanted_rows 0 ds r).0 m in
          let z : 0 + j ≡ j = omega arith in
          (rows-from automaton_rows 0 ds r).1 (j, h, rw z ((rows-wanted g ok j (get_or ds j undecided) (right-at j h) r).1 (rw z at n))),
    )
