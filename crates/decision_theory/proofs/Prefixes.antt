-- The states of the tree are the prefixes of the strings, each once, breadth first. Assumes nothing.
use Prim.Native.Nat.{ℕ, zero, suc, ◌+◌, ◌≤◌, ◌<◌}
use native.Mathlib.Omega.{arith}
use mathlib.Core.Path.{◌≡◌, refl, sym, ap, ap₂, ◌∙◌, subst}
use mathlib.Core.Logic.{◌↔◌, inl, inr, ⊎_elim}
use mathlib.Core.List.Memᴰ
use mathlib.Core.List.Memᴰ.{append_cases}
use mathlib.Core.List.Memᴰ.{head as here}
use mathlib.Core.List.Memᴰ.{not-nil}
use mathlib.Core.List.Memᴰ.{tail as there}
use mathlib.Core.List.{List, [], ◌∷◌, ◌++◌, map, map-append, append_assoc, append-nil}
use lib.ListN.{take-append-drop, length, get_or, take, drop, length-append, length-map, get_or-append}
use lib.Seq.{take-suc, split_at, get_or-append-add}
use Rattle.cfg.specs.Grammar.{Word}
use Rattle.k_tuples.specs.Sets.{◌∈◌}
use Rattle.k_tuples.proofs.Sorted.{cases}
use Rattle.decision_theory.specs.Needed.{Rising}
use Rattle.decision_theory.specs.Automaton.{Entry, behind, letters, below, nodes, Edge, State, edges_from, states_from, state_at, along, longer, prefixes, Begins, Lower, Shallower, BreadthFirst, Numbered}
use Rattle.decision_theory.proofs.Lists.{map_at}
use Rattle.decision_theory.proofs.Tree.{entry, along-more, letters-means, letters-rising, along-means, Shallow, Short, shallow-below, state-is, states-length, edge_in, terminals-of}

module _ (R : List Entry) where
  -- The nodes that some prefixes lead to.
  abbrev nodes_of : List Word → List (List Entry)
  nodes_of L = map (λ (x : Word). along x R) L

  -- The prefixes longer than x lead to its node's children.
  children-of : (x : Word) (ts : List ℕ) → nodes_of (map (λ (t : ℕ). x ++ t ∷ []) ts) ≡ map (λ t. behind t (along x R)) ts
  children-of x [] = refl
  children-of x (t ∷ ts) = ap₂ ◌∷◌ (along-more x t R) (children-of x ts)

  -- The prefixes longer than some lead to the nodes below theirs.
  longer-below : (L : List Word) → nodes_of (longer R L) ≡ below (nodes_of L)
  unfolding longer below
  longer-below [] = refl
  longer-below (x ∷ L) = map-append (λ (x : Word). along x R) (map (λ (t : ℕ). x ++ t ∷ []) (letters (along x R))) (longer R L) ∙ ap₂ ◌++◌ (children-of x (letters (along x R))) (longer-below L)

  -- The nodes are those that the prefixes lead to.
  pub prefixes-nodes : (depth : ℕ) (L : List Word) → nodes_of (prefixes R depth L) ≡ nodes depth (nodes_of L)
  unfolding prefixes nodes
  prefixes-nodes zero L = refl
  prefixes-nodes (suc depth) L =
      map-append (λ (x : Word). along x R) L (prefixes R depth (longer R L))
      ∙ ap (λ (M : List (List Entry)). nodes_of L ++ M) (prefixes-nodes depth (longer R L) ∙ ap (nodes depth) (longer-below L))

  -- A prefix goes on by t exactly when some string begins with both.
  pub goes_on : (x : Word) (t : ℕ) → t ∈ letters (along x R) ↔ ((w : Word) × (i : ℕ) × (entry (x ++ t ∷ w) i ∈ R))
  goes_on x t = (
    λ m. let (w, i, n) = (letters-means t (along x R)).0 m in (w, i, (along-means x R (t ∷ w) i).0 n),
    λ (w, i, n). (letters-means t (along x R)).1 (w, i, (along-means x R (t ∷ w) i).1 n),
  )

-- ---- the prefixes are all

module _ (R : List Entry) where
  -- A prefix that is longer by one than one of these.
  in-longer : (L : List Word) (y : Word) → y ∈ longer R L ↔ ((x : Word) × (t : ℕ) × (x ∈ L) × (t ∈ letters (along x R)) × (x ++ t ∷ [] ≡ y))
  unfolding longer
  in-longer [] y = (λ m. absurd (not-nil m), λ p. absurd (not-nil p.2))
  in-longer (x ∷ L) y = (
    λ m. ⊎_elim (λ n. let (t, i, e) = Memᴰ.of_map (λ (t : ℕ). x ++ t ∷ []) (letters (along x R)) n in (x, t, here refl, i, e))
        (λ n. let (z, t, i, j, e) = (in-longer L y).0 n in (z, t, there i, j, e)) (append_cases (map (λ (t : ℕ). x ++ t ∷ []) (letters (along x R))) m),
    λ (z, t, i, j, e). cases i
        (λ (q : z ≡ x).
        Memᴰ.append_left (longer R L)
        (Memᴰ.cast (sym e ∙ ap (λ (v : Word). v ++ t ∷ []) q) (Memᴰ.map (λ (t : ℕ). x ++ t ∷ []) (subst (λ (v : Word). t ∈ letters (along v R)) q j))))
        (λ n. Memᴰ.append_right (map (λ (t : ℕ). x ++ t ∷ []) (letters (along x R))) ((in-longer L y).1 (z, t, n, j, e))),
  )

  -- Prefixes lead from L by at most `depth` terminals less one.
  prefixes-sound : (depth : ℕ) (L : List Word) → ((x : Word) → x ∈ L → Begins R x) → (y : Word) → y ∈ prefixes R depth L → Begins R y
  unfolding prefixes
  prefixes-sound zero L all y m = absurd (not-nil m)
  prefixes-sound (suc depth) L all y m =
      ⊎_elim (all y)
      (prefixes-sound depth (longer R L) (λ x n.
      let (z, t, i, j, e) = (in-longer L x).0 n in
      let (w, p, k) = (goes_on R z t).0 j in
      inr (w, p, subst (λ (v : Word). entry v p ∈ R) (sym (append_assoc z (t ∷ []) w) ∙ ap (λ (v : Word). v ++ w) e) k)) y)
      (append_cases L m)

  -- And every prefix that is not too deep is there.
  prefixes-whole : (depth : ℕ) (L : List Word) (x y w : Word) (i : ℕ) → x ∈ L → length y < depth → entry (x ++ y ++ w) i ∈ R → (x ++ y) ∈ prefixes R depth L
  unfolding prefixes
  prefixes-whole zero L x y w i m h n = absurd (omega arith)
  prefixes-whole (suc depth) L x [] w i m h n = rw append-nil (Memᴰ.append_left {s = L} (prefixes R depth (longer R L)) m)
  prefixes-whole (suc depth) L x (t ∷ y) w i m h n =
      Memᴰ.append_right L
      (subst (λ (v : Word). v ∈ prefixes R depth (longer R L)) (append_assoc x (t ∷ []) y)
      (prefixes-whole depth (longer R L) (x ++ t ∷ []) y w i
      ((in-longer L (x ++ t ∷ [])).1 (x, t, m, (goes_on R x t).1 (y ++ w, i, n'), refl)) (omega arith)
      (subst (λ (v : Word). entry (v ++ w) i ∈ R) (sym (append_assoc x (t ∷ []) y)) n)))
    where
      n' : entry (x ++ t ∷ (y ++ w)) i ∈ R
      n' = subst (λ (v : Word). entry v i ∈ R) (append_assoc x (t ∷ y) w) n

  -- ---- in order

  -- Two lists in order, the first before the second.
  breadth-append : (L M : List Word) → BreadthFirst L → BreadthFirst M → ((x y : Word) → x ∈ L → y ∈ M → Shallower x y) → BreadthFirst (L ++ M)
  breadth-append [] M p q h = q
  breadth-append (x ∷ L) M p q h = (λ y m. ⊎_elim (p.0 y) (h x y (here refl)) (append_cases L m), breadth-append L M p.1 q (λ u v m n. h u v (there m) n))

  -- One terminal more keeps the order.
  lower-more : (x y : Word) (t u : ℕ) → length x ≡ length y → Lower x y → Lower (x ++ t ∷ []) (y ++ u ∷ [])
  lower-more [] y t u e l = absurd l
  lower-more (a ∷ x) [] t u e l = absurd l
  lower-more (a ∷ x) (b ∷ y) t u e (inl h) = inl h
  lower-more (a ∷ x) (b ∷ y) t u e (inr (q, l)) = inr (q, lower-more x y t u (omega arith) l)

  -- So does a last terminal that is lower.
  lower_last : (x : Word) (t u : ℕ) → t < u → Lower (x ++ t ∷ []) (x ++ u ∷ [])
  lower_last [] t u h = inl h
  lower_last (a ∷ x) t u h = inr (refl, lower_last x t u h)

  -- A level: words of one length.
  abbrev Level : ℕ → List Word → Type 0
  Level n L = (x : Word) → x ∈ L → length x ≡ n

  -- It is longer by one.
  one-longer : (x : Word) (t : ℕ) → length (x ++ t ∷ []) ≡ suc (length x)
  one-longer x t = length-append x (t ∷ []) ∙ omega arith

  -- The prefixes longer by one are a level again.
  longer-level : (n : ℕ) (L : List Word) → Level n L → Level (suc n) (longer R L)
  longer-level n L all y m = let (x, t, i, j, e) = (in-longer L y).0 m in ap length (sym e) ∙ one-longer x t ∙ ap suc (all x i)

  -- Those of one prefix are in the order of their terminals.
  letters-order : (x : Word) (ts : List ℕ) → Rising ts → BreadthFirst (map (λ (t : ℕ). x ++ t ∷ []) ts)
  letters-order x [] up = tt
  letters-order x (t ∷ ts) up = (
    λ y m.
        let (u, i, e) = Memᴰ.of_map (λ (t : ℕ). x ++ t ∷ []) ts m in
        subst (Shallower (x ++ t ∷ [])) e (inr (one-longer x t ∙ sym (one-longer x u), lower_last x t u (up.0 u i))),
    letters-order x ts up.1,
  )

  -- The order of one level, which has one length, is that of its terminals.
  same-level : (x y : Word) → length x ≡ length y → Shallower x y → Lower x y
  same-level x y e (inl h) = absurd (omega arith)
  same-level x y e (inr (q, l)) = l

  -- And those of a level in order are in order.
  longer-order : (n : ℕ) (L : List Word) → Level n L → BreadthFirst L → BreadthFirst (longer R L)
  unfolding longer
  longer-order n [] all up = tt
  longer-order n (x ∷ L) all up =
      breadth-append (map (λ (t : ℕ). x ++ t ∷ []) (letters (along x R))) (longer R L) (letters-order x (letters (along x R)) (letters-rising (along x R)))
      (longer-order n L (λ y m. all y (there m)) up.1)
      (λ u v m q.
      let (t, i, e) = Memᴰ.of_map (λ (t : ℕ). x ++ t ∷ []) (letters (along x R)) m in
      let (y, s, j, k, f) = (in-longer L v).0 q in
      let same : length x ≡ length y = all x (here refl) ∙ sym (all y (there j)) in
      subst (Shallower u) f
      (subst (λ (w : Word). Shallower w (y ++ s ∷ [])) e
      (inr (one-longer x t ∙ ap suc same ∙ sym (one-longer y s), lower-more x y t s same (same-level x y same (up.0 y j))))))

  -- No prefix is shorter than those that it goes on from.
  deeper : (depth n : ℕ) (L : List Word) → Level n L → (y : Word) → y ∈ prefixes R depth L → n ≤ length y
  unfolding prefixes
  deeper zero n L all y m = absurd (not-nil m)
  deeper (suc depth) n L all y m =
      ⊎_elim (λ i. let e = all y i in omega arith) (λ i. let h = deeper depth (suc n) (longer R L) (longer-level n L all) y i in omega arith) (append_cases L m)

  -- All prefixes are in order.
  prefixes-order : (depth n : ℕ) (L : List Word) → Level n L → BreadthFirst L → BreadthFirst (prefixes R depth L)
  unfolding prefixes
  prefixes-order zero n L all up = tt
  prefixes-order (suc depth) n L all up =
      breadth-append L (prefixes R depth (longer R L)) up (prefixes-order depth (suc n) (longer R L) (longer-level n L all) (longer-order n L all up))
      (λ x y m i. let e = all x m in let h = deeper depth (suc n) (longer R L) (longer-level n L all) y i in inl (omega arith))

  -- ---- where transitions lead

  -- What is longer than two lists of prefixes.
  longer-append : (L M : List Word) → longer R (L ++ M) ≡ longer R L ++ longer R M
  unfolding longer
  longer-append [] M = refl
  longer-append (x ∷ L) M = ap (λ (r : List Word). map (λ (t : ℕ). x ++ t ∷ []) (letters (along x R)) ++ r) (longer-append L M) ∙ sym (append_assoc (map (λ (t : ℕ). x ++ t ∷ []) (letters (along x R))) (longer R L) (longer R M))

  -- Breadth first, what is longer than all prefixes are all prefixes but the first.
  prefixes-again : (depth : ℕ) (L : List Word) → Shallow depth (nodes_of R L) → prefixes R depth L ≡ L ++ longer R (prefixes R depth L)
  unfolding prefixes longer
  prefixes-again zero [] h = refl
  prefixes-again zero (x ∷ L) h = let (e, m) = h.some (along x R) (here refl) in absurd (omega (arith, h.short (along x R) (here refl) e m))
  prefixes-again (suc depth) L h =
      ap (λ (M : List Word). L ++ M)
      (prefixes-again depth (longer R L) (subst (Shallow depth) (sym (longer-below R L)) (shallow-below depth (nodes_of R L) h.short))
      ∙ sym (longer-append L (prefixes R depth (longer R L))))

  -- Prefixes that are all longer than one of them are none.
  none-self : (M : List Word) → M ≡ longer R M → M ≡ []
  none-self M e = by M refl
    where
      no_word : (n : ℕ) (y : Word) → y ∈ M → length y ≡ n → ⊥
      no_word zero y m h = let (x, t, i, j, q) = (in-longer M y).0 (subst (λ (L : List Word). y ∈ L) e m) in omega (arith, one-longer x t, ap length q)
      no_word (suc n) y m h = let (x, t, i, j, q) = (in-longer M y).0 (subst (λ (L : List Word). y ∈ L) e m) in no_word n x i (omega (arith, one-longer x t, ap length q))

      by : (L : List Word) → M ≡ L → M ≡ []
      by [] q = q
      by (y ∷ L) q = absurd (no_word (length y) y (rw q (here refl)) refl)

  -- A list that is L and what is longer than itself, as a queue ends, is all prefixes from L on.
  queue-ends : (depth : ℕ) (L P : List Word) → Shallow depth (nodes_of R L) → P ≡ L ++ longer R P → P ≡ prefixes R depth L
  unfolding prefixes longer
  queue-ends zero [] P h e = none-self P e
  queue-ends zero (x ∷ L) P h e = let (y, m) = h.some (along x R) (here refl) in absurd (omega (arith, h.short (along x R) (here refl) y m))
  queue-ends (suc depth) L P h e =
      e ∙ ap (λ (M : List Word). L ++ M)
      (queue-ends depth (longer R L) (longer R P) (subst (Shallow depth) (sym (longer-below R L)) (shallow-below depth (nodes_of R L) h.short))
      (ap (longer R) e ∙ longer-append L (longer R P)))

module _ (depth : ℕ) (R : List Entry) (short : (e : Entry) → e ∈ R → length e.word ≤ depth) where
  -- all prefixes
  abbrev xs : List Word
  xs = prefixes R (suc depth) ([] ∷ [])

  -- all nodes
  abbrev Ns : List (List Entry)
  Ns = nodes (suc depth) (R ∷ [])

  -- all states
  abbrev S : List State
  S = states_from 1 Ns

  -- The prefixes lead to the nodes.
  nodes-are : map (λ (x : Word). along x R) xs ≡ Ns
  nodes-are = prefixes-nodes R (suc depth) ([] ∷ [])

  -- There are as many.
  xs-length : length xs ≡ length Ns
  xs-length = sym (length-map xs (λ (x : Word). along x R)) ∙ ap length nodes-are

  -- Node s is that of prefix s.
  node_of : (s : ℕ) → s < length Ns → get_or Ns s [] ≡ along (get_or xs s []) R
  node_of s h = ap (λ (l : List (List Entry)). get_or l s []) (sym nodes-are) ∙ map_at (λ (x : Word). along x R) xs s [] [] (let e = xs-length in omega arith)

  -- All prefixes are the empty one and those longer than some.
  xs-again : xs ≡ [] ∷ longer R xs
  unfolding prefixes
  xs-again =
      ap (λ (M : List Word). [] ∷ M)
      (prefixes-again R depth (longer R ([] ∷ [])) (subst (Shallow depth) (sym (longer-below R ([] ∷ []))) (shallow-below depth (R ∷ []) all))
      ∙ sym (longer-append R ([] ∷ []) (prefixes R depth (longer R ([] ∷ [])))))
    where
      all : Short (suc depth) (R ∷ [])
      all N m e i = cases m (λ (f : N ≡ R). let h = short e (rw f at i) in omega arith) (λ n. absurd (not-nil n))

  -- A queue of prefixes: once those longer than every one of it stand in it, it is all prefixes.
  pub queue-end : (P : List Word) → P ≡ [] ∷ longer R P → P ≡ xs
  unfolding prefixes
  queue-end P e =
      e ∙ ap (λ (M : List Word). [] ∷ M)
      (queue-ends R depth (longer R ([] ∷ [])) (longer R P) (subst (Shallow depth) (sym (longer-below R ([] ∷ []))) (shallow-below depth (R ∷ []) all))
      (ap (longer R) e ∙ longer-append R ([] ∷ []) (longer R P)))
    where
      all : Short (suc depth) (R ∷ [])
      all N m e i = cases m (λ (f : N ≡ R). let h = short e (rw f at i) in omega arith) (λ n. absurd (not-nil n))

  -- While its first s have been taken, it is a first part of all prefixes.
  pub queue-inside : (P : List Word) (s : ℕ) → take s P ≡ take s xs → P ≡ [] ∷ longer R (take s P) → xs ≡ P ++ longer R (drop s xs)
  queue-inside P s same e =
      xs-again
      ∙ ap (λ (L : List Word). [] ∷ longer R L) (sym (take-append-drop s xs))
      ∙ ap (λ (L : List Word). [] ∷ L) (longer-append R (take s xs) (drop s xs))
      ∙ ap (λ (L : List Word). L ++ longer R (drop s xs)) (sym (e ∙ ap (λ (L : List Word). [] ∷ longer R L) same))

  -- One more is taken: its prefixes are put at the end.
  pub queue-turn : (P : List Word) (s : ℕ) → s < length P → longer R (take (suc s) P) ≡ longer R (take s P) ++ map (λ (t : ℕ). get_or P s [] ++ t ∷ []) (letters (along (get_or P s []) R))
  unfolding longer
  queue-turn P s h =
      ap (longer R) (take-suc P s [] h) ∙ longer-append R (take s P) (get_or P s [] ∷ [])
      ∙ ap (λ (L : List Word). longer R (take s P) ++ L) (append-nil (map (λ (t : ℕ). get_or P s [] ++ t ∷ []) (letters (along (get_or P s []) R))))

  -- as many longer prefixes as nodes below
  longer-count : (L : List Word) → length (longer R L) ≡ length (below (nodes_of R L))
  longer-count L = sym (length-map (longer R L) (λ (x : Word). along x R)) ∙ ap length (longer-below R L)

  -- The nodes of the first prefixes are the first nodes.
  take-map : (s : ℕ) (l : List Word) → nodes_of R (take s l) ≡ take s (nodes_of R l)
  take-map zero l = refl
  take-map (suc s) [] = refl
  take-map (suc s) (x ∷ l) = ap (λ (r : List (List Entry)). along x R ∷ r) (take-map s l)

  -- The j-th prefix that is longer by one than prefix s.
  longer-at : (s j : ℕ) → s < length Ns → j < length (letters (get_or Ns s [])) → get_or xs (suc (length (below (take s Ns)) + j)) [] ≡ get_or xs s [] ++ get_or (letters (get_or Ns s [])) j 0 ∷ []
  unfolding longer
  longer-at s j h l =
      let inside : s < length xs = let e = xs-length in omega arith in
      let x = get_or xs s [] in
      let ts = letters (along x R) in
      let same : letters (get_or Ns s []) ≡ ts = ap letters (node_of s h) in
      let count : length (longer R (take s xs)) ≡ length (below (take s Ns)) = longer-count (take s xs) ∙ ap (λ (l : List (List Entry)). length (below l)) (take-map s xs ∙ ap (take s) nodes-are) in
      let split : longer R xs ≡ longer R (take s xs) ++ (map (λ (t : ℕ). x ++ t ∷ []) ts ++ longer R (drop (suc s) xs)) = ap (longer R) (split_at xs s [] inside) ∙ longer-append R (take s xs) (x ∷ drop (suc s) xs) in
      let k : j < length ts = rw same at l in
      ap (λ (n : ℕ). get_or xs (suc (n + j)) []) (sym count)
      ∙ ap (λ (l : List Word). get_or l (suc (length (longer R (take s xs)) + j)) []) xs-again
      ∙ ap (λ (l : List Word). get_or l (length (longer R (take s xs)) + j) []) split
      ∙ get_or-append-add (longer R (take s xs)) (map (λ (t : ℕ). x ++ t ∷ []) ts ++ longer R (drop (suc s) xs)) j []
      ∙ get_or-append (map (λ (t : ℕ). x ++ t ∷ []) ts) (longer R (drop (suc s) xs)) [] j (rw (length-map ts (λ (t : ℕ). x ++ t ∷ [])) k)
      ∙ map_at (λ (t : ℕ). x ++ t ∷ []) ts j 0 [] k
      ∙ ap (λ (us : List ℕ). x ++ get_or us j 0 ∷ []) (sym same)

  -- The transitions of state s.
  edges_are : (s : ℕ) → s < length Ns → (state_at S s).edges ≡ edges_from (1 + length (below (take s Ns))) (letters (get_or Ns s []))
  edges_are s h = ap (λ (a : State). a.edges) (state-is 1 Ns s h)

  -- The states are the prefixes, numbered breadth first.
  pub tree-numbered : Numbered R xs S
  tree-numbered = record {
    all = λ x. (
      prefixes-sound R (suc depth) ([] ∷ []) (λ y m. cases m (λ e. inl e) (λ n. absurd (not-nil n))) x,
      ⊎_elim (λ (e : x ≡ []). rw e root)
          (λ (w, i, m).
          let h = short (entry (x ++ w) i) m in
          let l = length-append x w in
          prefixes-whole R (suc depth) ([] ∷ []) [] x w i (here refl) (omega arith) m),
    );
    in_order = prefixes-order R (suc depth) 0 ([] ∷ []) (λ x m. cases m (λ (e : x ≡ []). ap length e) (λ n. absurd (not-nil n))) (λ y m. absurd (not-nil m), tt);
    one_each = states-length 1 Ns ∙ sym xs-length;
    leads = λ s h e m.
        let l : s < length Ns = rw (states-length 1 Ns) at h in
        let (j, i, b, q) = edge_in (1 + length (below (take s Ns))) (letters (get_or Ns s [])) e (subst (λ (es : List Edge). e ∈ es) (edges_are s l) m) in
        let to : e.to ≡ suc (length (below (take s Ns)) + j) = q ∙ omega arith in
        ap (λ (n : ℕ). get_or xs n []) to ∙ longer-at s j l i ∙ ap (λ (t : ℕ). get_or xs s [] ++ t ∷ []) (sym b);
    goes_on = λ s h t.
        let l : s < length Ns = rw (states-length 1 Ns) at h in
        let same : map (λ (e : Edge). e.by) (state_at S s).edges ≡ letters (along (get_or xs s []) R) =
        ap (map (λ (e : Edge). e.by)) (edges_are s l) ∙ terminals-of (1 + length (below (take s Ns))) (letters (get_or Ns s [])) ∙ ap letters (node_of s l) in
        let x = get_or xs s [] in (
          λ m.
              let (w, i, n) = (goes_on R x t).0 (subst (λ (ts : List ℕ). t ∈ ts) same m) in
              inr (w, i, subst (λ (v : Word). entry v i ∈ R) (sym (append_assoc x (t ∷ []) w)) n),
          ⊎_elim (λ e. absurd (omega (arith, ap length e, length-append x (t ∷ []))))
              (λ (w, i, n). subst (λ (ts : List ℕ). t ∈ ts) (sym same) ((goes_on R x t).1 (w, i, subst (λ (v : Word). entry v i ∈ R) (append_assoc x (t ∷ []) w) n))),
        );
  }
    where
      root : [] ∈ xs
      root = rw xs-again (here refl)
