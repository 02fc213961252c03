-- What is written of the queue is the automaton of the strings. Assumes nothing.
use Prim.Native.Nat.{ℕ, zero, suc, ◌+◌, ◌-◌, ◌/◌, ◌%◌, ◌≤◌, ◌<◌}
use native.Mathlib.Omega.{arith}
use native.Mathlib.Decide.{dec_lt}
use mathlib.Core.Path.{◌≡◌, refl, sym, ap, ap₂, ◌∙◌, subst}
use mathlib.Core.Bool.{Bool, true, false, cond}
use mathlib.Core.List.{List, [], ◌∷◌, ◌++◌, map}
use lib.Dec.{eqb, eqb_refl, eqb→eq}
use lib.ListN.{length, get_or, take, drop, length-append, length-map, drop_of_length-le, take-append-drop}
use lib.Seq.{length-take-le, take_all, get_or-take, get_or_at, drop-cons, drop_at, drop-drop, sets-eq}
use Rattle.cfg.specs.Grammar.{Word}
use Rattle.k_tuples.specs.Sets.{◌∈◌}
use Rattle.k_tuples.proofs.Tests.{passed, fails, unpassed}
use Rattle.decision_theory.specs.Automaton.{Entry, accepts, along, longer, prefixes, nodes, edges_from, states_from, edge_numbers, state_numbers, automaton_numbers}
use Rattle.decision_theory.proofs.Lists.{map_at}
use Rattle.decision_theory.proofs.Tree.{entry, accepts-means, along-none, states-length}
use Rattle.decision_theory.proofs.Prefixes.{prefixes-nodes}
use Rattle.trees.specs.Listed.{Listed, word_at, production_at, entry_at, entries}
use Rattle.trees.specs.Queue.{prefix_of, prefixes_in, State, letters_at, longer_by, Within, Tree, Built, built}
use Rattle.trees.specs.Queue as queued
use Rattle.trees.specs.Output.{accept_of, letter_of, edges_in, states_in, kids_from, States, Puts}
use Rattle.trees.specs.Answer.{tree_of, bytes_of, Apart, Strings, over, sized, too_many, no_room, wrote, Measured, Written}
use Rattle.std.specs.Prelude.{Result, Ok, Err}
use Rattle.refusals.specs.declared.Refusal.{Refusal}
use Rattle.refusals.specs.declared.Refusal.TheVariants.{TooManyStates, LentTooFew}
use Rattle.cfg.specs.Write.{write_numbers}
use Rattle.trees.proofs.Reading.{entries-mean}

-- ---- one state

module _ (ws : List ℕ) (n v : ℕ) (state : State ws n v) where
  prefix-length : length (prefix_of ws v) ≡ v % 16
  unfolding prefix_of
  prefix-length = length-take-le (v % 16) (word_at ws (v / 16)) state.long

  -- The last terminal of its prefix.
  letter-is : (x : Word) (t : ℕ) → prefix_of ws v ≡ x ++ t ∷ [] → letter_of ws v ≡ t
  unfolding letter_of prefix_of
  letter-is x t e =
      let l : length x + 1 ≡ v % 16 = sym (length-append x (t ∷ [])) ∙ ap length (sym e) ∙ prefix-length in
      let k : length x ≡ v % 16 - 1 = omega arith in
      sym (get_or-take (v % 16) (word_at ws (v / 16)) (v % 16 - 1) 0 (omega arith))
      ∙ ap (λ (w : Word). get_or w (v % 16 - 1) 0) e
      ∙ get_or_at x t [] 0 (v % 16 - 1) k

  -- Without strings there is nothing to accept.
  accept-empty : n ≡ 0 → accept_of ws n v ≡ accepts (along (prefix_of ws v) (entries ws n))
  unfolding accept_of entries accepts
  accept-empty e = rw e (sym (ap accepts (along-none (prefix_of ws v))))

  module _ (apart : Apart (entries ws n)) (h : 0 < n) where
    -- its string
    at-string : entry_at ws (v / 16) ∈ entries ws n
    at-string = (entries-mean ws n (entry_at ws (v / 16))).1 (v / 16, state.inside h, refl)

    -- Where its string ends there, the production of that is accepted.
    accept-end : length (word_at ws (v / 16)) ≡ v % 16 → accepts (along (prefix_of ws v) (entries ws n)) ≡ suc (production_at ws (v / 16))
    unfolding prefix_of
    accept-end e =
        ap (λ (x : Word). accepts (along x (entries ws n))) (take_all (v % 16) (word_at ws (v / 16)) (omega arith))
        ∙ (accepts-means (entries ws n) apart.one (word_at ws (v / 16)) (production_at ws (v / 16))).1 at-string

    -- Where it goes on, none is.
    accept-more : ¬ (length (word_at ws (v / 16)) ≡ v % 16) → accepts (along (prefix_of ws v) (entries ws n)) ≡ 0
    unfolding prefix_of
    accept-more z = by (accepts (along x (entries ws n))) refl
      where
        w : Word
        w = word_at ws (v / 16)

        x : Word
        x = take (v % 16) w

        by : (a : ℕ) → accepts (along x (entries ws n)) ≡ a → a ≡ 0
        by zero e = refl
        by (suc i) e =
            let m = (accepts-means (entries ws n) apart.one x i).0 e in
            let k : entry (x ++ drop (v % 16) w) (production_at ws (v / 16)) ∈ entries ws n = rw (take-append-drop (v % 16) w) at-string in
            let f = apart.free x (drop (v % 16) w) i (production_at ws (v / 16)) m k in
            let l = state.long in
            absurd (z (let d = sym (ap length (take-append-drop (v % 16) w)) ∙ length-append x (drop (v % 16) w) in let a = prefix-length in let b = ap length f in omega arith))

    accept-some : accept_of ws n v ≡ accepts (along (prefix_of ws v) (entries ws n))
    unfolding accept_of
    accept-some = rw (unpassed (eqb n 0) (λ p. omega (arith, eqb→eq n 0 p))) (by (eqb (length (word_at ws (v / 16))) (v % 16)) refl)
      where
        by : (b : Bool) → eqb (length (word_at ws (v / 16))) (v % 16) ≡ b → cond b (production_at ws (v / 16) + 1) 0 ≡ accepts (along (prefix_of ws v) (entries ws n))
        by true e = let a = accept-end (eqb→eq (length (word_at ws (v / 16))) (v % 16) (passed e)) in omega arith
        by false e = sym (accept-more (λ q. fails e (rw q (eqb_refl (v % 16)))))

  -- What it accepts.
  accept-is : Apart (entries ws n) → accept_of ws n v ≡ accepts (along (prefix_of ws v) (entries ws n))
  accept-is apart = by (dec_lt 0 n)
    where
      by : Dec (0 < n) → accept_of ws n v ≡ accepts (along (prefix_of ws v) (entries ws n))
      by (yes h) = accept-some apart h
      by (no h) = accept-empty (omega arith)

-- ---- all states

module _ (ws : List ℕ) (n m : ℕ) (queue kids : List ℕ) (tree : Tree ws n m queue kids) (room : m ≤ length queue) where
  -- the strings
  abbrev R : List Entry
  R = entries ws n

  -- the prefixes
  abbrev P : List Word
  P = prefixes_in ws (take m queue)

  P-length : length P ≡ m
  P-length = length-map (take m queue) (prefix_of ws) ∙ length-take-le m queue room

  P-at : (s : ℕ) → s < m → get_or P s [] ≡ prefix_of ws (get_or queue s 0)
  P-at s h = map_at (prefix_of ws) (take m queue) s 0 [] (rw (length-take-le m queue room) h) ∙ ap (prefix_of ws) (get_or-take m queue s 0 h)

  pub state-at : (q : ℕ) → q < m → State ws n (get_or queue q 0)
  state-at zero h = rw tree.root (record { inside = λ z. z; long = omega arith })
  state-at (suc q) h = let d = tree.deep (suc q) (omega arith) h in record { inside = λ z. d.inside; long = d.long }

  -- The states from s on, and those they go on to.
  P-drop : (s : ℕ) → s < m → drop s P ≡ prefix_of ws (get_or queue s 0) ∷ drop (suc s) P
  P-drop s h = drop-cons P s [] (let e = P-length in omega arith) ∙ ap (λ (x : Word). x ∷ drop (suc s) P) (P-at s h)

  P-none : (s : ℕ) → m ≤ s → drop s P ≡ []
  P-none s h = drop_of_length-le P {i = s} (let l = P-length in omega arith)

  kids-count : (q s : ℕ) → s + q ≡ m → length (longer R (drop s P)) ≡ kids_from kids s q
  unfolding longer kids_from
  kids-count zero s e = ap (λ (L : List Word). length (longer R L)) (P-none s (omega arith))
  kids-count (suc q) s e =
      let x = prefix_of ws (get_or queue s 0) in
      let c = tree.counts s (omega arith) in
      let l = length-append (longer_by x (letters_at ws n x)) (longer R (drop (suc s) P)) in
      let k = length-map (letters_at ws n x) (λ (t : ℕ). x ++ t ∷ []) in
      let r = kids-count q (suc s) (omega arith) in
      ap (λ (L : List Word). length (longer R L)) (P-drop s (omega arith)) ∙ l ∙ omega arith

  pub tree-states : m ≤ length kids → States ws n m queue kids
  tree-states more = record {
    few = tree.few;
    queue-room = room;
    kids-room = more;
    state = state-at;
    deep = tree.deep;
    sum = let e = kids-count m 0 (omega arith) in let f = ap length tree.whole in let l = P-length in omega arith;
  }

  -- Transitions lead to the states from `next` on.
  edges_are : (x : Word) (ts : List ℕ) (next : ℕ) (more : List Word) → drop next P ≡ longer_by x ts ++ more → edges_in ws queue next (length ts) ≡ edge_numbers (edges_from next ts)
  unfolding edges_in
  edges_are x [] next more e = refl
  edges_are x (t ∷ ts) next more e = by (dec_lt next m) (edges_are x ts (suc next) more)
    where
      by : Dec (next < m) → (drop (suc next) P ≡ longer_by x ts ++ more → edges_in ws queue (suc next) (length ts) ≡ edge_numbers (edges_from (suc next) ts)) → edges_in ws queue next (suc (length ts)) ≡ edge_numbers (edges_from next (t ∷ ts))
      by (yes h) others =
          let f : prefix_of ws (get_or queue next 0) ∷ drop (suc next) P ≡ (x ++ t ∷ []) ∷ (longer_by x ts ++ more) = sym (P-drop next h) ∙ e in
          let head : prefix_of ws (get_or queue next 0) ≡ x ++ t ∷ [] = cc in
          let tail : drop (suc next) P ≡ longer_by x ts ++ more = cc in
          ap₂ (λ (a : ℕ) (l : List ℕ). a ∷ next ∷ l) (letter-is ws n (get_or queue next 0) (state-at next h) x t head) (others tail)
      by (no h) others = let f = sym (P-none next (omega arith)) ∙ e in absurd (omega (arith, ap length f))

  edge_count : (next : ℕ) (ts : List ℕ) → length (edges_from next ts) ≡ length ts
  edge_count next [] = refl
  edge_count next (t ∷ ts) = ap suc (edge_count (suc next) ts)

  module _ (apart : Apart (entries ws n)) where
    states-are : (q s next : ℕ) → s + q ≡ m → drop next P ≡ longer R (drop s P) → states_in ws n queue kids next s q ≡ state_numbers (states_from next (map (λ (x : Word). along x R) (drop s P)))
    unfolding states_in states_from longer
    states-are zero s next e d = sym (ap (λ (L : List Word). state_numbers (states_from next (map (λ (x : Word). along x R) L))) (P-none s (omega arith)))
    states-are (suc q) s next e d =
        let h : s < m = omega arith in
        let v = get_or queue s 0 in
        let x = prefix_of ws v in
        let ts = letters_at ws n x in
        let behind : drop next P ≡ longer_by x ts ++ longer R (drop (suc s) P) = d ∙ ap (longer R) (P-drop s h) in
        let on : drop (next + length ts) P ≡ longer R (drop (suc s) P) =
        sym (drop-drop (length ts) next P) ∙ ap (drop (length ts)) behind ∙ drop_at (longer_by x ts) (longer R (drop (suc s) P)) (length ts) (length-map ts (λ (t : ℕ). x ++ t ∷ [])) in
        ap (λ (k : ℕ). accept_of ws n v ∷ k ∷ edges_in ws queue next k ++ states_in ws n queue kids (next + k) (suc s) q) (tree.counts s h)
        ∙ ap₂ (λ (a k : ℕ). a ∷ k ∷ edges_in ws queue next (length ts) ++ states_in ws n queue kids (next + length ts) (suc s) q) (accept-is ws n v (state-at s h) apart) (sym (edge_count next ts))
        ∙ ap₂ (λ (E T : List ℕ). accepts (along x R) ∷ length (edges_from next ts) ∷ E ++ T) (edges_are x ts next (longer R (drop (suc s) P)) behind) (states-are q (suc s) (next + length ts) (omega arith) on)
        ∙ sym (ap (λ (L : List Word). state_numbers (states_from next (map (λ (x : Word). along x R) L))) (P-drop s h))

    pub numbers-are : (depth : ℕ) → Within depth R → m ∷ states_in ws n queue kids 1 0 m ≡ automaton_numbers (tree_of R depth)
    numbers-are depth short =
        let same : map (λ (x : Word). along x R) P ≡ nodes (suc depth) (R ∷ []) = ap (map (λ (x : Word). along x R)) (tree.all depth short) ∙ prefixes-nodes R (suc depth) ([] ∷ []) in
        ap₂ {C = List ℕ} ◌∷◌
        (sym (states-length 1 (nodes (suc depth) (R ∷ [])) ∙ ap length (sym same) ∙ length-map P (λ (x : Word). along x R) ∙ P-length))
        (states-are m 0 1 (omega arith) (ap (drop 1) tree.whole) ∙ ap (λ (Ns : List (List Entry)). state_numbers (states_from 1 Ns)) same)

-- ---- the answers

-- As many states as prefixes.
pub tree-length : (R : List Entry) (depth : ℕ) → length (tree_of R depth) ≡ length (prefixes R (suc depth) ([] ∷ []))
tree-length R depth =
    states-length 1 (nodes (suc depth) (R ∷ []))
    ∙ ap length (sym (prefixes-nodes R (suc depth) ([] ∷ [])))
    ∙ length-map (prefixes R (suc depth) ([] ∷ [])) (λ (x : Word). along x R)

module _ (ws : List ℕ) (n : ℕ) (strings : Strings ws n) (queue₀ kids₀ queue kids : List ℕ) (r : Result ℕ Refusal) (told : Built ws n queue₀ kids₀ queue kids r) where
  over-told : (e : Refusal) → r ≡ Err e → (e ≡ TooManyStates) × ((depth : ℕ) → Within depth (entries ws n) → 2048 < length (tree_of (entries ws n) depth))
  over-told e z = by told
    where
      by : Built ws n queue₀ kids₀ queue kids r → (e ≡ TooManyStates) × ((depth : ℕ) → Within depth (entries ws n) → 2048 < length (tree_of (entries ws n) depth))
      by (queued.too_many q a b many) = (let x : Err e ≡ Err TooManyStates = sym z ∙ q in cc, λ depth short. let l = tree-length (entries ws n) depth in omega (arith, many depth short))
      by (built m q a b tree) = let x : Ok m ≡ Err e = sym q ∙ z in let y : ◌≡◌ {A = ℕ} 0 1 = cc in absurd (omega arith)

  pub measured-over : (e : Refusal) → r ≡ Err e → Measured ws n (Err e)
  measured-over e z = let (k, many) = over-told e z in record { is = λ depth short. over (ap Err k) (many depth short) }

  pub written_over : (e : Refusal) → r ≡ Err e → (at : ℕ) (before : List ℕ) → Written ws n at before before (Err e)
  written_over e z at before = let (k, many) = over-told e z in record { is = λ depth short. too_many (ap Err k) (many depth short) refl }

  module _ (m : ℕ) (z : r ≡ Ok m) (queue-room : 2048 ≤ length queue₀) (kids-room : 2048 ≤ length kids₀) where
    tree-of : Tree ws n m queue kids
    tree-of = by told
      where
        by : Built ws n queue₀ kids₀ queue kids r → Tree ws n m queue kids
        by (queued.too_many q a b many) = let x : Err TooManyStates ≡ Ok m = sym q ∙ z in let y : ◌≡◌ {A = ℕ} 0 1 = cc in absurd (omega arith)
        by (built k q a b tree) = let x : Ok k ≡ Ok m = sym q ∙ z in let e : k ≡ m = cc in subst (λ (i : ℕ). Tree ws n i queue kids) e tree

    lengths : (length queue ≡ length queue₀) × (length kids ≡ length kids₀)
    lengths = by told
      where
        by : Built ws n queue₀ kids₀ queue kids r → (length queue ≡ length queue₀) × (length kids ≡ length kids₀)
        by (queued.too_many q a b many) = (a, b)
        by (built k q a b tree) = (a, b)

    in-queue : m ≤ length queue
    in-queue = let a = lengths.0 in let b = tree-of.few in omega arith

    pub ready : Listed ws n × States ws n m queue kids
    ready = (strings.listed, tree-states ws n m queue kids tree-of in-queue (let a = lengths.1 in let b = tree-of.few in omega arith))

    small : (depth : ℕ) → Within depth (entries ws n) → length (tree_of (entries ws n) depth) ≤ 2048
    small depth short =
        let e = tree-length (entries ws n) depth in
        let f = ap length (tree-of.all depth short) in
        let g = length-map (take m queue) (prefix_of ws) ∙ length-take-le m queue in-queue in
        let b = tree-of.few in
        omega arith

    bytes-are : (depth : ℕ) → Within depth (entries ws n) → write_numbers (m ∷ states_in ws n queue kids 1 0 m) ≡ bytes_of (tree_of (entries ws n) depth)
    bytes-are depth short = ap write_numbers (numbers-are ws n m queue kids tree-of in-queue strings.apart depth short)

    pub measured-size : (size : ℕ) → size ≡ length (write_numbers (m ∷ states_in ws n queue kids 1 0 m)) → Measured ws n (Ok size)
    measured-size size e = record { is = λ depth short. sized (small depth short) (ap Ok (e ∙ ap length (bytes-are depth short))) }

    module _ (size at : ℕ) (e : size ≡ length (write_numbers (m ∷ states_in ws n queue kids 1 0 m))) (before : List ℕ) (inside : at ≤ length before) where
      pub written-not : length before - at < size → Written ws n at before before (Err LentTooFew)
      written-not h = record { is = λ depth short. no_room (small depth short) refl (let f = ap length (bytes-are depth short) in omega arith) refl }

      pub write-room : size ≤ length before - at → at + length (write_numbers (m ∷ states_in ws n queue kids 1 0 m)) ≤ length before
      write-room h = omega arith

      pub written_all : size ≤ length before - at → (after : List ℕ) (next : ℕ) → Puts before after at next (write_numbers (m ∷ states_in ws n queue kids 1 0 m)) → Written ws n at before after (Ok next)
      written_all h after next p = record {
        is = λ depth short.
            let b = bytes-are depth short in
            let f = ap length b in
            let B = write_numbers (m ∷ states_in ws n queue kids 1 0 m) in
            wrote (small depth short) (ap Ok (p.place ∙ ap (λ (i : ℕ). at + i) f)) (omega arith)
            (p.written ∙ sets-eq B before at (omega arith) ∙ ap (λ (l : List ℕ). take at before ++ l ++ drop (at + length l) before) b);
      }
