-- All states, one after the other. Assumes nothing.
use Prim.Native.Nat.{ℕ, zero, suc, ◌+◌, ◌-◌, ◌≤◌, ◌<◌}
use native.Mathlib.Omega.{arith}
use native.Mathlib.Numerals.{add-one}
use native.Mathlib.Decide.{dec_lt}
use mathlib.Core.Path.{◌≡◌, refl, sym, ap, ◌∙◌, subst}
use mathlib.Core.List.{List, [], ◌∷◌, ◌++◌}
use lib.ListN.{length, get_or, take, drop, set, length-set, length-append, length-map}
use lib.Seq.{length-take-le, take_all, get_or-take, take-append-le, take-suc-set, get_or-set_same, get_or-set_other}
use Rattle.cfg.specs.Grammar.{Word}
use Rattle.decision_theory.specs.Automaton.{Entry, longer, prefixes}
use Rattle.decision_theory.proofs.Lists.{map_at}
use Rattle.decision_theory.proofs.Prefixes.{queue-end, queue-inside, queue-turn}
use Rattle.std.specs.Prelude.{Result, Ok, Err}
use Rattle.refusals.specs.declared.Refusal.{Refusal}
use Rattle.refusals.specs.declared.Refusal.TheVariants.{TooManyStates}
use Rattle.trees.specs.Listed.{Listed, word_at, production_at, entry_at, entries}
use Rattle.trees.specs.Order.{InOrder}
use Rattle.trees.specs.Answer.{Strings}
use Rattle.k_tuples.specs.Sets.{◌∈◌}
use Rattle.trees.specs.Queue.{prefix_of, prefixes_in, State, Deep, letters_at, longer_by, Grows, over, grows, Placed, Grow, Spread, Ordered, Build, Within, Built, too_many, built}
use Rattle.trees.proofs.Reading.{word-short, entries-mean}

-- No string has more than ten terminals.
pub within-ten : (ws : List ℕ) (n : ℕ) → Listed ws n → Within 10 (entries ws n)
within-ten ws n h e m = let (j, l, q) = (entries-mean ws n e).0 m in subst (λ (x : Entry). length x.word ≤ 10) (sym q) (word-short ws n j h l)

-- ---- one turn, as prefixes

module _ (ws : List ℕ) (n : ℕ) (listed : Listed ws n) where
  -- all prefixes
  abbrev all : ℕ → List Word
  all depth = prefixes (entries ws n) (suc depth) ([] ∷ [])

  -- prefixes with those behind number s put at the end
  abbrev next : List Word → ℕ → List Word
  next P s = P ++ longer_by (get_or P s []) (letters_at ws n (get_or P s []))

  next-whole : (P : List Word) (s : ℕ) → s < length P → P ≡ [] ∷ longer (entries ws n) (take s P) → next P s ≡ [] ∷ longer (entries ws n) (take (suc s) (next P s))
  next-whole P s h e =
      ap (λ (L : List Word). L ++ longer_by (get_or P s []) (letters_at ws n (get_or P s []))) e
      ∙ ap (λ (L : List Word). [] ∷ L) (sym (queue-turn 10 (entries ws n) (within-ten ws n listed) P s h))
      ∙ ap (λ (L : List Word). [] ∷ longer (entries ws n) L) (sym (take-append-le (suc s) P (longer_by (get_or P s []) (letters_at ws n (get_or P s []))) h))

  next-first : (P : List Word) (s : ℕ) → s < length P → P ≡ [] ∷ longer (entries ws n) (take s P) → (depth : ℕ) → Within depth (entries ws n)
      → (rest : List Word) → all depth ≡ P ++ rest → all depth ≡ next P s ++ longer (entries ws n) (drop (suc s) (all depth))
  next-first P s h e depth short rest q =
      queue-inside depth (entries ws n) short (next P s) (suc s)
      (take-append-le (suc s) P (longer_by (get_or P s []) (letters_at ws n (get_or P s []))) h ∙ sym (ap (take (suc s)) q ∙ take-append-le (suc s) P rest h))
      (next-whole P s h e)

-- ---- the queue

pub record Queue (ws : List ℕ) (n : ℕ) (order queue₀ kids₀ places₀ queue kids places : List ℕ) (s m : ℕ) : Type 0 where
  pub some : 1 ≤ m
  pub few : m ≤ 2048
  pub below : s ≤ m
  pub queue-length : length queue ≡ length queue₀
  pub kids-length : length kids ≡ length kids₀
  pub places-length : length places ≡ length places₀
  pub root : get_or queue 0 0 ≡ 0
  pub deep : (q : ℕ) → 0 < q → q < m → Deep ws n (get_or queue q 0)
  pub whole : prefixes_in ws (take m queue) ≡ [] ∷ longer (entries ws n) (take s (prefixes_in ws (take m queue)))
  pub first : (depth : ℕ) → Within depth (entries ws n) → (rest : List Word) × (prefixes (entries ws n) (suc depth) ([] ∷ []) ≡ prefixes_in ws (take m queue) ++ rest)
  pub placed : (q : ℕ) → q < m → Placed ws n order (get_or queue q 0) (get_or places q 0)
  pub counts : (q : ℕ) → q < s → get_or kids q 0 ≡ length (letters_at ws n (prefix_of ws (get_or queue q 0)))

-- The root begins every string.
root-placed : (ws : List ℕ) (n : ℕ) (order : List ℕ) → Placed ws n order 0 0
unfolding prefix_of
root-placed ws n order = record { inside = λ z. z; begins = λ z. refl; first = λ c h. absurd (omega arith) }

pub build-start : (ws : List ℕ) (n : ℕ) (order queue₀ kids₀ places₀ : List ℕ) → Build ws n order queue₀ kids₀ places₀ → Queue ws n order (set queue₀ 0 0) kids₀ (set places₀ 0 0) (set queue₀ 0 0) kids₀ (set places₀ 0 0) 0 1
unfolding longer prefix_of
build-start ws n order queue₀ kids₀ places₀ h =
    let l : 0 < length queue₀ = let r = h.queue-room in omega arith in
    let one : prefixes_in ws (take 1 (set queue₀ 0 0)) ≡ [] ∷ [] = ap (prefixes_in ws) (take-suc-set queue₀ 0 0 l) in
    record {
      some = omega arith;
      few = omega arith;
      below = omega arith;
      queue-length = refl;
      kids-length = refl;
      places-length = refl;
      placed = λ q a.
          let e : q ≡ 0 = omega arith in
          let k : 0 < length places₀ = let r = h.places-room in omega arith in
          rw (e, get_or-set_same queue₀ 0 0 0 l, get_or-set_same places₀ 0 0 0 k) (root-placed ws n order);
      root = get_or-set_same queue₀ 0 0 0 l;
      deep = λ q a b. absurd (omega arith);
      whole = one;
      first = λ depth short. (
        longer (entries ws n) (drop 0 (prefixes (entries ws n) (suc depth) ([] ∷ []))),
        queue-inside depth (entries ws n) short ([] ∷ []) 0 refl refl ∙ ap (λ (L : List Word). L ++ longer (entries ws n) (drop 0 (prefixes (entries ws n) (suc depth) ([] ∷ [])))) (sym one),
      );
      counts = λ q a. absurd (omega arith);
    }

module _ (ws : List ℕ) (n : ℕ) (order entry kids₀ places₀ : List ℕ) (h : Build ws n order entry kids₀ places₀) where
  module _ (queue kids places : List ℕ) (s m : ℕ) (g : Queue ws n order (set entry 0 0) kids₀ (set places₀ 0 0) queue kids places s m) where
    -- as many prefixes as states
    prefixes-length : length (prefixes_in ws (take m queue)) ≡ m
    prefixes-length = length-map (take m queue) (prefix_of ws) ∙ length-take-le m queue (let a = g.queue-length in let b = h.queue-room in let z = length-set entry 0 0 in let c = g.few in omega arith)

    pub build-end : m ≤ s → Built ws n entry kids₀ queue kids (Ok m)
    build-end l =
        let same : s ≡ m = let b = g.below in omega arith in
        let P = prefixes_in ws (take m queue) in
        let e : P ≡ [] ∷ longer (entries ws n) P = g.whole ∙ ap (λ (L : List Word). [] ∷ longer (entries ws n) L) (take_all s P (let k = prefixes-length in omega arith)) in
        built m refl (g.queue-length ∙ length-set entry 0 0) g.kids-length (record {
          some = g.some;
          few = g.few;
          root = g.root;
          deep = g.deep;
          whole = e;
          all = λ depth short. queue-end depth (entries ws n) short P e;
          counts = λ q b. g.counts q (omega arith);
        })

    module _ (l : s < m) where
      -- State s.
      abbrev v : ℕ
      v = get_or queue s 0

      pub build-state : State ws n v
      build-state = by s l refl
        where
          by : (i : ℕ) → i < m → s ≡ i → State ws n (get_or queue s 0)
          by zero b e = rw (e, g.root) (record { inside = λ z. z; long = omega arith })
          by (suc i) b e = let d = g.deep s (omega arith) l in record { inside = λ z. d.inside; long = d.long }

      -- So it can be gone on from.
      pub build-asks : Grow ws n order v (get_or places s 0) m queue places
      build-asks = record {
        ordered = h.ordered;
        state = build-state;
        placed = g.placed s l;
        most = g.few;
        queue-room = let a = g.queue-length in let b = h.queue-room in let z = length-set entry 0 0 in omega arith;
        places-room = let a = g.places-length in let b = h.places-room in let z = length-set places₀ 0 0 in omega arith;
      }

      -- Its prefix.
      prefix-is : get_or (prefixes_in ws (take m queue)) s [] ≡ prefix_of ws v
      prefix-is = map_at (prefix_of ws) (take m queue) s 0 [] (rw (length-take-le m queue (let a = g.queue-length in let b = h.queue-room in let z = length-set entry 0 0 in let c = g.few in omega arith)) l) ∙ ap (prefix_of ws) (get_or-take m queue s 0 l)

      grown-is : next ws n h.ordered.listed (prefixes_in ws (take m queue)) s ≡ prefixes_in ws (take m queue) ++ longer_by (prefix_of ws v) (letters_at ws n (prefix_of ws v))
      grown-is = ap (λ (x : Word). prefixes_in ws (take m queue) ++ longer_by x (letters_at ws n x)) prefix-is

      inside : s < length (prefixes_in ws (take m queue))
      inside = let e = prefixes-length in omega arith

      pub build-over : (after : List ℕ) (r : Result ℕ Refusal) → Grows ws n v m queue after r → (e : Refusal) → r ≡ Err e → Built ws n entry kids₀ after kids (Err e)
      build-over after r (grows end q b c d e f t) e' z = let x : Ok end ≡ Err e' = sym q ∙ z in let y : ◌≡◌ {A = ℕ} 0 1 = cc in absurd (omega arith)
      build-over after r (over q many c) e' z =
          too_many (sym z ∙ q) (c ∙ g.queue-length ∙ length-set entry 0 0) g.kids-length (λ depth short.
          let (rest, e) = g.first depth short in
          let P = prefixes_in ws (take m queue) in
          let f = next-first ws n h.ordered.listed P s inside g.whole depth short rest e in
          let more = longer (entries ws n) (drop (suc s) (prefixes (entries ws n) (suc depth) ([] ∷ []))) in
          let a = ap length f ∙ length-append (next ws n h.ordered.listed P s) more in
          let b = ap length grown-is ∙ length-append P (longer_by (prefix_of ws v) (letters_at ws n (prefix_of ws v))) in
          let c = length-map (letters_at ws n (prefix_of ws v)) (λ (t : ℕ). prefix_of ws v ++ t ∷ []) in
          let d = prefixes-length in
          omega arith)

      pub build-turn : (after places' : List ℕ) (r : Result ℕ Refusal) → Spread ws n order v m queue after places places' r → Grows ws n v m queue after r → (end : ℕ) → r ≡ Ok end → Queue ws n order (set entry 0 0) kids₀ (set places₀ 0 0) after (set kids s (end - m)) places' (s + 1) end
      build-turn after places' r spread (over q many c) end z = let x : Err TooManyStates ≡ Ok end = sym q ∙ z in let y : ◌≡◌ {A = ℕ} 0 1 = cc in absurd (omega arith)
      build-turn after places' r spread (grows to q most same count front put new) end z =
          let x : Ok to ≡ Ok end = sym q ∙ z in
          let e : to ≡ end = cc in
          by e
        where
          same-before : (q : ℕ) → q < m → get_or after q 0 ≡ get_or queue q 0
          same-before q b = sym (get_or-take m after q 0 b) ∙ ap (λ (L : List ℕ). get_or L q 0) front ∙ get_or-take m queue q 0 b

          same_place : (q : ℕ) → q < m → get_or places' q 0 ≡ get_or places q 0
          same_place q b = sym (get_or-take m places' q 0 b) ∙ ap (λ (L : List ℕ). get_or L q 0) spread.front ∙ get_or-take m places q 0 b

          by : to ≡ end → Queue ws n order (set entry 0 0) kids₀ (set places₀ 0 0) after (set kids s (end - m)) places' (s + 1) end
          by e =
              let a = g.some in
              let P = prefixes_in ws (take m queue) in
              let grown : prefixes_in ws (take end after) ≡ next ws n h.ordered.listed P s = ap (λ (i : ℕ). prefixes_in ws (take i after)) (sym e) ∙ put ∙ sym grown-is in
              record {
                some = omega arith;
                few = omega arith;
                below = omega arith;
                queue-length = same ∙ g.queue-length;
                kids-length = length-set kids s (end - m) ∙ g.kids-length;
                places-length = spread.size ∙ g.places-length;
                placed = λ i c. placed_at i c (dec_lt i m);
                root = same-before 0 (omega arith) ∙ g.root;
                deep = λ i b c. deep-at i b c (dec_lt i m);
                whole = rw (add-one, grown) (next-whole ws n h.ordered.listed P s inside g.whole);
                first = λ depth short.
                    let (rest, f) = g.first depth short in
                    (longer (entries ws n) (drop (suc s) (prefixes (entries ws n) (suc depth) ([] ∷ []))), next-first ws n h.ordered.listed P s inside g.whole depth short rest f ∙ ap (λ (L : List Word). L ++ longer (entries ws n) (drop (suc s) (prefixes (entries ws n) (suc depth) ([] ∷ [])))) (sym grown));
                counts = λ i b. count_at i b (dec_lt i s);
              }
            where
              deep-at : (i : ℕ) → 0 < i → i < end → Dec (i < m) → Deep ws n (get_or after i 0)
              deep-at i b c (yes d) = rw (same-before i d) (g.deep i b d)
              deep-at i b c (no d) = new i (omega arith) (omega arith)

              placed_at : (i : ℕ) → i < end → Dec (i < m) → Placed ws n order (get_or after i 0) (get_or places' i 0)
              placed_at i c (yes d) = rw (same-before i d, same_place i d) (g.placed i d)
              placed_at i c (no d) = spread.placed end z i (omega arith) c

              count_at : (i : ℕ) → i < s + 1 → Dec (i < s) → get_or (set kids s (end - m)) i 0 ≡ length (letters_at ws n (prefix_of ws (get_or after i 0)))
              count_at i b (yes d) =
                  get_or-set_other kids s i (end - m) 0 (λ e. omega arith) ∙ g.counts i d
                  ∙ ap (λ (w : ℕ). length (letters_at ws n (prefix_of ws w))) (sym (same-before i (omega arith)))
              count_at i b (no d) =
                  let f : i ≡ s = omega arith in
                  let k : s < length kids = let a = g.kids-length in let b = h.kids-room in let c = g.few in omega arith in
                  let c : end - m ≡ length (letters_at ws n (prefix_of ws v)) = omega arith in
                  rw f (get_or-set_same kids s (end - m) 0 k ∙ c ∙ ap (λ (w : ℕ). length (letters_at ws n (prefix_of ws w))) (sym (same-before s l)))

-- The queue's length stays, and it does not shrink.
pub grown-length : (ws : List ℕ) (n v m : ℕ) (before after : List ℕ) (r : Result ℕ Refusal) → Grows ws n v m before after r → length after ≡ length before
grown-length ws n v m before after r (over q many same) = same
grown-length ws n v m before after r (grows to q most same count front put new) = same

pub grown-low : (ws : List ℕ) (n v m : ℕ) (before after : List ℕ) (r : Result ℕ Refusal) → Grows ws n v m before after r → (end : ℕ) → r ≡ Ok end → m ≤ end
grown-low ws n v m before after r (over q many same) end z = let x : Err TooManyStates ≡ Ok end = sym q ∙ z in let y : ◌≡◌ {A = ℕ} 0 1 = cc in absurd (omega arith)
grown-low ws n v m before after r (grows to q most same count front put new) end z = let x : Ok to ≡ Ok end = sym q ∙ z in let e : to ≡ end = cc in omega arith

-- The strings of one nonterminal, in order, can be built from.
pub can-order : (ws : List ℕ) (n : ℕ) (order : List ℕ) → Strings ws n → InOrder ws n order → Ordered ws n order
can-order ws n order s o = record {
  listed = s.listed;
  few = s.few;
  in_order = o;
  free = λ p q t h k (u, e).
      let a = (entries-mean ws n (entry_at ws p)).1 (p, h, refl) in
      let b = (entries-mean ws n (entry_at ws q)).1 (q, k, refl) in
      let z = s.apart.free (word_at ws p) (t ∷ u) (production_at ws p) (production_at ws q) a (subst (λ (w : Word). record { word = w; production = production_at ws q } ∈ entries ws n) e b) in
      omega (arith, ap length z);
}
