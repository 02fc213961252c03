-- The strings that begin with a state's prefix stand together in dictionary order: walking them finds the terminals behind it, each when it is the least left. Assumes nothing.
use Prim.Native.Nat.{ℕ, zero, suc, ◌+◌, ◌*◌, ◌/◌, ◌%◌, ◌≤◌, ◌<◌}
use native.Mathlib.Omega.{arith}
use native.Mathlib.Decide.{dec_lt}
use mathlib.Core.Path.{◌≡◌, refl, sym, ap, ap₂, ◌∙◌, subst}
use mathlib.Core.List.{List, [], ◌∷◌, ◌++◌, append_assoc}
use lib.ListN.{length, get_or, take, drop, set, length-set, take-append-drop}
use lib.Seq.{length-take-le, take_at, take-set-le, get_or-set_same, get_or-set_other, get_or_at}
use Rattle.cfg.specs.Grammar.{Word}
use Rattle.std.specs.Prelude.{Ok, Err}
use Rattle.refusals.specs.declared.Refusal.TheVariants.{TooManyStates}
use Rattle.trees.specs.Listed.{word_at, code_at}
use Rattle.trees.specs.Queue.{prefix_of, Starts, GoesOnBy, Looked, nothing, found, Placed, Grow, Spread}
use Rattle.trees.proofs.Ordering.{between, rises}
use Rattle.trees.proofs.Reading.{word_small}
use Rattle.trees.proofs.Looking.{starts-code}
use Rattle.trees.proofs.Growing.{Growing, grow-start, grow-end, grow-over, grow-turn, low_part, high_part, longer-is}

-- A state's prefix.
prefix-is : (ws : List ℕ) (v : ℕ) → prefix_of ws v ≡ take (v % 16) (word_at ws (v / 16))
unfolding prefix_of
prefix-is ws v = refl

-- Places before c were walked: the states for terminals below f are in the queue, each with its place.
pub record Walking (ws : List ℕ) (n : ℕ) (order : List ℕ) (v from m : ℕ) (queue₀ places₀ : List ℕ) (f : ℕ) (queue places : List ℕ) (end c : ℕ) : Type 0 where
  pub growing : Growing ws n v m f queue₀ queue end
  pub low : from ≤ c
  pub seen : (p t : ℕ) → p < c → Starts (prefix_of ws v) t (word_at ws (get_or order p 0)) → t < f
  pub size : length places ≡ length places₀
  pub front : take m places ≡ take m places₀
  pub placed : (q : ℕ) → m ≤ q → q < end → Placed ws n order (get_or queue q 0) (get_or places q 0)

module _ (ws : List ℕ) (n : ℕ) (order : List ℕ) (v from m : ℕ) (queue₀ places₀ : List ℕ) (ask : Grow ws n order v from m queue₀ places₀) where
  -- the prefix
  abbrev x : Word
  x = prefix_of ws v

  -- the string at a place
  abbrev at : ℕ → Word
  at c = word_at ws (get_or order c 0)

  x-size : length x ≡ v % 16
  unfolding prefix_of
  x-size = length-take-le (v % 16) (word_at ws (v / 16)) ask.state.long

  -- A string that goes on begins so,
  begins-so : (w : Word) (t : ℕ) → Starts x t w → take (v % 16) w ≡ x
  begins-so w t (u, e) = ap (take (v % 16)) e ∙ take_at x (t ∷ u) (v % 16) x-size

  -- and its terminal stands behind.
  code-of : (w : Word) (t : ℕ) → Starts x t w → code_at w (v % 16) ≡ suc t
  code-of w t (u, e) = ap₂ code_at e (sym x-size) ∙ starts-code x t u

  -- Of two that go on, the later goes on by no lower terminal.
  later : (c d t u : ℕ) → c < d → d < n → Starts x t (at c) → Starts x u (at d) → t ≤ u
  later c d t u l h s r =
      let k = rises (v % 16) (at c) (at d) (ask.ordered.in_order.rising c d l h) (begins-so (at c) t s ∙ sym (begins-so (at d) u r)) in
      let a = code-of (at c) t s in
      let b = code-of (at d) u r in
      omega arith

  -- The string at a place is one of them.
  pub place-string : (c : ℕ) → c < n → get_or order c 0 < n
  place-string c h = ask.ordered.in_order.inside c h

  pub place_inside : (c : ℕ) → c < n → c < length order
  place_inside c h = let r = ask.ordered.in_order.room in omega arith

  pub walk_start : Walking ws n order v from m queue₀ places₀ 0 queue₀ places₀ m from
  walk_start = record {
    growing = grow-start ws n v m queue₀ ask.most;
    low = omega arith;
    seen = λ p t h s. absurd (ask.placed.first p h (begins-so (at p) t s));
    size = refl;
    front = refl;
    placed = λ q a b. absurd (omega arith);
  }

  module _ (f : ℕ) (queue places : List ℕ) (end c : ℕ) (w : Walking ws n order v from m queue₀ places₀ f queue places end c) where
    -- Past the last place nothing is left.
    past-looked : n ≤ c → Looked ws x f n 0 0
    past-looked h = nothing refl (λ p t l s.
        let (d, k, e) = ask.ordered.in_order.whole p l in
        w.seen d t (omega arith) (subst (λ (q : ℕ). Starts x t (word_at ws q)) (sym e) s))

    module _ (h : c < n) (l : ℕ) (on : GoesOnBy x (at c) l) where
      -- A string that does not go on ends here or begins otherwise: behind it none goes on.
      none-behind : l ≡ 0 → (d t : ℕ) → c < d → d < n → ¬ Starts x t (at d)
      none-behind z d t k i s =
          let order_is = ask.ordered.in_order in
          let first : take (v % 16) (at from) ≡ x = ask.placed.begins (omega arith) in
          let same : take (v % 16) (at c) ≡ x = by (dec_lt from c) in
          let rest : at c ≡ x ++ drop (v % 16) (at c) = sym (take-append-drop (v % 16) (at c)) ∙ ap (λ (y : Word). y ++ drop (v % 16) (at c)) same in
          ends (drop (v % 16) (at c)) rest
        where
          by : Dec (from < c) → take (v % 16) (at c) ≡ x
          by (yes b) =
              let order_is = ask.ordered.in_order in
              let first : take (v % 16) (at from) ≡ x = ask.placed.begins (omega arith) in
              between (v % 16) (at from) (at c) (at d) (order_is.rising from c b h) (order_is.rising c d k i) (first ∙ sym (begins-so (at d) t s)) ∙ first
          by (no b) = let a = w.low in let e : from ≡ c = omega arith in subst (λ (p : ℕ). take (v % 16) (at p) ≡ x) e (ask.placed.begins (omega arith))

          ends : (y : Word) → at c ≡ x ++ y → ⊥
          ends [] e =
              ask.ordered.free (get_or order c 0) (get_or order d 0) t (ask.ordered.in_order.inside c h) (ask.ordered.in_order.inside d i)
              (s.0, s.1 ∙ ap (λ (y : Word). y ++ t ∷ s.0) (sym (e ∙ nil x)))
            where
              nil : (y : Word) → y ++ [] ≡ y
              nil [] = refl
              nil (a ∷ y) = ap (λ (z : Word). a ∷ z) (nil y)
          ends (a ∷ y) e = let q = on.only a (y, e) in omega arith

      pub stop-looked : l ≡ 0 → Looked ws x f n l 0
      stop-looked z = nothing z (λ p t k s.
          let (d, i, e) = ask.ordered.in_order.whole p k in
          let r : Starts x t (at d) = subst (λ (q : ℕ). Starts x t (word_at ws q)) (sym e) s in
          by d t i r (dec_lt d c) (dec_lt c d))
        where
          by : (d t : ℕ) → d < n → Starts x t (at d) → Dec (d < c) → Dec (c < d) → t < f
          by d t i r (yes b) o = w.seen d t b r
          by d t i r (no b) (yes o) = absurd (none-behind z d t o i r)
          by d t i r (no b) (no o) = let e : d ≡ c = omega arith in let q = on.only t (subst (λ (p : ℕ). Starts x t (at p)) e r) in absurd (omega arith)

      pub next-looked : f < l → Looked ws x f n l (get_or order c 0)
      next-looked g = by l refl
        where
          by : (k : ℕ) → l ≡ k → Looked ws x f n l (get_or order c 0)
          by zero e = absurd (omega arith)
          by (suc t) e = found t e (ask.ordered.in_order.inside c h) (on.on t e) (omega arith) (λ p u i s k.
              let (d, j, q) = ask.ordered.in_order.whole p i in
              let r : Starts x u (at d) = subst (λ (y : ℕ). Starts x u (word_at ws y)) (sym q) s in
              low d u j r k (dec_lt d c) (dec_lt c d))
            where
              low : (d u : ℕ) → d < n → Starts x u (at d) → f ≤ u → Dec (d < c) → Dec (c < d) → t ≤ u
              low d u j r k (yes b) o = absurd (omega (arith, w.seen d u b r))
              low d u j r k (no b) (yes o) = later c d t u o j (on.on t e) r
              low d u j r k (no b) (no o) = let z : d ≡ c = omega arith in let q = on.only u (subst (λ (p : ℕ). Starts x u (at p)) z r) in omega arith

      -- Its terminal is small.
      pub walk-small : (t : ℕ) → l ≡ suc t → t < 4096
      walk-small t e =
          let (u, q) = on.on t e in
          let k = word_small ws n (get_or order c 0) ask.ordered.listed (place-string c h) (length x) in
          let s : get_or (at c) (length x) 0 ≡ t = ap (λ (y : Word). get_or y (length x) 0) q ∙ get_or_at x t u 0 (length x) refl in
          omega arith

      -- The walk ends,
      pub walk-stop : l ≡ 0 → Spread ws n order v m queue₀ queue places₀ places (Ok end)
      walk-stop z = record { grows = grow-end ws n v m f end queue₀ queue w.growing l 0 (stop-looked z) z; size = w.size; front = w.front; placed = λ e q. let s : end ≡ e = cc in subst (λ (k : ℕ). (q : ℕ) → m ≤ q → q < k → Placed ws n order (get_or queue q 0) (get_or places q 0)) s w.placed }

      -- or there are too many,
      pub walk-over : (l ≡ 0 → ⊥) → f < l → 2048 ≤ end → Spread ws n order v m queue₀ queue places₀ places (Err TooManyStates)
      walk-over z g b = record { grows = grow-over ws n v m f end queue₀ queue w.growing l (get_or order c 0) (next-looked g) z b; size = w.size; front = w.front; placed = λ e q. let y : ◌≡◌ {A = ℕ} 0 1 = cc in absurd (omega arith) }

      -- or this terminal was there before.
      pub walk-on : l ≤ f → Walking ws n order v from m queue₀ places₀ f queue places end (c + 1)
      walk-on g = record {
        growing = w.growing;
        low = let a = w.low in omega arith;
        seen = λ p t i s. by p t i s (dec_lt p c);
        size = w.size;
        front = w.front;
        placed = w.placed;
      }
        where
          by : (p t : ℕ) → p < c + 1 → Starts x t (at p) → Dec (p < c) → t < f
          by p t i s (yes b) = w.seen p t b s
          by p t i s (no b) = let e : p ≡ c = omega arith in let q = on.only t (subst (λ (y : ℕ). Starts x t (at y)) e s) in omega arith

      -- A new one has its state.
      pub walk-new : (l ≡ 0 → ⊥) → f < l → end < 2048 → Walking ws n order v from m queue₀ places₀ l (set queue end (16 * get_or order c 0 + v % 16 + 1)) (set places end c) (end + 1) (c + 1)
      walk-new z g b = record {
        growing = grow-turn ws n v m f end queue₀ queue w.growing l (get_or order c 0) (next-looked g) ask.ordered.listed ask.state ask.queue-room z b;
        low = let a = w.low in omega arith;
        seen = λ p t i s. before p t i s (dec_lt p c);
        size = length-set places end c ∙ w.size;
        front = take-set-le m places end c w.growing.low ∙ w.front;
        placed = λ q i j. which q i j (dec_lt q end);
      }
        where
          before : (p t : ℕ) → p < c + 1 → Starts x t (at p) → Dec (p < c) → t < l
          before p t i s (yes b) = let k = w.seen p t b s in omega arith
          before p t i s (no b) = let e : p ≡ c = omega arith in let q = on.only t (subst (λ (y : ℕ). Starts x t (at y)) e s) in omega arith

          a : ℕ
          a = 16 * get_or order c 0 + v % 16 + 1

          new : (t : ℕ) → l ≡ suc t → Placed ws n order (16 * get_or order c 0 + v % 16 + 1) c
          new t e =
              let s = on.on t e in
              let j = ask.ordered.in_order.inside c h in
              let high = high_part ws n v (get_or order c 0) t ask.ordered.listed ask.state j s in
              let lo = low_part ws n v (get_or order c 0) t ask.ordered.listed ask.state j s in
              let is = longer-is ws n v (get_or order c 0) t ask.ordered.listed ask.state j s in
              record {
                inside = λ k. h;
                begins = λ k. ap (λ (i : ℕ). take ((16 * get_or order c 0 + v % 16 + 1) % 16) (word_at ws i)) (sym high) ∙ sym (prefix-is ws (16 * get_or order c 0 + v % 16 + 1));
                first = λ d k q.
                    let r : at d ≡ x ++ t ∷ drop ((16 * get_or order c 0 + v % 16 + 1) % 16) (at d) =
                    sym (take-append-drop ((16 * get_or order c 0 + v % 16 + 1) % 16) (at d)) ∙ ap (λ (y : Word). y ++ drop ((16 * get_or order c 0 + v % 16 + 1) % 16) (at d)) (q ∙ is) ∙ append_assoc x (t ∷ []) (drop ((16 * get_or order c 0 + v % 16 + 1) % 16) (at d)) in
                    let y = w.seen d t k (drop ((16 * get_or order c 0 + v % 16 + 1) % 16) (at d), r) in
                    omega arith;
              }

          letter : (k : ℕ) → l ≡ k → Placed ws n order (16 * get_or order c 0 + v % 16 + 1) c
          letter zero e = absurd (z e)
          letter (suc t) e = new t e

          which : (q : ℕ) → m ≤ q → q < end + 1 → Dec (q < end) → Placed ws n order (get_or (set queue end (16 * get_or order c 0 + v % 16 + 1)) q 0) (get_or (set places end c) q 0)
          which q i j (yes k) = rw (get_or-set_other queue end q (16 * get_or order c 0 + v % 16 + 1) 0 (λ e. omega arith), get_or-set_other places end q c 0 (λ e. omega arith)) (w.placed q i k)
          which q i j (no k) =
              let e : q ≡ end = omega arith in
              let queue-in : end < length queue = let a = w.growing.same_length in let r = ask.queue-room in omega arith in
              let places-in : end < length places = let a = w.size in let r = ask.places-room in omega arith in
              rw (e, get_or-set_same queue end (16 * get_or order c 0 + v % 16 + 1) 0 queue-in, get_or-set_same places end c 0 places-in) (letter l refl)

    -- Past the last place the walk ends too.
    pub walk_end : n ≤ c → Spread ws n order v m queue₀ queue places₀ places (Ok end)
    walk_end h = record { grows = grow-end ws n v m f end queue₀ queue w.growing 0 0 (past-looked h) refl; size = w.size; front = w.front; placed = λ e q. let s : end ≡ e = cc in subst (λ (k : ℕ). (q : ℕ) → m ≤ q → q < k → Placed ws n order (get_or queue q 0) (get_or places q 0)) s w.placed }
