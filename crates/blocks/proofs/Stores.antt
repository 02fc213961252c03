-- Words that hold sets: one change after another. Assumes nothing.
use mathlib.Core.Path.{◌≡◌, refl, sym, ap, ap₂, ◌∙◌, subst}
use mathlib.Core.Bool.{false, ◌&&◌}
use mathlib.Core.Logic.{inl, inr, ⊎_elim}
use mathlib.Core.List.Memᴰ
use mathlib.Core.List.Memᴰ.{not-nil}
use mathlib.Core.List.{List, [], ◌∷◌, ◌++◌}
use Prim.Native.Nat.{ℕ, zero, suc, ◌+◌, ◌-◌, ◌*◌, ◌≤◌, ◌<◌}
use native.Mathlib.Nat.{le_of_suc-le-suc, not-suc-le-zero}
use native.Mathlib.Numerals.{add-one}
use native.Mathlib.Omega.{arith}
use borrow.Author.Tests.{ltb-false}
use lib.ListN.{length, take, drop, set, replicate, length-set, length-replicate}
use lib.Seq.{drop-cons, get_or-set_same, set-set}
use Rattle.k_tuple.specs.Strings.{Str}
use Rattle.k_tuple.specs.Packed.{packed}
use Rattle.k_tuple.specs.declared.Terminals.{Terminals}
use Rattle.k_tuples.specs.Sets.{Sorted, same_set, union, joins, join_sets}
use Rattle.k_tuples.specs.States.{State, set_of, same_sets}
use Rattle.k_tuples.specs.Words.{Growth, room_of, grown, is_full}
use Rattle.k_tuples.specs.Held.{Fits, Holds, Became}
use Rattle.k_tuples.specs.Blocks.{Stored, sets_in, IsStored, part_at, put_at}
use Rattle.k_tuples.proofs.Sets.{mem-union, union-sorted, union-only}
use Rattle.k_tuples.proofs.Held.{holds-words, set-length}
use Rattle.k_tuples.proofs.Filling.{full-grown}
use Rattle.k_tuples.proofs.Blocks.{stored-length, stored-rest, stored-sets, length-sets, is-stored, zeros-stored, in-sets, part_room, part_length, part-holds, stepped, as_it_was}
use Rattle.blocks.specs.Stores.{Only, Turned, Filled}

-- ---- one of the sets

module _ {k w b m i : ℕ} {ws : List ℕ} (h : IsStored k w b m ws) (l : i < m) where
  -- its block lies within the words
  pub block_room : i * b + b ≤ length ws
  block_room = part_room h.stored i (in-sets h l)

  pub block_length : length (part_at b i ws) ≡ b
  block_length = part_length h.stored i (in-sets h l)

  pub block-holds : Holds k w (set_of (sets_in b m ws) i) (part_at b i ws)
  block-holds = part-holds h.stored i (in-sets h l)

-- ---- what words have come to hold

-- words of m sets, with the same behind them, are as long
pub same-long : {k w j v b m : ℕ} {ws ws' : List ℕ} → IsStored k w b m ws → IsStored j v b m ws' → drop (m * b) ws' ≡ drop (m * b) ws → length ws' ≡ length ws
same-long {b = b} {m = m} {ws = ws} {ws' = ws'} s t e =
    let size : length (sets_in b m ws') ≡ length (sets_in b m ws) = length-sets b m ws' ∙ sym (length-sets b m ws) in
    stored-length t.stored ∙ rw (size, e) (sym (stored-length s.stored))

module _ {k w b m : ℕ} {F : State} {ws ws' : List ℕ} (h : Turned k w b m F ws ws') where
  pub turned-store : IsStored k w b m ws'
  turned-store = is-stored h.held m (sym h.count)

  pub turned-sets : sets_in b m ws' ≡ F
  turned-sets = ap (λ (n : ℕ). sets_in b n ws') (sym h.count) ∙ stored-sets h.held

  pub turned-beyond : drop (m * b) ws' ≡ drop (m * b) ws
  turned-beyond = ap (λ (n : ℕ). drop (n * b) ws') (sym h.count) ∙ stored-rest h.held

  -- as long as before
  pub turned-length : {j v : ℕ} → IsStored j v b m ws → length ws' ≡ length ws
  turned-length s = same-long s turned-store turned-beyond

  -- one call after another, the second in terms of what it found
  pub turned_then : {j v : ℕ} {ws'' : List ℕ} (f : State → State) → Turned j v b m (f (sets_in b m ws')) ws' ws'' → Turned j v b m (f F) ws ws''
  turned_then {j} {v} {ws''} f t =
      subst (λ (G : State). Turned j v b m (f G) ws ws'') turned-sets
      (record { count = t.count; held = rw (← turned-beyond) t.held })

pub as-turned : {k w b m : ℕ} {ws : List ℕ} → IsStored k w b m ws → Turned k w b m (sets_in b m ws) ws ws
as-turned {b = b} {m = m} {ws = ws} s = record { count = length-sets b m ws; held = s.stored }

-- zeros are words of m empty sets
pub zeros-are-stored : (k w b m : ℕ) (rest : List ℕ) → 1 ≤ b → IsStored k w b m (replicate (m * b) 0 ++ rest)
zeros-are-stored k w b m rest h = is-stored (zeros-stored k w b m rest h) m (sym (length-replicate m []))

-- one set was put in
pub set-turned : {k w b m : ℕ} {ws ws' : List ℕ} (i : ℕ) (new : List Str) → Stored k w b (set (sets_in b m ws) i new) (drop (m * b) ws) ws' → Turned k w b m (set (sets_in b m ws) i new) ws ws'
set-turned {b = b} {m = m} {ws = ws} i new h = record { count = length-set (sets_in b m ws) i new ∙ length-sets b m ws; held = h }

-- a set that was filled and had room
pub fits-room : {r : Growth} (room old new : ℕ) → is_full r ≡ false → r ≡ grown room old new → new ≤ room
fits-room room old new e a = ltb-false _ _ (sym (full-grown room old new) ∙ ap is_full (sym a) ∙ e)

pub filled-turned : {k w b m i old : ℕ} {new : List Str} {r : Growth} {ws ws' : List ℕ} → Filled k w b m i old new r ws ws' → is_full r ≡ false → Turned k w b m (set (sets_in b m ws) i new) ws ws'
filled-turned {b = b} {i = i} {old = old} {new = new} f e = set-turned i new (f.step.stored (fits-room (room_of b) old (length new) e f.answer))

-- a block that went to a call has come back filled, whatever set it had or was said to have
pub block-filled : {k w b m : ℕ} {old new : List Str} {r : Growth} {ws p : List ℕ} → IsStored k w b m ws → (i : ℕ) → i < m → Became k w old new (length (part_at b i ws)) p r
    → length p ≡ length (part_at b i ws) → Filled k w b m i (length old) new r ws (put_at b i p ws)
block-filled {k} {w} {b} {m} {old} {new} {r} {ws} {p} h i l g e =
    let here = set_of (sets_in b m ws) i in
    let n = length (part_at b i ws) in
    let g' : Became k w here new n p (grown (room_of n) (length here) (length new)) = record { answer = refl; holds = g.holds; words = g.words } in
    record {
      answer = g.answer ∙ ap (λ (j : ℕ). grown (room_of j) (length old) (length new)) (part_length h.stored i (in-sets h l));
      step = stepped here (as_it_was i h) l g' e;
    }

-- ---- the set of one string

module _ {k : ℕ} (w : ℕ) (z : Str) {t : Terminals} {ws : List ℕ} (o : Only k t ws) (e : t ≡ packed w z) (f : Fits k w z) where
  pub only-holds : Holds k w (z ∷ []) ws
  only-holds =
      subst (Holds k w (z ∷ [])) (sym (o.words w z e f.well))
      (holds-words k 3 w (z ∷ []) (omega arith) (omega arith) (λ y m. absurd (not-nil m), tt) (λ y m. subst (Fits k w) (sym (Memᴰ.eq_of_singleton m)) f))

  pub only-length : length ws ≡ 3
  only-length = ap length (o.words w z e f.well) ∙ set-length k 3 w (z ∷ []) (omega arith)

-- ---- the first n sets, one after the other

repeat-suc : {A : Type 0} (i : ℕ) (x : A) (l : List A) → i < length l → set (replicate i x ++ drop i l) i x ≡ replicate (suc i) x ++ drop (suc i) l
repeat-suc i x [] h = absurd (not-suc-le-zero h)
repeat-suc zero x (a ∷ l) h = refl
repeat-suc {A} (suc i) x (a ∷ l) h = ap (λ (r : List A). x ∷ r) (repeat-suc i x l (le_of_suc-le-suc h))

-- a turn of a loop that makes all sets one
pub repeat-more : {A : Type 0} (i : ℕ) (x : A) (l : List A) → i < length l → set (replicate i x ++ drop i l) i x ≡ replicate (i + 1) x ++ drop (i + 1) l
repeat-more i x l h = rw add-one (repeat-suc i x l h)

-- those at i, and those after them
pub same_next : (n i : ℕ) (F G : State) → i < n → n ≤ length F → n ≤ length G
    → same_sets (take (n - i) (drop i F)) (take (n - i) (drop i G)) ≡ (same_set (set_of F i) (set_of G i) && same_sets (take (n - (i + 1)) (drop (i + 1) F)) (take (n - (i + 1)) (drop (i + 1) G)))
unfolding same_sets
same_next n i F G h f g =
    let left : n - i ≡ suc (n - (i + 1)) = omega arith in
    rw (left, add-one, drop-cons F i [] (omega arith), drop-cons G i [] (omega arith))

-- ---- a join that is added

pub add-joins : (k : ℕ) (c a b : List Str) → Sorted c → union c (joins k a b) ≡ union c (join_sets k a b)
unfolding join_sets
add-joins k c a b s =
    union-only c (union [] (joins k a b)) (union c (joins k a b)) s (union-sorted c (joins k a b) s)
    (λ z. (
      λ m. ⊎_elim inl (λ i. inr ((mem-union z [] (joins k a b)).1 (inr i))) ((mem-union z c (joins k a b)).0 m),
      λ m. (mem-union z c (joins k a b)).1 (⊎_elim inl (λ i. inr (⊎_elim (λ n. absurd (not-nil n)) (λ n. n) ((mem-union z [] (joins k a b)).0 i))) m),
    ))

-- in place of what a block held, which was emptied before
module _ {k w b m i : ℕ} {ws mid : List ℕ} (x y : List Str) (h : IsStored k w b m ws) (l : i < m) (t : Turned k w b m (set (sets_in b m ws) i []) ws mid) where
  emptied : set_of (sets_in b m mid) i ≡ []
  emptied = ap (λ (G : State). set_of G i) (turned-sets t) ∙ get_or-set_same (sets_in b m ws) i [] [] (in-sets h l)

  alone : union (set_of (sets_in b m mid) i) (join_sets k x y) ≡ join_sets k x y
  unfolding join_sets
  alone = ap (λ (a : List Str). union a (join_sets k x y)) emptied ∙ sym (add-joins k [] x y tt)

  pub join_alone : {r : Growth} {exit : List ℕ} → Filled k w b m i (length (set_of (sets_in b m mid) i)) (union (set_of (sets_in b m mid) i) (join_sets k x y)) r mid exit → Filled k w b m i 0 (join_sets k x y) r ws exit
  join_alone {exit = exit} f =
      let n = join_sets k x y in
      let sets : set (sets_in b m mid) i (union (set_of (sets_in b m mid) i) n) ≡ set (sets_in b m ws) i n =
      ap₂ (λ (G : State) (a : List Str). set G i a) (turned-sets t) alone ∙ set-set (sets_in b m ws) i [] n in
      record {
        answer = f.answer ∙ ap₂ (λ (a c : List Str). grown (room_of b) (length a) (length c)) emptied alone;
        step = record {
          stored = λ room.
              subst (λ (G : State). Stored k w b G (drop (m * b) ws) exit) sets
              (subst (λ (v : List ℕ). Stored k w b (set (sets_in b m mid) i (union (set_of (sets_in b m mid) i) n)) v exit) (turned-beyond t) (f.step.stored (rw alone room)));
          beyond = f.step.beyond ∙ turned-beyond t;
        };
      }
