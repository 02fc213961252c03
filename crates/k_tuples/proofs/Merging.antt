-- The loops of src/merge.rt, and the walks of src/set.rt over two sets. Their invariants: `Counting` (what is behind both places, and the union of
-- what is left, are the union), `Backing` (the union of what is left, and what was written behind it, are the union), `Meeting` and `Sharing` (what is
-- left has in common what the two sets have). Assumes nothing.
use mathlib.Core.Path.{◌≡◌, refl, sym, ap, ap₂, ◌∙◌, subst}
use mathlib.Core.Bool.{Bool, true, false}
use mathlib.Core.List.{List, [], ◌∷◌, ◌++◌, append-nil, append_assoc}
use Prim.Native.Nat.{ℕ, zero, suc, ◌+◌, ◌-◌, ◌*◌, ◌≤◌, ◌<◌}
use native.Mathlib.Nat.{not-suc-le-zero}
use native.Mathlib.Numerals.{add-one}
use native.Mathlib.Omega.{arith}
use lib.ListN.{length, get_or, take, drop, set, replicate, length-append, length-drop, take-append-drop, drop_of_length-le, get_or-append}
use lib.Seq.{take_all, take-length, take-suc, take-take, take-append-le, drop_at, drop-drop, get_or-take, length-take-le, sets-eq}
use Rattle.k_tuple.specs.declared.Terminals.{Terminals}
use Rattle.k_tuples.specs.declared.set.Grown.{Grown}
use Rattle.k_tuples.specs.declared.set.Grown.TheVariants.{Added, Same}
use Rattle.refusals.specs.declared.Refusal.{Refusal}
use Rattle.std.specs.Prelude.{Ok, Err}
use Rattle.refusals.specs.declared.Refusal.TheVariants.{SetTooLarge}
use Rattle.std.specs.declared.cmp.Ordering.{Ordering}
use Rattle.std.specs.declared.cmp.Ordering.TheVariants.{Less, Equal, Greater}
use Rattle.k_tuples.specs.Members.{rising, rank, adding, add_all, has_of, kept_of, both_of, none_of}
use Rattle.k_tuples.specs.Words.{Growth, flat, count_word, number_in, encode, member_at, decode, room_of, IsSet, Grew, grown_from}
use Rattle.k_tuples.specs.Merging.{side_of, written, Begins, Merged, Passed}
use Rattle.k_tuples.proofs.Rising.{rank-le, length-add_all}
use Rattle.k_tuples.proofs.Words.{room-words, length-flat, flat_append, length-decode, get_d-decode, set_room, set-some, set_past, next-member, none_left}
use Rattle.k_tuples.proofs.Inserting.{grown-full, grown-added, grew-idle}
use Rattle.k_tuples.proofs.Filling.{Filling, kept_in, gives-kept, fill_more, fill-full, fill_end}
use Rattle.k_tuples.proofs.Uniting.{Level, level-swap, level-rises, is_below, is-above, is_same, drop-rises, take-rises, add_none, first_below, first_above, first-same, add-behind, add-after, add-idle, length_most, ◌then◌, last-below, last-above, last-same, none_below, none_above, none-same, none-in-none, none_passed, has_same, both_below, both-above, both-past, both-with-none, both-passed}

-- ---- words that members are written into

-- `put`
pub put_is : (n : ℕ) (ws : List ℕ) (x : Terminals) → 2 * n + 3 ≤ length ws → set (set ws (2 * n + 1) x.lo) (2 * n + 1 + 1) x.hi ≡ written n (x ∷ []) ws
unfolding written flat
put_is n ws x h =
    let vs : List ℕ = x.lo ∷ x.hi ∷ [] in
    let past : 2 * n + 1 + length vs ≡ 2 * (n + length (x ∷ [])) + 1 = omega arith in
    ap (λ (k : ℕ). set (set ws (2 * n + 1) x.lo) k x.hi) (add-one (2 * n + 1))
    ∙ sets-eq vs ws (2 * n + 1) (omega arith)
    ∙ ap (λ (k : ℕ). take (2 * n + 1) ws ++ vs ++ drop k ws) past
    ∙ append_assoc (take (2 * n + 1) ws) vs (drop (2 * (n + length (x ∷ [])) + 1) ws)

written_none : (n : ℕ) (ws : List ℕ) → written n [] ws ≡ ws
unfolding written flat
written_none n ws =
    let e : 2 * (n + 0) + 1 ≡ 2 * n + 1 = omega arith in
    ap (λ (k : ℕ). take (2 * n + 1) ws ++ drop k ws) e ∙ take-append-drop (2 * n + 1) ws

-- in front of what was written before
written-front : (n : ℕ) (ms more : List Terminals) (ws : List ℕ) → 2 * (n + length ms) + 1 ≤ length ws
    → written n ms (written (n + length ms) more ws) ≡ written n (ms ++ more) ws
unfolding written
written-front n ms more ws h =
    let q = n + length ms in
    let far = drop (2 * (q + length more) + 1) ws in
    let size : length (take (2 * q + 1) ws) ≡ 2 * q + 1 = length-take-le (2 * q + 1) ws h in
    let front : take (2 * n + 1) (take (2 * q + 1) ws ++ (flat more ++ far)) ≡ take (2 * n + 1) ws =
    take-append-le (2 * n + 1) (take (2 * q + 1) ws) (flat more ++ far) (omega (arith, size)) ∙ take-take (2 * n + 1) (2 * q + 1) ws (omega arith) in
    let back : drop (2 * q + 1) (take (2 * q + 1) ws ++ (flat more ++ far)) ≡ flat more ++ far = drop_at (take (2 * q + 1) ws) (flat more ++ far) (2 * q + 1) size in
    let past : 2 * (q + length more) + 1 ≡ 2 * (n + length (ms ++ more)) + 1 = omega (arith, length-append ms more) in
    ap₂ (λ (l r : List ℕ). l ++ (flat ms ++ r)) front back
    ∙ ap (λ (l : List ℕ). take (2 * n + 1) ws ++ l)
    (sym (append_assoc (flat ms) (flat more) far) ∙ ap₂ (λ (l : List ℕ) (k : ℕ). l ++ drop k ws) (sym (flat_append ms more)) past)

length-written : (n : ℕ) (ms : List Terminals) (ws : List ℕ) → 2 * (n + length ms) + 1 ≤ length ws → length (written n ms ws) ≡ length ws
unfolding written
length-written n ms ws h =
    simp (length-append, length-take-le (2 * n + 1) ws (omega arith), length-flat, length-drop) (omega arith)

-- what stands below it is as it was
read_below : (n : ℕ) (ms : List Terminals) (ws : List ℕ) (k : ℕ) → 2 * n + 1 ≤ length ws → k < 2 * n + 1 → get_or (written n ms ws) k 0 ≡ get_or ws k 0
unfolding written
read_below n ms ws k h l =
    get_or-append (take (2 * n + 1) ws) (flat ms ++ drop (2 * (n + length ms) + 1) ws) 0 k (omega (arith, length-take-le (2 * n + 1) ws h))
    ∙ get_or-take (2 * n + 1) ws k 0 l

member_below : (n : ℕ) (ms : List Terminals) (ws : List ℕ) (k : ℕ) → 2 * n + 1 ≤ length ws → k + 1 < 2 * n + 1 → member_at (written n ms ws) k ≡ member_at ws k
member_below n ms ws k h l =
    ap₂ (λ (lo hi : ℕ). record { lo = lo; hi = hi }) (read_below n ms ws k h (omega arith)) (read_below n ms ws (k + 1) h l)

-- ---- the first members of a set, as their words stand

take-flat : (n : ℕ) (ms : List Terminals) → take (2 * n) (flat ms) ≡ flat (take n ms)
unfolding flat
take-flat zero ms = refl
take-flat (suc n) [] = let e : 2 * suc n ≡ suc (suc (2 * n)) = omega arith in rw e
take-flat (suc n) (m ∷ ms) =
    let e : 2 * suc n ≡ suc (suc (2 * n)) = omega arith in
    rw e (ap (λ (l : List ℕ). m.lo ∷ m.hi ∷ l) (take-flat n ms))

front-words : {src : List ℕ} (n : ℕ) → IsSet src → n ≤ length (decode src) → take (2 * n + 1) src ≡ count_word (number_in src) (length (decode src)) ∷ flat (take n (decode src))
unfolding encode
front-words {src} n s h =
    let ms = decode src in
    let one : 2 * n + 1 ≡ suc (2 * n) = omega arith in
    ap₂ take one s.coded
    ∙ ap (λ (l : List ℕ). count_word (number_in src) (length ms) ∷ l) (take-append-le (2 * n) (flat ms) (replicate (length src - (2 * length ms + 1)) 0) (omega (arith, length-flat ms)) ∙ take-flat n ms)

first-words : {src : List ℕ} (n : ℕ) → IsSet src → n ≤ length (decode src) → take (2 * n) (drop 1 src) ≡ flat (take n (decode src))
unfolding encode
first-words {src} n s h =
    let ms = decode src in
    ap (λ (l : List ℕ). take (2 * n) (drop 1 l)) s.coded
    ∙ take-append-le (2 * n) (flat ms) (replicate (length src - (2 * length ms + 1)) 0) (omega (arith, length-flat ms)) ∙ take-flat n ms

-- the whole of what starts at an index, as the borrow checker has it
whole-tail : (at : ℕ) (l : List ℕ) → take (length l - at) (drop at l) ≡ drop at l
whole-tail at l = take_all (length l - at) (drop at l) (rw length-drop (omega arith))

past-tail : (at : ℕ) (l : List ℕ) → drop (length l - at) (drop at l) ≡ []
past-tail at l = drop_of_length-le (drop at l) {i = length l - at} (rw length-drop (omega arith))

-- `put_first`
pub first-put : {part : List ℕ} (p n : ℕ) (ws src : List ℕ) → IsSet src → n ≤ length (decode src)
    → part ≡ take (2 * n) (take (length src - 1) (drop 1 src)) ++ drop (2 * n) (take (length ws - (2 * p + 1)) (drop (2 * p + 1) ws))
    → take (2 * p + 1) ws ++ (part ++ drop (length ws - (2 * p + 1)) (drop (2 * p + 1) ws)) ≡ written p (take n (decode src)) ws
unfolding written
first-put {part} p n ws src s h e =
    let past : 2 * p + 1 + 2 * n ≡ 2 * (p + length (take n (decode src))) + 1 = omega (arith, length-take-le n (decode src) h) in
    ap (λ (l : List ℕ). take (2 * p + 1) ws ++ l)
    (ap (λ (l : List ℕ). part ++ l) (past-tail (2 * p + 1) ws) ∙ append-nil part
    ∙ e ∙ ap₂ (λ (l r : List ℕ). take (2 * n) l ++ drop (2 * n) r) (whole-tail 1 src) (whole-tail (2 * p + 1) ws)
    ∙ ap₂ ◌++◌ (first-words n s h) (drop-drop (2 * n) (2 * p + 1) ws ∙ ap (λ (k : ℕ). drop k ws) past))

-- ---- `union_count`

-- at members i and j, with `new` members of b passed that a does not have
pub record Counting (a b : List ℕ) (old n i j new : ℕ) : Type 0 where
  pub rises-a : rising (decode a) ≡ true
  pub rises-b : rising (decode b) ≡ true
  pub first : old ≡ length (decode a)
  pub second : n ≡ length (decode b)
  pub room-a : 2 * old + 1 ≤ length a
  pub room-b : 2 * n + 1 ≤ length b
  pub within : i ≤ old
  pub among : j ≤ n
  pub few : new ≤ j
  pub size : length (add_all (decode b) (decode a)) ≡ i + new + length (add_all (drop j (decode b)) (drop i (decode a)))

size-behind : (y : Terminals) (ys ms : List Terminals) → rising (y ∷ ys) ≡ true → length (add_all (y ∷ ys) ms) ≡ rank y ms + length (add_all (y ∷ ys) (drop (rank y ms) ms))
size-behind y ys ms r =
    ap length (add-behind y ys r ms) ∙ length-append (take (rank y ms) ms) (add_all (y ∷ ys) (drop (rank y ms) ms))
    ∙ ap (λ (k : ℕ). k + length (add_all (y ∷ ys) (drop (rank y ms) ms))) (length-take-le (rank y ms) ms (rank-le y ms))

-- the first member of a set that has some
first_of : (b : List ℕ) → 0 < length (decode b) → decode b ≡ member_at b 1 ∷ drop 1 (decode b)
first_of b h = next-member b refl h refl

pub count-start : {a b : List ℕ} {old n p : ℕ} → IsSet a → IsSet b → Begins a b p → old ≡ length (decode a) → n ≡ length (decode b) → Counting a b old n p 0 0
count-start {a} {b} {old} {n} {p} sa sb g e f =
    let A = decode a in
    let B = decode b in
    let y = member_at b 1 in
    let h : B ≡ y ∷ drop 1 B = first_of b g.some in
    let t : length (add_all B A) ≡ rank y A + length (add_all B (drop (rank y A) A)) =
    subst (λ (l : List Terminals). length (add_all l A) ≡ rank y A + length (add_all l (drop (rank y A) A))) (sym h)
    (size-behind y (drop 1 B) A (subst (λ (l : List Terminals). rising l ≡ true) h sb.rises)) in
    let u : length (add_all B A) ≡ p + length (add_all B (drop p A)) = t ∙ ap (λ (k : ℕ). k + length (add_all B (drop k A))) (sym g.place) in
    record {
      rises-a = sa.rises;
      rises-b = sb.rises;
      first = e;
      second = f;
      room-a = omega (arith, set_room sa);
      room-b = omega (arith, set_room sb);
      within = omega (arith, g.place, rank-le y A);
      among = omega arith;
      few = omega arith;
      size = omega (arith, u);
    }

module _ {a b : List ℕ} {old n i j new : ℕ} {x y : Terminals} {r : Ordering} (c : Counting a b old n i j new) (turn : i < old) (left : j < n)
    (ax : x ≡ member_at a (2 * i + 1)) (ay : y ≡ member_at b (2 * j + 1)) (told : r ≡ side_of x y) where
  at_a : drop i (decode a) ≡ x ∷ drop (i + 1) (decode a)
  at_a = next-member a c.first turn ax

  at_b : drop j (decode b) ≡ y ∷ drop (j + 1) (decode b)
  at_b = next-member b c.second left ay

  left-b : rising (y ∷ drop (j + 1) (decode b)) ≡ true
  left-b = subst (λ (l : List Terminals). rising l ≡ true) at_b (drop-rises j (decode b) c.rises-b)

  now-is : add_all (drop j (decode b)) (drop i (decode a)) ≡ add_all (y ∷ drop (j + 1) (decode b)) (x ∷ drop (i + 1) (decode a))
  now-is = ap₂ add_all at_b at_a

  pub count-below : r ≡ Less → Counting a b old n (i + 1) j new
  count-below e =
      let s : add_all (drop j (decode b)) (drop i (decode a)) ≡ x ∷ add_all (drop j (decode b)) (drop (i + 1) (decode a)) =
      now-is ∙ first_below x y (drop (i + 1) (decode a)) (drop (j + 1) (decode b)) left-b (is_below x y (sym told ∙ e))
      ∙ ap (λ (l : List Terminals). x ∷ add_all l (drop (i + 1) (decode a))) (sym at_b) in
      record {
        rises-a = c.rises-a;
        rises-b = c.rises-b;
        first = c.first;
        second = c.second;
        room-a = c.room-a;
        room-b = c.room-b;
        within = omega arith;
        among = c.among;
        few = c.few;
        size = omega (arith, c.size, ap length s);
      }

  pub count_same : r ≡ Equal → Counting a b old n (i + 1) (j + 1) new
  count_same e =
      let s : add_all (drop j (decode b)) (drop i (decode a)) ≡ x ∷ add_all (drop (j + 1) (decode b)) (drop (i + 1) (decode a)) =
      now-is ∙ first-same x y (drop (i + 1) (decode a)) (drop (j + 1) (decode b)) left-b (is_same x y (sym told ∙ e)) in
      record {
        rises-a = c.rises-a;
        rises-b = c.rises-b;
        first = c.first;
        second = c.second;
        room-a = c.room-a;
        room-b = c.room-b;
        within = omega arith;
        among = omega arith;
        few = omega (arith, c.few);
        size = omega (arith, c.size, ap length s);
      }

  pub count-above : r ≡ Greater → Counting a b old n i (j + 1) (new + 1)
  count-above e =
      let s : add_all (drop j (decode b)) (drop i (decode a)) ≡ y ∷ add_all (drop (j + 1) (decode b)) (drop i (decode a)) =
      now-is ∙ first_above x y (drop (i + 1) (decode a)) (drop (j + 1) (decode b)) left-b (is-above x y (sym told ∙ e))
      ∙ ap (λ (l : List Terminals). y ∷ add_all (drop (j + 1) (decode b)) l) (sym at_a) in
      record {
        rises-a = c.rises-a;
        rises-b = c.rises-b;
        first = c.first;
        second = c.second;
        room-a = c.room-a;
        room-b = c.room-b;
        within = c.within;
        among = omega arith;
        few = omega (arith, c.few);
        size = omega (arith, c.size, ap length s);
      }

module _ {a b : List ℕ} {old n i j new : ℕ} (c : Counting a b old n i j new) where
  -- all of b was passed
  pub count-stop : n ≤ j → old + new ≡ length (add_all (decode b) (decode a))
  unfolding add_all
  count-stop h =
      let rest : length (add_all (drop j (decode b)) (drop i (decode a))) ≡ length (decode a) - i =
      ap (λ (l : List Terminals). length (add_all l (drop i (decode a)))) (none_left b c.second h) ∙ length-drop i (decode a) in
      omega (arith, c.size, c.within, c.first)

  -- all of a was
  pub count-end : old ≤ i → old + new + (n - j) ≡ length (add_all (decode b) (decode a))
  count-end h =
      let rest : length (add_all (drop j (decode b)) (drop i (decode a))) ≡ length (decode b) - j =
      ap (λ (l : List Terminals). length (add_all (drop j (decode b)) l)) (none_left a c.first h)
      ∙ ap length (add_none (drop j (decode b)) (drop-rises j (decode b) c.rises-b)) ∙ length-drop j (decode b) in
      omega (arith, c.size, c.within, c.second, c.among)

-- ---- `merge_back`

-- i members of a and j of b are left, whose union has m members; the others of the union stand behind these
pub record Backing (a b : List ℕ) (p i j m : ℕ) (ws : List ℕ) : Type 0 where
  pub rises-a : rising (decode a) ≡ true
  pub rises-b : rising (decode b) ≡ true
  pub begins : Begins a b p
  pub from : p ≤ i
  pub first : i ≤ length (decode a)
  pub second : j ≤ length (decode b)
  pub room-a : 2 * length (decode a) + 1 ≤ length a
  pub room-b : 2 * length (decode b) + 1 ≤ length b
  pub done : List Terminals
  pub room : 2 * (m + length done) + 1 ≤ length a
  pub size : m ≡ length (add_all (take j (decode b)) (take i (decode a)))
  pub least : i ≤ m
  pub most : m ≤ i + j
  pub whole : add_all (take j (decode b)) (take i (decode a)) ++ done ≡ add_all (decode b) (decode a)
  pub is : ws ≡ written m done a
  pub as_long : length ws ≡ length a

-- no fewer than those of a that are left, and no more than are left of both
union-least : (i j : ℕ) (xs ys : List Terminals) → i ≤ length xs → i ≤ length (add_all (take j ys) (take i xs))
union-least i j xs ys h = omega (arith, length-add_all (take j ys) (take i xs), length-take-le i xs h)

union-most : (i j : ℕ) (xs ys : List Terminals) → i ≤ length xs → j ≤ length ys → length (add_all (take j ys) (take i xs)) ≤ i + j
union-most i j xs ys h l = omega (arith, length_most (take j ys) (take i xs), length-take-le i xs h, length-take-le j ys l)

pub back_start : {a b : List ℕ} {p n i j : ℕ} → IsSet a → IsSet b → Begins a b p → n ≡ length (add_all (decode b) (decode a)) → n ≤ room_of (length a)
    → i ≡ length (decode a) → j ≡ length (decode b) → Backing a b p i j n a
back_start {a} {b} {p} {n} {i} {j} sa sb g c h e f =
    let A = decode a in
    let B = decode b in
    let all : add_all (take j B) (take i A) ≡ add_all B A = ap₂ add_all (ap (λ (k : ℕ). take k B) f ∙ take-length B) (ap (λ (k : ℕ). take k A) e ∙ take-length A) in
    let size' : n ≡ length (add_all (take j B) (take i A)) = c ∙ ap length (sym all) in
    let room-words' : 2 * (n + 0) + 1 ≤ length a = omega (arith, room-words n (length a) h (set-some sa)) in
    record {
      rises-a = sa.rises;
      rises-b = sb.rises;
      begins = g;
      from = omega (arith, g.place, rank-le (member_at b 1) A);
      first = omega arith;
      second = omega arith;
      room-a = set_room sa;
      room-b = set_room sb;
      done = [];
      room = room-words';
      size = size';
      least = omega (arith, size', union-least i j A B (omega arith));
      most = omega (arith, size', union-most i j A B (omega arith) (omega arith));
      whole = append-nil (add_all (take j B) (take i A)) ∙ all;
      is = sym (written_none n a);
      as_long = refl;
    }

-- the last of the first i members
last_of : (a : List ℕ) (i : ℕ) (x : Terminals) → 0 < i → i ≤ length (decode a) → x ≡ member_at a (2 * i - 1) → take i (decode a) ≡ take (i - 1) (decode a) then x
last_of a i x h l e =
    let up : i ≡ suc (i - 1) = omega arith in
    let at : 2 * (i - 1) + 1 ≡ 2 * i - 1 = omega arith in
    ap (λ (k : ℕ). take k (decode a)) up ∙ take-suc (decode a) (i - 1) x (omega arith)
    ∙ ap (λ (z : Terminals). take (i - 1) (decode a) then z) (get_d-decode a (i - 1) x (omega (arith, length-decode a)) ∙ ap (λ (k : ℕ). member_at a k) at ∙ sym e)

module _ {a b ws : List ℕ} {p i j m : ℕ} (k : Backing a b p i j m ws) where
  -- one more member has been written
  back_more : {ws' : List ℕ} (i' j' : ℕ) (z : Terminals) → p ≤ i' → i' ≤ length (decode a) → j' ≤ length (decode b)
      → add_all (take j (decode b)) (take i (decode a)) ≡ add_all (take j' (decode b)) (take i' (decode a)) then z → ws' ≡ written (m - 1) (z ∷ []) ws → Backing a b p i' j' (m - 1) ws'
  back_more {ws'} i' j' z hp hi hj e w =
      let U = add_all (take j' (decode b)) (take i' (decode a)) in
      let size' : m ≡ length U + 1 = k.size ∙ ap length e ∙ length-append U (z ∷ []) in
      let size'' : m - 1 ≡ length U = omega arith in
      let up : m ≡ m - 1 + length (z ∷ []) = omega arith in
      let room' : 2 * (m - 1 + length (z ∷ k.done)) + 1 ≤ length a = omega (arith, k.room) in
      let is' : ws' ≡ written (m - 1) (z ∷ k.done) a =
      w ∙ ap (written (m - 1) (z ∷ [])) (k.is ∙ ap (λ (q : ℕ). written q k.done a) up) ∙ written-front (m - 1) (z ∷ []) k.done a (omega (arith, k.room)) in
      record {
        rises-a = k.rises-a;
        rises-b = k.rises-b;
        begins = k.begins;
        from = hp;
        first = hi;
        second = hj;
        room-a = k.room-a;
        room-b = k.room-b;
        done = z ∷ k.done;
        room = room';
        size = size'';
        least = omega (arith, union-least i' j' (decode a) (decode b) hi);
        most = omega (arith, union-most i' j' (decode a) (decode b) hi hj);
        whole = sym (append_assoc U (z ∷ []) k.done) ∙ ap (λ (l : List Terminals). l ++ k.done) (sym e) ∙ k.whole;
        is = is';
        as_long = ap length is' ∙ length-written (m - 1) (z ∷ k.done) a room';
      }

  module _ {x y : Terminals} {r : Ordering} (turn : p < i) (more : i < m) (ax : x ≡ member_at ws (2 * i - 1)) (ay : y ≡ member_at b (2 * j - 1)) (told : r ≡ side_of x y) where
    last-a : take i (decode a) ≡ take (i - 1) (decode a) then x
    last-a =
        last_of a i x (omega arith) k.first
        (ax ∙ ap (λ (l : List ℕ). member_at l (2 * i - 1)) k.is ∙ member_below m k.done a (2 * i - 1) (omega (arith, k.room)) (omega arith))

    last-b : take j (decode b) ≡ take (j - 1) (decode b) then y
    last-b = last_of b j y (omega (arith, k.most)) k.second ay

    rises-to-a : rising (take (i - 1) (decode a) then x) ≡ true
    rises-to-a = subst (λ (l : List Terminals). rising l ≡ true) last-a (take-rises i (decode a) k.rises-a)

    rises-to-b : rising (take (j - 1) (decode b) then y) ≡ true
    rises-to-b = subst (λ (l : List Terminals). rising l ≡ true) last-b (take-rises j (decode b) k.rises-b)

    pub back_below : {ws' : List ℕ} → r ≡ Less → ws' ≡ written (m - 1) (y ∷ []) ws → Backing a b p i (j - 1) (m - 1) ws'
    back_below e w =
        back_more i (j - 1) y k.from k.first (omega (arith, k.second))
        (ap₂ add_all last-b last-a ∙ last-below x y (take (i - 1) (decode a)) (take (j - 1) (decode b)) rises-to-a rises-to-b (is_below x y (sym told ∙ e))
        ∙ ap (λ (l : List Terminals). add_all (take (j - 1) (decode b)) l then y) (sym last-a))
        w

    pub back-same : {ws' : List ℕ} → r ≡ Equal → ws' ≡ written (m - 1) (x ∷ []) ws → Backing a b p (i - 1) (j - 1) (m - 1) ws'
    back-same e w =
        back_more (i - 1) (j - 1) x (omega arith) (omega (arith, k.first)) (omega (arith, k.second))
        (ap₂ add_all last-b last-a ∙ last-same x y (take (i - 1) (decode a)) (take (j - 1) (decode b)) rises-to-a rises-to-b (is_same x y (sym told ∙ e)))
        w

    pub back_above : {ws' : List ℕ} → r ≡ Greater → ws' ≡ written (m - 1) (x ∷ []) ws → Backing a b p (i - 1) j (m - 1) ws'
    back_above e w =
        back_more (i - 1) j x (omega arith) (omega (arith, k.first)) k.second
        (ap₂ add_all last-b last-a ∙ last-above x y (take (i - 1) (decode a)) (take (j - 1) (decode b)) rises-to-a rises-to-b (is-above x y (sym told ∙ e))
        ∙ ap (λ (l : List Terminals). add_all l (take (i - 1) (decode a)) then x) (sym last-b))
        w

-- what is left of b comes after what is left of a
apart_by : (y : Terminals) (ys ms : List Terminals) (j : ℕ) → rising (y ∷ ys) ≡ true → add_all (take j (y ∷ ys)) (take (rank y ms) ms) ≡ take (rank y ms) ms ++ take j (y ∷ ys)
unfolding add_all
apart_by y ys ms zero r = sym (append-nil (take (rank y ms) ms))
apart_by y ys ms (suc j) r = add-after y (take j ys) (take-rises (suc j) (y ∷ ys) r) ms

module _ {a b ws : List ℕ} {p i j m : ℕ} (k : Backing a b p i j m ws) where
  -- all that is left stands where it belongs
  pub back-stop : m ≤ i → Merged a (add_all (decode b) (decode a)) ws
  back-stop h =
      let idle : add_all (take j (decode b)) (take i (decode a)) ≡ take i (decode a) =
      add-idle (take j (decode b)) (take i (decode a)) (omega (arith, k.size, length-take-le i (decode a) k.first)) in
      let met : m ≡ i = omega (arith, k.least) in
      record {
        kept = i;
        rest = k.done;
        within = k.first;
        whole = ap (λ (l : List Terminals). l ++ k.done) (sym idle) ∙ k.whole;
        is = k.is ∙ ap (λ (q : ℕ). written q k.done a) met;
      }

  apart : i ≤ p → add_all (take j (decode b)) (take i (decode a)) ≡ take p (decode a) ++ take j (decode b)
  apart h =
      let y = member_at b 1 in
      let at : i ≡ p = omega (arith, k.from) in
      let fst : decode b ≡ y ∷ drop 1 (decode b) = first_of b k.begins.some in
      let r : rising (y ∷ drop 1 (decode b)) ≡ true = subst (λ (l : List Terminals). rising l ≡ true) fst k.rises-b in
      ap (λ (q : ℕ). add_all (take j (decode b)) (take q (decode a))) at
      ∙ subst (λ (q : ℕ). add_all (take j (decode b)) (take q (decode a)) ≡ take q (decode a) ++ take j (decode b)) (sym k.begins.place)
      (subst (λ (l : List Terminals). add_all (take j l) (take (rank y (decode a)) (decode a)) ≡ take (rank y (decode a)) (decode a) ++ take j l) (sym fst)
      (apart_by y (drop 1 (decode b)) (decode a) j r))

  all_left : i ≤ p → m ≡ p + j
  all_left h =
      k.size ∙ ap length (apart h) ∙ length-append (take p (decode a)) (take j (decode b))
      ∙ ap₂ ◌+◌ (length-take-le p (decode a) (omega (arith, k.from, k.first))) (length-take-le j (decode b) k.second)

  pub front-room : i ≤ p → 2 * (p + j) + 1 ≤ length ws
  front-room h = omega (arith, all_left h, k.room, k.as_long)

  -- the rest of b was put behind the front of a
  pub back_end : {ws' : List ℕ} → i ≤ p → ws' ≡ written p (take j (decode b)) ws → Merged a (add_all (decode b) (decode a)) ws'
  back_end h w =
      let size : length (take j (decode b)) ≡ j = length-take-le j (decode b) k.second in
      let up : m ≡ p + length (take j (decode b)) = all_left h ∙ ap (λ (q : ℕ). p + q) (sym size) in
      record {
        kept = p;
        rest = take j (decode b) ++ k.done;
        within = omega (arith, k.from, k.first);
        whole = sym (append_assoc (take p (decode a)) (take j (decode b)) k.done) ∙ ap (λ (l : List Terminals). l ++ k.done) (sym (apart h)) ∙ k.whole;
        is = w ∙ ap (written p (take j (decode b))) (k.is ∙ ap (λ (q : ℕ). written q k.done a) up)
            ∙ written-front p (take j (decode b)) k.done a (omega (arith, k.room));
      }

-- ---- `unite`

pub begin-at : {x : Terminals} {p : ℕ} (a b : List ℕ) → 0 < length (decode b) → x ≡ member_at b (2 * 0 + 1) → p ≡ rank x (decode a) → Begins a b p
begin-at a b h e f = record { some = h; place = f ∙ ap (λ (t : Terminals). rank t (decode a)) e }

pub unite-full : {n m : ℕ} {new : List Terminals} (ws : List ℕ) → n ≡ length new → m ≡ room_of (length ws) → m < n → Grew ws ws new (Err SetTooLarge)
unite-full ws e f h = record { answer = sym (grown-full _ _ _ (omega arith)); words = λ l. absurd (omega arith) }

pub unite-same : {n c : ℕ} (a b : List ℕ) → IsSet a → n ≡ length (add_all (decode b) (decode a)) → c ≡ length (decode a) → n ≤ c → Grew a a (add_all (decode b) (decode a)) (Ok Same)
unite-same a b s e f h =
    subst (λ (l : List Terminals). Grew a a l (Ok Same)) (sym (add-idle (decode b) (decode a) (omega arith))) (grew-idle s)

-- what is written stands behind the count word
written-number : (n : ℕ) (ms : List Terminals) (ws : List ℕ) → 1 ≤ length ws → number_in (written n ms ws) ≡ number_in ws
unfolding written number_in
written-number n ms [] h = absurd (not-suc-le-zero h)
written-number n ms (c ∷ ws) h = let one : 2 * n + 1 ≡ suc (2 * n) = omega arith in rw one

-- the words of a merge, once the count is written
merged-words : {a ws : List ℕ} {all : List Terminals} (n : ℕ) → IsSet a → Merged a all ws → n ≡ length all → length (decode a) ≤ n → set ws 0 (count_word (number_in ws) n) ≡ encode (number_in a) (length a) all
unfolding encode written
merged-words {a} {ws} {all} n s g e h =
    let A = decode a in
    let kept = g.kept in
    let rest = g.rest in
    let size : kept + length rest ≡ n =
    ap (λ (q : ℕ). q + length rest) (sym (length-take-le kept A g.within)) ∙ sym (length-append (take kept A) rest) ∙ ap length g.whole ∙ sym e in
    let zeros : List ℕ = replicate (length a - (2 * n + 1)) 0 in
    let past : drop (2 * (kept + length rest) + 1) a ≡ zeros =
    ap (λ (q : ℕ). drop (2 * q + 1) a) size ∙ set_past (2 * n + 1) s (omega (arith, length-decode a)) in
    let number : number_in ws ≡ number_in a = ap number_in g.is ∙ written-number kept rest a (set-some s) in
    ap (λ (v : ℕ). set ws 0 (count_word v n)) number
    ∙ ap (λ (l : List ℕ). set l 0 (count_word (number_in a) n)) (g.is ∙ ap₂ (λ (l r : List ℕ). l ++ (flat rest ++ r)) (front-words kept s g.within) past)
    ∙ ap (λ (l : List ℕ). count_word (number_in a) n ∷ l) (sym (append_assoc (flat (take kept A)) (flat rest) zeros) ∙ ap (λ (l : List ℕ). l ++ zeros) (sym (flat_append (take kept A) rest) ∙ ap flat g.whole))
    ∙ ap (λ (q : ℕ). count_word (number_in a) q ∷ (flat all ++ replicate (length a - (2 * q + 1)) 0)) e

pub unite-added : {n m c : ℕ} {a ws exit : List ℕ} (b : List ℕ) → IsSet a → n ≡ length (add_all (decode b) (decode a)) → m ≡ room_of (length a) → n ≤ m → c ≡ length (decode a) → c < n
    → Merged a (add_all (decode b) (decode a)) ws → exit ≡ set ws 0 (count_word (number_in ws) n) → Grew a exit (add_all (decode b) (decode a)) (Ok Added)
unite-added {n} b s e most room f h g x = record {
  answer = sym (grown-added _ _ _ (omega arith) (omega arith));
  words = λ l. x ∙ merged-words n s g e (omega arith);
}

-- ---- `start`

pub passed_none : {n : ℕ} (xs ys : List Terminals) → n ≡ length xs → n ≡ 0 → Passed xs ys 0
passed_none [] ys e z = refl
passed_none (x ∷ xs) ys e z = absurd (omega arith)

pub passed_first : {n r : ℕ} {x : Terminals} (a : List ℕ) (ys : List Terminals) → n ≡ length (decode a) → (n ≡ 0 → ⊥) → x ≡ member_at a (2 * 0 + 1) → r ≡ rank x ys → Passed (decode a) ys r
passed_first {n} {r} {x} a ys e z ax h =
    subst (λ (l : List Terminals). Passed l ys r) (sym (next-member {n = n} {i = 0} {x = x} a e (omega arith) ax)) h

-- ---- `disjoint`

pub record Meeting (a b : List ℕ) (answer : Bool) (n m i j : ℕ) : Type 0 where
  pub rises-a : rising (decode a) ≡ true
  pub first : n ≡ length (decode a)
  pub second : m ≡ length (decode b)
  pub left : answer ≡ none_of (drop i (decode a)) (drop j (decode b))

pub meet-start : {a b : List ℕ} {n m j : ℕ} → IsSet a → n ≡ length (decode a) → m ≡ length (decode b) → Passed (decode a) (decode b) j → Meeting a b (none_of (decode a) (decode b)) n m 0 j
meet-start {a} {b} {j = j} s e f p = record { rises-a = s.rises; first = e; second = f; left = none_passed (decode a) (decode b) j s.rises p }

module _ {a b : List ℕ} {answer : Bool} {n m i j : ℕ} {x y : Terminals} {r : Ordering} (k : Meeting a b answer n m i j) (turn : i < n) (more : j < m)
    (ax : x ≡ member_at a (2 * i + 1)) (ay : y ≡ member_at b (2 * j + 1)) (told : r ≡ side_of x y) where
  next-a : drop i (decode a) ≡ x ∷ drop (i + 1) (decode a)
  next-a = next-member a k.first turn ax

  next-b : drop j (decode b) ≡ y ∷ drop (j + 1) (decode b)
  next-b = next-member b k.second more ay

  rises-on : rising (x ∷ drop (i + 1) (decode a)) ≡ true
  rises-on = subst (λ (l : List Terminals). rising l ≡ true) next-a (drop-rises i (decode a) k.rises-a)

  is-left : answer ≡ none_of (x ∷ drop (i + 1) (decode a)) (y ∷ drop (j + 1) (decode b))
  is-left = k.left ∙ ap₂ none_of next-a next-b

  pub meet_below : r ≡ Less → Meeting a b answer n m (i + 1) j
  meet_below e = record {
    rises-a = k.rises-a;
    first = k.first;
    second = k.second;
    left = is-left ∙ none_below x y (drop (i + 1) (decode a)) (drop (j + 1) (decode b)) rises-on (is_below x y (sym told ∙ e)) ∙ ap (none_of (drop (i + 1) (decode a))) (sym next-b);
  }

  pub meet-above : r ≡ Greater → Meeting a b answer n m i (j + 1)
  meet-above e = record {
    rises-a = k.rises-a;
    first = k.first;
    second = k.second;
    left = is-left ∙ none_above x y (drop (i + 1) (decode a)) (drop (j + 1) (decode b)) rises-on (is-above x y (sym told ∙ e))
        ∙ ap (λ (l : List Terminals). none_of l (drop (j + 1) (decode b))) (sym next-a);
  }

  pub meet-same : r ≡ Equal → false ≡ answer
  meet-same e = sym (is-left ∙ none-same x y (drop (i + 1) (decode a)) (drop (j + 1) (decode b)) rises-on (is_same x y (sym told ∙ e)))

module _ {a b : List ℕ} {answer : Bool} {n m i j : ℕ} (k : Meeting a b answer n m i j) where
  pub meet-stop : m ≤ j → true ≡ answer
  meet-stop h = sym (k.left ∙ ap (none_of (drop i (decode a))) (none_left b k.second h) ∙ none-in-none (drop i (decode a)))

  pub meet-end : n ≤ i → true ≡ answer
  meet-end h = sym (k.left ∙ ap (λ (l : List Terminals). none_of l (drop j (decode b))) (none_left a k.first h))

-- ---- `common_into`

-- a `Filling`, with what is left of b
pub record Sharing (a b entry : List ℕ) (goal : List Terminals) (n m old i j : ℕ) (ws : List ℕ) : Type 0 where
  pub rises-a : rising (decode a) ≡ true
  pub second : m ≡ length (decode b)
  pub filling : Filling (kept_in (drop j (decode b))) a entry goal n old i ws

pub share-start : {a b entry : List ℕ} {n m old j : ℕ} → IsSet a → IsSet entry → n ≡ length (decode a) → m ≡ length (decode b) → old ≡ length (decode entry) → Passed (decode a) (decode b) j
    → Sharing a b entry (add_all (both_of (decode a) (decode b)) (decode entry)) n m old 0 j entry
share-start {a} {b} {entry} {n} {m} {old} {j} s t e f d p = record {
  rises-a = s.rises;
  second = f;
  filling = record {
    is_set = t;
    as_long = refl;
    number = refl;
    counted = e;
    had = d;
    to-come = ap (λ (l : List Terminals). add_all l (decode entry)) (sym (both-passed (decode a) (decode b) j s.rises p));
  };
}

-- what is left has the same in common
share-on : {a b entry ws : List ℕ} {goal : List Terminals} {n m old i j : ℕ} (i' j' : ℕ) → Sharing a b entry goal n m old i j ws
    → both_of (drop i (decode a)) (drop j (decode b)) ≡ both_of (drop i' (decode a)) (drop j' (decode b)) → Sharing a b entry goal n m old i' j' ws
share-on {ws = ws} i' j' k e =
    let f = k.filling in
    record {
      rises-a = k.rises-a;
      second = k.second;
      filling = record {
        is_set = f.is_set;
        as_long = f.as_long;
        number = f.number;
        counted = f.counted;
        had = f.had;
        to-come = ap (λ (l : List Terminals). add_all l (decode ws)) (sym e) ∙ f.to-come;
      };
    }

module _ {a b entry ws : List ℕ} {goal : List Terminals} {n m old i j : ℕ} {x y : Terminals} {r : Ordering} (k : Sharing a b entry goal n m old i j ws) (turn : i < n) (more : j < m)
    (ax : x ≡ member_at a (2 * i + 1)) (ay : y ≡ member_at b (2 * j + 1)) (told : r ≡ side_of x y) where
  read_a : drop i (decode a) ≡ x ∷ drop (i + 1) (decode a)
  read_a = next-member a k.filling.counted turn ax

  read-b : drop j (decode b) ≡ y ∷ drop (j + 1) (decode b)
  read-b = next-member b k.second more ay

  rises-from : rising (x ∷ drop (i + 1) (decode a)) ≡ true
  rises-from = subst (λ (l : List Terminals). rising l ≡ true) read_a (drop-rises i (decode a) k.rises-a)

  pub share-below : r ≡ Less → Sharing a b entry goal n m old (i + 1) j ws
  share-below e =
      share-on (i + 1) j k
      (ap₂ both_of read_a read-b ∙ both_below x y (drop (i + 1) (decode a)) (drop (j + 1) (decode b)) rises-from (is_below x y (sym told ∙ e)) ∙ ap (both_of (drop (i + 1) (decode a))) (sym read-b))

  pub share-above : r ≡ Greater → Sharing a b entry goal n m old i (j + 1) ws
  share-above e =
      share-on i (j + 1) k
      (ap₂ both_of read_a read-b ∙ both-above x y (drop (i + 1) (decode a)) (drop (j + 1) (decode b)) rises-from (is-above x y (sym told ∙ e))
      ∙ ap (λ (l : List Terminals). both_of l (drop (j + 1) (decode b))) (sym read_a))

  module _ {exit : List ℕ} {g : Growth} (e : r ≡ Equal) (grew : Grew ws exit (adding x (decode ws)) g) where
    level : Level x y
    level = is_same x y (sym told ∙ e)

    has-it : true ≡ has_of x (drop j (decode b))
    has-it = sym (ap (has_of x) read-b ∙ has_same x y (drop (j + 1) (decode b)) level)

    kept : Grew ws exit (add_all (kept_of (member_at a (2 * i + 1)) (drop j (decode b))) (decode ws)) g
    kept = gives-kept (member_at a (2 * i + 1)) ax (drop j (decode b)) has-it refl grew

    pub share-full : {d : Refusal} {q : Growth} → g ≡ Err d → q ≡ Err d → Grew entry exit goal q
    share-full t u = fill-full k.filling turn kept t u

    pub share-more : {t : Grown} → g ≡ Ok t → Sharing a b entry goal n m old (i + 1) (j + 1) exit
    share-more t =
        share-on {j = j} (i + 1) (j + 1) (record { rises-a = k.rises-a; second = k.second; filling = fill_more k.filling turn kept t })
        (ap (both_of (drop (i + 1) (decode a))) read-b ∙ both-past y (drop (j + 1) (decode b)) (drop (i + 1) (decode a)) (level-rises (drop (i + 1) (decode a)) (level-swap level) rises-from))

module _ {a b entry ws : List ℕ} {goal : List Terminals} {n m old i j : ℕ} {r : Grown} (k : Sharing a b entry goal n m old i j ws) where
  pub share-end : n ≤ i → r ≡ grown_from old (length (decode ws)) → Grew entry ws goal (Ok r)
  share-end h e = fill_end k.filling h e

  -- nothing is left of b: then it is as if nothing were left of a
  pub share-stop : m ≤ j → r ≡ grown_from old (length (decode ws)) → Grew entry ws goal (Ok r)
  share-stop h e =
      let none : both_of (drop i (decode a)) (drop j (decode b)) ≡ both_of (drop n (decode a)) (drop j (decode b)) =
      ap (both_of (drop i (decode a))) (none_left b k.second h) ∙ both-with-none (drop i (decode a))
      ∙ sym (ap (λ (l : List Terminals). both_of l (drop j (decode b))) (none_left {i = n} a k.filling.counted (omega arith))) in
      fill_end (share-on n j k none).filling (omega arith) e
