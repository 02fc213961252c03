-- `set::unfinished`: the members of a set with as many slots as one of them, and the members from a long one on. By their numbers, those come first that
-- have fewer slots; so a class ends at the place of the least number with one slot more. Assumes nothing.
use mathlib.Core.Path.{◌≡◌, refl, sym, ap, ap₂, ◌∙◌}
use mathlib.Core.Bool.{Bool, true, false}
use mathlib.Core.List.{List}
use Prim.Native.Nat.{ℕ, suc, ◌+◌, ◌-◌, ◌*◌, ◌^◌, ◌≤◌, ◌<◌}
use native.Mathlib.Nat.{mul-le-mul_right, suc-mul}
use native.Mathlib.Omega.{arith}
use borrow.Author.Tests.{ltb-true, ltb-false, lt-ltb, le-ltb}
use lib.Dec.{ltb}
use lib.ListN.{length, get_or, drop, length-map}
use Rattle.k_tuple.specs.declared.Terminals.{Terminals}
use Rattle.k_tuple.specs.Strings.{Str, eps, good, length_of, stored, number, fields, pack, well_formed, width_field, count_field}
use Rattle.k_tuple.specs.Packed.{words, packed, number_of, less_of, reads, complete_in}
use Rattle.k_tuple.proofs.Words.{number-words}
use Rattle.k_tuple.proofs.Round.{View, fine, stored-lt-120}
use Rattle.k_tuple.proofs.Closed.{reads-packed}
use Rattle.k_tuple.proofs.Held.{seen}
use Rattle.k_tuples.specs.Members.{rank, open_of}
use Rattle.k_tuples.specs.Words.{member_at, decode}
use Rattle.k_tuples.specs.Cores.{Long, Class, HoldsSome}
use Rattle.k_tuples.proofs.Rising.{rank-le, rank-above, rank-first}
use Rattle.k_tuples.proofs.Sorted.{place-member}
use Rattle.k_tuples.proofs.Words.{length-decode, get_d-decode}
use Rattle.k_tuples.proofs.Unfinished.{long_rest, open-class}
use Rattle.k_tuples.proofs.Held.{any-well, any-decode, any_at, any-rest, some-set}

-- ---- numbers

-- the number of slots stands above the slots, here B
module _ (B w l m n : ℕ) (h : n < B) where
  -- with fewer slots a number is less, and with as many or more it is not
  fewer-slots : l < m → (w * 16 + l) * B + n < (w * 16 + m) * B + 0
  fewer-slots u = let e : suc (w * 16 + l) ≤ w * 16 + m = omega arith in omega (arith, mul-le-mul_right B e, suc-mul (w * 16 + l) B)

  more-slots : m ≤ l → (w * 16 + m) * B + 0 ≤ (w * 16 + l) * B + n
  more-slots u = let e : w * 16 + m ≤ w * 16 + l = omega arith in omega (arith, mul-le-mul_right B e)

  -- comparing the numbers compares the numbers of slots
  slots-decide : ltb ((w * 16 + l) * B + n) ((w * 16 + m) * B + 0) ≡ ltb l m
  slots-decide = by (ltb l m) refl
    where
      by : (t : Bool) → ltb l m ≡ t → ltb ((w * 16 + l) * B + n) ((w * 16 + m) * B + 0) ≡ t
      by true e = lt-ltb _ _ (fewer-slots (ltb-true l m e))
      by false e = le-ltb _ _ (more-slots (ltb-false l m e))

-- the strings of fewer than m slots are those below the least number of m slots
less-slots : (w m : ℕ) (z : Str) → well_formed w z ≡ true → less_of (packed w z) (words (fields w m 0)) ≡ ltb (length_of z) m
unfolding less_of pack fields
less-slots w m z well =
    ap₂ ltb (number-words (pack w z)) (number-words (fields w m 0))
    ∙ slots-decide (2 ^ 120) w (length_of z) m (number w (stored w z)) (stored-lt-120 w z (fine w z well))

-- ---- member i, which is x

module _ {ws : List ℕ} {i : ℕ} {x : Terminals} (h : HoldsSome ws) (l : i < length (decode ws)) (at : x ≡ member_at ws (2 * i + 1)) where
  -- the strings, their width, and the one that x holds
  abbrev a : List Str
  a = h.set

  abbrev w : ℕ
  w = h.width

  abbrev z : Str
  z = get_or a i eps

  -- there are as many members as strings
  size : length (decode ws) ≡ length a
  size = ap length (any-decode h.held) ∙ length-map a (packed w)

  -- each string is well formed
  well-at : (m : ℕ) → m < length (decode ws) → well_formed w (get_or a m eps) ≡ true
  well-at m u = any-well h.held (get_or a m eps) (place-member eps a m (omega (arith, size)))

  -- what x holds
  is : reads x ≡ good w z
  is = ap reads (at ∙ sym (get_d-decode ws i (packed w eps) (omega (arith, length-decode ws))) ∙ any_at h.held i) ∙ reads-packed w z (well-at i l)

  fields-are : View (number_of x) w z
  fields-are = seen x (record { width = w; str = z; is = is })

  -- from a long member on none is open
  pub long-from : {t : Bool} (k : ℕ) → Long k x t → t ≡ true → open_of k (drop i (decode ws)) ≡ 0
  long-from k long e =
      let c = fields-are.count in
      any-rest h.held k i ∙ long_rest k i a h.held.sorted (omega (arith, size)) (omega (arith, long.slots e)) (omega (arith, long.some e))

  -- ---- `class_end`, where y is the least number with one slot more
  module _ {y : Terminals} (next : y ≡ words (fields (width_field (number_of x)) (count_field (number_of x) + 1) 0)) where
    -- below y are the members that have no more slots than x
    below : (m : ℕ) → m < length (decode ws) → less_of (get_or (decode ws) m (packed w eps)) y ≡ ltb (length_of (get_or a m eps)) (length_of z + 1)
    below m u =
        ap₂ less_of (any_at h.held m) (next ∙ ap₂ (λ (v c : ℕ). words (fields v (c + 1) 0)) fields-are.width fields-are.count)
        ∙ less-slots w (length_of z + 1) (get_or a m eps) (well-at m u)

    -- x is one of them
    before-end : i < rank y (decode ws)
    before-end = rank-above y (decode ws) i (packed w eps) (some-set h).rises l (below i l ∙ lt-ltb (length_of z) (length_of z + 1) (omega arith))

    -- so y may be looked for from there
    pub class-from : i ≤ rank y (decode ws)
    class-from = omega (arith, before-end)

    -- up to the place of y all are unfinished where x is
    pub class-found : {j : ℕ} → j ≡ rank y (decode ws) → Class ws i j
    class-found {j} e =
        let within : j ≤ length (decode ws) = omega (arith, rank-le y (decode ws)) in
        let short : (m : ℕ) → m < j → length_of (get_or a m eps) ≤ length_of z = λ m u.
        let t : less_of (get_or (decode ws) m (packed w eps)) y ≡ true = rank-first y (decode ws) m (packed w eps) (omega arith) in
        omega (arith, ltb-true (length_of (get_or a m eps)) (length_of z + 1) (sym (below m (omega arith)) ∙ t)) in
        record {
          some = omega (arith, before-end);
          within = within;
          like = λ k o.
              any-rest h.held k i
              ∙ open-class k i j a h.held.sorted (omega (arith, before-end)) (omega (arith, size)) short (sym (ap (complete_in k) (ap reads (sym at) ∙ is)) ∙ o)
              ∙ ap (λ (n : ℕ). (j - i) + n) (sym (any-rest h.held k j));
        }
