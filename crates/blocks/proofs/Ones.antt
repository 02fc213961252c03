-- One set to which others are added: what the words hold where the number is kept. Assumes nothing.
use mathlib.Core.Path.{◌≡◌, refl, sym, ap, ap₂, ◌∙◌}
use mathlib.Core.Bool.{true, false}
use borrow.Author.Tests.{ltb-true}
use mathlib.Core.List.{List, map}
use Prim.Native.Nat.{ℕ, ◌+◌, ◌≤◌, ◌<◌}
use native.Mathlib.Omega.{arith}
use lib.ListN.{length, length-map}
use Rattle.k_tuple.specs.Strings.{Str}
use Rattle.k_tuple.specs.Packed.{packed}
use Rattle.k_tuples.specs.Sets.{union, unfinished, joins}
use Rattle.k_tuples.specs.Members.{add_all, pairs_of}
use Rattle.k_tuples.specs.Words.{Growth, number_in, encode, decode, room_of, IsSet, Grew, Numbered, is_full}
use Rattle.k_tuples.specs.Held.{set_words, Holds, Became}
use Rattle.k_tuples.proofs.Held.{holds-number, holds-decode, as-any, any_open, any-decode, any-set, has-fit, numbered, united, joined-into, union-held, joins-held, became-number, kept-became}
use Rattle.k_tuples.proofs.Filling.{full-grown}
use Rattle.k_tuples.proofs.Unfinished.{union-done, union-apart, unfinished-few, joins-done, joins-closed}

-- the number of a set that is held is true
pub is-numbered : {k w : ℕ} {a : List Str} {ws : List ℕ} → Holds k w a ws → Numbered k ws
is-numbered {k} h = holds-number h ∙ sym (any_open (as-any h) k)

-- where the number is 0 nothing is unfinished
is-done : {k w u : ℕ} {x : List Str} {xs : List ℕ} → Holds k w x xs → u ≡ number_in xs → u ≡ 0 → unfinished k x ≡ 0
is-done g told none = sym (holds-number g) ∙ sym told ∙ none

module _ {k w : ℕ} {a x : List Str} {ws xs exit : List ℕ} {r : Growth} (h : Holds k w a ws) (g : Holds k w x xs) where
  -- `union_into`, where the other set has nothing unfinished
  pub united-kept : {u : ℕ} → u ≡ number_in xs → u ≡ 0 → Grew ws exit (add_all (decode xs) (decode ws)) r → Became k w a (union a x) (length ws) exit r
  united-kept told none grew =
      let size : length (add_all (decode xs) (decode ws)) ≡ length (union a x) = ap length (union-held h g) ∙ length-map (union a x) (packed w) in
      kept-became (united h g grew) (omega (arith, h.room)) refl
      (λ room. became-number grew (rw size room) ∙ holds-number h ∙ sym (union-done k a x (is-done g told none)))

  -- `join_into`, where the join has nothing unfinished
  module _ {y : List Str} {ys : List ℕ} (some : 1 ≤ k) (short : k ≤ 10) (second : Holds k w y ys) (grew : Grew ws exit (add_all (pairs_of k (decode xs) (decode ys)) (decode ws)) r) where
    added-kept : unfinished k (joins k x y) ≡ 0 → Became k w a (union a (joins k x y)) (length ws) exit r
    added-kept done =
        let new = union a (joins k x y) in
        let is : add_all (pairs_of k (decode xs) (decode ys)) (decode ws) ≡ map (packed w) new =
        ap (add_all (pairs_of k (decode xs) (decode ys))) (holds-decode h) ∙ joins-held a some short h.sorted h.fit g second in
        kept-became (joined-into some short g second h grew) (omega (arith, h.room)) refl
        (λ room. became-number grew (rw (is, length-map new (packed w)) room) ∙ holds-number h ∙ sym (union-done k a (joins k x y) done))

    -- because the first set has not
    pub first-kept : {u : ℕ} → u ≡ number_in xs → u ≡ 0 → Became k w a (union a (joins k x y)) (length ws) exit r
    first-kept told none = let done = is-done g told none in added-kept (ap (unfinished k) (joins-done k x y done) ∙ done)

    -- because the second has not
    pub second-kept : {u : ℕ} → u ≡ number_in ys → u ≡ 0 → Became k w a (union a (joins k x y)) (length ws) exit r
    second-kept told none = added-kept (joins-closed k x y some (is-done second told none))

-- `union_into` of a set that has nothing in common with the first: the numbers are added
module _ {k w : ℕ} {a x : List Str} {ws xs mid : List ℕ} {g : Growth} (h : Holds k w a ws) (o : Holds k w x xs) (grew : Grew ws mid (add_all (decode xs) (decode ws)) g) (fits : is_full g ≡ false) where
  fitted : length (union a x) ≤ room_of (length ws)
  fitted = has-fit (united h o grew) fits

  pub united-set : IsSet mid
  united-set = any-set ((united h o grew).holds fitted)

  counts : length (decode mid) ≡ length (union a x)
  counts = ap length (any-decode ((united h o grew).holds fitted)) ∙ length-map (union a x) (packed w)

  number-kept : number_in mid ≡ unfinished k a
  number-kept =
      let size : length (add_all (decode xs) (decode ws)) ≡ length (union a x) = ap length (union-held h o) ∙ length-map (union a x) (packed w) in
      became-number grew (rw size fitted) ∙ holds-number h

  module _ {n old c : ℕ} (en : n ≡ length (decode mid)) (eo : old ≡ length (decode ws)) (ec : c ≡ length (decode xs)) (apart : n ≡ old + c) where
    sum : length (union a x) ≡ length a + length x
    sum =
        let first : length (decode ws) ≡ length a = ap length (holds-decode h) ∙ length-map a (packed w) in
        let second : length (decode xs) ≡ length x = ap length (holds-decode o) ∙ length-map x (packed w) in
        omega (arith, counts)

    -- there is room for the number
    pub apart_fits : {u : ℕ} → u ≡ number_in xs → number_in mid + u < 4294967296
    apart_fits e =
        omega (arith, number-kept, holds-number o, unfinished-few k a, unfinished-few k x, sum, ((united h o grew).holds fitted).counted)

    pub united-apart : {u : ℕ} {exit : List ℕ} → u ≡ number_in xs → exit ≡ encode (number_in mid + u) (length mid) (decode mid) → Became k w a (union a x) (length ws) exit g
    unfolding set_words
    united-apart {u} e f =
        let b = united h o grew in
        let number : number_in mid + u ≡ unfinished k (union a x) = omega (arith, number-kept, holds-number o, union-apart k a x sum) in
        numbered b
        (λ room. f ∙ ap₂ (λ (m n : ℕ). encode m n (decode mid)) number (b.as_long room) ∙ ap (encode (unfinished k (union a x)) (length ws)) (any-decode (b.holds room)))
        (omega (arith, h.room)) refl

-- where there was no room
pub united-full : {k w : ℕ} {a x : List Str} {ws xs mid : List ℕ} {g : Growth} → Holds k w a ws → Holds k w x xs → Grew ws mid (add_all (decode xs) (decode ws)) g → is_full g ≡ true
    → Became k w a (union a x) (length ws) mid g
united-full {k} {w} {a} {x} {ws} h o grew e =
    let b = united h o grew in
    let over = ltb-true (room_of (length ws)) (length (union a x)) (sym (full-grown (room_of (length ws)) (length a) (length (union a x))) ∙ ap is_full (sym b.answer) ∙ e) in
    record { answer = b.answer; holds = λ room. absurd (omega arith); words = λ room. absurd (omega arith) }
