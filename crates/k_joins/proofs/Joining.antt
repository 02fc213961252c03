-- The join of two sets in words, part by part: what src/runs.rt knows of the strings that the words hold. Assumes nothing.
use mathlib.Core.Path.{◌≡◌, refl, sym, ap, ap₂, ◌∙◌, subst}
use mathlib.Core.Bool.{Bool, true, false, cond, ◌&&◌, ◌||◌, or-true}
use mathlib.Core.List.Memᴰ.{head as here}
use mathlib.Core.List.Memᴰ.{not-nil}
use mathlib.Core.List.Memᴰ.{tail as there}
use mathlib.Core.List.{List, [], ◌∷◌, ◌++◌, map, append-nil}
use Prim.Native.Nat.{ℕ, zero, suc, ◌+◌, ◌-◌, ◌*◌, ◌≤◌, ◌<◌, ◌^◌}
use native.Mathlib.Omega.{arith}
use native.Mathlib.Nat.{le_refl}
use native.Mathlib.Decide.{dec_le}
use lib.Seq.{take_all}
use borrow.Author.Tests.{le-leb}
use lib.ListN.{length, get_or, take, drop, length-map, get_or-map}
use Rattle.k_tuple.specs.Strings.{Str, eps, slots, good, terminals, is_eps, length_of, well_formed, complete, count_field, width_field}
use Rattle.k_tuple.specs.Packed.{WellFormed, Alike, packed, number_of, reads, width_in, eps_in, complete_in}
use Rattle.k_tuple.specs.declared.Terminals.{Terminals}
use Rattle.k_tuple.proofs.Closed.{reads-packed}
use Rattle.k_tuple.proofs.Held.{seen, itself, width-le}
use Rattle.k_tuple.proofs.Round.{fine, decode-good}
use Rattle.k_tuples.specs.declared.set.Grown.{Grown}
use Rattle.k_tuples.specs.declared.set.Grown.TheVariants.{Same}
use Rattle.refusals.specs.declared.Refusal.{Refusal}
use Rattle.std.specs.Prelude.{Result, Ok, Err}
use Rattle.std.proofs.lemmas.List.{take-map}
use Rattle.k_tuples.specs.Sets.{◌∈◌, ◌⊆◌, Sorted, in_order, member}
use Rattle.k_tuples.specs.Members.{before, rising, add_all, has_of, pairs_of}
use Rattle.k_tuples.specs.Words.{Growth, member_at, decode, IsSet, Grew, AllWellFormed, AllJoinable}
use Rattle.k_tuples.specs.Held.{str_in, strings, first_width}
use Rattle.k_tuples.proofs.Joins.{incomplete-short}
use Rattle.k_tuples.proofs.Tests.{passed}
use Rattle.k_tuples.proofs.Rising.{add_all-append}
use Rattle.k_tuples.proofs.Filling.{Filling}
use Rattle.k_tuples.proofs.Sorted.{cases, place-member, in_order-means, sorted-places}
use Rattle.k_tuples.proofs.Words.{length-decode, get_d-decode, rest-member}
use Rattle.k_tuples.proofs.Inserting.{grew-idle}
use Rattle.k_tuples.proofs.Lists.{map-drop}
use Rattle.k_tuples.proofs.Unfinished.{before-length, drop-member}
use Rattle.k_tuples.proofs.Bridge.{AllWell, less-packed, has-member}
use Rattle.k_joins.specs.Runs.{cut_set}
use Rattle.k_joins.specs.Parts.{between, cuts_of, keeps_of, run_of, meets_of, lefts_of, has_eps, stay_of, second_of, OfStrings, Joining, InClass, ClassEnd, AllPairs, Gathered, on_at, PartStep, SizesTold}
use Rattle.k_joins.proofs.Classes.{not-both, Some, cut_set-sorted, cut_set-plain}
use Rattle.k_joins.proofs.Meeting.{Class, class-lefts, left-none, cut_set-packed, cut_set-well, cut_set-size, run-rises, run-meets, parts_join}
use Rattle.k_joins.proofs.Running.{between_more, between_none, its-left, went_on, stayed, part-more, part-full, Steps, steps-start, steps-more, steps-full}

-- ---- lists

-- what is in a part is in the whole
in_take : (n : ℕ) (a : List Str) → take n a ⊆ a
in_take zero a x m = absurd (not-nil m)
in_take (suc n) [] x m = absurd (not-nil m)
in_take (suc n) (y ∷ a) x (here e) = here e
in_take (suc n) (y ∷ a) x (there m) = there (in_take n a x m)

in-part : (i e : ℕ) (a : List Str) → drop i (take e a) ⊆ a
in-part i e a x m = in_take e a x (drop-member i (take e a) m)

take-sorted : (n : ℕ) (a : List Str) → Sorted a → Sorted (take n a)
take-sorted zero a h = tt
take-sorted (suc n) [] h = tt
take-sorted (suc n) (y ∷ a) h = (λ z m. h.0 z (in_take n a z m), take-sorted n a h.1)

drop-sorted : (n : ℕ) (a : List Str) → Sorted a → Sorted (drop n a)
drop-sorted zero a h = h
drop-sorted (suc n) [] h = h
drop-sorted (suc n) (y ∷ a) h = drop-sorted n a h.1

-- a member of a part has a place in it
pub record At (i e : ℕ) (a : List Str) (x : Str) : Type 0 where
  pub place : ℕ
  pub from : i ≤ place
  pub to : place < e
  pub within : place < length a
  pub is : x ≡ get_or a place eps

placed : (i e : ℕ) (a : List Str) (x : Str) → x ∈ drop i (take e a) → At i e a x
placed i zero a x m = absurd (not-nil (drop-member i [] m))
placed i (suc e) [] x m = absurd (not-nil (drop-member i [] m))
placed zero (suc e) (y ∷ a) x (here s) = record { place = 0; from = omega arith; to = omega arith; within = omega arith; is = s }
placed zero (suc e) (y ∷ a) x (there m) =
    let p = placed zero e a x m in
    record { place = suc p.place; from = omega arith; to = omega (arith, p.to); within = omega (arith, p.within); is = p.is }
placed (suc i) (suc e) (y ∷ a) x m =
    let p = placed i e a x m in
    record { place = suc p.place; from = omega (arith, p.from); to = omega (arith, p.to); within = omega (arith, p.within); is = p.is }

-- ---- words whose members are strings of one width

abbrev well-read : (w : ℕ) (x : Str) → well_formed w x ≡ true → WellFormed (packed w x)
well-read w x e = record { width = w; str = x; is = reads-packed w x e }

module _ {w : ℕ} {a : List Str} {ws : List ℕ} (h : OfStrings w a ws) where
  as_many : length (decode ws) ≡ length a
  as_many = ap length h.is ∙ length-map a (packed w)

  member_is : (i : ℕ) → i < length (decode ws) → member_at ws (2 * i + 1) ≡ packed w (get_or a i eps)
  member_is i l =
      sym (get_d-decode ws i (packed w eps) (omega (arith, length-decode ws))) ∙ ap (λ (ts : List Terminals). get_or ts i (packed w eps)) h.is ∙ get_or-map (packed w) a i eps

  string-in : (i : ℕ) → i < length (decode ws) → get_or a i eps ∈ a
  string-in i l = place-member eps a i (omega (arith, as_many))

  member-reads : (i : ℕ) → i < length (decode ws) → reads (member_at ws (2 * i + 1)) ≡ good w (get_or a i eps)
  member-reads i l = ap reads (member_is i l) ∙ reads-packed w (get_or a i eps) (h.well (get_or a i eps) (string-in i l))

  between_is : (i e : ℕ) → between i e ws ≡ map (packed w) (drop i (take e a))
  between_is i e = ap (λ (l : List Terminals). drop i (take e l)) h.is ∙ ap (drop i) (take-map (packed w) e a) ∙ map-drop (packed w) i (take e a)

  part-well : (i e : ℕ) → AllWell w (drop i (take e a))
  part-well i e z m = h.well z (in-part i e a z m)

  all-well-formed : AllWellFormed ws
  all-well-formed i l = record { width = w; str = get_or a i eps; is = member-reads i (omega (arith, length-decode ws)) }

  -- whether they have ε
  pub eps-told : 0 < length a → has_eps (decode ws) ≡ member eps a
  unfolding well_formed
  eps-told some = ap has_eps h.is ∙ by a h.sorted some h.well
    where
      by : (a : List Str) → Sorted a → 0 < length a → AllWell w a → has_eps (map (packed w) a) ≡ member eps a
      by [] s some f = absurd (omega arith)
      by (x ∷ a) s some f =
          let e = f x (here refl) in
          let wide : width_field (number_of (packed w x)) ≡ w = (seen (packed w x) (well-read w x e)).width in
          let ok = fine w x e in
          ap (λ (v : ℕ). has_of (packed v eps) (map (packed w) (x ∷ a))) wide ∙ has-member w eps (x ∷ a) s (rw (le-leb 1 w ok.wide, le-leb w 12 ok.narrow)) f

-- the width of the first member is that of ε
module _ {v : ℕ} {t : Terminals} (ws : List ℕ) (some : 0 < length (decode ws)) (at : t ≡ member_at ws (2 * 0 + 1)) (wide : v ≡ width_field (number_of t)) where
  pub eps-width : AllWellFormed ws → v ≤ 12
  eps-width h = width-le (member_at ws 1) (h 0 (omega (arith, length-decode ws))) v (wide ∙ ap (λ (u : Terminals). width_field (number_of u)) at)

  pub eps-asked : {e : Terminals} {r : Bool} → e ≡ packed v eps → r ≡ has_of e (decode ws) → r ≡ has_eps (decode ws)
  eps-asked {e} {r} f g =
      let first : first_width (decode ws) ≡ v = ap first_width (rest-member ws 0 (omega (arith, length-decode ws))) ∙ sym (wide ∙ ap (λ (u : Terminals). width_field (number_of u)) at) in
      g ∙ ap (λ (u : Terminals). has_of u (decode ws)) (f ∙ ap (λ (u : ℕ). packed u eps) (sym first))

-- ---- one class

plain-length : (x : Str) → is_eps x ≡ false → length (terminals x) ≡ length_of x
plain-length eps e = absurd (not-both refl e)
plain-length (slots s) e = refl

module _ {k l i e : ℕ} {xs ys : List ℕ} (j : Joining k xs ys) (c : ClassEnd k l xs i e) where
  abbrev w : ℕ
  w = j.width

  abbrev X : List Str
  X = drop i (take e j.a)

  X-is : between i e xs ≡ map (packed w) X
  X-is = between_is j.first i e

  X-well : AllWell w X
  X-well = part-well j.first i e

  one : (x : Str) → x ∈ X → InClass k l (packed w x)
  one x m =
      let p = placed i e j.a x m in
      subst (InClass k l) (member_is j.first p.place (omega (arith, as_many j.first, p.within)) ∙ ap (packed w) (sym p.is)) (c.each p.place p.from p.to)

  strings-class : (x : Str) → well_formed w x ≡ true → InClass k l (packed w x) → (complete k x ≡ false) × ((is_eps x ≡ false) × (length (terminals x) ≡ l))
  strings-class x e o =
      let r = reads-packed w x e in
      let p : is_eps x ≡ false = sym (ap eps_in r) ∙ o.plain in
      (sym (ap (complete_in k) r) ∙ o.unended, (p, plain-length x p ∙ sym (seen (packed w x) (well-read w x e)).count ∙ o.slots))

  X-class : Class k l X
  X-class = record { unended = λ x m. (strings-class x (X-well x m) (one x m)).0; alike = λ x m. (strings-class x (X-well x m) (one x m)).1 }

  -- it has fewer than k slots
  pub class-less : l < k
  class-less =
      let more = c.more in
      let within = c.within in
      let inside : i < length (decode xs) = omega arith in
      let x = get_or j.a i eps in
      let e' = j.first.well x (string-in j.first i inside) in
      let o = strings-class x e' (subst (InClass k l) (member_is j.first i inside) (c.each i (omega arith) more)) in
      let s = incomplete-short k x j.some o.0 in
      omega (arith, o.1.1)

  pub class-cut : k - l ≤ 10
  class-cut = let s = j.short in omega arith

  -- what it has left is what it gives
  pub class-left : (s : List Terminals) → add_all (meets_of k (between i e xs) (decode ys)) s ≡ add_all (lefts_of k (between i e xs) (decode ys)) s
  class-left s =
      ap₂ (λ (p q : List Terminals). add_all (meets_of k p q) s) X-is j.second.is
      ∙ sym (class-lefts k w X j.b X-well j.second.well (λ x m. (X-class.unended x m, (X-class.alike x m).0)) s)
      ∙ sym (ap₂ (λ (p q : List Terminals). add_all (lefts_of k p q) s) X-is j.second.is)

  -- ---- with a part of the second set

  module _ (p f : ℕ) {d : List ℕ} (g : Gathered (cuts_of (k - l) (between p f ys)) d) where
    abbrev Y : List Str
    Y = drop p (take f j.b)

    Y-is : between p f ys ≡ map (packed w) Y
    Y-is = between_is j.second p f

    Y-well : AllWell w Y
    Y-well = part-well j.second p f

    Y-some : Some Y
    Y-some y m = (j.sized y (in-part p f j.b y m)).0

    cut_members : decode d ≡ add_all (cuts_of (k - l) (map (packed w) Y)) []
    cut_members = g.members ∙ ap (λ (q : List Terminals). add_all (cuts_of (k - l) q) []) Y-is

    D-held : OfStrings w (cut_set (k - l) Y) d
    D-held = record { is = cut_members ∙ cut_set-packed w (k - l) Y Y-well; well = cut_set-well w (k - l) Y Y-well; sorted = cut_set-sorted (k - l) Y }

    pub chunk-pairs : AllPairs k l xs i e d
    chunk-pairs v m t lo hi =
        let inside : v < length (decode d) = omega (arith, length-decode d) in
        let y = get_or (cut_set (k - l) Y) v eps in
        let in-D : y ∈ cut_set (k - l) Y = string-in D-held v inside in
        let is_y = member-reads D-held v inside in
        let less = class-less in
        let n = cut_set-size (k - l) Y (omega arith) Y-some y in-D in
        let second' : WellFormed (member_at d (2 * v + 1)) = record { width = w; str = y; is = is_y } in
        let count = (seen (member_at d (2 * v + 1)) second').count in
        let within = c.within in
        record {
          alike = record { first = record { width = w; str = get_or j.a t eps; is = member-reads j.first t (omega arith) }; second = second'; same = refl };
          class = c.each t lo hi;
          plain = ap eps_in is_y ∙ cut_set-plain (k - l) Y y in-D;
          some = omega (arith, n.0);
          room = omega (arith, n.1);
          short = j.short;
        }

    pub chunk-rises : rising (run_of k (between i e xs) (decode d)) ≡ true
    chunk-rises =
        rw (X-is, cut_members)
        (run-rises k w l X Y j.some j.short class-less X-well Y-well X-class Y-some (drop-sorted i (take e j.a) (take-sorted e j.a j.first.sorted)))

    pub chunk-meets : (s : List Terminals) → add_all (run_of k (between i e xs) (decode d)) s ≡ add_all (meets_of k (between i e xs) (between p f ys)) s
    chunk-meets s =
        ap₂ (λ (q r : List Terminals). add_all (run_of k q r) s) X-is cut_members
        ∙ run-meets k w l X Y j.some j.short class-less X-well Y-well X-class Y-some s
        ∙ sym (ap₂ (λ (q r : List Terminals). add_all (meets_of k q r) s) X-is Y-is)

    pub chunk-grew : {out exit : List ℕ} {r : Growth} → Grew out exit (add_all (run_of k (between i e xs) (decode d)) (decode out)) r
        → Grew out exit (add_all (meets_of k (between i e xs) (between p f ys)) (decode out)) r
    chunk-grew {out} {exit} {r} h = subst (λ (v : List Terminals). Grew out exit v r) (chunk-meets (decode out)) h

-- ---- the whole

module _ {k : ℕ} {xs ys : List ℕ} (j : Joining k xs ys) where
  pub first-formed : AllWellFormed xs
  first-formed = all-well-formed j.first

  pub second-formed : AllWellFormed ys
  second-formed = all-well-formed j.second

  pub first_some : 0 < length (decode xs)
  first_some = omega (arith, as_many j.first, j.first_more)

  pub second-some : 0 < length (decode ys)
  second-some = omega (arith, as_many j.second, j.second_more)

  -- what stays, what ε gives, and what is left make the join
  pub join-parts : (u : List Terminals) → add_all (lefts_of k (decode xs) (decode ys)) (add_all (second_of (decode xs) (decode ys)) (add_all (stay_of k (decode xs) (decode ys)) u))
      ≡ add_all (pairs_of k (decode xs) (decode ys)) u
  join-parts u =
      ap₂ (λ (p q : List Terminals). add_all (lefts_of k p q) (add_all (cond (has_eps (decode xs)) q []) (add_all (cond (has_eps (decode ys)) p (keeps_of k p)) u))) j.first.is j.second.is
      ∙ parts_join k j.width j.a j.b j.some j.first.well j.second.well j.sized (eps-told j.second j.second_more) (eps-told j.first j.first_more) u
      ∙ sym (ap₂ (λ (p q : List Terminals). add_all (pairs_of k p q) u) j.first.is j.second.is)

-- a member that is complete or ε has nothing left
module _ {k i : ℕ} {x : Terminals} {xs ys ws : List ℕ} (at : x ≡ member_at xs (2 * i + 1)) (h : i < length (decode xs)) (s : IsSet ws) where
  idle-step : (complete_in k (reads x) || eps_in (reads x)) ≡ true → PartStep k xs ys i (Ok (i + 1)) ws ws
  unfolding add_all
  idle-step e =
      let one : between i (i + 1) xs ≡ x ∷ [] = between_more i xs (omega arith) h ∙ ap₂ (λ (l : List Terminals) (u : Terminals). l ++ u ∷ []) (between_none i xs) (sym at) in
      let none : lefts_of k (between i (i + 1) xs) (decode ys) ≡ [] = ap (λ (l : List Terminals). lefts_of k l (decode ys)) one ∙ left-none k 0 x (decode ys) e in
      record {
        told = Ok Same;
        at = _;
        is = refl;
        more = omega arith;
        within = omega arith;
        grew = rw none (grew-idle s);
      }

  pub complete-step : {t : Bool} → t ≡ complete_in k (reads x) → t ≡ true → PartStep k xs ys i (Ok (i + 1)) ws ws
  complete-step e f = idle-step (rw (sym e ∙ f))

  pub eps-step : {t : Bool} → t ≡ eps_in (reads x) → t ≡ true → PartStep k xs ys i (Ok (i + 1)) ws ws
  eps-step e f = idle-step (rw (sym e ∙ f, or-true))

-- ---- what a join begins with

pub second_none : {out : List ℕ} {t : Bool} (xs ys : List ℕ) → t ≡ has_eps (decode xs) → t ≡ false → IsSet out → Grew out out (add_all (second_of (decode xs) (decode ys)) (decode out)) (Ok Same)
unfolding add_all
second_none xs ys e f s = rw (sym e ∙ f) (grew-idle s)

-- ---- a part of the first set

pub well-here : {k i : ℕ} {x : Terminals} {xs ys : List ℕ} → Joining k xs ys → x ≡ member_at xs (2 * i + 1) → i < length (decode xs) → WellFormed x
well-here {i = i} {xs = xs} j at h = subst WellFormed (sym at) (first-formed j i (omega (arith, length-decode xs)))

pub class-at : (k l i : ℕ) (x : Terminals) (xs : List ℕ) → x ≡ member_at xs (2 * i + 1) → l ≡ count_field (number_of x) → InClass k (count_field (number_of x)) x → InClass k l (member_at xs (2 * i + 1))
class-at k l i x xs at e c = subst (InClass k l) at (subst (λ (n : ℕ). InClass k n x) (sym e) c)

pub class-step : {k l i e : ℕ} {xs ys out exit : List ℕ} {g : Growth} {s : Result ℕ Refusal} → Joining k xs ys → ClassEnd k l xs i e → Grew out exit (add_all (meets_of k (between i e xs) (decode ys)) (decode out)) g → s ≡ on_at e g
    → PartStep k xs ys i s out exit
class-step {k} {l} {i} {e} {xs} {ys} {out} {exit} {g} j c h t =
    record { told = g; at = e; is = t; more = c.more; within = c.within; grew = subst (λ (v : List Terminals). Grew out exit v g) (class-left j c (decode out)) h }

-- the set that takes what is left
module _ {k n old i : ℕ} {s : Result ℕ Refusal} {xs ys entry out exit : List ℕ} {goal : List Terminals} (h : Filling (its-left k (decode ys)) xs entry goal n old i out) (p : PartStep k xs ys i s out exit) where
  pub left-taken : {a : ℕ} → s ≡ Ok a → (i < a) × Filling (its-left k (decode ys)) xs entry goal n old a exit
  left-taken {a} t =
      let more = p.more in
      let g = went_on (sym p.is ∙ t) in
      subst (λ (v : ℕ). (i < v) × Filling (its-left k (decode ys)) xs entry goal n old v exit) g.same (more, part-more h (omega arith) p.within _ refl p.grew g.is)

  pub left-full : {x : Refusal} {q : Growth} → s ≡ Err x → q ≡ Err x → Grew entry exit goal q
  left-full t = let more = p.more in part-full h (omega arith) p.within _ refl p.grew (stayed p.at (sym p.is ∙ t))

-- ---- the lists in turn

pub all-parts : {k : ℕ} {xs ys : List ℕ} (j : Joining k xs ys) (u : List Terminals)
    → add_all (stay_of k (decode xs) (decode ys) ++ (second_of (decode xs) (decode ys) ++ (lefts_of k (decode xs) (decode ys) ++ []))) u ≡ add_all (pairs_of k (decode xs) (decode ys)) u
all-parts {k} {xs} {ys} j u =
    let p = stay_of k (decode xs) (decode ys) in
    let q = second_of (decode xs) (decode ys) in
    let r = lefts_of k (decode xs) (decode ys) in
    add_all-append p (q ++ (r ++ [])) u ∙ add_all-append q (r ++ []) (add_all p u) ∙ ap (λ (l : List Terminals). add_all l (add_all q (add_all p u))) (append-nil r) ∙ join-parts j u

-- what is still to come behind what stays, and behind the second set
abbrev pub second_on : ℕ → List ℕ → List ℕ → List Terminals
second_on k xs ys = second_of (decode xs) (decode ys) ++ (lefts_of k (decode xs) (decode ys) ++ [])

abbrev pub left_on : ℕ → List ℕ → List ℕ → List Terminals
left_on k xs ys = lefts_of k (decode xs) (decode ys) ++ []

-- the join on its way into words that were `entry`
abbrev pub ToJoin : (k old : ℕ) (xs ys entry : List ℕ) → List Terminals → List ℕ → Type 0
ToJoin k old xs ys entry rest ws = Steps entry (add_all (pairs_of k (decode xs) (decode ys)) (decode entry)) old rest ws

-- each of them in its turn
module _ {k old : ℕ} {xs ys entry exit : List ℕ} {r : Growth} (j : Joining k xs ys) where
  module _ (s : IsSet entry) (had : old ≡ length (decode entry)) (g : Grew entry exit (add_all (stay_of k (decode xs) (decode ys)) (decode entry)) r) where
    begun : ToJoin k old xs ys entry (stay_of k (decode xs) (decode ys) ++ second_on k xs ys) entry
    begun = steps-start _ s had (all-parts j (decode entry))

    pub stay-more : {t : Grown} → r ≡ Ok t → ToJoin k old xs ys entry (second_on k xs ys) exit
    stay-more = steps-more (stay_of k (decode xs) (decode ys)) (second_on k xs ys) begun g

    pub stay-full : {x : Refusal} {u : Growth} → r ≡ Err x → u ≡ Err x → Grew entry exit (add_all (pairs_of k (decode xs) (decode ys)) (decode entry)) u
    stay-full = steps-full (stay_of k (decode xs) (decode ys)) (second_on k xs ys) begun g

  module _ {ws : List ℕ} (s : ToJoin k old xs ys entry (second_on k xs ys) ws) (g : Grew ws exit (add_all (second_of (decode xs) (decode ys)) (decode ws)) r) where
    pub second_more : {t : Grown} → r ≡ Ok t → ToJoin k old xs ys entry (left_on k xs ys) exit
    second_more = steps-more (second_of (decode xs) (decode ys)) (left_on k xs ys) s g

    pub second-full : {x : Refusal} {u : Growth} → r ≡ Err x → u ≡ Err x → Grew entry exit (add_all (pairs_of k (decode xs) (decode ys)) (decode entry)) u
    second-full = steps-full (second_of (decode xs) (decode ys)) (left_on k xs ys) s g

  module _ {ws : List ℕ} (s : ToJoin k old xs ys entry (left_on k xs ys) ws) (g : Grew ws exit (add_all (lefts_of k (decode xs) (decode ys)) (decode ws)) r) where
    pub last_more : {t : Grown} → r ≡ Ok t → ToJoin k old xs ys entry [] exit
    last_more = steps-more (lefts_of k (decode xs) (decode ys)) [] s g

    pub last-full : {x : Refusal} {u : Growth} → r ≡ Err x → u ≡ Err x → Grew entry exit (add_all (pairs_of k (decode xs) (decode ys)) (decode entry)) u
    last-full = steps-full (lefts_of k (decode xs) (decode ys)) [] s g

-- ---- what the contract of a join gives

-- the strings of a set in order do not get shorter
lengths-rise : (b : List Str) → Sorted b → (i j : ℕ) → i ≤ j → j < length b → length_of (get_or b i eps) ≤ length_of (get_or b j eps)
lengths-rise b s i j h l = by (dec_le j i)
  where
    by : Dec (j ≤ i) → length_of (get_or b i eps) ≤ length_of (get_or b j eps)
    by (yes q) = let e : i ≡ j = omega arith in rw e (le_refl (length_of (get_or b j eps)))
    by (no q) = before-length (get_or b i eps) (get_or b j eps) (sorted-places eps b s i j (omega arith) l)

-- a string of k slots or more is complete, or ε
long-idle : (k : ℕ) (z : Str) → k ≤ length_of z → (complete k z || is_eps z) ≡ true
long-idle k eps h = refl
long-idle k (slots s) h = rw (le-leb k (length s) h)

long-none : (k w : ℕ) (l : List Str) (ts : List Terminals) → AllWell w l → ((z : Str) → z ∈ l → k ≤ length_of z) → lefts_of k (map (packed w) l) ts ≡ []
long-none k w [] ts f h = refl
long-none k w (z ∷ l) ts f h =
    let d = reads-packed w z (f z (here refl)) in
    let e : (complete_in k (reads (packed w z)) || eps_in (reads (packed w z))) ≡ true = ap₂ (λ (s t : Bool). s || t) (ap (complete_in k) d) (ap eps_in d) ∙ long-idle k z (h z (here refl)) in
    rw e (long-none k w l ts (λ y m. f y (there m)) (λ y m. h y (there m)))

-- from a member of k slots on, none has anything left
pub long-step : {k i n l : ℕ} {x : Terminals} {xs ys ws : List ℕ} → Joining k xs ys → x ≡ member_at xs (2 * i + 1) → i < length (decode xs) → IsSet ws → l ≡ count_field (number_of x) → k ≤ l → n ≡ length (decode xs)
    → PartStep k xs ys i (Ok n) ws ws
unfolding add_all
long-step {k} {i} {n} {l} {x} {xs} {ys} {ws} j at h s count long whole =
    let w = j.width in
    let a = j.a in
    let size : length (decode xs) ≡ length a = as_many j.first in
    let here-long : l ≡ length_of (get_or a i eps) = count ∙ ap (λ (t : Terminals). count_field (number_of t)) at
    ∙ (seen (member_at xs (2 * i + 1)) (record { width = w; str = get_or a i eps; is = member-reads j.first i h })).count in
    let none : lefts_of k (between i n xs) (decode ys) ≡ [] =
    ap (λ (ts : List Terminals). lefts_of k ts (decode ys)) (between_is j.first i n)
    ∙ long-none k w (drop i (take n a)) (decode ys) (part-well j.first i n) (λ z m.
    let p = placed i n a z m in
    let longer = lengths-rise a j.first.sorted i p.place p.from p.within in
    subst (λ (v : Str). k ≤ length_of v) (sym p.is) (omega arith)) in
    record {
      told = Ok Same;
      at = _;
      is = refl;
      more = omega arith;
      within = omega arith;
      grew = rw none (grew-idle s);
    }

rising-in-order : (w : ℕ) (a : List Str) → AllWell w a → rising (map (packed w) a) ≡ in_order a
unfolding rising before in_order
rising-in-order w [] h = refl
rising-in-order w (x ∷ []) h = refl
rising-in-order w (x ∷ y ∷ a) h = ap₂ ◌&&◌ (less-packed w x y (h x (here refl)) (h y (there (here refl)))) (rising-in-order w (y ∷ a) (λ z m. h z (there m)))

-- a packed string of width w, in two words
pub record Reads (w : ℕ) (t : Terminals) : Type 0 where
  pub low : t.lo < 2 ^ 64
  pub is : reads t ≡ good w (str_in (reads t))

strung : (w : ℕ) (ts : List Terminals) → ((i : ℕ) (d : Terminals) → i < length ts → Reads w (get_or ts i d)) → (ts ≡ map (packed w) (strings ts)) × AllWell w (strings ts)
strung w [] f = (refl, λ z m. absurd (not-nil m))
strung w (t ∷ ts) f =
    let r = f 0 t (omega arith) in
    let below = strung w ts (λ i d h. f (suc i) d (omega arith)) in
    let g : WellFormed t = record { width = w; str = str_in (reads t); is = r.is } in (
      ap₂ (λ (a : Terminals) (b : List Terminals). a ∷ b) (itself t g r.low) below.0,
      λ z m. cases m (λ s. subst (λ (v : Str). well_formed w v ≡ true) (sym s) (decode-good (number_of t) w (str_in (reads t)) r.is).well) (below.1 z),
    )

of-strings : (w : ℕ) (ws : List ℕ) → IsSet ws → ((i : ℕ) → get_or ws i 0 < 2 ^ 64) → ((i : ℕ) → i < length (decode ws) → reads (member_at ws (2 * i + 1)) ≡ good w (str_in (reads (member_at ws (2 * i + 1)))))
    → OfStrings w (strings (decode ws)) ws
of-strings w ws s low f =
    let each : (i : ℕ) (d : Terminals) → i < length (decode ws) → Reads w (get_or (decode ws) i d) =
    λ i d h. subst (Reads w) (sym (get_d-decode ws i d (omega (arith, length-decode ws)))) (record { low = low (2 * i + 1); is = f i h }) in
    let all = strung w (decode ws) each in
    record {
      is = all.0;
      well = all.1;
      sorted = (in_order-means (strings (decode ws))).0 (passed (sym (rising-in-order w (strings (decode ws)) all.1) ∙ sym (ap rising all.0) ∙ s.rises));
    }

module _ {k : ℕ} {xs ys : List ℕ} (j : AllJoinable k xs ys) (s : IsSet xs) (t : IsSet ys) (low : (i : ℕ) → get_or xs i 0 < 2 ^ 64) (low' : (i : ℕ) → get_or ys i 0 < 2 ^ 64)
    (some : 0 < length (decode xs)) (some' : 0 < length (decode ys)) where
  -- the width of the first member of ys
  W : ℕ
  W = width_in (reads (member_at ys 1))

  pair : (i m : ℕ) → i < length (decode xs) → m < length (decode ys) → Alike (member_at xs (2 * i + 1)) (member_at ys (2 * m + 1))
  pair i m h l = (j i (omega (arith, length-decode xs))).alike m (omega (arith, length-decode ys))

  first-wide : (i : ℕ) (h : i < length (decode xs)) → (pair i 0 h some').first.width ≡ W
  unfolding W
  first-wide i h = let p = pair i 0 h some' in p.same ∙ sym (ap width_in p.second.is)

  first_reads : (i : ℕ) → i < length (decode xs) → reads (member_at xs (2 * i + 1)) ≡ good W (str_in (reads (member_at xs (2 * i + 1))))
  first_reads i h = let p = pair i 0 h some' in p.first.is ∙ ap₂ good (first-wide i h) (sym (ap str_in p.first.is))

  second-wide : (m : ℕ) (l : m < length (decode ys)) → (pair 0 m some l).second.width ≡ W
  second-wide m l =
      let p = pair 0 m some l in
      let q = pair 0 0 some some' in
      sym p.same ∙ sym (ap width_in p.first.is) ∙ ap width_in q.first.is ∙ first-wide 0 some

  second_reads : (m : ℕ) → m < length (decode ys) → reads (member_at ys (2 * m + 1)) ≡ good W (str_in (reads (member_at ys (2 * m + 1))))
  second_reads m l = let p = pair 0 m some l in p.second.is ∙ ap₂ good (second-wide m l) (sym (ap str_in p.second.is))

  second-strings : OfStrings W (strings (decode ys)) ys
  second-strings = of-strings W ys t low' second_reads

  count-is : (m : ℕ) → m < length (decode ys) → count_field (number_of (member_at ys (2 * m + 1))) ≡ length_of (get_or (strings (decode ys)) m eps)
  count-is m l =
      (seen (member_at ys (2 * m + 1)) (record { width = W; str = get_or (strings (decode ys)) m eps; is = member-reads second-strings m l })).count

  sizes : SizesTold k ys true → (z : Str) → z ∈ strings (decode ys) → (0 < length_of z) × (length_of z ≤ k)
  sizes told z m =
      let b = strings (decode ys) in
      let n : length (decode ys) ≡ length b = as_many second-strings in
      let p = placed 0 (length b) b z (subst (λ (l : List Str). z ∈ l) (sym (take_all (length b) b (le_refl (length b)))) m) in
      let within = p.within in
      let first = count-is 0 some' in
      let last = count-is (length (decode ys) - 1) (omega arith) in
      subst (λ (v : Str). (0 < length_of v) × (length_of v ≤ k)) (sym p.is)
      (omega (arith, told.least refl, from b p.place within), omega (arith, told.most refl, to b p.place (length (decode ys) - 1) (omega arith) (omega arith)))
    where
      from : (b : List Str) (i : ℕ) → i < length (strings (decode ys)) → length_of (get_or (strings (decode ys)) 0 eps) ≤ length_of (get_or (strings (decode ys)) i eps)
      from b i h = lengths-rise (strings (decode ys)) second-strings.sorted 0 i (omega arith) h

      to : (b : List Str) (i m : ℕ) → i ≤ m → m < length (strings (decode ys)) → length_of (get_or (strings (decode ys)) i eps) ≤ length_of (get_or (strings (decode ys)) m eps)
      to b i m h l = lengths-rise (strings (decode ys)) second-strings.sorted i m h l

  pub joining-of : {r : Bool} → SizesTold k ys r → r ≡ true → Joining k xs ys
  joining-of told e =
      let told' : SizesTold k ys true = subst (SizesTold k ys) e told in
      let second = second-strings in
      let size = sizes told' (get_or (strings (decode ys)) 0 eps) (string-in second 0 some') in
      record {
        width = W;
        a = strings (decode xs);
        b = strings (decode ys);
        some = omega (arith, size.0, size.1);
        short = (j 0 (omega (arith, length-decode xs))).short;
        first = of-strings W xs s low first_reads;
        second = second;
        first_more = omega (arith, as_many (of-strings W xs s low first_reads));
        second_more = omega (arith, as_many second);
        sized = sizes told';
      }
