-- What a join of packed strings has, and in what order it may be made: what stays, what ε gives, and a run for each class and each part of the second set.
-- Assumes nothing.
use mathlib.Core.Path.{◌≡◌, refl, sym, ap, ap₂, ◌∙◌, subst}
use mathlib.Core.Bool.{Bool, true, false, cond, ◌||◌}
use mathlib.Core.List.Memᴰ
use mathlib.Core.List.Memᴰ.{append_cases}
use mathlib.Core.List.Memᴰ.{eq_of_singleton as only}
use mathlib.Core.List.Memᴰ.{head as here}
use mathlib.Core.List.Memᴰ.{not-nil}
use mathlib.Core.List.Memᴰ.{tail as there}
use mathlib.Core.List.{List, [], ◌∷◌, ◌++◌, map}
use mathlib.Core.Logic.{◌⊎◌, inl, inr, ⊎_elim}
use Prim.Native.Nat.{ℕ, zero, suc, ◌-◌, ◌≤◌, ◌<◌}
use native.Mathlib.Omega.{arith}
use native.Mathlib.Nat.{min-le_left}
use lib.ListN.{length, length-take}
use lib.Seq.{take_all}
use Rattle.k_tuple.specs.Strings.{Str, eps, slots, is_eps, length_of, well_formed, complete, cut, join, pack}
use Rattle.k_tuple.specs.Packed.{words, packed, reads, joined, eps_in, complete_in}
use Rattle.k_tuple.specs.declared.Terminals.{Terminals}
use Rattle.k_tuple.proofs.Closed.{reads-packed, cut-well, join-well}
use Rattle.k_tuple.proofs.Words.{number-words}
use Rattle.k_tuples.specs.Sets.{◌∈◌, ◌⊆◌, Sorted, member, joins, join_sets, Joined, stays, meets}
use Rattle.k_tuples.specs.Members.{rising, add_all, pairs_of}
use Rattle.k_tuples.proofs.Tests.{passed, holds}
use Rattle.k_tuples.proofs.Rising.{add_all-append}
use Rattle.k_tuples.proofs.Sorted.{cases}
use Rattle.k_tuples.proofs.Sets.{mem-member, mem-union, joins-cases, mem-join_sets}
use Rattle.k_tuples.proofs.Joins.{join-whole, join-eps}
use Rattle.k_tuples.proofs.Bridge.{AllWell, add_all-union, rising-sorted, pairs-joins}
use Rattle.k_joins.specs.Runs.{follow, row, run, cuts, cut_set}
use Rattle.k_joins.specs.Parts.{cuts_of, keeps_of, follows_of, run_of, meets_of, lefts_of}
use Rattle.k_joins.proofs.Adding.{Low, AllLow, add_all-same}
use Rattle.k_joins.proofs.Order.{AllOf, run-cases, run-has, run-sorted}
use Rattle.k_joins.proofs.Classes.{not-both, eps-is, Some, cuts-cases, cut_set-cases, cut_set-has, cut_set-sorted, cut_set-plain, join-follow}

-- ---- what is cut fits

pub cut-length : (r : ℕ) (y : Str) → 0 < r → 0 < length_of y → is_eps y ≡ false → (0 < length_of (cut r y)) × (length_of (cut r y) ≤ r)
cut-length zero y h p e = absurd (omega arith)
cut-length (suc r) eps h p e = absurd (not-both refl e)
cut-length (suc r) (slots []) h p e = absurd (omega arith)
cut-length (suc r) (slots (x ∷ s)) h p e = let m = min-le_left r (length s) in (omega arith, omega (arith, length-take r s))

cut-idle : (r : ℕ) (y : Str) → length_of y ≤ r → is_eps y ≡ false → cut r y ≡ y
cut-idle zero eps h e = absurd (omega arith)
cut-idle zero (slots []) h e = refl
cut-idle zero (slots (x ∷ s)) h e = absurd (omega arith)
cut-idle (suc r) eps h e = refl
cut-idle (suc r) (slots s) h e = ap slots (take_all (suc r) s h)

pub cut_set-size : (r : ℕ) (b : List Str) → 0 < r → Some b → (z : Str) → z ∈ cut_set r b → (0 < length_of z) × (length_of z ≤ r)
cut_set-size r b h f z m =
    let c = cut_set-cases r z b m in
    subst (λ (v : Str). (0 < length_of v) × (length_of v ≤ r)) (sym c.is) (cut-length r c.whole h (f c.whole c.inside) c.other)

-- ---- in packed strings

words-low : (v : ℕ) → Low (words v)
words-low v = ap words (sym (number-words v))

pub packed-low : (w : ℕ) (a : List Str) → AllLow (map (packed w) a)
packed-low w a x m = let r = Memᴰ.of_map (packed w) a m in subst (λ (t : Terminals). Low t) r.2 (words-low (pack w r.0))

-- z is a join of a member of a with one of b that is not ε
pub record Meet (k w : ℕ) (a b : List Str) (z : Terminals) : Type 0 where
  pub first : Str
  pub second : Str
  pub in-first : first ∈ a
  pub in-second : second ∈ b
  pub plain : is_eps second ≡ false
  pub is : z ≡ packed w (join k first second)

meet_low : {k w : ℕ} {a b : List Str} {z : Terminals} → Meet k w a b z → Low z
meet_low {k} {w} m = subst (λ (t : Terminals). Low t) (sym m.is) (words-low (pack w (join k m.first m.second)))

meet-map : {k w : ℕ} {a b c d : List Str} {z : Terminals} → a ⊆ c → b ⊆ d → Meet k w a b z → Meet k w c d z
meet-map p q m = record { first = m.first; second = m.second; in-first = p m.first m.in-first; in-second = q m.second m.in-second; plain = m.plain; is = m.is }

module _ (k w : ℕ) where
  joined_is : (x y : Str) → well_formed w x ≡ true → well_formed w y ≡ true → joined k (reads (packed w x)) (reads (packed w y)) ≡ packed w (join k x y)
  joined_is x y e f = ap₂ (joined k) (reads-packed w x e) (reads-packed w y f)

  -- ---- each of a list with one string

  module _ (y : Str) (f : well_formed w y ≡ true) where
    abbrev with-y : Terminals → Terminals
    with-y t = joined k (reads t) (reads (packed w y))

    follows-cases : (z : Terminals) (a : List Str) → AllWell w a → z ∈ follows_of k (packed w y) (map (packed w) a) → (x : Str) × (x ∈ a) × (z ≡ packed w (join k x y))
    follows-cases z a h m =
        let r = Memᴰ.of_map with-y (map (packed w) a) m in
        let s = Memᴰ.of_map (packed w) a r.1 in
        (s.0, s.1, sym r.2 ∙ ap with-y (sym s.2) ∙ joined_is s.0 y (h s.0 s.1) f)

    follows-has : (x : Str) (a : List Str) → AllWell w a → x ∈ a → packed w (join k x y) ∈ follows_of k (packed w y) (map (packed w) a)
    follows-has x a h m = Memᴰ.cast (sym (joined_is x y (h x m) f)) (Memᴰ.map with-y (Memᴰ.map (packed w) m))

  -- ---- each of a list with each of another but ε

  meets-cases : (z : Terminals) (a b : List Str) → AllWell w a → AllWell w b → z ∈ meets_of k (map (packed w) a) (map (packed w) b) → Meet k w a b z
  meets-cases z a [] h g m = absurd (not-nil m)
  meets-cases z a (y ∷ b) h g m =
      ⊎_elim (λ n. one (is_eps y) refl (subst (λ (t : Bool). z ∈ cond t [] (follows_of k (packed w y) (map (packed w) a))) (ap eps_in (reads-packed w y f)) n))
      (λ n. meet-map (λ x i. i) (λ x i. there i) (meets-cases z a b h (λ v i. g v (there i)) n))
      (append_cases (cond (eps_in (reads (packed w y))) [] (follows_of k (packed w y) (map (packed w) a))) m)
    where
      f : well_formed w y ≡ true
      f = g y (here refl)

      one : (t : Bool) → is_eps y ≡ t → z ∈ cond t [] (follows_of k (packed w y) (map (packed w) a)) → Meet k w a (y ∷ b) z
      one true e n = absurd (not-nil n)
      one false e n = let r = follows-cases y f z a h n in record { first = r.0; second = y; in-first = r.1; in-second = here refl; plain = e; is = r.2 }

  meets-has : (x y : Str) (a b : List Str) → AllWell w a → AllWell w b → x ∈ a → y ∈ b → is_eps y ≡ false → packed w (join k x y) ∈ meets_of k (map (packed w) a) (map (packed w) b)
  meets-has x y a [] h g m n e = absurd (not-nil n)
  meets-has x y a (v ∷ b) h g m n e =
      cases n (λ s. Memᴰ.append_left (meets_of k (map (packed w) a) (map (packed w) b)) (one s))
      (λ i. Memᴰ.append_right (cond (eps_in (reads (packed w v))) [] (follows_of k (packed w v) (map (packed w) a))) (meets-has x y a b h (λ u j. g u (there j)) m i e))
    where
      one : y ≡ v → packed w (join k x y) ∈ cond (eps_in (reads (packed w v))) [] (follows_of k (packed w v) (map (packed w) a))
      one s =
          let f = g v (here refl) in
          let p : eps_in (reads (packed w v)) ≡ false = ap eps_in (reads-packed w v f) ∙ sym (ap is_eps s) ∙ e in
          rw p (subst (λ (u : Str). packed w (join k x u) ∈ follows_of k (packed w v) (map (packed w) a)) (sym s) (follows-has v f x a h m))

  -- ---- what is complete, and ε, left out

  leaves : Str → Bool
  leaves x = complete k x || is_eps x

  leaves-is : (x : Str) → well_formed w x ≡ true → (complete_in k (reads (packed w x)) || eps_in (reads (packed w x))) ≡ leaves x
  unfolding leaves
  leaves-is x e = ap₂ ◌||◌ (ap (complete_in k) (reads-packed w x e)) (ap eps_in (reads-packed w x e))

  -- a member of the second kind gives nothing
  pub left-none : (x : Terminals) (ys : List Terminals) → (complete_in k (reads x) || eps_in (reads x)) ≡ true → lefts_of k (x ∷ []) ys ≡ []
  left-none x ys e = rw e

  lefts-cases : (z : Terminals) (a b : List Str) → AllWell w a → AllWell w b → z ∈ lefts_of k (map (packed w) a) (map (packed w) b) → Meet k w a b z
  lefts-cases z [] b h g m = absurd (not-nil m)
  lefts-cases z (x ∷ a) b h g m =
      ⊎_elim (λ n. one (leaves x) (subst (λ (t : Bool). z ∈ cond t [] (meets_of k (packed w x ∷ []) (map (packed w) b))) (leaves-is x (h x (here refl))) n))
      (λ n. meet-map (λ v i. there i) (λ v i. i) (lefts-cases z a b (λ v i. h v (there i)) g n))
      (append_cases (cond (complete_in k (reads (packed w x)) || eps_in (reads (packed w x))) [] (meets_of k (packed w x ∷ []) (map (packed w) b))) m)
    where
      one : (t : Bool) → z ∈ cond t [] (meets_of k (packed w x ∷ []) (map (packed w) b)) → Meet k w (x ∷ a) b z
      one true n = absurd (not-nil n)
      one false n =
          meet-map (λ v i. here (only i)) (λ v i. i) (meets-cases z (x ∷ []) b (λ v i. subst (λ (u : Str). well_formed w u ≡ true) (sym (only i)) (h x (here refl))) g n)

  lefts-has : (x y : Str) (a b : List Str) → AllWell w a → AllWell w b → x ∈ a → leaves x ≡ false → y ∈ b → is_eps y ≡ false
      → packed w (join k x y) ∈ lefts_of k (map (packed w) a) (map (packed w) b)
  lefts-has x y [] b h g m o n e = absurd (not-nil m)
  lefts-has x y (v ∷ a) b h g m o n e =
      cases m (λ s. Memᴰ.append_left (lefts_of k (map (packed w) a) (map (packed w) b)) (one s))
      (λ i. Memᴰ.append_right (cond (complete_in k (reads (packed w v)) || eps_in (reads (packed w v))) [] (meets_of k (packed w v ∷ []) (map (packed w) b)))
      (lefts-has x y a b (λ u j. h u (there j)) g i o n e))
    where
      one : x ≡ v → packed w (join k x y) ∈ cond (complete_in k (reads (packed w v)) || eps_in (reads (packed w v))) [] (meets_of k (packed w v ∷ []) (map (packed w) b))
      one s =
          let f = h v (here refl) in
          let p = leaves-is v f ∙ sym (ap leaves s) ∙ o in
          rw p (meets-has x y (v ∷ []) b (λ u i. subst (λ (c : Str). well_formed w c ≡ true) (sym (only i)) f) g (here s) n e)

  -- ---- what is complete

  keeps-cases : (z : Terminals) (a : List Str) → AllWell w a → z ∈ keeps_of k (map (packed w) a) → (x : Str) × (x ∈ a) × (complete k x ≡ true) × (z ≡ packed w x)
  keeps-cases z [] h m = absurd (not-nil m)
  keeps-cases z (x ∷ a) h m =
      ⊎_elim (λ n. one (complete k x) refl (subst (λ (t : Bool). z ∈ cond t (packed w x ∷ []) []) (ap (complete_in k) (reads-packed w x (h x (here refl)))) n))
      (λ n. let r = keeps-cases z a (λ v i. h v (there i)) n in (r.0, there r.1, r.2, r.3))
      (append_cases (cond (complete_in k (reads (packed w x))) (packed w x ∷ []) []) m)
    where
      one : (t : Bool) → complete k x ≡ t → z ∈ cond t (packed w x ∷ []) [] → (v : Str) × (v ∈ (x ∷ a)) × (complete k v ≡ true) × (z ≡ packed w v)
      one true e n = (x, here refl, e, only n)
      one false e n = absurd (not-nil n)

  keeps-has : (x : Str) (a : List Str) → AllWell w a → x ∈ a → complete k x ≡ true → packed w x ∈ keeps_of k (map (packed w) a)
  keeps-has x [] h m c = absurd (not-nil m)
  keeps-has x (v ∷ a) h m c =
      cases m (λ s. Memᴰ.append_left (keeps_of k (map (packed w) a)) (one s))
      (λ i. Memᴰ.append_right (cond (complete_in k (reads (packed w v))) (packed w v ∷ []) []) (keeps-has x a (λ u j. h u (there j)) i c))
    where
      one : x ≡ v → packed w x ∈ cond (complete_in k (reads (packed w v))) (packed w v ∷ []) []
      one s = let p = ap (complete_in k) (reads-packed w v (h v (here refl))) ∙ sym (ap (complete k) s) ∙ c in rw p (here (ap (packed w) s))

  -- ---- the order of two loops

  module _ (a b : List Str) (h : AllWell w a) (g : AllWell w b) where
    meets-low : AllLow (meets_of k (map (packed w) a) (map (packed w) b))
    meets-low z m = meet_low (meets-cases z a b h g m)

    lefts-low : AllLow (lefts_of k (map (packed w) a) (map (packed w) b))
    lefts-low z m = meet_low (lefts-cases z a b h g m)

    -- where no member is complete or ε, what is left is all
    pub class-lefts : ((x : Str) → x ∈ a → (complete k x ≡ false) × (is_eps x ≡ false)) → (s : List Terminals)
        → add_all (lefts_of k (map (packed w) a) (map (packed w) b)) s ≡ add_all (meets_of k (map (packed w) a) (map (packed w) b)) s
    unfolding leaves
    class-lefts f s =
        add_all-same _ _ s lefts-low meets-low
        (λ z m. let r = lefts-cases z a b h g m in Memᴰ.cast r.is (meets-has r.first r.second a b h g r.in-first r.in-second r.plain))
        (λ z m. let r = meets-cases z a b h g m in let o = f r.first r.in-first in
        Memᴰ.cast r.is (lefts-has r.first r.second a b h g r.in-first (rw (o.0, o.1)) r.in-second r.plain))

-- ---- what a part of the second set is cut to

module _ (w : ℕ) where
  cuts-packed : (r : ℕ) (b : List Str) → AllWell w b → cuts_of r (map (packed w) b) ≡ map (packed w) (cuts r b)
  unfolding cuts
  cuts-packed r [] h = refl
  cuts-packed r (y ∷ b) h = rw (reads-packed w y (h y (here refl))) (by (is_eps y) (cuts-packed r b (λ z m. h z (there m))))
    where
      by : (t : Bool) → cuts_of r (map (packed w) b) ≡ map (packed w) (cuts r b)
          → cond t [] (packed w (cut r y) ∷ []) ++ cuts_of r (map (packed w) b) ≡ map (packed w) (cond t (cuts r b) (cut r y ∷ cuts r b))
      by true below = below
      by false below = ap (λ (l : List Terminals). packed w (cut r y) ∷ l) below

  cuts-well : (r : ℕ) (b : List Str) → AllWell w b → AllWell w (cuts r b)
  cuts-well r b h z m = let c = cuts-cases r z b m in subst (λ (v : Str). well_formed w v ≡ true) (sym c.is) (cut-well w r c.whole (h c.whole c.inside))

  pub cut_set-well : (r : ℕ) (b : List Str) → AllWell w b → AllWell w (cut_set r b)
  cut_set-well r b h z m = let c = cut_set-cases r z b m in subst (λ (v : Str). well_formed w v ≡ true) (sym c.is) (cut-well w r c.whole (h c.whole c.inside))

  pub cut_set-packed : (r : ℕ) (b : List Str) → AllWell w b → add_all (cuts_of r (map (packed w) b)) [] ≡ map (packed w) (cut_set r b)
  unfolding cut_set
  cut_set-packed r b h = ap (λ (l : List Terminals). add_all l []) (cuts-packed r b h) ∙ add_all-union w [] (cuts r b) tt (λ z m. absurd (not-nil m)) (cuts-well r b h)

  map-append : (a b : List Str) → map (packed w) (a ++ b) ≡ map (packed w) a ++ map (packed w) b
  map-append [] b = refl
  map-append (x ∷ a) b = ap (λ (l : List Terminals). packed w x ∷ l) (map-append a b)

  row-packed : (k : ℕ) (y : Str) (a : List Str) → well_formed w y ≡ true → AllWell w a → ((x : Str) → x ∈ a → join k x y ≡ follow x y)
      → follows_of k (packed w y) (map (packed w) a) ≡ map (packed w) (row a y)
  unfolding row
  row-packed k y [] e h f = refl
  row-packed k y (x ∷ a) e h f =
      ap₂ (λ (t : Terminals) (l : List Terminals). t ∷ l) (ap₂ (joined k) (reads-packed w x (h x (here refl))) (reads-packed w y e) ∙ ap (packed w) (f x (here refl)))
      (row-packed k y a e (λ z m. h z (there m)) (λ z m. f z (there m)))

  run-packed : (k : ℕ) (a b : List Str) → AllWell w a → AllWell w b → ((x y : Str) → x ∈ a → y ∈ b → join k x y ≡ follow x y)
      → run_of k (map (packed w) a) (map (packed w) b) ≡ map (packed w) (run a b)
  unfolding run_of run
  run-packed k a [] h g f = refl
  run-packed k a (y ∷ b) h g f =
      ap₂ ◌++◌ (row-packed k y a (g y (here refl)) h (λ x m. f x y m (here refl))) (run-packed k a b h (λ z m. g z (there m)) (λ x z m n. f x z m (there n)))
      ∙ sym (map-append (row a y) (run a b))

-- ---- a run

-- members that others can follow: they are not complete, none is ε, and each has l slots
pub record Class (k l : ℕ) (a : List Str) : Type 0 where
  pub unended : (x : Str) → x ∈ a → complete k x ≡ false
  pub alike : AllOf l a

module _ (k w l : ℕ) (a b : List Str) (some : 0 < k) (short : k ≤ 10) (less : l < k) (h : AllWell w a) (g : AllWell w b) (c : Class k l a) (full : Some b) where
  abbrev D : List Str
  D = cut_set (k - l) b

  abbrev A : List Terminals
  A = map (packed w) a

  abbrev B : List Terminals
  B = map (packed w) b

  D-well : AllWell w D
  D-well = cut_set-well w (k - l) b g

  follows : (x y : Str) → x ∈ a → y ∈ D → join k x y ≡ follow x y
  follows x y m n =
      let plain' = cut_set-plain (k - l) b y n in
      let long = cut_set-size (k - l) b (omega arith) full y n in
      join-follow k l x y some (c.unended x m) (c.alike x m).1 plain' long.0 ∙ ap (follow x) (cut-idle (k - l) y long.1 plain')

  run_is : run_of k A (add_all (cuts_of (k - l) B) []) ≡ map (packed w) (run a D)
  run_is = ap (run_of k A) (cut_set-packed w (k - l) b g) ∙ run-packed w k a D h D-well follows

  run-well : AllWell w (run a D)
  run-well z m =
      let p = run-cases z a D m in
      subst (λ (v : Str). well_formed w v ≡ true) (sym (p.is ∙ sym (follows p.first p.second p.in-first p.in-second)))
      (join-well w k p.first p.second short (h p.first p.in-first) (D-well p.second p.in-second))

  -- it rises
  pub run-rises : Sorted a → rising (run_of k A (add_all (cuts_of (k - l) B) [])) ≡ true
  run-rises s = rw run_is (rising-sorted w (run a D) (run-sorted l a D s c.alike (cut_set-sorted (k - l) b) (cut_set-plain (k - l) b)) run-well)

  -- and has what the class gives
  pub run-meets : (s : List Terminals) → add_all (run_of k A (add_all (cuts_of (k - l) B) [])) s ≡ add_all (meets_of k A B) s
  run-meets s = ap (λ (p : List Terminals). add_all p s) run_is ∙ add_all-same (map (packed w) (run a D)) (meets_of k A B) s (packed-low w (run a D)) (meets-low k w a b h g) to from
    where
      to : map (packed w) (run a D) ⊆ meets_of k A B
      to z m =
          let r = Memᴰ.of_map (packed w) (run a D) m in
          let p = run-cases r.0 a D r.1 in
          let q = cut_set-cases (k - l) p.second b p.in-second in
          let x = p.first in
          let e = p.is ∙ ap (follow x) q.is ∙ sym (join-follow k l x q.whole some (c.unended x p.in-first) (c.alike x p.in-first).1 q.other (full q.whole q.inside)) in
          Memᴰ.cast (sym r.2 ∙ ap (packed w) e) (meets-has k w x q.whole a b h g p.in-first q.inside q.other)

      from : meets_of k A B ⊆ map (packed w) (run a D)
      from z m =
          let r = meets-cases k w z a b h g m in
          let x = r.first in
          let y = r.second in
          let e = join-follow k l x y some (c.unended x r.in-first) (c.alike x r.in-first).1 r.plain (full y r.in-second) in
          Memᴰ.cast (r.is ∙ ap (packed w) e) (Memᴰ.map (packed w) (run-has x (cut (k - l) y) a D r.in-first (cut_set-has (k - l) y b r.in-second r.plain)))

-- ---- the whole join

in-joins : (k : ℕ) (z : Str) (a b : List Str) → Joined k a (λ y. y ∈ b) z → z ∈ joins k a b
unfolding join_sets
in-joins k z a b j = ⊎_elim (λ m. absurd (not-nil m)) (λ m. m) ((mem-union z [] (joins k a b)).0 ((mem-join_sets k z a b).1 j))

module _ (k w : ℕ) (a b : List Str) (some : 0 < k) (h : AllWell w a) (g : AllWell w b) (sized : (y : Str) → y ∈ b → (0 < length_of y) × (length_of y ≤ k)) {s t : Bool}
    (s-is : s ≡ member eps b) (t-is : t ≡ member eps a) where
  stay : List Terminals
  stay = cond s (map (packed w) a) (keeps_of k (map (packed w) a))

  second : List Terminals
  second = cond t (map (packed w) b) []

  lefts : List Terminals
  lefts = lefts_of k (map (packed w) a) (map (packed w) b)

  -- a member of the join, by the string that it is
  is-joined : (z : Terminals) (v : Str) → z ≡ packed w v → Joined k a (λ y. y ∈ b) v → z ∈ map (packed w) (joins k a b)
  is-joined z v e j = Memᴰ.cast e (Memᴰ.map (packed w) (in-joins k v a b j))

  from-stay : (z : Terminals) → z ∈ stay → z ∈ map (packed w) (joins k a b)
  unfolding stay
  from-stay z m = by s s-is m
    where
      one : (v : Str) → v ∈ a → eps ∈ b → (c : Bool) → complete k v ≡ c → Joined k a (λ y. y ∈ b) v
      one v n e true c = stays n c
      one v n e false c = meets n c e refl

      by : (u : Bool) → u ≡ member eps b → z ∈ cond u (map (packed w) a) (keeps_of k (map (packed w) a)) → z ∈ map (packed w) (joins k a b)
      by true e n = let r = Memᴰ.of_map (packed w) a n in is-joined z r.0 (sym r.2) (one r.0 r.1 ((mem-member eps b).0 (passed (sym e))) (complete k r.0) refl)
      by false e n = let r = keeps-cases k w z a h n in is-joined z r.0 r.3 (stays r.1 r.2)

  from_second : (z : Terminals) → z ∈ second → z ∈ map (packed w) (joins k a b)
  unfolding second
  from_second z m = by t t-is m
    where
      by : (u : Bool) → u ≡ member eps a → z ∈ cond u (map (packed w) b) [] → z ∈ map (packed w) (joins k a b)
      by true e n =
          let r = Memᴰ.of_map (packed w) b n in
          is-joined z r.0 (sym r.2) (meets ((mem-member eps a).0 (passed (sym e))) refl r.1 (sym (join-eps k r.0 (sized r.0 r.1).0 (sized r.0 r.1).1)))
      by false e n = absurd (not-nil n)

  from-lefts : (z : Terminals) → z ∈ lefts → z ∈ map (packed w) (joins k a b)
  unfolding lefts
  from-lefts z m = let r = lefts-cases k w z a b h g m in is-joined z (join k r.first r.second) r.is (one r (complete k r.first) refl)
    where
      one : (r : Meet k w a b z) → (c : Bool) → complete k r.first ≡ c → Joined k a (λ y. y ∈ b) (join k r.first r.second)
      one r true c =
          let e = join-whole k r.first r.second c in
          subst (Joined k a (λ y. y ∈ b)) (sym e) (stays r.in-first c)
      one r false c = meets r.in-first c r.in-second refl

  stay-has : (v : Str) → v ∈ a → (complete k v ≡ true) ⊎ (eps ∈ b) → packed w v ∈ stay
  unfolding stay
  stay-has v m e = by s s-is
    where
      by : (u : Bool) → u ≡ member eps b → packed w v ∈ cond u (map (packed w) a) (keeps_of k (map (packed w) a))
      by true f = Memᴰ.map (packed w) m
      by false f = ⊎_elim (λ c. keeps-has k w v a h m c) (λ n. absurd (not-both (holds (member eps b) ((mem-member eps b).1 n)) (sym f))) e

  second-has : (v : Str) → v ∈ b → eps ∈ a → packed w v ∈ second
  unfolding second
  second-has v m n = by t t-is
    where
      by : (u : Bool) → u ≡ member eps a → packed w v ∈ cond u (map (packed w) b) []
      by true f = Memᴰ.map (packed w) m
      by false f = absurd (not-both (holds (member eps a) ((mem-member eps a).1 n)) (sym f))

  to-parts : (z : Terminals) → z ∈ map (packed w) (joins k a b) → z ∈ (stay ++ (second ++ lefts))
  unfolding lefts
  to-parts z m = let r = Memᴰ.of_map (packed w) (joins k a b) m in Memᴰ.cast (sym r.2) (by r.0 (joins-cases k r.0 a b r.1))
    where
      by : (v : Str) → Joined k a (λ y. y ∈ b) v → packed w v ∈ (stay ++ (second ++ lefts))
      by v (stays i c) = Memᴰ.append_left (second ++ lefts) (stay-has v i (inl c))
      by v (meets {x = x} {y = y} i c j e) = two (is_eps x) refl (is_eps y) refl
        where
          two : (p : Bool) → is_eps x ≡ p → (q : Bool) → is_eps y ≡ q → packed w v ∈ (stay ++ (second ++ lefts))
          two true p q f =
              let same : v ≡ y = e ∙ ap (λ (u : Str). join k u y) (eps-is x p) ∙ join-eps k y (sized y j).0 (sized y j).1 in
              Memᴰ.append_right stay (Memᴰ.append_left lefts (Memᴰ.cast (ap (packed w) same) (second-has y j (subst (λ (u : Str). u ∈ a) (eps-is x p) i))))
          two false p true f =
              let same : v ≡ x = e ∙ ap (join k x) (eps-is y f) in
              Memᴰ.append_left (second ++ lefts) (Memᴰ.cast (ap (packed w) same) (stay-has x i (inr (subst (λ (u : Str). u ∈ b) (eps-is y f) j))))
          two false p false f =
              Memᴰ.append_right stay (Memᴰ.append_right second (Memᴰ.cast (ap (packed w) e) (lefts-has k w x y a b h g i (unfold leaves in rw (c, p)) j f)))

  all-low : AllLow (stay ++ (second ++ lefts))
  all-low z m = packed-low w (joins k a b) z (⊎_elim (from-stay z) (λ n. ⊎_elim (from_second z) (from-lefts z) (append_cases second n)) (append_cases stay m))

  -- what stays, what ε gives, and what is left make the join
  pub parts_join : (u : List Terminals) → add_all (lefts_of k (map (packed w) a) (map (packed w) b))
      (add_all (cond t (map (packed w) b) []) (add_all (cond s (map (packed w) a) (keeps_of k (map (packed w) a))) u)) ≡ add_all (pairs_of k (map (packed w) a) (map (packed w) b)) u
  unfolding stay second lefts
  parts_join u =
      sym (add_all-append stay (second ++ lefts) u ∙ add_all-append second lefts (add_all stay u))
      ∙ add_all-same (stay ++ (second ++ lefts)) (map (packed w) (joins k a b)) u all-low (packed-low w (joins k a b))
      (λ z m. ⊎_elim (from-stay z) (λ n. ⊎_elim (from_second z) (from-lefts z) (append_cases second n)) (append_cases stay m)) to-parts
      ∙ ap (λ (p : List Terminals). add_all p u) (sym (pairs-joins w k a b h g))
