-- A number is read exactly where its bytes stand, and so are numbers one after another. Assumes nothing.
use Prim.Native.Nat.{ℕ, zero, suc, ◌+◌, ◌*◌, ◌-◌, ◌/◌, ◌%◌, ◌≤◌, ◌<◌}
use native.Mathlib.Numerals.{add-one}
use native.Mathlib.Omega.{arith}
use mathlib.Core.Path.{◌≡◌, refl, sym, ap, subst, ◌∙◌}
use mathlib.Core.Logic.{◌⊎◌, inl, inr, ⊎_elim}
use mathlib.Core.List.{List, [], ◌∷◌, ◌++◌, append_assoc, cons-eq-cons}
use lib.ListN.{length, get_or, drop, length-append, length-drop}
use lib.Seq.{drop-cons, drop-drop, drop-append_seam}
use lib.Dec.{ltb}
use borrow.Author.Tests.{ltb-true, ltb-false, lt-ltb, le-ltb, le-leb}
use Rattle.cfg.specs.Reading.{Reading, got, refused}
use Rattle.cfg.specs.Number.{number}
use Rattle.cfg.specs.Write.{write_number, write_numbers, Bytes}
use Rattle.cfg.specs.Refused.{Unfinished, Malformed}
use Rattle.cfg.proofs.Field.{got-refused}
use Rattle.cfg.proofs.Number.{ended, one-group, ended-second, not_last, two-groups}
use Rattle.cfg.proofs.Marks.{bool_cases}

pub side : (a b : ℕ) → (a < b) ⊎ (b ≤ a)
side a b = ⊎_elim (λ t. inl (ltb-true a b t)) (λ f. inr (ltb-false a b f)) (bool_cases (ltb a b))

-- the bytes from a place on begin with a byte
pub first_byte : (b : List ℕ) (at x : ℕ) (c : List ℕ) → drop at b ≡ x ∷ c → (at < length b) × (x ≡ get_or b at 0) × (drop (at + 1) b ≡ c)
first_byte b at x c e =
    let inside : at < length b = omega (arith, length-drop at b, ap length e) in
    let split : get_or b at 0 ∷ drop (suc at) b ≡ x ∷ c = sym (drop-cons b at 0 inside) ∙ e in
    (inside, sym (cons-eq-cons.0 split).0, rw add-one (cons-eq-cons.0 split).1)

pub no_byte : (b : List ℕ) (at : ℕ) → drop at b ≡ [] → length b ≤ at
no_byte b at e = omega (arith, length-drop at b, ap length e)

-- what a number's answer is, and exactly when: no two of the cases can hold
pub data NumberIs (b : List ℕ) (at : ℕ) : Reading ℕ → Type 0 where
  unfinished : Unfinished (drop at b) → NumberIs b at (refused 3)
  malformed : Malformed (drop at b) → NumberIs b at (refused 4)
  one : (low : ℕ) (c : List ℕ) → drop at b ≡ low ∷ c → low < 128 → NumberIs b at (got low (at + 1))
  two : (low high : ℕ) (c : List ℕ) → drop at b ≡ low ∷ high ∷ c → 128 ≤ low → 1 ≤ high → high < 128 → NumberIs b at (got (low - 128 + high * 128) (at + 1 + 1))

module _ (b : List ℕ) (at : ℕ) where
  abbrev Is : Reading ℕ → Type 0
  Is = NumberIs b at

  -- each case from the bytes that stand there
  pub ends_at : drop at b ≡ [] → refused 3 ≡ number b at
  ends_at e = ended b at (no_byte b at e)

  pub one_at : (low : ℕ) (c : List ℕ) → drop at b ≡ low ∷ c → low < 128 → got low (at + 1) ≡ number b at
  one_at low c e l = let (inside, same, more) = first_byte b at low c e in one-group b at low same inside l

  pub ends-second-at : (low : ℕ) → drop at b ≡ low ∷ [] → 128 ≤ low → refused 3 ≡ number b at
  ends-second-at low e l = let (inside, same, more) = first_byte b at low [] e in ended-second b at low same inside l (no_byte b (at + 1) more)

  module _ (low high : ℕ) (c : List ℕ) (e : drop at b ≡ low ∷ high ∷ c) (l : 128 ≤ low) where
    pub malformed-at : (128 ≤ high) ⊎ (high ≡ 0) → refused 4 ≡ number b at
    malformed-at m =
        let (inside, same, more) = first_byte b at low (high ∷ c) e in
        let (far, same-high, _) = first_byte b (at + 1) high c more in
        not_last b at low same inside l high same-high far _ refl
        (⊎_elim (λ (h : 128 ≤ high). rw (le-ltb high 128 h, le-leb 1 high (omega arith))) (λ (z : high ≡ 0). rw z) m)

    pub two_at : 1 ≤ high → high < 128 → got (low - 128 + high * 128) (at + 1 + 1) ≡ number b at
    two_at z h =
        let (inside, same, more) = first_byte b at low (high ∷ c) e in
        let (far, same-high, _) = first_byte b (at + 1) high c more in
        two-groups b at low same inside l high same-high far _ refl (rw (lt-ltb high 128 h, le-leb 1 high z))

    second : Is (number b at)
    second = ⊎_elim
        (λ (h : high < 128). ⊎_elim
        (λ (z : high < 1). wrong (inr (omega arith)))
        (λ (z : 1 ≤ high). subst Is (two_at z h) (two low high c e l z h))
        (side high 1))
        (λ (h : 128 ≤ high). wrong (inl h))
        (side high 128)
      where
        wrong : (128 ≤ high) ⊎ (high ≡ 0) → Is (number b at)
        wrong m = subst Is (malformed-at m) (malformed (rw e (l, m)))

  pub number_is : Is (number b at)
  number_is = go (drop at b) refl
    where
      go : (c : List ℕ) → drop at b ≡ c → Is (number b at)
      go [] e = subst Is (ends_at e) (unfinished (rw e tt))
      go (low ∷ []) e = ⊎_elim
          (λ (l : low < 128). subst Is (one_at low [] e l) (one low [] e l))
          (λ (l : 128 ≤ low). subst Is (ends-second-at low e l) (unfinished (rw e l)))
          (side low 128)
      go (low ∷ high ∷ c) e = ⊎_elim
          (λ (l : low < 128). subst Is (one_at low (high ∷ c) e l) (one low (high ∷ c) e l))
          (λ (l : 128 ≤ low). second low high c e l)
          (side low 128)

written_one : (v : ℕ) → v < 128 → write_number v ≡ v ∷ []
unfolding write_number
written_one v h = rw (lt-ltb v 128 h)

written-two : (v : ℕ) → 128 ≤ v → write_number v ≡ (v % 128 + 128) ∷ (v / 128) ∷ []
unfolding write_number
written-two v h = rw (le-ltb v 128 h)

-- a number that is read stands there as it is written, and is of at most two groups
pub number-written : (b : List ℕ) → Bytes b → (at v next : ℕ) → number b at ≡ got v next → (drop at b ≡ write_number v ++ drop next b) × (v < 16384)
number-written b bytes at v next e = by (number b at) (number_is b at) e
  where
    by : (m : Reading ℕ) → NumberIs b at m → m ≡ got v next → (drop at b ≡ write_number v ++ drop next b) × (v < 16384)
    by m (unfinished h) e = absurd (got-refused (sym e))
    by m (malformed h) e = absurd (got-refused (sym e))
    by m (one low c f l) e =
        let same : low ≡ v = cc in
        let end : at + 1 ≡ next = cc in
        let (_, _, more) = first_byte b at low c f in
        rw (← same, ← end, written_one low l, more) (f, omega arith)
    by m (two low high c f l z h) e =
        let same : low - 128 + high * 128 ≡ v = cc in
        let end : at + 1 + 1 ≡ next = cc in
        let (_, here, more) = first_byte b at low (high ∷ c) f in
        let (_, _, rest) = first_byte b (at + 1) high c more in
        let low-group : v % 128 + 128 ≡ low = omega (arith, bytes at) in
        let high-group : v / 128 ≡ high = omega (arith, bytes at) in
        rw (written-two v (omega arith), low-group, high-group, ← end, rest) (f, omega (arith, bytes at))

-- a number that stands there is read
pub number-stands : (b : List ℕ) (at v : ℕ) (c : List ℕ) → v < 16384 → drop at b ≡ write_number v ++ c → number b at ≡ got v (at + length (write_number v))
number-stands b at v c small e = ⊎_elim
    (λ (h : v < 128). rw (written_one v h) (sym (one_at b at v c (rw (written_one v h) at e) h)))
    (λ (h : 128 ≤ v).
    let value : v % 128 + 128 - 128 + v / 128 * 128 ≡ v = omega arith in
    let end : at + 1 + 1 ≡ at + 2 = omega arith in
    rw (written-two v h, ← end)
    (sym (two_at b at (v % 128 + 128) (v / 128) c (rw (written-two v h) at e) (omega arith) (omega arith) (omega arith)) ∙ ap (λ (w : ℕ). got w (at + 1 + 1)) value))
    (side v 128)

-- what stands behind some bytes
pub behind-bytes : (b : List ℕ) (at : ℕ) (w c : List ℕ) → drop at b ≡ w ++ c → drop (at + length w) b ≡ c
behind-bytes b at w c e = sym (drop-drop (length w) at b) ∙ ap (drop (length w)) e ∙ drop-append_seam w c

-- numbers are read one after another, from a place up to another
abbrev pub Reads : List ℕ → ℕ → List ℕ → ℕ → Type 0
Reads b at [] next = at ≡ next
Reads b at (v ∷ vs) next = (mid : ℕ) × (number b at ≡ got v mid) × Reads b mid vs next

pub reads-split : (b : List ℕ) (at : ℕ) (us vs : List ℕ) (next : ℕ) → Reads b at (us ++ vs) next → (mid : ℕ) × Reads b at us mid × Reads b mid vs next
reads-split b at [] vs next r = (at, refl, r)
reads-split b at (u ∷ us) vs next (x, e, r) =
    let (mid, f, s) = reads-split b x us vs next r in
    (mid, (x, e, f), s)

pub reads-join : (b : List ℕ) (at : ℕ) (us vs : List ℕ) (mid next : ℕ) → Reads b at us mid → Reads b mid vs next → Reads b at (us ++ vs) next
reads-join b at [] vs mid next r s = rw r s
reads-join b at (u ∷ us) vs mid next (x, e, r) s = (x, e, reads-join b x us vs mid next r s)

-- numbers that are read to the end are the only ones
pub reads_same : (b : List ℕ) (at : ℕ) (us vs : List ℕ) → Reads b at us (length b) → Reads b at vs (length b) → us ≡ vs
reads_same b at [] [] r s = refl
reads_same b at [] (v ∷ vs) r (y, f, s) = absurd (got-refused (sym f ∙ sym (ended b at (omega arith))))
reads_same b at (u ∷ us) [] (x, e, r) s = absurd (got-refused (sym e ∙ sym (ended b at (omega arith))))
reads_same b at (u ∷ us) (v ∷ vs) (x, e, r) (y, f, s) =
    let same : u ≡ v = cc in
    let place : y ≡ x = cc in
    rw (same, reads_same b x us vs r (subst (λ (k : ℕ). Reads b k vs (length b)) place s))

-- reading stays inside
pub reads-inside : (b : List ℕ) (at : ℕ) (vs : List ℕ) (next : ℕ) → at ≤ length b → Reads b at vs next → next ≤ length b
reads-inside b at [] next h r = omega arith
reads-inside b at (v ∷ vs) next h (x, e, r) = reads-inside b x vs next (by (number b at) (number_is b at) e) r
  where
    by : (m : Reading ℕ) → NumberIs b at m → m ≡ got v x → x ≤ length b
    by m (unfinished k) e = absurd (got-refused (sym e))
    by m (malformed k) e = absurd (got-refused (sym e))
    by m (one low c f l) e = let end : at + 1 ≡ x = cc in omega (arith, (first_byte b at low c f).0)
    by m (two low high c f l z k) e =
        let end : at + 1 + 1 ≡ x = cc in
        let (_, _, more) = first_byte b at low (high ∷ c) f in
        omega (arith, (first_byte b (at + 1) high c more).0)

-- numbers of at most two groups
abbrev pub Small : List ℕ → Type 0
Small [] = Unit {0}
Small (v ∷ vs) = (v < 16384) × Small vs

pub small-append : (us vs : List ℕ) → Small us → Small vs → Small (us ++ vs)
small-append [] vs h k = k
small-append (u ∷ us) vs h k = (h.0, small-append us vs h.1 k)

pub small-prefix : (us vs : List ℕ) → Small (us ++ vs) → Small us
small-prefix [] vs h = tt
small-prefix (u ∷ us) vs h = (h.0, small-prefix us vs h.1)

-- numbers that are read stand there as they are written, and those that stand there are read
pub numbers-written : (b : List ℕ) → Bytes b → (at : ℕ) (vs : List ℕ) (next : ℕ) → Reads b at vs next → drop at b ≡ write_numbers vs ++ drop next b
numbers-written b bytes at [] next r = rw r
numbers-written b bytes at (v ∷ vs) next (mid, e, r) =
    (number-written b bytes at v mid e).0 ∙ ap (λ (l : List ℕ). write_number v ++ l) (numbers-written b bytes mid vs next r) ∙ sym (append_assoc (write_number v) (write_numbers vs) (drop next b))

pub numbers-stand : (b : List ℕ) (at : ℕ) (vs c : List ℕ) → Small vs → drop at b ≡ write_numbers vs ++ c → Reads b at vs (at + length (write_numbers vs))
numbers-stand b at [] c h e = let here : at ≡ at + 0 = omega arith in here
numbers-stand b at (v ∷ vs) c h e =
    let e' : drop at b ≡ write_number v ++ (write_numbers vs ++ c) = e ∙ append_assoc (write_number v) (write_numbers vs) c in
    let end : at + length (write_number v) + length (write_numbers vs) ≡ at + length (write_number v ++ write_numbers vs) = omega (arith, length-append (write_number v) (write_numbers vs)) in (
      at + length (write_number v),
      number-stands b at v (write_numbers vs ++ c) h.0 e',
      rw (← end) (numbers-stand b (at + length (write_number v)) vs c h.1 (behind-bytes b at (write_number v) (write_numbers vs ++ c) e')),
    )

-- what is written is bytes
bytes-cons : (x : ℕ) (b : List ℕ) → x < 256 → Bytes b → Bytes (x ∷ b)
bytes-cons x b h k zero = h
bytes-cons x b h k (suc i) = k i

pub written-bytes : (vs : List ℕ) → Small vs → Bytes (write_numbers vs)
written-bytes [] h = λ i. omega arith
written-bytes (v ∷ vs) h = ⊎_elim
    (λ (l : v < 128). rw (written_one v l) (bytes-cons v (write_numbers vs) (omega arith) (written-bytes vs h.1)))
    (λ (l : 128 ≤ v). rw (written-two v l) (bytes-cons (v % 128 + 128) ((v / 128) ∷ write_numbers vs) (omega arith) (bytes-cons (v / 128) (write_numbers vs) (omega (arith, h.0)) (written-bytes vs h.1))))
    (side v 128)
