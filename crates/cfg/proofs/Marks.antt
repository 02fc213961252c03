-- Laws of marks, and a count of the numbers that are not marked. Assumes nothing.
use Prim.Native.Nat.{ℕ, zero, suc, ◌+◌, ◌≤◌, ◌<◌}
use native.Mathlib.Nat.{eq-or-lt_of_le}
use native.Mathlib.Omega.{arith}
use mathlib.Core.Path.{◌≡◌, refl, sym, ap, ◌∙◌}
use mathlib.Core.Logic.{◌⊎◌, inl, inr, ⊎_elim}
use mathlib.Core.List.{List, [], ◌∷◌}
use mathlib.Core.Bool.{Bool, true, false}
use lib.ListN.{length, get_or, set, replicate}
use lib.Seq.{get_or-set_same, get_or-set_other}
use Rattle.cfg.specs.Reading.{pick}
use Rattle.cfg.specs.Marks.{Marked, no_marks, any_below}

-- how many numbers below n are not marked
pub unmarked : ℕ → List Bool → ℕ
unmarked zero m = 0
unmarked (suc n) m = pick (get_or m n false) 0 1 + unmarked n m

pub bool_cases : (b : Bool) → (b ≡ true) ⊎ (b ≡ false)
bool_cases true = inl refl
bool_cases false = inr refl

pub marked-or-not : (m : List Bool) (i : ℕ) → Marked m i ⊎ (get_or m i false ≡ false)
marked-or-not m i = bool_cases (get_or m i false)

pub not-both : {b : Bool} → b ≡ true → b ≡ false → ⊥
not-both t f = let z : ◌≡◌ {A = Bool} true false = sym t ∙ f in let o : ◌≡◌ {A = ℕ} 0 1 = cc in omega arith

-- marking one more
pub mark-kept : (m : List Bool) (b x : ℕ) → Marked m x → Marked (set m b true) x
mark-kept [] b x h = h
mark-kept (y ∷ m) zero zero h = refl
mark-kept (y ∷ m) zero (suc x) h = h
mark-kept (y ∷ m) (suc b) zero h = h
mark-kept (y ∷ m) (suc b) (suc x) h = mark-kept m b x h

pub mark-here : (m : List Bool) (b : ℕ) → b < length m → Marked (set m b true) b
mark-here m b h = get_or-set_same m b true false h

pub mark-cases : (m : List Bool) (b x : ℕ) → Marked (set m b true) x → (x ≡ b) ⊎ Marked m x
mark-cases [] b x h = inr h
mark-cases (y ∷ m) zero zero h = inl refl
mark-cases (y ∷ m) zero (suc x) h = inr h
mark-cases (y ∷ m) (suc b) zero h = inr h
mark-cases (y ∷ m) (suc b) (suc x) h = ⊎_elim (λ e. inl (ap suc e)) (λ k. inr k) (mark-cases m b x h)

-- the last of the numbers below n + 1, or one below n
last-or-below : (i n : ℕ) → i < suc n → (i ≡ n) ⊎ (i < n)
last-or-below i n h = let below : i ≤ n = omega arith in ⊎_elim (λ e. inl e) (λ l. inr (omega arith)) (eq-or-lt_of_le below)

-- all numbers below n are marked where none of them is not
pub none-unmarked : (n : ℕ) (m : List Bool) → unmarked n m ≡ 0 → (i : ℕ) → i < n → Marked m i
unfolding unmarked
none-unmarked zero m e i h = absurd (omega arith)
none-unmarked (suc n) m e i h = go (get_or m n false) refl e (none-unmarked n m)
  where
    go : (c : Bool) → get_or m n false ≡ c → pick c 0 1 + unmarked n m ≡ 0 → (unmarked n m ≡ 0 → (i : ℕ) → i < n → Marked m i) → Marked m i
    go true t z below = ⊎_elim (λ q. rw q t) (λ l. below (omega arith) i l) (last-or-below i n h)
    go false t z below = absurd (omega arith)

pub unmarked-fewer : (n : ℕ) (m m' : List Bool) → ((x : ℕ) → Marked m x → Marked m' x) → unmarked n m' ≤ unmarked n m
unfolding unmarked
unmarked-fewer zero m m' k = omega arith
unmarked-fewer (suc n) m m' k = go (get_or m n false) (get_or m' n false) (k n) (unmarked-fewer n m m' k)
  where
    go : (c c' : Bool) → (c ≡ true → c' ≡ true) → unmarked n m' ≤ unmarked n m → pick c' 0 1 + unmarked n m' ≤ pick c 0 1 + unmarked n m
    go true true f r = omega arith
    go true false f r = absurd (not-both (f refl) refl)
    go false true f r = omega arith
    go false false f r = omega arith

pub unmarked-all : (n : ℕ) (m : List Bool) → unmarked n m ≤ n
unfolding unmarked
unmarked-all zero m = omega arith
unmarked-all (suc n) m = go (get_or m n false) (unmarked-all n m)
  where
    go : (c : Bool) → unmarked n m ≤ n → pick c 0 1 + unmarked n m ≤ suc n
    go true r = omega arith
    go false r = omega arith

pub unmarked-less : (n : ℕ) (m : List Bool) (b : ℕ) → b < n → b < length m → get_or m b false ≡ false → unmarked n (set m b true) < unmarked n m
unfolding unmarked
unmarked-less zero m b h l f = absurd (omega arith)
unmarked-less (suc n) m b h l f =
    ⊎_elim
    (λ (q : b ≡ n). let here : get_or (set m b true) n false ≡ true = rw (← q) (mark-here m b l) in
    let free : get_or m n false ≡ false = rw (← q) f in
    let fewer : unmarked n (set m b true) ≤ unmarked n m = unmarked-fewer n m (set m b true) (mark-kept m b) in
    rw (here, free) (omega arith))
    (λ (k : b < n). let other : get_or (set m b true) n false ≡ get_or m n false = get_or-set_other m b n true false (omega arith) in
    rw other (omega (arith, unmarked-less n m b k l f)))
    (last-or-below b n h)

none-at : (k x : ℕ) → get_or (replicate k false) x false ≡ false
none-at zero x = refl
none-at (suc k) zero = refl
none-at (suc k) (suc x) = none-at k x

pub no-mark : (x : ℕ) → Marked no_marks x → ⊥
no-mark x h = not-both h (none-at 128 x)

-- a test that holds of some number below n
pub any_here : (n : ℕ) (test : ℕ → Bool) (i : ℕ) → i < n → test i ≡ true → any_below n test ≡ true
unfolding any_below
any_here zero test i h t = absurd (omega arith)
any_here (suc n) test i h t = go (test n) refl (last-or-below i n h) (λ l. any_here n test i l t)
  where
    go : (c : Bool) → test n ≡ c → (i ≡ n) ⊎ (i < n) → (i < n → any_below n test ≡ true) → pick c true (any_below n test) ≡ true
    go true e w rest = refl
    go false e (inl q) rest = absurd (not-both (rw (← q) t) e)
    go false e (inr l) rest = rest l

pub any-witness : (n : ℕ) (test : ℕ → Bool) → any_below n test ≡ true → (i : ℕ) × (i < n) × (test i ≡ true)
unfolding any_below
any-witness zero test e = absurd (not-both e refl)
any-witness (suc n) test e = go (test n) refl e (any-witness n test)
  where
    go : (c : Bool) → test n ≡ c → pick c true (any_below n test) ≡ true
        → (any_below n test ≡ true → (i : ℕ) × (i < n) × (test i ≡ true)) → (i : ℕ) × (i < suc n) × (test i ≡ true)
    go true q z below = (n, omega arith, q)
    go false q z below = let (i, l, t) = below z in (i, omega arith, t)
