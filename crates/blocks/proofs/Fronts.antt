-- The first sets of words, with one set behind them that is free: each change, and one change after another. Assumes nothing.
use mathlib.Core.Path.{◌≡◌, refl, sym, ap, ◌∙◌}
use mathlib.Core.List.{List, [], ◌++◌}
use Prim.Native.Nat.{ℕ, ◌+◌, ◌-◌, ◌≤◌, ◌<◌}
use native.Mathlib.Omega.{arith}
use lib.ListN.{length, take, drop, set}
use lib.Seq.{get_or-set_other, take-set-le, take-set-lt, take_at, get_or-append-add, get_or-drop}
use Rattle.k_tuple.specs.Strings.{Str}
use Rattle.k_tuples.specs.States.{State, set_of}
use Rattle.k_tuples.specs.Blocks.{sets_in, IsStored}
use Rattle.blocks.specs.Stores.{Turned, Front}
use Rattle.blocks.proofs.Stores.{same-long, turned-store, turned-sets, turned-beyond}

module _ {k w b m n free : ℕ} {F : State} {ws ws' : List ℕ} (f : Front k w b m n free F ws ws') where
  pub front_length : {j v : ℕ} → IsStored j v b m ws → length ws' ≡ length ws
  front_length s = same-long s f.store f.beyond

  -- the second at any k, as where a level follows another
  pub front-then : {j v : ℕ} {G : State} {ws'' : List ℕ} → Front j v b m n free G ws' ws'' → Front j v b m n free G ws ws''
  front-then g = record { store = g.store; front = g.front; others = λ i h k. g.others i h k ∙ f.others i h k; beyond = g.beyond ∙ f.beyond }

-- nothing has changed
pub front-start : {k w b m n free : ℕ} {ws : List ℕ} → IsStored k w b m ws → Front k w b m n free (take n (sets_in b m ws)) ws ws
front-start s = record { store = s; front = refl; others = λ i h k. refl; beyond = refl }

-- no set has changed
pub front_same : {k w b m n free : ℕ} {ws ws' : List ℕ} → Turned k w b m (sets_in b m ws) ws ws' → Front k w b m n free (take n (sets_in b m ws')) ws ws'
front_same t = record { store = turned-store t; front = refl; others = λ i h k. ap (λ (F : State). set_of F i) (turned-sets t); beyond = turned-beyond t }

module _ {k w b m : ℕ} (n free : ℕ) {ws ws' : List ℕ} where
  -- the free set has changed
  pub front-free : (x : List Str) → n ≤ free → Turned k w b m (set (sets_in b m ws) free x) ws ws' → Front k w b m n free (take n (sets_in b m ws)) ws ws'
  front-free x h t =
      record {
        store = turned-store t;
        front = ap (take n) (turned-sets t) ∙ take-set-le n (sets_in b m ws) free x h;
        others = λ i _ k. ap (λ (F : State). set_of F i) (turned-sets t) ∙ get_or-set_other (sets_in b m ws) free i x [] k;
        beyond = turned-beyond t;
      }

  -- one of the first n has changed
  pub front-one : (j : ℕ) (x : List Str) → j < n → Turned k w b m (set (sets_in b m ws) j x) ws ws' → Front k w b m n free (set (take n (sets_in b m ws)) j x) ws ws'
  front-one j x h t =
      record {
        store = turned-store t;
        front = ap (take n) (turned-sets t) ∙ take-set-lt n (sets_in b m ws) j x h;
        others = λ i k _. ap (λ (F : State). set_of F i) (turned-sets t) ∙ get_or-set_other (sets_in b m ws) j i x [] (λ (e : i ≡ j). omega arith);
        beyond = turned-beyond t;
      }

  -- all the first n have changed
  pub front-all : (new : State) → length new ≡ n → Turned k w b m (new ++ drop n (sets_in b m ws)) ws ws' → Front k w b m n free new ws ws'
  front-all new e t =
      record {
        store = turned-store t;
        front = ap (take n) (turned-sets t) ∙ take_at new (drop n (sets_in b m ws)) n e;
        others = λ i h _.
            let past : length new + (i - n) ≡ i = omega arith in
            let from : n + (i - n) ≡ i = omega arith in
            ap (λ (F : State). set_of F i) (turned-sets t)
            ∙ ap (λ (q : ℕ). set_of (new ++ drop n (sets_in b m ws)) q) (sym past)
            ∙ get_or-append-add new (drop n (sets_in b m ws)) (i - n) []
            ∙ get_or-drop n (sets_in b m ws) (i - n) []
            ∙ ap (λ (q : ℕ). set_of (sets_in b m ws) q) from;
        beyond = turned-beyond t;
      }
