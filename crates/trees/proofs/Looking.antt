-- The terminal by which a string goes on behind a prefix. Assumes nothing.
use Prim.Native.Nat.{ℕ, zero, suc, ◌/◌, ◌%◌, ◌≤◌, ◌<◌}
use native.Mathlib.Omega.{arith}
use mathlib.Core.Path.{◌≡◌, refl, sym, ap, ap₂, ◌∙◌, subst}
use mathlib.Core.Bool.{Bool, true, false}
use mathlib.Core.List.{List, [], ◌∷◌, ◌++◌}
use lib.ListN.{length, take, drop}
use lib.Seq.{length-take-le, take_at}
use Rattle.cfg.specs.Grammar.{Word}
use Rattle.trees.specs.Listed.{word_at, code_at, Agrees}
use Rattle.trees.specs.Queue.{State, prefix_of, GoesOnBy}

-- ---- one string

pub code-starts : (w : Word) (d t : ℕ) → code_at w d ≡ suc t → w ≡ take d w ++ t ∷ drop (suc d) w
unfolding code_at
code-starts [] d t e = absurd (omega arith)
code-starts (a ∷ w) zero t e = let s : a ≡ t = omega arith in rw s
code-starts (a ∷ w) (suc d) t e = ap (λ (v : Word). a ∷ v) (code-starts w d t e)

pub starts-code : (x : Word) (t : ℕ) (u : Word) → code_at (x ++ t ∷ u) (length x) ≡ suc t
unfolding code_at
starts-code [] t u = refl
starts-code (a ∷ x) t u = starts-code x t u

module _ (w v : Word) (d : ℕ) (long : d ≤ length w) where
  -- Where w and v begin alike, v goes on by its terminal d.
  on-by : take d w ≡ take d v → (r : ℕ) → r ≡ code_at v d → GoesOnBy (take d w) v r
  on-by q r e = record {
    on = λ t s. (drop (suc d) v, code-starts v d t (sym e ∙ s) ∙ ap (λ (y : Word). y ++ t ∷ drop (suc d) v) (sym q));
    only = λ t (u, s).
        e ∙ ap₂ code_at s (sym (length-take-le d w long)) ∙ starts-code (take d w) t u;
  }

  -- Elsewhere it does not.
  not_on : ¬ (take d w ≡ take d v) → GoesOnBy (take d w) v 0
  not_on n = record {
    on = λ t s. absurd (omega arith);
    only = λ t (u, s). absurd (n (sym (ap (take d) s ∙ take_at (take d w) (t ∷ u) d (length-take-le d w long))));
  }

module _ (ws : List ℕ) (n v : ℕ) (state : State ws n v) (j i : ℕ) (string : i ≡ v / 16) (b : Bool) (agrees : Agrees (v % 16) (word_at ws i) (word_at ws j) b) where
  pub goes : b ≡ true → (r : ℕ) → r ≡ code_at (word_at ws j) (v % 16) → GoesOnBy (prefix_of ws v) (word_at ws j) r
  unfolding prefix_of
  goes e r q = on-by (word_at ws (v / 16)) (word_at ws j) (v % 16) state.long (subst (λ (i : ℕ). take (v % 16) (word_at ws i) ≡ take (v % 16) (word_at ws j)) string (agrees.yes e)) r q

  pub goes-not : b ≡ false → GoesOnBy (prefix_of ws v) (word_at ws j) 0
  unfolding prefix_of
  goes-not e = not_on (word_at ws (v / 16)) (word_at ws j) (v % 16) state.long (subst (λ (i : ℕ). ¬ (take (v % 16) (word_at ws i) ≡ take (v % 16) (word_at ws j))) string (agrees.no e))

-- What goes_on asks of same_start.
pub goes-asks : (ws : List ℕ) (n v j i : ℕ) → State ws n v → j < n → i ≡ v / 16 → (i < n) × (v % 16 ≤ length (word_at ws i))
goes-asks ws n v j i s h e = rw e (s.inside (omega arith), s.long)
