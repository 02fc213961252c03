-- One turn of the loop of `read_productions`. Assumes nothing.
use Prim.Native.Nat.{ℕ, ◌+◌, ◌*◌, ◌-◌, ◌≤◌, ◌<◌}
use native.Mathlib.Omega.{arith}
use mathlib.Core.Path.{◌≡◌, refl, ◌∙◌}
use mathlib.Core.List.{List, []}
use lib.ListN.{length, take}
use lib.Seq.{length-take-le}
use Rattle.cfg.specs.Reading.{Reading, got, refused, ◌then◌}
use Rattle.cfg.specs.Table.{production, productions}
use Rattle.cfg.proofs.Symbols.{left_over}

-- i of p productions are read, into the first `used` words; what is read from `at` on completes `goal`
pub record Reads (b : List ℕ) (n t p : ℕ) (goal : Reading (List ℕ)) (size : ℕ) (words : List ℕ) (used i at : ℕ) : Type 0 where
  pub below : i ≤ p
  pub room : 2 * p + 4096 ≤ size
  pub two-each : 2 * i ≤ used
  pub few : used ≤ 2 * i + 4096
  pub same : length words ≡ size
  pub rest : productions b n t i (p - i) (take used words) at ≡ goal

module _ (b : List ℕ) (n t p : ℕ) (goal : Reading (List ℕ)) (size : ℕ) (words : List ℕ) (used i at : ℕ)
    (w : Reads b n t p goal size words used i at) (h : i < p) where
  -- the rest, from this production on
  unfolded : (production b n t (used - 2 * i) (take used words) at then λ ws next. productions b n t (i + 1) (p - (i + 1)) ws next) ≡ goal
  unfolding productions
  unfolded =
      let len : length (take used words) ≡ used = length-take-le used words (omega (arith, w.same, w.few, w.room)) in
      (rw (left_over i p h, len) at w.rest)

  pub production-refused : (r : ℕ) → refused r ≡ production b n t (used - 2 * i) (take used words) at → refused r ≡ goal
  production-refused r s = rw (← unfolded, ← s)

  pub production-more : (words' : List ℕ) (used' next : ℕ) → got (take used' words') next ≡ production b n t (used - 2 * i) (take used words) at
      → length words' ≡ length words → used + 2 ≤ used' → used' ≤ used + 2 + (4096 - (used - 2 * i))
      → Reads b n t p goal size words' used' (i + 1) next
  production-more words' used' next s same least most =
      record {
        below = omega arith;
        room = w.room;
        two-each = omega arith;
        few = omega arith;
        same = same ∙ w.same;
        rest = rw (← unfolded, ← s);
      }

pub productions-start : (b : List ℕ) (n t p : ℕ) (words : List ℕ) (at : ℕ)
    → p ≤ 512 → 5120 ≤ length words → Reads b n t p (productions b n t 0 p [] at) (length words) words 0 0 at
productions-start b n t p words at few room =
    let all : p - 0 ≡ p = omega arith in
    record { below = omega arith; room = omega arith; two-each = omega arith; few = omega arith; same = refl; rest = rw all }

pub productions-done : (b : List ℕ) (n t p : ℕ) (goal : Reading (List ℕ)) (size : ℕ) (words : List ℕ) (used i at : ℕ)
    → Reads b n t p goal size words used i at → p ≤ i → got (take used words) at ≡ goal
unfolding productions
productions-done b n t p goal size words used i at w h =
    let none : p - i ≡ 0 = omega arith in
    rw none at w.rest
