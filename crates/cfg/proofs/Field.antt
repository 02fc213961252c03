-- A field that is read lies between its bounds. Assumes nothing.
use Prim.Native.Nat.{ℕ, ◌≤◌}
use mathlib.Core.Path.{◌≡◌, refl, sym}
use mathlib.Core.List.{List}
use mathlib.Core.Bool.{Bool, true, false, ◌&&◌}
use native.Mathlib.Omega.{arith}
use lib.Dec.{leb}
use borrow.Author.Tests.{leb-true}
use Rattle.cfg.specs.Reading.{Reading, got, refused, pick, ◌then◌}
use Rattle.cfg.specs.Number.{number}
use Rattle.cfg.specs.Table.{field}

pub got-refused : {A : Type 0} {v : A} {next r : ℕ} → got v next ≡ refused r → ⊥
got-refused e = let z : ◌≡◌ {A = ℕ} 0 1 = cc in omega arith

-- a field that is read lies between its bounds
module _ (b : List ℕ) (refusal least most at : ℕ) where
  inside : (v next w x : ℕ) (low high : Bool) → leb least w ≡ low → leb w most ≡ high
      → got v next ≡ pick (low && high) (got w x) (refused refusal) → (least ≤ v) × (v ≤ most)
  inside v next w x true true l h e =
      let same : v ≡ w = cc in
      (rw same (leb-true least w l), rw same (leb-true w most h))
  inside v next w x true false l h e = absurd (got-refused e)
  inside v next w x false high l h e = absurd (got-refused e)

  read : (v next : ℕ) (m : Reading ℕ)
      → got v next ≡ (m then λ w x. pick (leb least w && leb w most) (got w x) (refused refusal)) → (least ≤ v) × (v ≤ most)
  read v next (got w x) e = inside v next w x (leb least w) (leb w most) refl refl e
  read v next (refused r) e = absurd (got-refused e)

  pub field-inside : {v next : ℕ} → got v next ≡ field b refusal least most at → (least ≤ v) × (v ≤ most)
  field-inside {v = v} {next = next} e = read v next (number b at) e

  pub field-got-most : {v next : ℕ} → field b refusal least most at ≡ got v next → v ≤ most
  field-got-most e = (field-inside (sym e)).1

  pub field-got-least : {v next : ℕ} → field b refusal least most at ≡ got v next → least ≤ v
  field-got-least e = (field-inside (sym e)).0
