-- The reader refuses by 3 to 7 only. Assumes nothing.
use Prim.Native.Nat.{ℕ, zero, suc, ◌+◌, ◌-◌, ◌*◌, ◌≤◌, min}
use mathlib.Core.Path.{◌≡◌}
use mathlib.Core.Bool.{Bool, true, false, ◌&&◌}
use mathlib.Core.List.{List, [], ◌∷◌, ◌++◌}
use native.Mathlib.Omega.{arith}
use lib.ListN.{length, get_or}
use lib.Dec.{ltb, leb, eqb}
use Rattle.cfg.specs.Reading.{Reading, got, refused, pick, ◌then◌}
use Rattle.cfg.specs.Number.{byte, number}
use Rattle.cfg.specs.Table.{field, is_symbol, symbol, symbols, production, productions, header, grammar_of, read_table}
use Rattle.cfg.proofs.Field.{got-refused}

-- a refusal is one of these
abbrev pub RefusesIn : {A : Type 0} → Reading A → Type 0
RefusesIn m = (r : ℕ) → m ≡ refused r → (3 ≤ r) × (r ≤ 7)

got_in : {A : Type 0} (a : A) (next : ℕ) → RefusesIn (got a next)
got_in a next r e = absurd (got-refused e)

refused-in : {A : Type 0} (s : ℕ) → 3 ≤ s → s ≤ 7 → RefusesIn {A = A} (refused s)
refused-in {A} s least most r e = let same : s ≡ r = cc in (omega arith, omega arith)

pick-in : {A : Type 0} (t : Bool) {m k : Reading A} → RefusesIn m → RefusesIn k → RefusesIn (pick t m k)
pick-in true p q = p
pick-in false p q = q

then-in : {A B : Type 0} (m : Reading A) (f : A → ℕ → Reading B) → RefusesIn m → ((a : A) (next : ℕ) → RefusesIn (f a next)) → RefusesIn (m then f)
then-in (got a next) f p q r e = q a next r e
then-in (refused s) f p q r e = let same : s ≡ r = cc in p r (rw same)

module _ (b : List ℕ) where
  byte-in : (at : ℕ) → RefusesIn (byte b at)
  byte-in at = pick-in (ltb at (length b)) (got_in (get_or b at 0) (at + 1)) (refused-in 3 (omega arith) (omega arith))

  number_in : (at : ℕ) → RefusesIn (number b at)
  number_in at =
      then-in (byte b at) _ (byte-in at) (λ low next. pick-in (ltb low 128) (got_in low next)
      (then-in (byte b next) _ (byte-in next) (λ high next.
      pick-in (leb 1 high && ltb high 128) (got_in (low - 128 + high * 128) next) (refused-in 4 (omega arith) (omega arith)))))

  field_in : (s least most at : ℕ) → 3 ≤ s → s ≤ 7 → RefusesIn (field b s least most at)
  field_in s least most at h l =
      then-in (number b at) _ (number_in at) (λ v next. pick-in (leb least v && leb v most) (got_in v next) (refused-in s h l))

  symbols-in : (n t count : ℕ) (ws : List ℕ) (at : ℕ) → RefusesIn (symbols b n t count ws at)
  unfolding symbols
  symbols-in n t zero ws at = got_in ws at
  symbols-in n t (suc count) ws at =
      then-in (symbol b n t at) _
      (then-in (number b at) _ (number_in at) (λ c next. pick-in (is_symbol n t c) (got_in c next) (refused-in 6 (omega arith) (omega arith))))
      (λ c next. symbols-in n t count (ws ++ (c ∷ [])) next)

  production-in : (n t total : ℕ) (ws : List ℕ) (at : ℕ) → RefusesIn (production b n t total ws at)
  production-in n t total ws at =
      then-in (field b 6 0 (n - 1) at) _ (field_in 6 0 (n - 1) at (omega arith) (omega arith)) (λ left next.
      then-in (field b 5 0 (min 64 (4096 - total)) next) _ (field_in 5 0 (min 64 (4096 - total)) next (omega arith) (omega arith)) (λ size next.
      symbols-in n t size (ws ++ (left ∷ size ∷ [])) next))

  productions-in : (n t i p : ℕ) (ws : List ℕ) (at : ℕ) → RefusesIn (productions b n t i p ws at)
  unfolding productions
  productions-in n t i zero ws at = got_in ws at
  productions-in n t i (suc p) ws at =
      then-in (production b n t (length ws - 2 * i) ws at) _ (production-in n t (length ws - 2 * i) ws at) (λ ws next. productions-in n t (i + 1) p ws next)

  header-in : RefusesIn (header b)
  header-in =
      then-in (field b 5 1 128 0) _ (field_in 5 1 128 0 (omega arith) (omega arith)) (λ n x.
      then-in (field b 5 0 4089 x) _ (field_in 5 0 4089 x (omega arith) (omega arith)) (λ t y.
      then-in (field b 6 0 (n - 1) y) _ (field_in 6 0 (n - 1) y (omega arith) (omega arith)) (λ start z.
      then-in (field b 5 0 512 z) _ (field_in 5 0 512 z (omega arith) (omega arith)) (λ p w.
      got_in (record { n = n; t = t; start = start; p = p }) w))))

  pub table-refusals : RefusesIn (read_table b)
  unfolding read_table
  table-refusals =
      then-in (header b) _ header-in (λ h x.
      then-in (productions b h.n h.t 0 h.p [] x) _ (productions-in h.n h.t 0 h.p [] x) (λ ws y.
      pick-in (eqb y (length b)) (got_in (grammar_of h ws) y) (refused-in 7 (omega arith) (omega arith))))
