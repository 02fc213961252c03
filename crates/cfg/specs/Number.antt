-- A number of the table: groups of seven bits, low group first, the top bit set when another follows; at most two groups, shortest form only.
-- Assumes nothing.
use Rattle.std.specs.Prelude.{ℕ, ◌+◌, ◌*◌, ◌-◌, List, [], ◌∷◌, ◌&&◌, ◌≡◌, refl, Result, Ok, Err, length, get_or, ltb, leb}
use Rattle.cfg.specs.Reading.{Reading, got, refused, pick, ◌then◌}
use Rattle.refusals.specs.Numbers.{number as number_of}
use Rattle.refusals.specs.declared.Refusal.{Refusal}
use Rattle.cfg.specs.declared.table.Read.{Read}

-- the byte at a place, or refusal 3 where the table has ended
abbrev pub byte : List ℕ → ℕ → Reading ℕ
byte b at = pick (ltb at (length b)) (got (get_or b at 0) (at + 1)) (refused 3)

-- one group below 128; or two, of which the second is 1 to 127; else refusal 4
abbrev pub number : List ℕ → ℕ → Reading ℕ
number b at =
    byte b at then λ low next.
    pick (ltb low 128)
    (got low next)
    (byte b next then λ high next.
    pick (leb 1 high && ltb high 128) (got (low - 128 + high * 128) next) (refused 4))

-- what an answer says, as this paper's numbers
abbrev pub says : Result (Read ℕ) Refusal → Reading ℕ
says (Ok read) = got read.value read.next
says (Err e) = refused (number_of e)

-- the same where a refusal is told by any number
abbrev pub says_number : Result (Read ℕ) ℕ → Reading ℕ
says_number (Ok read) = got read.value read.next
says_number (Err r) = refused r

number-one-group : number (5 ∷ 7 ∷ []) 0 ≡ got 5 1
number-one-group = refl

number-two-groups : number (0x83 ∷ 2 ∷ []) 0 ≡ got 259 2
number-two-groups = refl

number-longest : number (0xFF ∷ 0x7F ∷ []) 0 ≡ got 16383 2
number-longest = refl

number-ends : number (0x83 ∷ []) 0 ≡ refused 3
number-ends = refl

number-not-shortest : number (0x83 ∷ 0 ∷ []) 0 ≡ refused 4
number-not-shortest = refl

number-three-groups : number (0x83 ∷ 0x80 ∷ []) 0 ≡ refused 4
number-three-groups = refl
