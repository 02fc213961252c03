-- The parts of a right side, found by a walk over its codes. Assumes nothing.
use mathlib.Core.Path.{◌≡◌, refl, ap, subst}
use mathlib.Core.Bool.{Bool, true, false}
use mathlib.Core.List.{List, [], ◌∷◌, map}
use Prim.Native.Nat.{ℕ, zero, suc, ◌+◌, ◌/◌, ◌%◌, ◌≤◌, ◌<◌}
use native.Mathlib.Nat.{not-suc-le-zero}
use native.Mathlib.Numerals.{add-one}
use native.Mathlib.Omega.{arith}
use borrow.Author.Tests.{eq-eqb, ne_eqb}
use lib.Dec.{eqb}
use lib.ListN.{length, get_or, take, drop, drop_of_length-le}
use lib.Seq.{drop-cons}
use Rattle.k_tuple.specs.Strings.{ones}
use Rattle.cfg.specs.Grammar.{Sym, nonterminal, terminal, Grammar, AllInRange}
use Rattle.cfg.specs.Reading.{pick}
use Rattle.cfg.specs.Written.{symbol_of}
use Rattle.first_theory.specs.First.{Part, run, single, put, parts}
use Rattle.first.specs.declared.Setup.{Setup}
use Rattle.first.specs.Codes.{half, run_length, part_length, part_of, AllSlots}
use Rattle.first.specs.Steps.{sizes, Symbols, PartIn}

-- ---- the first part, and those behind it

put-run : (a : ℕ) (cs : List ℕ) → put a (parts (map symbol_of cs)) ≡ run (a ∷ map half (take (run_length cs) cs)) ∷ parts (map symbol_of (drop (run_length cs) cs))
unfolding run_length
put-run a [] = refl
put-run a (c ∷ cs) = by-test (eqb (c % 2) 0) refl (put-run (c / 2) cs)
  where
    by-test : (b : Bool) → eqb (c % 2) 0 ≡ b
        → put (c / 2) (parts (map symbol_of cs)) ≡ run (c / 2 ∷ map half (take (run_length cs) cs)) ∷ parts (map symbol_of (drop (run_length cs) cs))
        → put a (parts (pick b (nonterminal (c / 2)) (terminal (c / 2)) ∷ map symbol_of cs))
        ≡ run (a ∷ map half (take (pick b 0 (suc (run_length cs))) (c ∷ cs))) ∷ parts (map symbol_of (drop (pick b 0 (suc (run_length cs))) (c ∷ cs)))
    by-test true e ih = rw e
    by-test false e ih = ap (put a) ih

pub first_part : (c : ℕ) (cs : List ℕ)
    → parts (map symbol_of (c ∷ cs)) ≡ part_of (take (part_length (c ∷ cs)) (c ∷ cs)) ∷ parts (map symbol_of (drop (part_length (c ∷ cs)) (c ∷ cs)))
unfolding part_length part_of
first_part c cs = by-test (eqb (c % 2) 0) refl
  where
    by-test : (b : Bool) → eqb (c % 2) 0 ≡ b
        → parts (pick b (nonterminal (c / 2)) (terminal (c / 2)) ∷ map symbol_of cs)
        ≡ part_of (take (pick b 1 (suc (run_length cs))) (c ∷ cs)) ∷ parts (map symbol_of (drop (pick b 1 (suc (run_length cs))) (c ∷ cs)))
    by-test true e = rw e
    by-test false e = rw e (put-run (c / 2) cs)

-- at a place of a right side
pub part_at : (right : List ℕ) (j : ℕ) → j < length right → let l = part_length (drop j right) in
    parts (map symbol_of (drop j right)) ≡ part_of (take l (drop j right)) ∷ parts (map symbol_of (drop l (drop j right)))
part_at right j h = rw (drop-cons right j 0 h) (first_part (get_or right j 0) (drop (suc j) right))

-- ---- the walk to the end of a part

module _ (right : List ℕ) (e : ℕ) where
  pub run_none : length right ≤ e → run_length (drop e right) ≡ 0
  unfolding run_length
  run_none h = rw (drop_of_length-le right {i = e} h)

  module _ (h : e < length right) where
    pub run-even : get_or right e 0 % 2 ≡ 0 → run_length (drop e right) ≡ 0
    unfolding run_length
    run-even even = rw (drop-cons right e 0 h, eq-eqb (get_or right e 0 % 2) 0 even)

    pub run-odd : (get_or right e 0 % 2 ≡ 0 → ⊥) → run_length (drop e right) ≡ suc (run_length (drop (e + 1) right))
    unfolding run_length
    run-odd odd = rw (add-one, drop-cons right e 0 h, ne_eqb (get_or right e 0 % 2) 0 odd)

    pub part-even : get_or right e 0 % 2 ≡ 0 → part_length (drop e right) ≡ 1
    unfolding part_length
    part-even even = rw (drop-cons right e 0 h, eq-eqb (get_or right e 0 % 2) 0 even)

    pub part-odd : (get_or right e 0 % 2 ≡ 0 → ⊥) → part_length (drop e right) ≡ suc (run_length (drop (e + 1) right))
    unfolding part_length
    part-odd odd = rw (add-one, drop-cons right e 0 h, ne_eqb (get_or right e 0 % 2) 0 odd)

-- ---- what codes of one part say

pub one-even : (part : List ℕ) → 1 ≤ length part → get_or part 0 0 % 2 ≡ 0 → part_of part ≡ single (get_or part 0 0 / 2)
unfolding part_of
one-even [] h even = absurd (not-suc-le-zero h)
one-even (c ∷ cs) h even = rw (eq-eqb (c % 2) 0 even)

pub run_of : (part : List ℕ) → 1 ≤ length part → (get_or part 0 0 % 2 ≡ 0 → ⊥) → part_of part ≡ run (map half part)
unfolding part_of
run_of [] h odd = absurd (not-suc-le-zero h)
run_of (c ∷ cs) h odd = rw (ne_eqb (c % 2) 0 odd)

-- ---- symbols in range

-- the range depends on the sizes alone
pub range_same : (g h : Grammar) (ss : List Sym) → g.n ≡ h.n → g.t ≡ h.t → AllInRange g ss → AllInRange h ss
range_same g h [] n t r = tt
range_same g h (nonterminal A ∷ ss) n t r = (rw (← n) r.0, range_same g h ss n t r.1)
range_same g h (terminal x ∷ ss) n t r = ((r.0.0, rw (← t) r.0.1), range_same g h ss n t r.1)

pub range-drop : (g : Grammar) (m : ℕ) (ss : List Sym) → AllInRange g ss → AllInRange g (drop m ss)
range-drop g zero ss r = r
range-drop g (suc m) [] r = r
range-drop g (suc m) (s ∷ ss) r = range-drop g m ss r.1

map-drop : (m : ℕ) (cs : List ℕ) → map symbol_of (drop m cs) ≡ drop m (map symbol_of cs)
map-drop zero cs = refl
map-drop (suc m) [] = refl
map-drop (suc m) (c ∷ cs) = map-drop m cs

-- a right side from place j on
pub symbols-from : (u : Setup) (right : List ℕ) (j : ℕ) → Symbols u (map symbol_of right) → Symbols u (map symbol_of (drop j right))
symbols-from u right j r = rw (map-drop j right) (range-drop (sizes u) j (map symbol_of right) r)

abbrev AllPartsIn : Setup → List Part → Type 0
AllPartsIn u [] = Unit {0}
AllPartsIn u (p ∷ ps) = PartIn u p × AllPartsIn u ps

put_in : (u : Setup) (a : ℕ) (ps : List Part) → (5 ≤ a) × (a ≤ u.t + 4) → AllPartsIn u ps → AllPartsIn u (put a ps)
put_in u a [] h f = ((h, tt), tt)
put_in u a (run v ∷ ps) h f = ((h, f.0), f.1)
put_in u a (single A ∷ ps) h f = ((h, tt), f)

parts_in : (u : Setup) (ss : List Sym) → Symbols u ss → AllPartsIn u (parts ss)
parts_in u [] r = tt
parts_in u (nonterminal A ∷ ss) r = (r.0, parts_in u ss r.1)
parts_in u (terminal x ∷ ss) r = put_in u x (parts ss) r.0 (parts_in u ss r.1)

-- the part at a place of a right side
pub part_in : (u : Setup) (right : List ℕ) (j : ℕ) → j < length right → Symbols u (map symbol_of right) → PartIn u (part_of (take (part_length (drop j right)) (drop j right)))
part_in u right j h r = (subst (AllPartsIn u) (part_at right j h) (parts_in u (map symbol_of (drop j right)) (symbols-from u right j r))).0

-- terminals in range are slots
pub run-slots : (u : Setup) (w : ℕ) (v : List ℕ) → u.t + 5 < ones w → Symbols u (map terminal v) → AllSlots w v
run-slots u w [] h r = tt
run-slots u w (x ∷ v) h r = ((omega arith, omega arith), run-slots u w v h r.1)
