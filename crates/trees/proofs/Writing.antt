-- Bytes of numbers, transitions and states, measured and written. Assumes nothing.
use Prim.Native.Nat.{ℕ, suc, ◌+◌, ◌-◌, ◌*◌, ◌/◌, ◌%◌, ◌≤◌, ◌<◌}
use native.Mathlib.Omega.{arith}
use native.Mathlib.Numerals.{add-one}
use native.Mathlib.Decide.{dec_lt}
use mathlib.Core.Path.{◌≡◌, refl, sym, ap, ap₂, ◌∙◌, subst}
use mathlib.Core.Bool.{Bool, true, false, cond}
use mathlib.Core.List.{List, [], ◌∷◌, ◌++◌, append_assoc}
use lib.Dec.{ltb, eqb, eqb_refl, eqb→eq}
use lib.ListN.{length, get_or, set, length-append}
use lib.Seq.{sets, length-sets}
use borrow.Author.Tests.{lt-ltb, le-ltb}
use Rattle.cfg.specs.Reading.{pick}
use Rattle.cfg.specs.Write.{write_number, write_numbers}
use Rattle.k_tuple.specs.Strings.{count_field}
use Rattle.k_tuple.specs.Packed.{number_of}
use Rattle.k_tuple.specs.declared.Terminals.{Terminals}
use Rattle.k_tuples.specs.Words.{member_at}
use Rattle.k_tuples.proofs.Tests.{unpassed, holds}
use Rattle.trees.specs.Listed.{Listed, word_at, production_at, code_at, code_of}
use Rattle.std.specs.Prelude.{Option, Some, None, IsSome}
use Rattle.trees.specs.Queue.{State, Deep}
use Rattle.trees.specs.Output.{accept_of, letter_of, edges_in, states_in, kids_from, Edges, States, Measures, Puts}
use Rattle.trees.proofs.Reading.{string-count, code_in, word_small}

-- ---- numbers

pub size-one : (v : ℕ) → v < 128 → 1 ≡ length (write_number v)
unfolding write_number
size-one v h = rw (lt-ltb v 128 h)

pub size-two : (v : ℕ) → 128 ≤ v → 2 ≡ length (write_number v)
unfolding write_number
size-two v h = rw (le-ltb v 128 h)

number_size : (v : ℕ) → length (write_number v) ≤ 2
unfolding write_number
number_size v = by (ltb v 128)
  where
    by : (b : Bool) → length (pick b (v ∷ []) ((v % 128 + 128) ∷ (v / 128) ∷ [])) ≤ 2
    by true = omega arith
    by false = omega arith

pub size-most : (v r : ℕ) → r ≡ length (write_number v) → r ≤ 2
size-most v r e = let h = number_size v in omega arith

pub put_one : (b : List ℕ) (at v : ℕ) → v < 128 → Puts b (set b at v) at (at + 1) (write_number v)
unfolding write_number
put_one b at v h = rw (lt-ltb v 128 h) (record { place = refl; written = refl })

pub put_two : (b : List ℕ) (at v : ℕ) → 128 ≤ v → Puts b (set (set b at (v % 128 + 128)) (at + 1) (v / 128)) at (at + 2) (write_number v)
unfolding write_number
put_two b at v h = rw (le-ltb v 128 h) (record { place = refl; written = ap (λ (i : ℕ). set (set b at (v % 128 + 128)) i (v / 128)) (add-one at) })

-- ---- one run of bytes behind another

sets-append : (xs ys b : List ℕ) (at : ℕ) → sets (sets b at xs) (at + length xs) ys ≡ sets b at (xs ++ ys)
sets-append [] ys b at = let z : at + 0 ≡ at = omega arith in ap (λ (i : ℕ). sets b i ys) z
sets-append (x ∷ xs) ys b at = let z : at + suc (length xs) ≡ suc at + length xs = omega arith in ap (λ (i : ℕ). sets (sets (set b at x) (suc at) xs) i ys) z ∙ sets-append xs ys (set b at x) (suc at)

pub puts-append : {b c d : List ℕ} {at i j : ℕ} {xs ys : List ℕ} → Puts b c at i xs → Puts c d i j ys → Puts b d at j (xs ++ ys)
puts-append {b = b} {at = at} {xs = xs} {ys = ys} p q = record {
  place = let e = p.place in let f = q.place in let g = length-append xs ys in omega arith;
  written = q.written ∙ ap₂ (λ (l : List ℕ) (k : ℕ). sets l k ys) p.written p.place ∙ sets-append xs ys b at;
}

pub puts-length : {b c : List ℕ} {at i : ℕ} {xs : List ℕ} → Puts b c at i xs → length c ≡ length b
puts-length {b = b} {at = at} {xs = xs} p = ap length p.written ∙ length-sets b at xs

-- ---- what a state accepts

pub accept-none : (ws : List ℕ) (n v : ℕ) → n ≡ 0 → 0 ≡ accept_of ws n v
unfolding accept_of
accept-none ws n v e = rw e

module _ (ws : List ℕ) (n v : ℕ) (listed : Listed ws n) (state : State ws n v) where
  pub accept-inside : (i : ℕ) → (n ≡ 0 → ⊥) → i ≡ v / 16 → i < n
  accept-inside i z e = let h = state.inside (omega arith) in omega arith

  module _ (i : ℕ) (z : n ≡ 0 → ⊥) (e : i ≡ v / 16) (t : Terminals) (is : t ≡ member_at ws (3 * i)) (l : ℕ) (counted : l ≡ count_field (number_of t)) where
    word-length : length (word_at ws (v / 16)) ≡ l
    word-length = subst (λ (j : ℕ). length (word_at ws j) ≡ l) e (string-count ws n i listed (accept-inside i z e) t is l counted)

    not_none : eqb n 0 ≡ false
    not_none = unpassed (eqb n 0) (λ p. z (eqb→eq n 0 p))

    pub accept-ends : l ≡ v % 16 → get_or ws (3 * i + 2) 0 + 1 ≡ accept_of ws n v
    unfolding accept_of production_at
    accept-ends s =
        let q : length (word_at ws (v / 16)) ≡ v % 16 = word-length ∙ s in
        rw (not_none, q, holds (eqb (v % 16) (v % 16)) (eqb_refl (v % 16)), e)

    pub accept-on : (l ≡ v % 16 → ⊥) → 0 ≡ accept_of ws n v
    unfolding accept_of
    accept-on s = rw (not_none, unpassed (eqb (length (word_at ws (v / 16))) (v % 16)) (λ p. s (sym word-length ∙ eqb→eq (length (word_at ws (v / 16))) (v % 16) p)))

  accept-fits : accept_of ws n v < 16384
  unfolding accept_of production_at
  accept-fits = by (dec_lt 0 n)
    where
      at : (b : Bool) → 0 < n → cond b (get_or ws (3 * (v / 16) + 2) 0 + 1) 0 < 16384
      at true z = let h = listed.small (v / 16) (state.inside z) in omega arith
      at false z = omega arith

      by : Dec (0 < n) → cond (eqb n 0) 0 (cond (eqb (length (word_at ws (v / 16))) (v % 16)) (get_or ws (3 * (v / 16) + 2) 0 + 1) 0) < 16384
      by (yes z) = rw (unpassed (eqb n 0) (λ p. omega (arith, eqb→eq n 0 p))) (at (eqb (length (word_at ws (v / 16))) (v % 16)) z)
      by (no z) = let e : n ≡ 0 = omega arith in rw e (omega arith)

  pub accept-small : (r : ℕ) → r ≡ accept_of ws n v → r < 16384
  accept-small r e = let h = accept-fits in omega arith

-- ---- the terminal that leads to a state

module _ (ws : List ℕ) (n v : ℕ) (listed : Listed ws n) (deep : Deep ws n v) (i : ℕ) (e : i ≡ v / 16) where
  pub reached-inside : i < n
  reached-inside = let h = deep.inside in omega arith

  pub reached : (o : Option ℕ) → code_of o ≡ code_at (word_at ws i) (v % 16 - 1) → (t : ℕ) → o ≡ Some t → t ≡ letter_of ws v
  unfolding letter_of
  reached o q t z =
      let h = deep.some in
      let g = deep.long in
      let c = code_in (word_at ws (v / 16)) (v % 16 - 1) (omega arith) in
      let d : suc t ≡ code_at (word_at ws (v / 16)) (v % 16 - 1) = sym (ap code_of z) ∙ subst (λ (j : ℕ). code_of o ≡ code_at (word_at ws j) (v % 16 - 1)) e q in
      omega arith

  pub reached-some : (o : Option ℕ) → code_of o ≡ code_at (word_at ws i) (v % 16 - 1) → IsSome o
  reached-some (Some t) q = refl
  reached-some None q =
      let h = deep.some in
      let g = deep.long in
      let c = code_in (word_at ws (v / 16)) (v % 16 - 1) (omega arith) in
      let d : 0 ≡ code_at (word_at ws (v / 16)) (v % 16 - 1) = subst (λ (j : ℕ). 0 ≡ code_at (word_at ws j) (v % 16 - 1)) e q in
      absurd (omega arith)

pub reached-small : (ws : List ℕ) (n v : ℕ) → Listed ws n → Deep ws n v → (r : ℕ) → r ≡ letter_of ws v → r < 4096
unfolding letter_of
reached-small ws n v listed deep r e = let h = word_small ws n (v / 16) listed deep.inside (v % 16 - 1) in omega arith

-- ---- transitions

module _ (ws queue : List ℕ) where
  edges_none : (c to : ℕ) → to ≤ c → edges_in ws queue c (to - c) ≡ []
  unfolding edges_in
  edges_none c to h = let z : to - c ≡ 0 = omega arith in rw z

  edges-cons : (c to : ℕ) → c < to → edges_in ws queue c (to - c) ≡ letter_of ws (get_or queue c 0) ∷ c ∷ edges_in ws queue (c + 1) (to - (c + 1))
  unfolding edges_in
  edges-cons c to h = let z : to - c ≡ suc (to - (c + 1)) = omega arith in rw z (ap (λ (i : ℕ). letter_of ws (get_or queue c 0) ∷ c ∷ edges_in ws queue i (to - (c + 1))) (sym (add-one c)))

  pub record EdgesMeasured (from to total c : ℕ) : Type 0 where
    pub low : from ≤ c
    pub high : c ≤ to
    pub most : total ≤ 4 * (c - from)
    pub come : total + length (write_numbers (edges_in ws queue c (to - c))) ≡ length (write_numbers (edges_in ws queue from (to - from)))

  pub edges-start : (from to : ℕ) → from ≤ to → EdgesMeasured from to 0 from
  edges-start from to h = record { low = omega arith; high = h; most = omega arith; come = omega arith }

  pub edges-end : (from to total c : ℕ) → EdgesMeasured from to total c → to ≤ c → Measures (write_numbers (edges_in ws queue from (to - from))) (4 * (to - from)) total
  edges-end from to total c g h =
      let a = g.high in
      let b = g.most in
      let e = ap (λ (l : List ℕ). length (write_numbers l)) (edges_none c to h) in
      let f = g.come in
      record { is = omega arith; most = omega arith }

  pub edges-turn : (from to total c : ℕ) → EdgesMeasured from to total c → c < to → (x by at : ℕ) → x ≡ letter_of ws (get_or queue c 0) → by ≡ length (write_number x) → at ≡ length (write_number c) → EdgesMeasured from to (total + by + at) (c + 1)
  edges-turn from to total c g h x by at p q r =
      let a = g.low in
      let b = g.most in
      let s = number_size x in
      let t = number_size c in
      let e = ap (λ (l : List ℕ). length (write_numbers l)) (edges-cons c to h) in
      let rest = write_numbers (edges_in ws queue (c + 1) (to - (c + 1))) in
      let l = length-append (write_number (letter_of ws (get_or queue c 0))) (write_number c ++ rest) in
      let k = length-append (write_number c) rest in
      let y = ap (λ (i : ℕ). length (write_number i)) p in
      let f = g.come in
      record { low = omega arith; high = omega arith; most = omega arith; come = omega arith }

-- ---- states

pub numbers-append : (xs ys : List ℕ) → write_numbers (xs ++ ys) ≡ write_numbers xs ++ write_numbers ys
numbers-append [] ys = refl
numbers-append (x ∷ xs) ys = ap (λ (l : List ℕ). write_number x ++ l) (numbers-append xs ys) ∙ sym (append_assoc (write_number x) (write_numbers xs) (write_numbers ys))

module _ (ws : List ℕ) (n m : ℕ) (queue kids : List ℕ) where
  -- what is still to write from state s on
  abbrev pub rest : ℕ → ℕ → List ℕ
  rest next s = states_in ws n queue kids next s (m - s)

  -- all of it
  abbrev pub goal : List ℕ
  goal = states_in ws n queue kids 1 0 m

  states-none : (next s : ℕ) → m ≤ s → rest next s ≡ []
  unfolding states_in
  states-none next s h = let z : m - s ≡ 0 = omega arith in rw z

  states-all : rest 1 0 ≡ goal
  states-all = let z : m - 0 ≡ m = omega arith in rw z

  states-cons : (next s : ℕ) → s < m → rest next s ≡ accept_of ws n (get_or queue s 0) ∷ get_or kids s 0 ∷ edges_in ws queue next (get_or kids s 0) ++ rest (next + get_or kids s 0) (s + 1)
  unfolding states_in
  states-cons next s h =
      let z : m - s ≡ suc (m - (s + 1)) = omega arith in
      rw z (ap (λ (i : ℕ). accept_of ws n (get_or queue s 0) ∷ get_or kids s 0 ∷ edges_in ws queue next (get_or kids s 0) ++ states_in ws n queue kids (next + get_or kids s 0) i (m - (s + 1))) (sym (add-one s)))

  kids-cons : (s : ℕ) → s < m → kids_from kids s (m - s) ≡ get_or kids s 0 + kids_from kids (s + 1) (m - (s + 1))
  unfolding kids_from
  kids-cons s h = let z : m - s ≡ suc (m - (s + 1)) = omega arith in rw z (ap (λ (i : ℕ). get_or kids s 0 + kids_from kids i (m - (s + 1))) (sym (add-one s)))

  kids-none : kids_from kids m (m - m) ≡ 0
  unfolding kids_from
  kids-none = let z : m - m ≡ 0 = omega arith in rw z

  -- The bytes of state s, of its transitions, and of the others.
  states-bytes : (next s : ℕ) → s < m
      → write_numbers (rest next s) ≡ (write_number (accept_of ws n (get_or queue s 0)) ++ write_number (get_or kids s 0)) ++ (write_numbers (edges_in ws queue next (get_or kids s 0)) ++ write_numbers (rest (next + get_or kids s 0) (s + 1)))
  states-bytes next s h =
      ap write_numbers (states-cons next s h)
      ∙ ap (λ (l : List ℕ). write_number (accept_of ws n (get_or queue s 0)) ++ (write_number (get_or kids s 0) ++ l)) (numbers-append (edges_in ws queue next (get_or kids s 0)) (rest (next + get_or kids s 0) (s + 1)))
      ∙ sym (append_assoc (write_number (accept_of ws n (get_or queue s 0))) (write_number (get_or kids s 0)) (write_numbers (edges_in ws queue next (get_or kids s 0)) ++ write_numbers (rest (next + get_or kids s 0) (s + 1))))

  -- Where a loop over the states stands.
  pub record Standing (next s : ℕ) : Type 0 where
    pub below : s ≤ m
    pub some : 1 ≤ next
    pub sum : next + kids_from kids s (m - s) ≡ m

  pub standing-start : States ws n m queue kids → Standing 1 0
  standing-start h = let z : m - 0 ≡ m = omega arith in record { below = omega arith; some = omega arith; sum = rw z h.sum }

  pub standing-turn : (next s end : ℕ) → Standing next s → s < m → end ≡ next + get_or kids s 0 → Standing end (s + 1)
  standing-turn next s end g h e = let a = g.sum in let b = g.some in let k = kids-cons s h in record { below = omega arith; some = omega arith; sum = omega arith }

  pub standing-edges : (next s end : ℕ) → States ws n m queue kids → Standing next s → s < m → end ≡ next + get_or kids s 0 → Edges ws n queue next end
  standing-edges next s end w g h e =
      let a = g.sum in
      let b = g.some in
      let k = kids-cons s h in
      let f = w.few in
      let r = w.queue-room in
      record { low = omega arith; few = omega arith; room = omega arith; deep = λ q l i. w.deep q (omega arith) (omega arith) }

  pub kid-small : (next s : ℕ) → States ws n m queue kids → Standing next s → s < m → next + get_or kids s 0 ≤ 2048
  kid-small next s w g h = let a = g.sum in let k = kids-cons s h in let f = w.few in omega arith

  pub record StatesMeasured (total next s : ℕ) : Type 0 where
    pub at : Standing next s
    pub most : total ≤ 4 * s + 4 * next - 4
    pub come : total + length (write_numbers (rest next s)) ≡ length (write_numbers goal)

  pub measure-start : States ws n m queue kids → StatesMeasured 0 1 0
  measure-start h = record { at = standing-start h; most = omega arith; come = let e = ap (λ (l : List ℕ). length (write_numbers l)) states-all in omega arith }

  pub measure-end : (total next s : ℕ) → States ws n m queue kids → StatesMeasured total next s → m ≤ s → Measures (write_numbers goal) 16384 total
  measure-end total next s w g h =
      let e = ap (λ (l : List ℕ). length (write_numbers l)) (states-none next s h) in
      let a = g.come in
      let b = g.most in
      let c = g.at.sum in
      let d = g.at.below in
      let f = w.few in
      record { is = omega arith; most = omega arith }

  pub measure-turn : (total next s end : ℕ) → StatesMeasured total next s → s < m → end ≡ next + get_or kids s 0
      → (p a b e : ℕ) → p ≡ accept_of ws n (get_or queue s 0) → a ≡ length (write_number p) → b ≡ length (write_number (get_or kids s 0))
      → Measures (write_numbers (edges_in ws queue next (end - next))) (4 * (end - next)) e
      → StatesMeasured (total + (a + b) + e) end (s + 1)
  measure-turn total next s end g h q p a b e pa la lb me =
      let k : end - next ≡ get_or kids s 0 = omega arith in
      let x = number_size p in
      let y = number_size (get_or kids s 0) in
      let z = ap (λ (i : ℕ). length (write_number i)) pa in
      let i = me.is in
      let j = me.most in
      let o = ap (λ (i : ℕ). length (write_numbers (edges_in ws queue next i))) k in
      let t = g.come in
      let u = g.most in
      let f = g.at.some in
      let R = write_numbers (rest (next + get_or kids s 0) (s + 1)) in
      let E = write_numbers (edges_in ws queue next (get_or kids s 0)) in
      let r = ap length (states-bytes next s h) ∙ length-append (write_number (accept_of ws n (get_or queue s 0)) ++ write_number (get_or kids s 0)) (E ++ R) in
      let l = length-append (write_number (accept_of ws n (get_or queue s 0))) (write_number (get_or kids s 0)) in
      let v = length-append E R in
      let w = ap (λ (i : ℕ). length (write_numbers (rest i (s + 1)))) q in
      record { at = standing-turn next s end g.at h q; most = omega arith; come = omega arith }

-- ---- runs of bytes

-- What is still to come at the present place gives the goal.
pub record Run (before now : List ℕ) (at place : ℕ) (goal rest : List ℕ) : Type 0 where
  pub come : sets now place rest ≡ sets before at goal
  pub stop : place + length rest ≡ at + length goal
  pub same : length now ≡ length before

pub run-start : (b : List ℕ) (at : ℕ) (goal : List ℕ) → Run b b at at goal goal
run-start b at _ = record { come = refl; stop = refl; same = refl }

module _ (b now : List ℕ) (at place : ℕ) (goal rest : List ℕ) (g : Run b now at place goal rest) where
  pub run_step : (xs more after : List ℕ) (next : ℕ) → rest ≡ xs ++ more → Puts now after place next xs → Run b after at next goal more
  run_step xs more after next e p = record {
    come = ap₂ (λ (l : List ℕ) (k : ℕ). sets l k more) p.written p.place ∙ sets-append xs more now place ∙ ap (sets now place) (sym e) ∙ g.come;
    stop = let a = p.place in let b = g.stop in let c = ap length e ∙ length-append xs more in omega arith;
    same = puts-length p ∙ g.same;
  }

  pub run_room : (xs more : List ℕ) → rest ≡ xs ++ more → at + length goal ≤ length b → place + length xs ≤ length now
  run_room xs more e h = let a = g.stop in let b = g.same in let c = ap length e ∙ length-append xs more in omega arith

  pub run_end : rest ≡ [] → Puts b now at place goal
  run_end e = record {
    place = let a = g.stop in let l = ap length e in omega arith;
    written = sym (ap (sets now place) e) ∙ g.come;
  }

-- ---- transitions, written

module _ (ws queue : List ℕ) (from to : ℕ) where
  edges-bytes : (c : ℕ) → c < to → write_numbers (edges_in ws queue c (to - c)) ≡ (write_number (letter_of ws (get_or queue c 0)) ++ write_number c) ++ write_numbers (edges_in ws queue (c + 1) (to - (c + 1)))
  edges-bytes c h = ap write_numbers (edges-cons ws queue c to h) ∙ sym (append_assoc (write_number (letter_of ws (get_or queue c 0))) (write_number c) (write_numbers (edges_in ws queue (c + 1) (to - (c + 1)))))

  pub record EdgesPut (before : List ℕ) (at : ℕ) (now : List ℕ) (place c : ℕ) : Type 0 where
    pub low : from ≤ c
    pub high : c ≤ to
    pub run : Run before now at place (write_numbers (edges_in ws queue from (to - from))) (write_numbers (edges_in ws queue c (to - c)))

  module _ (before : List ℕ) (at : ℕ) where
    pub edges-put-start : from ≤ to → EdgesPut before at before at from
    edges-put-start h = record { low = omega arith; high = h; run = run-start before at (write_numbers (edges_in ws queue from (to - from))) }

    module _ (now : List ℕ) (place c : ℕ) (g : EdgesPut before at now place c) where
      pub edges-put-end : to ≤ c → Puts before now at place (write_numbers (edges_in ws queue from (to - from)))
      edges-put-end h = run_end before now at place (write_numbers (edges_in ws queue from (to - from))) (write_numbers (edges_in ws queue c (to - c))) g.run (ap write_numbers (edges_none ws queue c to h))

      module _ (h : c < to) (x : ℕ) (e : x ≡ letter_of ws (get_or queue c 0)) where
        split : write_numbers (edges_in ws queue c (to - c)) ≡ (write_number x ++ write_number c) ++ write_numbers (edges_in ws queue (c + 1) (to - (c + 1)))
        split = edges-bytes c h ∙ ap (λ (y : ℕ). (write_number y ++ write_number c) ++ write_numbers (edges_in ws queue (c + 1) (to - (c + 1)))) (sym e)

        pub edges-put-room : at + length (write_numbers (edges_in ws queue from (to - from))) ≤ length before → place + length (write_number x ++ write_number c) ≤ length now
        edges-put-room r = run_room before now at place (write_numbers (edges_in ws queue from (to - from))) (write_numbers (edges_in ws queue c (to - c))) g.run (write_number x ++ write_number c) (write_numbers (edges_in ws queue (c + 1) (to - (c + 1)))) split r

        pub edges-put-turn : (after : List ℕ) (next : ℕ) → Puts now after place next (write_number x ++ write_number c) → EdgesPut before at after next (c + 1)
        edges-put-turn after next p =
            let l = g.low in
            record {
              low = omega arith;
              high = omega arith;
              run = run_step before now at place (write_numbers (edges_in ws queue from (to - from))) (write_numbers (edges_in ws queue c (to - c))) g.run (write_number x ++ write_number c) (write_numbers (edges_in ws queue (c + 1) (to - (c + 1)))) after next split p;
            }

-- ---- states, written

module _ (ws : List ℕ) (n m : ℕ) (queue kids : List ℕ) where
  pub record StatesPut (before : List ℕ) (at : ℕ) (now : List ℕ) (place next s : ℕ) : Type 0 where
    pub standing : Standing ws n m queue kids next s
    pub run : Run before now at place (write_numbers (goal ws n m queue kids)) (write_numbers (rest ws n m queue kids next s))

  -- Between a state's two numbers and its transitions.
  pub record HeadPut (before : List ℕ) (at : ℕ) (now : List ℕ) (place next s end : ℕ) : Type 0 where
    pub run : Run before now at place (write_numbers (goal ws n m queue kids)) (write_numbers (edges_in ws queue next (end - next)) ++ write_numbers (rest ws n m queue kids end (s + 1)))

  module _ (before : List ℕ) (at : ℕ) where
    pub states-put-start : States ws n m queue kids → StatesPut before at before at 1 0
    states-put-start w = record {
      standing = standing-start ws n m queue kids w;
      run = rw (states-all ws n m queue kids) (run-start before at (write_numbers (goal ws n m queue kids)));
    }

    module _ (now : List ℕ) (place next s : ℕ) (g : StatesPut before at now place next s) where
      pub states-put-end : m ≤ s → Puts before now at place (write_numbers (goal ws n m queue kids))
      states-put-end h = run_end before now at place (write_numbers (goal ws n m queue kids)) (write_numbers (rest ws n m queue kids next s)) g.run (ap write_numbers (states-none ws n m queue kids next s h))

      module _ (h : s < m) (end : ℕ) (q : end ≡ next + get_or kids s 0) where
        state-split : (x : ℕ) → x ≡ accept_of ws n (get_or queue s 0) → write_numbers (rest ws n m queue kids next s) ≡ (write_number x ++ write_number (get_or kids s 0)) ++ (write_numbers (edges_in ws queue next (end - next)) ++ write_numbers (rest ws n m queue kids end (s + 1)))
        state-split x e =
            let k : get_or kids s 0 ≡ end - next = omega arith in
            states-bytes ws n m queue kids next s h
            ∙ ap₂ (λ (y i : ℕ). (write_number y ++ write_number (get_or kids s 0)) ++ (write_numbers (edges_in ws queue next i) ++ write_numbers (rest ws n m queue kids (next + get_or kids s 0) (s + 1)))) (sym e) k
            ∙ ap (λ (i : ℕ). (write_number x ++ write_number (get_or kids s 0)) ++ (write_numbers (edges_in ws queue next (end - next)) ++ write_numbers (rest ws n m queue kids i (s + 1)))) (sym q)

        module _ (x : ℕ) (e : x ≡ accept_of ws n (get_or queue s 0)) where
          pub head-room : at + length (write_numbers (goal ws n m queue kids)) ≤ length before → place + length (write_number x ++ write_number (get_or kids s 0)) ≤ length now
          head-room r = run_room before now at place (write_numbers (goal ws n m queue kids)) (write_numbers (rest ws n m queue kids next s)) g.run (write_number x ++ write_number (get_or kids s 0)) (write_numbers (edges_in ws queue next (end - next)) ++ write_numbers (rest ws n m queue kids end (s + 1))) (state-split x e) r

          pub head-put : (after : List ℕ) (to : ℕ) → Puts now after place to (write_number x ++ write_number (get_or kids s 0)) → HeadPut before at after to next s end
          head-put after to p = record { run = run_step before now at place (write_numbers (goal ws n m queue kids)) (write_numbers (rest ws n m queue kids next s)) g.run (write_number x ++ write_number (get_or kids s 0)) (write_numbers (edges_in ws queue next (end - next)) ++ write_numbers (rest ws n m queue kids end (s + 1))) after to (state-split x e) p }

    module _ (now : List ℕ) (place next s end : ℕ) (g : HeadPut before at now place next s end) where
      pub tail-room : at + length (write_numbers (goal ws n m queue kids)) ≤ length before → place + length (write_numbers (edges_in ws queue next (end - next))) ≤ length now
      tail-room r = run_room before now at place (write_numbers (goal ws n m queue kids)) (write_numbers (edges_in ws queue next (end - next)) ++ write_numbers (rest ws n m queue kids end (s + 1))) g.run (write_numbers (edges_in ws queue next (end - next))) (write_numbers (rest ws n m queue kids end (s + 1))) refl r

      pub tail-put : Standing ws n m queue kids next s → s < m → end ≡ next + get_or kids s 0 → (after : List ℕ) (to : ℕ) → Puts now after place to (write_numbers (edges_in ws queue next (end - next))) → StatesPut before at after to end (s + 1)
      tail-put st h q after to p = record {
        standing = standing-turn ws n m queue kids next s end st h q;
        run = run_step before now at place (write_numbers (goal ws n m queue kids)) (write_numbers (edges_in ws queue next (end - next)) ++ write_numbers (rest ws n m queue kids end (s + 1))) g.run (write_numbers (edges_in ws queue next (end - next))) (write_numbers (rest ws n m queue kids end (s + 1))) after to refl p;
      }
