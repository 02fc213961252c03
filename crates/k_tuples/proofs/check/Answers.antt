-- `k_tuples::check` meets its contract. Assumes nothing.
use mathlib.Core.Path.{◌≡◌, sym, ap₂, ◌∙◌}
use mathlib.Core.Bool.{Bool, true, false, ◌||◌}
use mathlib.Core.List.{List}
use Prim.Native.Nat.{ℕ}
use lib.Dec.{eqb}
use native.Mathlib.Omega.{arith}
use borrow.Author.Tests.{lt-ltb, eq-eqb, ne_eqb}
use Rattle.k_tuples.specs.Words.{decode}
use Rattle.k_tuples.specs.Held.{Holds, first_width, strings, holds_set, Tested}
use Rattle.k_tuples.specs.Answers.{suits, outside, no_words}
use Rattle.k_tuples.proofs.Held.{holds-count}
use Rattle.k_tuples.proofs.Answers.{inside, refused-1, refused-10, first-bad, second-bad, unsuited, suited}
use Rattle.k_tuples.proofs.check.Goals as goal
use Rattle.k_tuples.proofs.check.Goals.{After-suit, Else-n-eq0, Else-not-is_set-2, then-k-eq0-via-then-k-eq0, then-k-eq0-via-else-k-eq0+then-k-gt10, then-is_empty-via-then-is_empty, then-is_empty-via-else-is_empty+then-is_empty-2, then-is_empty-via-else-is_empty+else-is_empty-2+then-n-eq0, then-not-is_set-via-then-not-is_set, then-not-is_set-via-else-not-is_set+then-not-is_set-2}

-- a set, as the test tells
tested : {k : ℕ} {ws : List ℕ} {t : Bool} → Tested k ws t → t ≡ true → Holds k (first_width (decode ws)) (strings (decode ws)) ws × (holds_set k ws ≡ true)
tested t e = (t.holds e, sym t.answer ∙ e)

suited-by : (c : After-suit) → let a = c.args in c.suit.result ≡ suits (first_width (decode a.a.now)) (first_width (decode a.b.now))
suited-by c = c.suit.ensures ∙ ap₂ suits c.set_width.ensures c.set_width-2.ensures

-- past the tests of k and of the buffers
ready : (c : Else-n-eq0) → let a = c.args in (outside a.k ≡ false) × ((no_words a.a.now || no_words a.b.now || eqb a.n 0) ≡ false)
ready c =
    let a = c.args in
    (inside a.k c.if-k-eq0.false c.if-k-gt10.false, rw (← c.is_empty.ensures, c.if-is_empty.false, ← c.is_empty-else-is_empty.ensures, c.if-is_empty-2.false, ne_eqb a.n 0 c.if-n-eq0.false))

pub returns-then-k-eq0 : goal.returns-then-k-eq0
returns-then-k-eq0 c =
    let a = c.args in
    elim c.then-k-eq0.branch [
      | then-k-eq0-via-then-k-eq0 w ↦ refused-1 a.k _ a.a.now a.b.now (rw (eq-eqb a.k 0 w.if-k-eq0.true))
      | then-k-eq0-via-else-k-eq0+then-k-gt10 w ↦ refused-1 a.k _ a.a.now a.b.now (rw (ne_eqb a.k 0 w.if-k-eq0.false, lt-ltb 10 a.k w.if-k-gt10.true))
    ]

pub returns-then-is_empty : goal.returns-then-is_empty
returns-then-is_empty c =
    let a = c.args in
    let within = inside a.k c.if-k-eq0.false c.if-k-gt10.false in
    elim c.then-is_empty.branch [
      | then-is_empty-via-then-is_empty w ↦ refused-10 a.k _ a.a.now a.b.now within (rw (← c.is_empty.ensures, w.if-is_empty.true))
      | then-is_empty-via-else-is_empty+then-is_empty-2 w ↦
          refused-10 a.k _ a.a.now a.b.now within (rw (← c.is_empty.ensures, w.if-is_empty.false, ← w.is_empty-else-is_empty.ensures, w.if-is_empty-2.true))
      | then-is_empty-via-else-is_empty+else-is_empty-2+then-n-eq0 w ↦
          refused-10 a.k _ a.a.now a.b.now within
          (rw (← c.is_empty.ensures, w.if-is_empty.false, ← w.is_empty-else-is_empty.ensures, w.if-is_empty-2.false, eq-eqb a.n 0 w.if-n-eq0.true))
    ]

pub returns-then-not-is_set : goal.returns-then-not-is_set
returns-then-not-is_set c =
    let a = c.args in
    let r = ready (goal.at.returns-then-not-is_set c).Else-n-eq0 in
    elim c.then-not-is_set.branch [
      | then-not-is_set-via-then-not-is_set w ↦ first-bad a.k _ a.a.now a.b.now r.0 r.1 (sym c.is_set.ensures.answer ∙ w.if-not-is_set.true)
      | then-not-is_set-via-else-not-is_set+then-not-is_set-2 w ↦
          let f = tested c.is_set.ensures w.if-not-is_set.false in
          second-bad a.k _ a.a.now a.b.now r.0 r.1 f.0 f.1 (sym w.is_set-else-not-is_set.ensures.answer ∙ w.if-not-is_set-2.true)
    ]

pub set_width-requires : goal.set_width-requires
set_width-requires c =
    let h = (tested c.is_set.ensures c.if-not-is_set.false).0 in
    omega (arith, h.room, holds-count h)

pub set_width-requires-2 : goal.set_width-requires-2
set_width-requires-2 c =
    let h = (tested c.is_set-else-not-is_set.ensures c.if-not-is_set-2.false).0 in
    omega (arith, h.room, holds-count h)

pub returns-then-not-suit : goal.returns-then-not-suit
returns-then-not-suit c =
    let a = c.args in
    let f = tested c.is_set.ensures c.if-not-is_set.false in
    let g = tested c.is_set-else-not-is_set.ensures c.if-not-is_set-2.false in
    let r = ready (goal.at.returns-then-not-suit c).Else-n-eq0 in
    unsuited a.k _ a.a.now a.b.now r.0 r.1 f.0 f.1 g.0 g.1 (sym (suited-by (goal.at.returns-then-not-suit c).After-suit) ∙ c.if-not-suit.true)

pub returns : goal.returns
returns c =
    let a = c.args in
    let f = tested c.is_set.ensures c.if-not-is_set.false in
    let g = tested c.is_set-else-not-is_set.ensures c.if-not-is_set-2.false in
    let r = ready (goal.at.returns c).Else-n-eq0 in
    suited a.k _ a.a.now a.b.now r.0 r.1 f.0 f.1 g.0 g.1 (sym (suited-by (goal.at.returns c).After-suit) ∙ c.if-not-suit.false)
