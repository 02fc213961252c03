-- `k_tuples::is_k_complete` meets its contract. Assumes nothing.
use mathlib.Core.Path.{◌≡◌, sym, ap, ◌∙◌}
use mathlib.Core.Bool.{true, false}
use Rattle.k_tuple.specs.Paper.{gives, flag}
use borrow.Author.Tests.{lt-ltb, eq-eqb, ne_eqb}
use lib.ListN.{length}
use Rattle.k_tuples.specs.Words.{decode}
use Rattle.k_tuples.specs.Held.{Holds, first_width, strings, holds_set}
use Rattle.k_tuples.specs.Answers.{outside, no_words, complete_answer}
use Rattle.k_tuples.proofs.Held.{holds-set, holds-decode, complete-held}
use Rattle.k_tuples.proofs.Answers.{set-bad, set-good, inside, length-of}
use native.Mathlib.Omega.{arith}
use Rattle.k_tuples.proofs.is_k_complete.Goals as goal
use Rattle.k_tuples.proofs.is_k_complete.Goals.{After-count, Else-is_empty, Else-not-is_set, then-k-eq0-via-then-k-eq0, then-k-eq0-via-else-k-eq0+then-k-gt10}

-- past the first tests
ready : (c : Else-is_empty) → let a = c.args in (outside a.k ≡ false) × (no_words a.a.now ≡ false)
ready c = let a = c.args in (inside a.k c.if-k-eq0.false c.if-k-gt10.false, sym c.is_empty.ensures ∙ c.if-is_empty.false)

held : (c : Else-not-is_set) → let a = c.args in let ws = a.a.now in Holds a.k (first_width (decode ws)) (strings (decode ws)) ws × (holds_set a.k ws ≡ true)
held c =
    let t = c.is_set.ensures in
    let e = c.if-not-is_set.false in
    (t.holds e, sym t.answer ∙ e)

pub returns-then-k-eq0 : goal.returns-then-k-eq0
unfolding complete_answer
returns-then-k-eq0 c =
    let a = c.args in
    elim c.then-k-eq0.branch [
      | then-k-eq0-via-then-k-eq0 w ↦ rw (eq-eqb a.k 0 w.if-k-eq0.true)
      | then-k-eq0-via-else-k-eq0+then-k-gt10 w ↦ rw (ne_eqb a.k 0 w.if-k-eq0.false, lt-ltb 10 a.k w.if-k-gt10.true)
    ]

pub returns-then-is_empty : goal.returns-then-is_empty
unfolding complete_answer
returns-then-is_empty c = let a = c.args in rw (inside a.k c.if-k-eq0.false c.if-k-gt10.false, sym c.is_empty.ensures ∙ c.if-is_empty.true)

pub returns-then-not-is_set : goal.returns-then-not-is_set
unfolding complete_answer
returns-then-not-is_set c =
    let r = ready (goal.at.returns-then-not-is_set c).Else-is_empty in
    rw (r.0, r.1, set-bad _ _ (sym c.is_set.ensures.answer ∙ c.if-not-is_set.true))

pub count-requires : goal.count-requires
count-requires c = holds-set (held (goal.at.count-requires c).Else-not-is_set).0

-- how many members there are
members : (c : After-count) → let a = c.args in c.count.result ≡ length (strings (decode a.a.now))
members c =
    let ws = c.args.a.now in
    c.count.ensures ∙ length-of (first_width (decode ws)) (strings (decode ws)) (holds-decode (held (goal.at.After-count c).Else-not-is_set).0)

pub returns-else-count-ne0 : goal.returns-else-count-ne0
unfolding complete_answer
returns-else-count-ne0 c =
    let r = ready (goal.at.returns-else-count-ne0 c).Else-is_empty in
    rw (r.0, r.1, set-good _ _ (held (goal.at.returns-else-count-ne0 c).Else-not-is_set).1, sym (members (goal.at.returns-else-count-ne0 c).After-count) ∙ c.if-count-ne0.false, c.if-count-ne0.false)

pub returns-then-count-ne0 : goal.returns-then-count-ne0
unfolding complete_answer
returns-then-count-ne0 c =
    let a = c.args in
    let h = held (goal.at.returns-then-count-ne0 c).Else-not-is_set in
    let r = ready (goal.at.returns-then-count-ne0 c).Else-is_empty in
    let some = c.if-count-ne0.true in
    let n = members (goal.at.returns-then-count-ne0 c).After-count in
    rw (r.0, r.1, set-good _ _ h.1, lt-ltb 0 (length (strings (decode a.a.now))) (omega arith))
    (ap (λ b. gives (flag b)) (complete-held h.0 c.number.ensures))
