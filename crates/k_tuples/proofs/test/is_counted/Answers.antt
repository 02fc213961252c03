-- `k_tuples::test::is_counted` meets its contract. Assumes nothing.
use mathlib.Core.Path.{◌≡◌, sym, ap, ◌∙◌}
use mathlib.Core.Bool.{◌&&◌}
use Prim.Native.Nat.{ℕ, ◌+◌, ◌-◌, ◌*◌}
use native.Mathlib.Omega.{arith}
use lib.ListN.{length, drop, length-drop}
use lib.Seq.{take_all}
use Rattle.k_tuples.specs.Members.{rising}
use Rattle.k_tuples.specs.Words.{count_in, decode, all_zero}
use Rattle.k_tuples.specs.Held.{holds_counted, all_members, first_width}
use Rattle.k_tuples.proofs.Testing.{holds-short, holds_fits, failed-count, counted-tells}
use Rattle.k_tuples.proofs.test.is_counted.Goals as goal
use Rattle.k_tuples.proofs.test.is_counted.Goals.{Else-not-all_members, Else-words-n}

-- where the count fits
fits : (c : Else-words-n) →
    let a = c.args in
    let ws = a.words.now in
    holds_counted a.k ws ≡ (all_members a.k (first_width (decode ws)) (decode ws) && (rising (decode ws) && all_zero (drop (2 * count_in ws + 1) ws)))
fits c = let a = c.args in holds_fits a.k a.words.now (omega arith)

-- and every member is one
past : (c : Else-not-all_members) →
    let a = c.args in
    let ws = a.words.now in
    holds_counted a.k ws ≡ (rising (decode ws) && all_zero (drop (2 * count_in ws + 1) ws))
past c = fits (goal.at.Else-not-all_members c).Else-words-n ∙ rw (← c.set_width-w.ensures, ← c.all_members.ensures, c.if-not-all_members.false)

pub returns-then-words-eq0 : goal.returns-then-words-eq0
returns-then-words-eq0 c =
    let a = c.args in
    failed-count (holds-short a.k a.words.now (omega arith))

pub returns-then-words-n : goal.returns-then-words-n
returns-then-words-n c =
    let a = c.args in
    failed-count (holds-short a.k a.words.now (omega arith))

pub returns-then-not-all_members : goal.returns-then-not-all_members
returns-then-not-all_members c =
    failed-count (fits (goal.at.returns-then-not-all_members c).Else-words-n ∙ rw (← c.set_width-w.ensures, ← c.all_members.ensures, c.if-not-all_members.true))

pub returns-then-not-rises : goal.returns-then-not-rises
returns-then-not-rises c =
    failed-count (past (goal.at.returns-then-not-rises c).Else-not-all_members ∙ rw (← c.rises.ensures, c.if-not-rises.true))

pub returns : goal.returns
returns c =
    let ws = c.args.words.now in
    let n = c.counted-n.result in
    let rest : drop (2 * n + 1) ws ≡ drop (2 * count_in ws + 1) ws = ap (λ (k : ℕ). drop (2 * k + 1) ws) c.counted-n.ensures in
    let zero = c.zeros.ensures ∙ ap all_zero (take_all (length ws - (2 * n + 1)) (drop (2 * n + 1) ws) (simp length-drop (omega arith)) ∙ rest) in
    counted-tells (λ i. omega (arith, c.shared_slice_known-1.given i))
    (zero ∙ sym (past (goal.at.returns c).Else-not-all_members ∙ rw (← c.rises.ensures, c.if-not-rises.false)))
