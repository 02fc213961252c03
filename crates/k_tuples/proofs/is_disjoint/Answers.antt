-- `k_tuples::is_disjoint` meets its contract. Assumes nothing.
use mathlib.Core.Path.{◌≡◌, ap, ◌∙◌, subst}
use mathlib.Core.Bool.{Bool, ◌||◌, or-false}
use Rattle.k_tuple.specs.Paper.{gives, flag}
use Rattle.std.specs.Prelude.{Err}
use borrow.Author.Rules.{rules}
use Rattle.k_tuples.specs.Answers.{test_on_paper, no_words, Paired, Checked, disjoint_answer}
use Rattle.k_tuples.proofs.Held.{holds-set, disjoint-held}
use Rattle.k_tuples.proofs.Answers.{stops, passes}
use Rattle.k_tuples.proofs.is_disjoint.Goals as goal
use Rattle.k_tuples.proofs.is_disjoint.Goals.{After-check, In_ok-check}

-- there is no output, which is as one of one word
tests : (c : After-check) → let a = c.args in Checked a.k (no_words a.a.now || no_words a.b.now) a.a.now a.b.now c.check.result
tests c = let a = c.args in subst (λ (none : Bool). Checked a.k none a.a.now a.b.now c.check.result) (or-false (no_words a.a.now || no_words a.b.now)) c.check.ensures

-- where nothing is refused
paired : (c : In_ok-check) → let a = c.args in Paired a.k (no_words a.a.now || no_words a.b.now) a.a.now a.b.now
paired c = (tests (goal.at.In_ok-check c).After-check).paired c.in_ok-check.was

pub returns-in_err-check : goal.returns-in_err-check
unfolding disjoint_answer
returns-in_err-check c =
    let passed : c.from_residual.result ≡ Err c.in_err-check.field-0.0 = search rules in
    ap test_on_paper passed ∙ stops (tests (goal.at.returns-in_err-check c).After-check) c.in_err-check.was _

pub disjoint-requires : goal.disjoint-requires
disjoint-requires c = let p = paired (goal.at.disjoint-requires c).In_ok-check in (holds-set p.first, holds-set p.second)

pub returns : goal.returns
unfolding disjoint_answer
returns c =
    let p = paired (goal.at.returns c).In_ok-check in
    passes (tests (goal.at.returns c).After-check) c.in_ok-check.was _ (ap (λ b. gives (flag b)) (disjoint-held p.first p.second c.disjoint.ensures))
