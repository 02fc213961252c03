-- `joined::marks_of` meets its contract. Assumes nothing.
use Rattle.std.specs.Prelude.{Err}
use Rattle.refusals.specs.declared.Refusal.TheVariants.{NoneServes}
use Rattle.decision.proofs.Numbers.{refusals-set}
use Rattle.decision.proofs.Onward.{marks-start, marks-skip, marks-set, marks-end}
use Rattle.decision.proofs.joined.marks_of.Goals.{then-ks-a, else-ks-a}
use Rattle.decision.proofs.joined.marks_of.Goals as goal

pub loop-a-init : goal.loop-a-init
loop-a-init c = search marks-start

pub loop-a-preserved : goal.loop-a-preserved
loop-a-preserved c =
    let w = c.loop-a.invariant in
    elim c.if-ks-a.branch [
      | then-ks-a b ↦ rw (b.marks-is, refusals-set c.loop-a.marks c.loop-a.a (Err NoneServes)) (marks-set w c.loop-a-test.true c.requires b.if-ks-a.true)
      | else-ks-a b ↦ rw b.marks-is (marks-skip w c.loop-a-test.true b.if-ks-a.false)
    ]

pub returns : goal.returns
returns c = search marks-end
