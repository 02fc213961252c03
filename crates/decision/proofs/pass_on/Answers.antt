-- `pass_on` meets its contract. Assumes nothing.
use mathlib.Core.Path.{refl, ◌∙◌}
use Rattle.refusals.specs.declared.Refusal.TheVariants.{SetTooLarge}
use Rattle.std.specs.Prelude.{Err}
use Rattle.decision.proofs.Numbers.{refusals-length, refusals-set, open-at, ks-refused}
use Rattle.decision.proofs.Marks.{goes-start, goes-skips, goes-passes, goes_end}
use Rattle.decision.proofs.pass_on.Goals.{then-is_open, else-is_open}
use Rattle.decision.proofs.pass_on.Goals as goal

pub loop-a-init : goal.loop-a-init
loop-a-init c = record { passes = goes-start _ _ (refusals-length _ ∙ c.requires.1); ks = refl }

pub loop-a-preserved : goal.loop-a-preserved
loop-a-preserved c =
    let w = c.loop-a.invariant in
    let xs = c.loop-a.answers in
    let s = open-at xs c.loop-a.a c.is_open.ensures in
    elim c.if-is_open.branch [
      | then-is_open b ↦
          let o = s.yes b.if-is_open.true in
          rw b.answers-is (record {
            passes = rw (refusals-set xs c.loop-a.a (Err SetTooLarge)) (goes-passes w.passes c.loop-a-test.true c.requires.0 o);
            ks = ks-refused xs c.loop-a.a SetTooLarge o ∙ w.ks;
          })
      | else-is_open b ↦ rw b.answers-is (record { passes = goes-skips w.passes c.loop-a-test.true (s.no b.if-is_open.false); ks = w.ks })
    ]

pub returns : goal.returns
returns c = let w = c.loop-a.invariant in record { passed = goes_end w.passes c.loop-a-test.false; ks = w.ks }
