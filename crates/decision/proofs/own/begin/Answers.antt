-- `own::begin` meets its contract. Assumes nothing.
use mathlib.Core.Path.{refl, sym, ap, ◌∙◌}
use Prim.Native.Nat.{ℕ}
use mathlib.Core.List.{List}
use lib.ListN.{get_or}
use Rattle.decision.proofs.Padded.{zeros-at}
use Rattle.decision.proofs.Numbers.{refusals-set, ks-same}
use Rattle.decision.proofs.Sides.{begins-start, begins-more, begins-end}
use Rattle.decision.proofs.own.begin.Goals as goal

pub loop-a-init : goal.loop-a-init
loop-a-init c = record { begins = begins-start _ _ _; ks = refl }

pub loop-a-preserved : goal.loop-a-preserved
loop-a-preserved c =
    let w = c.loop-a.invariant in
    let x = c.begin_one.result in
    record {
      begins = rw (refusals-set c.loop-a.answers c.loop-a.a x) (begins-more w.begins c.loop-a-test.true c.requires.1 c.begin_one.ensures.begun);
      ks = ks-same c.loop-a.answers c.loop-a.a x (c.begin_one.ensures.k ∙ sym (ap (λ (l : List ℕ). get_or l c.loop-a.a 0) w.ks ∙ zeros-at 128 c.loop-a.a)) ∙ w.ks;
    }

pub returns : goal.returns
returns c = let w = c.loop-a.invariant in record { begun = begins-end w.begins c.loop-a-test.false; ks = w.ks }
