-- `joins::join_all` meets its contract. Assumes nothing.
use mathlib.Core.Path.{refl, ◌∙◌, sym}
use Rattle.decision.proofs.Numbers.{refusals-length}
use Rattle.decision.proofs.Joining.{joins-start, joins-more, joins-end, joins-length, joins_long}
use Rattle.decision.proofs.joins.join_all.Goals as goal

pub loop-i-init : goal.loop-i-init
loop-i-init c = record { joins = joins-start _ _ _ _ _ _ c.requires.0.0; ks = refl }

pub join_one-requires : goal.join_one-requires
join_one-requires c =
    let w = c.loop-i.invariant.joins in
    ((w.so_far.ready, c.requires.0.1), (c.loop-i-test.true, sym (refusals-length _) ∙ joins_long _ _ _ c.requires.0.1 w (refusals-length _ ∙ c.requires.1)))

pub loop-i-preserved : goal.loop-i-preserved
loop-i-preserved c = record {
  joins = joins-more _ _ _ c.requires.0.1 c.loop-i.invariant.joins c.loop-i-test.true (refusals-length _ ∙ c.requires.1) c.join_one.ensures.joined c.join_one.auto.work;
  ks = c.join_one.ensures.ks ∙ c.loop-i.invariant.ks;
}

pub shape_of-res : goal.shape_of-res
shape_of-res c = joins-length _ _ _ c.requires.0.1 c.loop-i.invariant.joins c.requires.0.0

pub shape_of-work : goal.shape_of-work
shape_of-work c = c.loop-i.invariant.joins.work-long

pub returns : goal.returns
returns c = record { joined = joins-end _ _ _ c.requires.0.1 c.loop-i.invariant.joins c.loop-i-test.false; ks = c.loop-i.invariant.ks }
