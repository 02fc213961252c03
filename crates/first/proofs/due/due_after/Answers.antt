-- `first::due::due_after` meets its contract. Assumes nothing.
use mathlib.Core.Path.{ap}
use Rattle.cfg.specs.Marks.{no_marks}
use Rattle.cfg.specs.Productions.{productions_in}
use Rattle.cfg.proofs.Tests.{sound-wider}
use Rattle.first.specs.Due.{due_from}
use Rattle.first.proofs.Sweeping.{sweep-end, sweep-mark, sweep-pass}
use Rattle.first.proofs.due.due_after.Goals as goal

pub invariant_of-q-items : goal.invariant_of-q-items
invariant_of-q-items c = let a = c.args in record { sound = sound-wider a.u.n 128 c.requires.few a.u.p a.words.now c.requires.sound }

pub loop-q-init : goal.loop-q-init
loop-q-init c = ap (λ ps. due_from c.args.same.now (productions_in ps) no_marks) c.into_iter-q-iterator.ensures.into_iter_gives

pub loop-q-preserved-then-not-all_marked : goal.loop-q-preserved-then-not-all_marked
loop-q-preserved-then-not-all_marked c = sweep-mark _ _ _ _ c.loop-q.invariant _ _ _ c.in-Some.ensures.steps _ c.all_marked.ensures c.if-not-all_marked.true _ c.from.ensures

pub loop-q-preserved : goal.loop-q-preserved
loop-q-preserved c = sweep-pass _ _ _ _ c.loop-q.invariant _ _ _ c.in-Some.ensures.steps _ c.all_marked.ensures c.if-not-all_marked.false

pub returns : goal.returns
returns c = sweep-end _ _ _ _ c.loop-q.invariant c.in-None.ensures.steps.0
