-- `first::round::add_productions` meets its contract. The loop's invariant is `Adding`. Assumes nothing.
use mathlib.Core.Path.{◌≡◌, ap}
use lib.ListN.{length}
use Rattle.blocks.proofs.Fronts.{front_length}
use Rattle.cfg.specs.Productions.{production_in, productions_in}
use Rattle.cfg.proofs.Tests.{sound-wider}
use Rattle.std.specs.Prelude.{Err}
use borrow.Author.Rules.{rules}
use Rattle.first.proofs.Rounds.{adding-start, adding-ready, adding-within, adding-end, adding-over, adding-more}
use Rattle.first.proofs.round.add_productions.Goals as goal
use Rattle.first.proofs.round.add_productions.Goals.{At-loop-q}

-- as long as at entry
result-length : (c : At-loop-q) → length c.loop-q.res ≡ length c.args.res.now
result-length c = front_length c.loop-q.invariant.in-result c.requires.0.0.result-store

scratch-length : (c : At-loop-q) → length c.loop-q.scratch ≡ length c.args.scratch.now
scratch-length c = front_length c.loop-q.invariant.in-scratch c.requires.0.0.scratch-store

pub invariant_of-q-items : goal.invariant_of-q-items
invariant_of-q-items c = let a = c.args in record { sound = sound-wider a.u.n 128 c.requires.1.few a.u.p a.words.now c.requires.1.sound }

pub loop-q-init : goal.loop-q-init
loop-q-init c = adding-start c.args.at c.args.due.now _ (ap productions_in c.into_iter-q-iterator.ensures.into_iter_gives) c.requires.0.0 c.requires.1

pub add_due-requires : goal.add_due-requires
add_due-requires c =
    let q = adding-within c.loop-q.invariant (production_in c.in-Some.q) _ c.in-Some.ensures.steps in
    ((adding-ready c.loop-q.invariant c.requires.0.0, c.requires.0.1), (rw c.from-left.ensures q.0, q.1))

pub returns-in_err-add_due : goal.returns-in_err-add_due
returns-in_err-add_due c =
    let e : c.from_residual.result ≡ Err c.in_err-add_due.field-0.0 = search rules in
    rw e (adding-over c.loop-q.invariant (production_in c.in-Some.q) _ c.in-Some.ensures.steps c.from-left.result c.from-left.ensures c.in_err-add_due.ensures)

pub loop-q-preserved : goal.loop-q-preserved
loop-q-preserved c =
    adding-more c.loop-q.invariant (production_in c.in-Some.q) _ c.in-Some.ensures.steps c.from-left.result c.from-left.ensures c.in_ok-add_due.ensures

pub shape_of-res : goal.shape_of-res
shape_of-res c = result-length (goal.at.shape_of-res c).At-loop-q

pub shape_of-scratch : goal.shape_of-scratch
shape_of-scratch c = scratch-length (goal.at.shape_of-scratch c).At-loop-q

pub returns : goal.returns
returns c = adding-end c.loop-q.invariant c.in-None.ensures.steps.0
