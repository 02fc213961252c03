-- `strings::list_own` meets its contract: the links lead from production to production. Assumes nothing.
use native.Mathlib.Omega.{arith}
use borrow.Author.Rules.{rules}
use Rattle.std.proofs.Common.{◌≡◌, Err}
use Rattle.automaton.proofs.Listing.{gathers-start, gathers-asks, gathers-room, gathers-over, gathers-more, gathers-end}
use Rattle.automaton.proofs.strings.list_own.Goals as goal

pub loop-i-init : goal.loop-i-init
loop-i-init c = let s = c.requires in gathers-start s.0.0 s.0.1 s.1.0.0 s.1.0.1 _ s.1.1

pub list_set-requires : goal.list_set-requires
list_set-requires c = let s = c.requires in let l = c.loop-i.invariant in let t = c.loop-i-test.true in (gathers-asks s.0.0 s.0.1 s.1.0.0 s.1.0.1 l t, (gathers-room s.0.0 s.0.1 s.1.0.0 s.1.0.1 l t, omega (arith, s.0.0.fit.few, s.0.0.fit.linked.few, t)))

pub returns-in_err-m : goal.returns-in_err-m
returns-in_err-m c = let e : c.from_residual.result ≡ Err c.in_err-m.field-0.0 = search rules in rw e (gathers-over c.requires.0.0 c.requires.0.1 c.requires.1.0.0 c.requires.1.0.1 c.loop-i.invariant c.loop-i-test.true c.list_set.ensures _ c.in_err-m.was)

pub loop-i-preserved : goal.loop-i-preserved
loop-i-preserved c = gathers-more c.requires.0.0 c.requires.0.1 c.requires.1.0.0 c.requires.1.0.1 c.loop-i.invariant c.loop-i-test.true c.list_set.ensures _ c.in_ok-m.was

pub returns : goal.returns
returns c = search gathers-end
