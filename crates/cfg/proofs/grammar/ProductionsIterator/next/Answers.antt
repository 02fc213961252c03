-- The iterator over productions gives the first of those that are left. Assumes nothing.
use mathlib.Core.Path.{ap}
use lib.ListN.{length}
use native.Mathlib.Omega.{arith}
use Rattle.cfg.proofs.Sides.{first-below, first-left, rest-sound, first-of}
use Rattle.cfg.proofs.grammar.ProductionsIterator.next.Goals as goal

pub invariant_of-first : goal.invariant_of-first
invariant_of-first c =
    let s = c.args.self.now in
    record {
      left_below = first-left s.p s.words.now c.if-self-eq0.false _ c.from-end.ensures s.sound;
      right_below = first-below s.p s.words.now c.if-self-eq0.false _ c.from-end.ensures s.sound;
    }

pub invariant_of-self : goal.invariant_of-self
invariant_of-self c =
    let s = c.args.self.now in
    record { sound = rest-sound s.p s.words.now c.if-self-eq0.false _ c.from-end.ensures s.sound }

pub returns-clause-steps : goal.returns-clause-steps
returns-clause-steps c =
    let s = c.args.self.now in
    first-of s.p s.words.now c.if-self-eq0.false _ c.from-end.ensures

pub returns-clause-goes : goal.returns-clause-goes
returns-clause-goes c =
    let s = c.args.self.now in
    let fewer = ap length (first-of s.p s.words.now c.if-self-eq0.false _ c.from-end.ensures) in
    record { on = λ _. (tt, tt, omega (arith, fewer)); keeps = tt; rests = λ _. tt }
