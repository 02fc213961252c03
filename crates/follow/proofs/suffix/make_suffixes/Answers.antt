-- `suffix::make_suffixes` meets its contract. The loop's invariant is `Suffixing`. Assumes nothing.
use mathlib.Core.Path.{◌≡◌}
use Rattle.std.specs.Prelude.{Err}
use borrow.Author.Rules.{rules}
use Rattle.follow.proofs.Way.{way-some, met-inside}
use Rattle.follow.proofs.Passing.{passing-ready, passing-free}
use Rattle.follow.proofs.Suffixing.{suffixing-start, suffixing-end, suffixing-over, suffixing-more}
use Rattle.follow.proofs.suffix.make_suffixes.Goals as goal

pub loop-i-init : goal.loop-i-init
loop-i-init c = rw c.start-w.ensures (suffixing-start _ _ _ _ _ c.requires.0 c.requires.1)

pub next-w-requires : goal.next-w-requires
next-w-requires c = (c.loop-i.invariant.way.goes, search way-some)

pub first_of_right_side-requires : goal.first_of_right_side-requires
first_of_right_side-requires c =
    let r = c.requires.0 in
    let h = c.loop-i.invariant in
    let m = c.next-w.ensures in
    ((passing-ready _ _ _ _ _ _ r h, passing-free _ _ _ _ _ _ r h m), (met-inside h.way m).rest)

pub returns-in_err-first_of_right_side : goal.returns-in_err-first_of_right_side
returns-in_err-first_of_right_side c =
    let e : c.from_residual.result ≡ Err c.in_err-first_of_right_side.field-0.0 = search rules in
    rw e (suffixing-over _ _ _ _ _ c.requires.0 c.loop-i.invariant c.next-w.ensures c.in_err-first_of_right_side.ensures)

pub loop-i-preserved : goal.loop-i-preserved
loop-i-preserved c = suffixing-more _ _ _ _ _ c.requires.0 c.loop-i.invariant c.next-w.ensures c.in_ok-first_of_right_side.ensures

pub returns : goal.returns
returns c = search suffixing-end
