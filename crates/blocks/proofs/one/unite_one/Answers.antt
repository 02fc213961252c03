-- `blocks::one::unite_one` meets its contract. Assumes nothing.
use mathlib.Core.Path.{◌≡◌, refl}
use Rattle.std.specs.Prelude.{Err}
use native.Mathlib.Omega.{arith}
use Rattle.k_tuples.proofs.Held.{holds-set, united, can-finish, finished-became}
use Rattle.k_tuples.proofs.Words.{length-below}
use Rattle.blocks.proofs.Ones.{united-kept, united-set, apart_fits, united-apart, united-full}
use borrow.Author.Rules.{rules}
use Rattle.blocks.proofs.one.unite_one.Goals as goal

pub count-old-requires : goal.count-old-requires
count-old-requires c = holds-set c.requires.held

pub union_into-requires : goal.union_into-requires
union_into-requires c = let p = c.requires in (holds-set p.held, holds-set p.one)

pub returns-then-number-eq0 : goal.returns-then-number-eq0
returns-then-number-eq0 c =
    let n = c.number.ensures in
    let g = c.in_ok-g.ensures in
    record { step = λ w a x h o. united-kept h o n c.if-number-eq0.true g }

pub returns-in_err-g : goal.returns-in_err-g
returns-in_err-g c =
    let e : c.from_residual.result ≡ Err c.in_err-g.field-0.0 = search rules in
    record { step = λ w a x h o. rw e (united-full h o c.in_err-g.ensures refl) }

pub count-requires : goal.count-requires
count-requires c =
    let p = c.requires in
    united-set p.held p.one c.in_ok-g.ensures refl

pub count-requires-2 : goal.count-requires-2
count-requires-2 c = holds-set c.requires.one

pub overflow_add-old : goal.overflow_add-old
overflow_add-old c =
    omega (arith, c.count-old.ensures, c.count-2.ensures, length-below c.args.set.now, length-below c.args.xs.now)

pub add_number-requires : goal.add_number-requires
add_number-requires c =
    let p = c.requires in
    let g = c.in_ok-g.ensures in (
      united-set p.held p.one g refl,
      apart_fits p.held p.one g refl c.count.ensures c.count-old.ensures c.count-2.ensures c.if-count-old.true c.number-then-count-old.ensures,
    )

pub returns-then-count-old : goal.returns-then-count-old
returns-then-count-old c =
    let g = c.in_ok-g.ensures in
    record {
      step = λ w a x h o.
          united-apart h o g refl c.count.ensures c.count-old.ensures c.count-2.ensures c.if-count-old.true c.number-then-count-old.ensures c.add_number.ensures;
    }

pub finish-requires : goal.finish-requires
finish-requires c =
    let p = c.requires in
    can-finish (united p.held p.one c.in_ok-g.ensures)

pub returns : goal.returns
returns c =
    let f = c.finish.ensures in
    let g = c.in_ok-g.ensures in
    record { step = λ w a x h o. finished-became (united h o g) (omega (arith, h.room)) f.answer f.words }
