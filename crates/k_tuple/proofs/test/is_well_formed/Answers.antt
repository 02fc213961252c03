-- `k_tuple::test::is_well_formed` meets its contract: one law of `Tested` for each answer. Assumes nothing.
use borrow.Author.Tests.{eq-eqb}
use Prim.Native.Nat.{ℕ, ◌*◌, ◌^◌, ◌<◌}
use mathlib.Core.Bool.{false}
use mathlib.Core.Path.{◌≡◌, refl, ◌∙◌}
use Rattle.k_tuple.specs.Wide.{value}
use Rattle.k_tuple.specs.Strings.{slots_field, is_good, checked}
use Rattle.k_tuple.specs.Packed.{number_of, reads}
use Rattle.k_tuple.specs.declared.Terminals.{Terminals}
use Rattle.k_tuple.proofs.Tested.{too-narrow, too_wide, too_long, too_much, one-slot, by_slots, some-past, none-past, good-at}
use Rattle.k_tuple.proofs.test.is_well_formed.Goals as goal
use Rattle.k_tuple.proofs.test.is_well_formed.Goals.{After-high_part-past, then-w-eq0-via-then-w-eq0, then-w-eq0-via-else-w-eq0+then-w-gt12, then-w-eq0-via-else-w-eq0+else-w-gt12+then-l-gt10, then-past-ne0-via-then-past-ne0, then-past-ne0-via-else-past-ne0+then-past-ne0-2}

pub returns-then-w-eq0 : goal.returns-then-w-eq0
returns-then-w-eq0 c =
    let w = c.width-w.result in
    let l = c.count-l.result in
    let n = slots_field (number_of c.args.t) in
    let none : false ≡ is_good (checked w l n) = elim c.then-w-eq0.branch [
      | then-w-eq0-via-then-w-eq0 b ↦ too-narrow w l n b.if-w-eq0.true
      | then-w-eq0-via-else-w-eq0+then-w-gt12 b ↦ too_wide w l n b.if-w-gt12.true
      | then-w-eq0-via-else-w-eq0+else-w-gt12+then-l-gt10 b ↦ too_long w l n b.if-l-gt10.true
    ] in
    none ∙ good-at c.args.t w l n c.width-w.ensures c.count-l.ensures refl

-- the fields, once they are read
module _ (c : After-high_part-past) where
  abbrev w : ℕ
  w = c.width-w.result

  abbrev l : ℕ
  l = c.count-l.result

  abbrev n : ℕ
  n = value c.slots-s.result.lo c.slots-s.result.hi

  abbrev t : Terminals
  t = c.args.t

  fields-are : is_good (checked w l n) ≡ is_good (reads t)
  fields-are =
      good-at t w l n
      c.width-w.ensures c.count-l.ensures c.slots-s.ensures

  over : ((c.high_part-past.result.lo ≡ 0) × (c.high_part-past.result.hi ≡ 0) → ⊥) → false ≡ is_good (reads t)
  over h = too_much w l n (some-past n (l * w) c.high_part-past.result.lo c.high_part-past.result.hi c.high_part-past.ensures h) ∙ fields-are

  within : c.high_part-past.result.lo ≡ 0 → c.high_part-past.result.hi ≡ 0 → n < 2 ^ (l * w)
  within p q = none-past n (l * w) c.high_part-past.result.lo c.high_part-past.result.hi c.high_part-past.ensures p q

pub returns-then-past-ne0 : goal.returns-then-past-ne0
returns-then-past-ne0 c =
    let read = (goal.at.returns-then-past-ne0 c).After-high_part-past in
    elim c.then-past-ne0.branch [
      | then-past-ne0-via-then-past-ne0 b ↦ over read (λ z. b.if-past-ne0.true z.0)
      | then-past-ne0-via-else-past-ne0+then-past-ne0-2 b ↦ over read (λ z. b.if-past-ne0-2.true z.1)
    ]

pub returns-then-l-eq1 : goal.returns-then-l-eq1
returns-then-l-eq1 c =
    eq-eqb c.count-l.result 1 c.if-l-eq1.true
    ∙ one-slot (w (goal.at.returns-then-l-eq1 c).After-high_part-past) (l (goal.at.returns-then-l-eq1 c).After-high_part-past) (n (goal.at.returns-then-l-eq1 c).After-high_part-past) c.if-w-eq0.false c.if-w-gt12.false (within (goal.at.returns-then-l-eq1 c).After-high_part-past c.if-past-ne0.false c.if-past-ne0-2.false) c.if-l-eq1.true
    ∙ fields-are (goal.at.returns-then-l-eq1 c).After-high_part-past

pub returns-else-l-eq1 : goal.returns-else-l-eq1
returns-else-l-eq1 c =
    c.all_allowed.ensures
    ∙ by_slots (w (goal.at.returns-else-l-eq1 c).After-high_part-past) (l (goal.at.returns-else-l-eq1 c).After-high_part-past) (n (goal.at.returns-else-l-eq1 c).After-high_part-past) c.if-w-eq0.false c.if-w-gt12.false (within (goal.at.returns-else-l-eq1 c).After-high_part-past c.if-past-ne0.false c.if-past-ne0-2.false) c.if-l-eq1.false c.if-l-gt10.false
    ∙ fields-are (goal.at.returns-else-l-eq1 c).After-high_part-past
