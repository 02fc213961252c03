-- `k_tuples::test::is_member` meets its contract. Assumes nothing.
use borrow.Author.Tests.{ne_eqb, le-leb, lt-leb}
use mathlib.Core.Path.{◌≡◌, sym, ◌∙◌}
use mathlib.Core.Bool.{◌&&◌}
use lib.Dec.{leb}
use Rattle.k_tuple.specs.Packed.{reads}
use Rattle.k_tuples.specs.Held.{is_member}
use Rattle.k_tuples.proofs.Testing.{member-bad, member-width, member-by}
use Rattle.k_tuples.proofs.test.is_member.Goals as goal
use Rattle.k_tuples.proofs.test.is_member.Goals.{After-count-l, then-not-is_well_formed-via-then-not-is_well_formed, then-not-is_well_formed-via-else-not-is_well_formed+then-width-w}

pub returns-then-not-is_well_formed : goal.returns-then-not-is_well_formed
returns-then-not-is_well_formed c =
    let a = c.args in
    elim c.then-not-is_well_formed.branch [
      | then-not-is_well_formed-via-then-not-is_well_formed w ↦ sym (member-bad a.k a.w a.t (sym c.is_well_formed.ensures ∙ w.if-not-is_well_formed.true))
      | then-not-is_well_formed-via-else-not-is_well_formed+then-width-w w ↦
          sym (member-width a.k a.w a.t (sym c.is_well_formed.ensures ∙ w.if-not-is_well_formed.false) w.width.result w.width.ensures
          ∙ rw (ne_eqb w.width.result a.w w.if-width-w.true))
    ]

-- where the width is w
counted : (c : After-count-l) →
    let a = c.args in
    is_member a.k a.w (reads a.t) ≡ (leb 1 c.count-l.result && leb c.count-l.result a.k)
counted c =
    let a = c.args in
    member-by a.k a.w a.t (sym c.is_well_formed.ensures ∙ c.if-not-is_well_formed.false) c.width.result c.count-l.result
    c.width.ensures c.if-width-w.false c.count-l.ensures

pub returns-then-l-ge1 : goal.returns-then-l-ge1
returns-then-l-ge1 c = sym (counted (goal.at.returns-then-l-ge1 c).After-count-l ∙ rw (le-leb 1 c.count-l.result c.if-l-ge1.true))

pub returns-else-l-ge1 : goal.returns-else-l-ge1
returns-else-l-ge1 c = sym (counted (goal.at.returns-else-l-ge1 c).After-count-l ∙ rw (lt-leb 1 c.count-l.result c.if-l-ge1.false))
