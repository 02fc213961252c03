-- `k_tuple::well::join` meets its contract. Assumes nothing.
use native.Mathlib.Omega.{arith}
use native.Mathlib.Nat.{lt_of_le_of_lt}
use mathlib.Core.Path.{sym, ◌∙◌}
use lib.Dec.{lit<}
use mir.Facts.{Fits-below}
use Rattle.k_tuple.specs.Wide.{value}
use Rattle.k_tuple.proofs.Append.{stays-nil, stays-complete, Parts, bits_left, room-left, grows}
use Rattle.k_tuple.proofs.well.join.Goals as goal
use Rattle.k_tuple.proofs.well.join.Goals.{After-min-n, then-q-eq0-via-then-q-eq0, then-q-eq0-via-else-q-eq0+then-is_complete}

pub returns-then-q-eq0 : goal.returns-then-q-eq0
returns-then-q-eq0 c =
    let q = c.plain-q in
    elim c.then-q-eq0.branch [
      | then-q-eq0-via-then-q-eq0 w ↦ stays-nil c.args.x c.args.y c.requires.0 c.args.k (omega arith) q.result.count q.ensures.0 w.if-q-eq0.true
      | then-q-eq0-via-else-q-eq0+then-is_complete w ↦ stays-complete c.args.x c.args.y c.requires.0 c.args.k (omega arith) (sym w.is_complete.ensures ∙ w.if-is_complete.true)
    ]

parts : (c : After-min-n) → Parts c.args.x c.args.y c.args.k c.width-w.result
    c.plain-p.result.count (value c.plain-p.result.slots.lo c.plain-p.result.slots.hi)
    c.plain-q.result.count
    (value c.plain-q.result.slots.lo c.plain-q.result.slots.hi)
    c.min-n.result
parts c =
    let q = c.plain-q in
    record {
      unended = sym c.is_complete.ensures ∙ c.if-is_complete.false;
      width = c.width-w.ensures;
      first_count = c.plain-p.ensures.0;
      first-slots = c.plain-p.ensures.1;
      second-count = q.ensures.0;
      second-slots = q.ensures.1;
      taken = c.min-n.ensures;
    }

pub overflow_mul-n : goal.overflow_mul-n
overflow_mul-n c =
    Fits-below {n = 120} tt (bits_left c.args.x c.args.y c.requires.0 c.args.k (parts (goal.at.overflow_mul-n c).After-min-n) c.requires.1)

pub low_part-requires : goal.low_part-requires
low_part-requires c =
    lt_of_le_of_lt (bits_left c.args.x c.args.y c.requires.0 c.args.k (parts (goal.at.low_part-requires c).After-min-n) c.requires.1) (lit< tt)

pub appended-requires : goal.appended-requires
appended-requires c =
    room-left c.args.x c.args.y c.requires.0 c.args.k (parts (goal.at.appended-requires c).After-min-n) c.requires.1 (value c.low_part.result.lo c.low_part.result.hi) c.low_part.ensures

pub returns : goal.returns
returns c =
    c.appended.ensures
    ∙ grows c.args.x c.args.y c.requires.0 c.args.k (parts (goal.at.returns c).After-min-n) c.if-q-eq0.false
    (value c.low_part.result.lo c.low_part.result.hi) c.low_part.ensures
