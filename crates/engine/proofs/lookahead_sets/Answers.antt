-- `engine::lookahead_sets` meets its contract. Assumes nothing.
use native.Mathlib.Omega.{arith}
use Rattle.cfg.specs.Write.{Bytes}
use Rattle.refusals.specs.declared.Refusal.TheVariants.{KOutside, RoomOutside}
use Rattle.engine.proofs.Running.{refused_record}
use Rattle.engine.proofs.Tables.{same-room}
use Rattle.engine.proofs.Calls.{k-low, k-high, c-low, c-high}
use Rattle.engine.proofs.lookahead_sets.Goals as goal
use Rattle.engine.proofs.lookahead_sets.Goals.{After-shared_slice_known-1, then-k-lt1-via-then-k-lt1, then-k-lt1-via-else-k-lt1+then-k-gt10, then-c-lt1-via-then-c-lt1, then-c-lt1-via-else-c-lt1+then-c-gt1024}

-- every element of the lent table is a byte
bytes : (c : After-shared_slice_known-1) → Bytes c.args.table.now
bytes c i = omega (arith, c.type_inv.table i)

pub returns-then-k-lt1-clause-promised : goal.returns-then-k-lt1-clause-promised
returns-then-k-lt1-clause-promised c =
    elim c.then-k-lt1.branch [
      | then-k-lt1-via-then-k-lt1 w ↦ k-low _ _ _ _ _ w.if-k-lt1.true (refused_record KOutside)
      | then-k-lt1-via-else-k-lt1+then-k-gt10 w ↦ k-high _ _ _ _ _ w.if-k-lt1.false w.if-k-gt10.true (refused_record KOutside)
    ]

pub returns-then-k-lt1-clause-bytes : goal.returns-then-k-lt1-clause-bytes
returns-then-k-lt1-clause-bytes c = bytes (goal.at.returns-then-k-lt1-clause-bytes c).After-shared_slice_known-1

pub returns-then-c-lt1-clause-promised : goal.returns-then-c-lt1-clause-promised
returns-then-c-lt1-clause-promised c =
    elim c.then-c-lt1.branch [
      | then-c-lt1-via-then-c-lt1 w ↦ c-low _ _ _ _ _ c.if-k-lt1.false c.if-k-gt10.false w.if-c-lt1.true (refused_record RoomOutside)
      | then-c-lt1-via-else-c-lt1+then-c-gt1024 w ↦ c-high _ _ _ _ _ c.if-k-lt1.false c.if-k-gt10.false w.if-c-lt1.false w.if-c-gt1024.true (refused_record RoomOutside)
    ]

pub returns-then-c-lt1-clause-bytes : goal.returns-then-c-lt1-clause-bytes
returns-then-c-lt1-clause-bytes c = bytes (goal.at.returns-then-c-lt1-clause-bytes c).After-shared_slice_known-1

pub returns-clause-promised : goal.returns-clause-promised
returns-clause-promised c = search same-room

pub returns-clause-bytes : goal.returns-clause-bytes
returns-clause-bytes c = bytes (goal.at.returns-clause-bytes c).After-shared_slice_known-1
