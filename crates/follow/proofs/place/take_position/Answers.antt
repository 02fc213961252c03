-- `place::take_position` meets its contract: the join is made in the scratch, and then taken over. Assumes nothing.
use mathlib.Core.Path.{◌≡◌}
use mathlib.Core.List.{List}
use borrow.Author.Rules.{rules}
use Rattle.std.specs.Prelude.{Err}
use Rattle.k_tuple.specs.Strings.{Str}
use Rattle.k_tuples.specs.Sets.{join_sets}
use Rattle.k_tuples.specs.States.{set_of}
use Rattle.first.specs.Steps.{result_sets}
use Rattle.first.proofs.Walk.{join-over, join-ready, join-taken}
use Rattle.follow.proofs.place.take_position.Goals as goal
use Rattle.follow.proofs.place.take_position.Goals.{Start}

-- the join
abbrev product : Start → List Str
product c = let R = result_sets c.args.u c.args.res.now in join_sets c.args.k (set_of R c.args.at) (set_of R c.args.from)

pub returns-in_err-join_sets : goal.returns-in_err-join_sets
returns-in_err-join_sets c =
    let e : c.from_residual.result ≡ Err c.in_err-join_sets.field-0.0 = search rules in
    rw e (join-over {new = product (goal.at.returns-in_err-join_sets c).Start} c.args.at c.in_err-join_sets.ensures)

pub copy_block-requires : goal.copy_block-requires
copy_block-requires c =
    let ready = join-ready {new = product (goal.at.copy_block-requires c).Start} c.requires.0 c.in_ok-join_sets.ensures in
    (record { k = c.args.k; width = c.args.u.w; first = ready.result-store; second = ready.scratch-store }, (ready.work, c.requires.1.0))

pub returns : goal.returns
returns c =
    let j = c.in_ok-join_sets.ensures in
    let ready = join-ready {new = product (goal.at.returns c).Start} c.requires.0 j in
    join-taken {new = product (goal.at.returns c).Start} c.requires.0 j c.args.at (c.copy_block.ensures.step c.args.k c.args.u.w ready.result-store ready.scratch-store)
