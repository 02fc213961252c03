-- `first::right::join_part` meets its contract. Assumes nothing.
use mathlib.Core.Path.{◌≡◌}
use borrow.Author.Rules.{rules}
use Rattle.std.specs.Prelude.{Err}
use Rattle.first.proofs.Walk.{join-over, join-ready, join-taken}
use Rattle.first.proofs.right.join_part.Goals as goal

pub returns-in_err-join_codes : goal.returns-in_err-join_codes
returns-in_err-join_codes c =
    let e : c.from_residual.result ≡ Err c.in_err-join_codes.field-0.0 = search rules in
    rw e (join-over c.args.at c.in_err-join_codes.ensures)

pub copy_block-requires : goal.copy_block-requires
copy_block-requires c =
    let u = c.args.u in
    let ready = join-ready c.requires.0.0 c.in_ok-join_codes.ensures in
    (record { k = c.args.k; width = u.w; first = ready.result-store; second = ready.scratch-store }, (ready.work, c.requires.0.1.within))

pub returns : goal.returns
returns c =
    let j = c.in_ok-join_codes.ensures in
    let ready = join-ready c.requires.0.0 j in
    join-taken c.requires.0.0 j c.args.at (c.copy_block.ensures.step c.args.k c.args.u.w ready.result-store ready.scratch-store)
