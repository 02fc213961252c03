-- `k_tuple::alike` meets its contract. Assumes nothing.
use Rattle.k_tuple.proofs.Refusals.{string_passes, widths_differ, one_width}
use Rattle.k_tuple.proofs.alike.Goals as goal

pub returns-then-width : goal.returns-then-width
returns-then-width c =
    let x = c.args.x in
    let y = c.args.y in
    widths_differ x y (string_passes x c.in_ok-sound.ensures) (string_passes y c.in_ok-sound-2.ensures) _ _ c.width.ensures c.width-2.ensures c.if-width.true

pub returns : goal.returns
returns c =
    let x = c.args.x in
    let y = c.args.y in
    one_width x y (string_passes x c.in_ok-sound.ensures) (string_passes y c.in_ok-sound-2.ensures) _ _ c.width.ensures c.width-2.ensures c.if-width.false
