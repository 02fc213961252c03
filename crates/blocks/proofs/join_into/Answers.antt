-- `blocks::join_into` meets its contract. Assumes nothing.
use Rattle.blocks.proofs.Stores.{turned-store, join_alone}
use Rattle.blocks.proofs.join_into.Goals as goal

pub join_add-requires : goal.join_add-requires
join_add-requires c =
    let p = c.requires.0 in
    let empty = c.clear_block.ensures.step c.args.k p.width p.store in
    (record { width = p.width; x = p.x; y = p.y; some = p.some; short = p.short; store = turned-store empty; first = p.first; second = p.second }, c.requires.1)

pub returns : goal.returns
returns c =
    let k = c.args.k in
    record {
      step = λ w x y h f g.
          let empty = c.clear_block.ensures.step k w h in
          join_alone x y h c.requires.1 empty (c.join_add.ensures.step w x y (turned-store empty) f g);
    }
