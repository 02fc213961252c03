-- `table::read_header` meets its contract: each number that is read lies between its bounds.
-- Assumes nothing.
use Rattle.cfg.proofs.Field.{field-inside}
use Rattle.cfg.proofs.table.read_header.Goals as goal

pub returns-clause-inside : goal.returns-clause-inside
returns-clause-inside c =
    let b = c.args.table.now in
    let n = field-inside b 5 1 128 0 c.in_ok-n.ensures in
    (n.0, n.1, (field-inside b 5 0 4089 c.in_ok-n.n.next c.in_ok-t.ensures).1, (field-inside b 5 0 512 c.in_ok-start.start.next c.in_ok-p.ensures).1)
