-- `exports::needed::put_record` meets its contract. Assumes nothing.
use Rattle.exports.proofs.needed.put_record.Goals as goal

pub returns-in-Ok : goal.returns-in-Ok
returns-in-Ok c = rw c.in-Ok.is (rw (c.refusals_in.ensures, c.ks_in.ensures) at c.put_numbers.ensures)

pub returns-in-Err : goal.returns-in-Err
returns-in-Err c = rw c.in-Err.is (rw c.from.ensures at c.put_numbers-in-Err.ensures)
