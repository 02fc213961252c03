-- `exports::needed::put_numbers` meets its contract. Assumes nothing.
use Rattle.exports.proofs.Needing.{record-put}
use Rattle.exports.proofs.needed.put_numbers.Goals as goal

pub returns : goal.returns
returns c = record-put (record { refusal = c.args.refusal; n = c.args.n; refusals = c.args.refusals.now; ks = c.args.ks.now }) _ c.requires c.told-refusals c.put_at.ensures c.put_at-2.ensures c.copy_front.ensures
