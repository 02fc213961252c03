-- `exports::needed::put_at` meets its contract. Assumes nothing.
use Rattle.exports.proofs.Needing.{put-at}
use Rattle.exports.proofs.needed.put_at.Goals as goal

pub returns : goal.returns
returns c = search put-at
