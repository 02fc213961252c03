-- `begin::start_follow` meets its contract: the sets are made in the scratch, and then copied. Assumes nothing.
use native.Mathlib.Omega.{arith}
use Rattle.follow.proofs.Starting.{clear-string, started-laid, started}
use Rattle.follow.proofs.begin.start_follow.Goals as goal

pub put_single-requires : goal.put_single-requires
put_single-requires c = let b = c.requires in (clear-string b c.clear_first.ensures c.end.ensures, (omega (arith, b.first, b.ready.work), b.ready.some))

pub copy_follow-requires : goal.copy_follow-requires
copy_follow-requires c = started-laid c.requires c.clear_first.ensures c.end.ensures c.put_single.ensures

pub returns : goal.returns
returns c = search started
