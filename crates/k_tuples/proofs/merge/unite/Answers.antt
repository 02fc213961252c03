-- `k_tuples::merge::unite` meets its contract. Assumes nothing.
use native.Mathlib.Omega.{arith}
use lib.ListN.{length}
use Rattle.k_tuples.proofs.Words.{set-some, room-counted}
use Rattle.k_tuples.proofs.Merging.{begin-at, unite-full, unite-same, unite-added}
use borrow.Author.Rules.{rules}
use Rattle.k_tuples.proofs.merge.unite.Goals as goal

pub union_count-n-requires : goal.union_count-n-requires
union_count-n-requires c = ((search rules, search rules), search begin-at)

pub room-requires : goal.room-requires
room-requires c = search (rules, set-some)

pub returns-then-room-n : goal.returns-then-room-n
returns-then-room-n c = search unite-full

pub returns-then-n-count : goal.returns-then-n-count
returns-then-n-count c = search unite-same

pub merge_back-requires : goal.merge_back-requires
merge_back-requires c = (((search rules, search rules), search begin-at), (search rules, omega (arith, c.room.ensures)))

pub set_count-requires : goal.set_count-requires
set_count-requires c =
    let n = c.union_count-n.result in
    (omega (arith, set-some c.requires.0.0, c.merge_back.auto.dst), room-counted n (length c.args.dst.now) (omega (arith, c.room.ensures)))

pub returns : goal.returns
returns c = search unite-added
