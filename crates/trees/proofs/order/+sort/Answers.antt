-- `trees::order::sort` meets its contract: each call is on a half of the list, and shorter. Assumes nothing.
use Rattle.std.proofs.Common.{arith, rules, ◌≡◌, ◌<◌, ◌/◌, length, take}
use Rattle.trees.proofs.Arranging.{front-size, front-inside, few-arranged, half, half-size, half-inside, whole-size, whole-inside, whole-arranged}
use Rattle.trees.proofs.order.+sort.Goals as goal

pub returns-then-size-lt2 : goal.returns-then-size-lt2
returns-then-size-lt2 t c = few-arranged _ _ c.if-size-lt2.true

pub sort-requires : goal.sort-requires
sort-requires t c =
    let p = c.requires in
    let o = c.args.order.now in
    let h = front-size o (length o / 2) (omega arith) in
    let q : length o ≡ t = c.decreases in
    let z : length (take (length o / 2) o) < t = omega arith in
    (z, (p.0, (front-inside o (length o / 2) _ p.1.0, omega arith)))

pub sort-requires-2 : goal.sort-requires-2
sort-requires-2 t c =
    let p = c.requires in
    let o = c.args.order.now in
    let a = c.sort.new.order in
    let k : length a ≡ length (take (length o / 2) o) = search rules in
    let q : length o ≡ t = c.decreases in
    let h = half-size o a k in
    let z : length (half o a k) < t = omega arith in
    (z, (p.0, (half-inside o a k _ p.1.0, omega arith)))

pub merge_in_place-requires : goal.merge_in_place-requires
merge_in_place-requires t c =
    let p = c.requires in
    let o = c.args.order.now in
    let a = c.sort.new.order in
    let k : length a ≡ length (take (length o / 2) o) = search rules in
    let b = c.sort-2.new.order in
    let l : length b ≡ length (half o a k) = search rules in
    let w = whole-size o a k b l in
    (p.0, (whole-inside o a k b l _ _ p.1.0 c.sort.ensures c.sort-2.ensures, (omega arith, omega arith)))

pub returns : goal.returns
returns t c =
    let o = c.args.order.now in
    let a = c.sort.new.order in
    let k : length a ≡ length (take (length o / 2) o) = search rules in
    let b = c.sort-2.new.order in
    let l : length b ≡ length (half o a k) = search rules in
    whole-arranged o a k b l _ _ c.sort.ensures c.sort-2.ensures c.merge_in_place.ensures
