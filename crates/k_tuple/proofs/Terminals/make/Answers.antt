-- `k_tuple::Terminals::make` meets its contract. Assumes nothing.
use borrow.Author.Tests.{le-ltb, ltb-false}
use native.Mathlib.Omega.{arith}
use native.Mathlib.Nat.{min-le_left, min-le_right}
use Prim.Native.Nat.{ℕ, ◌≤◌}
use mathlib.Core.Bool.{true, false}
use mathlib.Core.List.{List, []}
use mathlib.Core.Path.{◌≡◌, refl, ap, ap₂, ◌∙◌, sym}
use lib.ListN.{length, take}
use lib.Seq.{length-take-le}
use Rattle.k_tuple.specs.Strings.{slots, push_all, all_under, early}
use Rattle.k_tuple.specs.Packed.{packed}
use Rattle.k_tuple.specs.Answers.{string}
use Rattle.k_tuple.proofs.Binary.{width-le, width-pos, width-holds}
use Rattle.k_tuple.proofs.Lists.{first-take, pushed_whole}
use Rattle.k_tuple.proofs.Refusals.{k_passes, width_passes}
use Rattle.k_tuple.proofs.Terminals.make.Goals as goal
use Rattle.k_tuple.proofs.Terminals.make.Goals.{After-first-n}

-- the first n are the first k
fits : (c : After-first-n) → c.first-n.result ≤ length c.args.ts.now
fits c = let a = c.args in rw c.first-n.ensures (min-le_right a.k (length a.ts.now))

part-is : (c : After-first-n) → take c.first-n.result c.args.ts.now ≡ take c.args.k c.args.ts.now
part-is c = let a = c.args in rw c.first-n.ensures (first-take a.k a.ts.now)

pub made-requires : goal.made-requires
made-requires c =
    let a = c.args in
    let w = width_passes a.m c.in_ok-w.w c.in_ok-w.ensures in
    let m = ltb-false 4094 a.m w.0 in
    let k = k_passes a.k c.in_ok-small.ensures in
    let least = min-le_left a.k (length a.ts.now) in
    let first = c.first-n.ensures in
    let holds = width-holds a.m m in
    record {
      wide = rw w.1 (width-pos a.m);
      narrow = rw w.1 (width-le a.m m);
      short = rw (length-take-le c.first-n.result a.ts.now (fits (goal.at.made-requires c).After-first-n)) (omega arith);
      greatest = a.m;
      under = sym c.all_under.ensures ∙ c.if-not-all_under.false;
      small = rw w.1 (omega arith);
    }

pub returns : goal.returns
returns c =
    let a = c.args in
    let part = part-is (goal.at.returns c).After-first-n in
    let w = width_passes a.m c.in_ok-w.w c.in_ok-w.ensures in
    let under : all_under a.m (take a.k a.ts.now) ≡ true = ap (all_under a.m) (sym part) ∙ sym c.all_under.ensures ∙ c.if-not-all_under.false in
    let late : early (take a.k a.ts.now) ≡ false = ap early (sym part) ∙ sym c.ends_early.ensures ∙ c.if-ends_early.false in
    rw (le-ltb 10 a.k (k_passes a.k c.in_ok-small.ensures), w.0, under, late)
    (ap string (c.made.ensures ∙ ap₂ (λ (v : ℕ) (xs : List ℕ). packed v (slots xs)) w.1 (ap (push_all []) part ∙ pushed_whole _ [] refl late)))
