-- `k_tuple::Terminals::push` meets its contract. Assumes nothing.
use borrow.Author.Tests.{le-leb, lt-leb, eq-eqb, ne_eqb}
use native.Mathlib.Omega.{arith}
use Prim.Native.Nat.{ℕ, ◌≤◌, ◌<◌}
use mathlib.Core.Bool.{true, false}
use mathlib.Core.Path.{◌≡◌, ap, ◌∙◌, sym, subst}
use lib.Dec.{leb, eqb}
use Rattle.k_tuple.specs.Strings.{is_good, ones}
use Rattle.k_tuple.specs.Packed.{WellFormed, reads, width_in, eps_in, ended_in}
use Rattle.k_tuple.specs.Answers.{string, length_in}
use Rattle.k_tuple.proofs.Held.{width-le, count-le}
use Rattle.k_tuple.proofs.Refusals.{string_passes, width-in, count-in, ended-in}
use Rattle.k_tuple.proofs.Terminals.push.Goals as goal
use Rattle.k_tuple.proofs.Terminals.push.Goals.{After-count, After-is_ended, After-ones, Else-count-eq10, In_ok-sound, Else-ones-x}

-- the string is well formed
held : (c : In_ok-sound) → WellFormed c.args.self
held c = string_passes c.args.self c.in_ok-sound.ensures

tested : (c : In_ok-sound) → is_good (reads c.args.self) ≡ true
tested c = ap is_good (held c).is

pub ones-requires : goal.ones-requires
ones-requires c =
    let h = width-le c.args.self (held (goal.at.ones-requires c).In_ok-sound) c.width.result c.width.ensures in
    omega arith

-- what is read of it
ones-are : (c : After-ones) → c.ones.result ≡ ones (width_in (reads c.args.self))
ones-are c = c.ones.ensures ∙ ap ones (c.width.ensures ∙ width-in _ (held (goal.at.After-ones c).In_ok-sound))

count-is : (c : After-count) → c.count.result ≡ length_in (reads c.args.self)
count-is c = c.count.ensures ∙ count-in _ (held (goal.at.After-count c).In_ok-sound)

-- the tests, as the definition of the answer has them
small : (c : Else-ones-x) → leb (ones (width_in (reads c.args.self))) c.args.x ≡ false
small c = lt-leb _ _ (subst (λ (o : ℕ). c.args.x < o) (ones-are (goal.at.Else-ones-x c).After-ones) c.if-ones-x.false)

short : (c : Else-count-eq10) → eqb (length_in (reads c.args.self)) 10 ≡ false
short c = ne_eqb _ _ (λ e. c.if-count-eq10.false (count-is (goal.at.Else-count-eq10 c).After-count ∙ e))

pub returns-then-ones-x : goal.returns-then-ones-x
returns-then-ones-x c =
    let x = c.args.x in
    rw (tested (goal.at.returns-then-ones-x c).In_ok-sound, le-leb _ x (subst (λ (o : ℕ). o ≤ x) (ones-are (goal.at.returns-then-ones-x c).After-ones) c.if-ones-x.true))

pub returns-then-count-eq10 : goal.returns-then-count-eq10
returns-then-count-eq10 c =
    rw (tested (goal.at.returns-then-count-eq10 c).In_ok-sound, small (goal.at.returns-then-count-eq10 c).Else-ones-x, eq-eqb _ 10 (sym (count-is (goal.at.returns-then-count-eq10 c).After-count) ∙ c.if-count-eq10.true))

ended_is : (c : After-is_ended) → c.is_ended.result ≡ ended_in (reads c.args.self)
ended_is c = c.is_ended.ensures ∙ ended-in _ (held (goal.at.After-is_ended c).In_ok-sound)

pub returns-then-is_ended : goal.returns-then-is_ended
returns-then-is_ended c =
    rw (tested (goal.at.returns-then-is_ended c).In_ok-sound, small (goal.at.returns-then-is_ended c).Else-ones-x, short (goal.at.returns-then-is_ended c).Else-count-eq10, sym (ended_is (goal.at.returns-then-is_ended c).After-is_ended) ∙ c.if-is_ended.true)

pub returns-then-is_eps : goal.returns-then-is_eps
returns-then-is_eps c =
    rw (tested (goal.at.returns-then-is_eps c).In_ok-sound, small (goal.at.returns-then-is_eps c).Else-ones-x, short (goal.at.returns-then-is_eps c).Else-count-eq10, sym (ended_is (goal.at.returns-then-is_eps c).After-is_ended) ∙ c.if-is_ended.false, sym c.is_eps.ensures ∙ c.if-is_eps.true)

pub push-requires : goal.push-requires
push-requires c =
    let g = held (goal.at.push-requires c).In_ok-sound in
    let most = count-le c.args.self g c.count.result c.count.ensures in
    let less = c.if-count-eq10.false in
    record {
      well = g;
      plain = sym (ap eps_in g.is) ∙ sym c.is_eps.ensures ∙ c.if-is_eps.false;
      short = omega (arith, count-is (goal.at.push-requires c).After-count, ap length_in g.is);
      small = subst (λ (o : ℕ). c.args.x < o) (ones-are (goal.at.push-requires c).After-ones ∙ ap (λ d. ones (width_in d)) g.is) c.if-ones-x.false;
    }

pub returns : goal.returns
returns c =
    rw (tested (goal.at.returns c).In_ok-sound, small (goal.at.returns c).Else-ones-x, short (goal.at.returns c).Else-count-eq10, sym (ended_is (goal.at.returns c).After-is_ended) ∙ c.if-is_ended.false, sym c.is_eps.ensures ∙ c.if-is_eps.false)
    (ap string c.push.ensures)
