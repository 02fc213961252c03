-- What is due as a round begins: every equation in the first, and by the old numbers in the next, where those of the first n nonterminals become
-- less by q, one after the other. Assumes nothing.
use Prim.Native.Nat.{ℕ, ◌+◌, ◌-◌, ◌≤◌, ◌<◌}
use native.Mathlib.Omega.{arith}
use mathlib.Core.Path.{◌≡◌, refl, ap, ◌∙◌}
use mathlib.Core.List.{List}
use borrow.Author.Count.{below_more}
use lib.ListN.{length, get_or, set, replicate, length-set, length-replicate, get_or-replicate}
use lib.Seq.{get_or-set_same, get_or-set_other}
use Rattle.first.specs.declared.Setup.{Setup}
use Rattle.first.specs.Steps.{old_sets, room}
use Rattle.follow.specs.Due.{Due, Lowered}
use Rattle.follow.specs.Steps.{follow_sets, occurrences, Grammatical}
use Rattle.follow.proofs.Idling.{all-due, all-lowered}
use Rattle.follow.proofs.Way.{all-inside}

-- the first a numbers are less by q
pub record Lowering (n q : ℕ) (due₀ due : List ℕ) (a : ℕ) : Type 0 where
  pub below : a ≤ n
  pub long : length due ≡ length due₀
  pub less : (A : ℕ) → A < a → get_or due A 0 ≡ get_or due₀ A 0 - q
  pub same : (A : ℕ) → a ≤ A → get_or due A 0 ≡ get_or due₀ A 0

pub lowering-start : (n q : ℕ) (due : List ℕ) → Lowering n q due due 0
lowering-start n q due = record { below = omega arith; long = refl; less = λ A h. absurd (omega arith); same = λ A h. refl }

module _ {n q : ℕ} {due₀ due : List ℕ} {a : ℕ} (l : Lowering n q due₀ due a) where
  pub lowering-end : n ≤ a → Lowered n q due₀ due
  lowering-end h = record { long = l.long; less = λ A i. l.less A (omega (arith, i)) }

  -- one more
  module _ (more : a < n) (in-due : n ≤ length due₀) where
    pub lowering-next : (v : ℕ) → v ≡ get_or due a 0 - q → Lowering n q due₀ (set due a v) (a + 1)
    lowering-next v e = record {
      below = omega arith;
      long = length-set due a v ∙ l.long;
      less = below_more _ a (λ A b. get_or-set_other due a A v 0 (λ (z : A ≡ a). omega arith) ∙ l.less A b)
          (get_or-set_same due a v 0 (omega (arith, l.long)) ∙ e ∙ ap (λ (d : ℕ). d - q) (l.same a (omega arith)));
      same = λ A h. get_or-set_other due a A v 0 (λ (z : A ≡ a). omega arith) ∙ l.same A (omega arith);
    }

-- ---- how a round begins

-- the first round: every equation is due
pub due-start : {u : Setup} {k : ℕ} {words : List ℕ} (result : List ℕ) → Grammatical u words → Due u k words 0 result (replicate 128 (u.rsets - (u.n + u.p + u.n)))
due-start {u} {k} {words} result g =
    let q = u.rsets - (u.n + u.p + u.n) in
    record {
      long = length-replicate {A = ℕ} 128 q;
      or-idle = all-due (room u) k (old_sets u result) (follow_sets u result) (replicate 128 q) q 0 (occurrences u words) (omega (arith, g.places))
          (λ o i. omega (arith, get_or-replicate 128 o.source q 0 (omega (arith, (all-inside u words g o i).source, g.rules.few))));
    }

-- the next round: what was due or idle is so by the lower numbers
pub lowered-due : {u : Setup} {k : ℕ} {words : List ℕ} {q : ℕ} {result due due' : List ℕ} → Grammatical u words → Due u k words q result due → Lowered u.n q due due' → Due u k words 0 result due'
lowered-due {u} {k} {words} {q} {result} {due} {due'} g d l = record {
  long = l.long ∙ d.long;
  or-idle = all-lowered (room u) k (old_sets u result) (λ o i. l.less o.source (all-inside u words g o i).source) d.or-idle;
}
