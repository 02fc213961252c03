-- `k_joins::join::join_into` meets its contract. Assumes nothing.
use mathlib.Core.Path.{◌≡◌, sym, ◌∙◌}
use mathlib.Core.List.{List}
use Prim.Native.Nat.{ℕ}
use Rattle.k_tuple.specs.declared.Terminals.{Terminals}
use Rattle.k_tuples.specs.Members.{add_all, pairs_of}
use Rattle.k_tuples.specs.Words.{Growth, number_in, decode, Grew, Numbered}
use Rattle.k_tuples.proofs.Words.{set-some}
use Rattle.k_tuples.proofs.Walking.{none_open}
use borrow.Author.Rules.{rules}
use Rattle.k_joins.proofs.join.join_into.Goals as goal

-- none of the first set is unfinished: each member stays
as_first : {u : ℕ} {out exit : List ℕ} {r : Growth} (k : ℕ) (xs : List ℕ) (ys : List Terminals) → Numbered k xs → u ≡ number_in xs → u ≡ 0 → Grew out exit (add_all (decode xs) (decode out)) r
    → Grew out exit (add_all (pairs_of k (decode xs) ys) (decode out)) r
as_first k xs ys n e z g = rw (none_open k (decode xs) ys (sym n ∙ sym e ∙ z)) g

pub number-requires : goal.number-requires
number-requires c = search (rules, set-some)

pub returns-then-number-eq0 : goal.returns-then-number-eq0
returns-then-number-eq0 c = search as_first
