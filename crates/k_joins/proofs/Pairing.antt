-- What the loops of a join pair by pair put in, each a `Filling`: the joins of one member, and the rows of all. Assumes nothing.
use mathlib.Core.Path.{◌≡◌, refl, sym}
use mathlib.Core.Bool.{Bool, true}
use mathlib.Core.List.{List, [], ◌∷◌}
use Prim.Native.Nat.{ℕ}
use Rattle.k_tuple.specs.declared.Terminals.{Terminals}
use Rattle.k_tuple.specs.Packed.{reads, joined, complete_in}
use Rattle.k_tuples.specs.Members.{adding, add_all, joins_of, row_of, pairs_of}
use Rattle.k_tuples.specs.Words.{Growth, decode, Grew}
use Rattle.k_tuples.proofs.Filling.{Way}

-- its join with x
abbrev pub its-join : ℕ → Terminals → Way
its-join k x = record { one = λ y. joined k (reads x) (reads y) ∷ []; all = joins_of k x; none = refl; more = λ y ys. refl }

-- its row in a join with ys
abbrev pub its-row : ℕ → List Terminals → Way
its-row k ys = record { one = λ x. row_of k x ys; all = λ xs. pairs_of k xs ys; none = refl; more = λ x xs. refl }

-- ---- a turn, where the member m that was read is y

module _ {out exit : List ℕ} {m : Terminals} {r : Growth} (y : Terminals) (at : m ≡ y) where
  pub gives-join : {z : Terminals} (k : ℕ) (x : Terminals) → z ≡ joined k (reads x) (reads m) → Grew out exit (adding z (decode out)) r → Grew out exit (add_all (joins_of k x (y ∷ [])) (decode out)) r
  unfolding add_all
  gives-join k x e g = rw (sym at, sym e) g

  module _ {t : Bool} (k : ℕ) (ys : List Terminals) (told : t ≡ complete_in k (reads m)) where
    pub gives_whole : t ≡ true → Grew out exit (adding m (decode out)) r → Grew out exit (add_all (row_of k y ys) (decode out)) r
    unfolding add_all
    gives_whole e g = rw (sym at, sym told, e) g
