-- `blocks::single` meets its contract. Assumes nothing.
use mathlib.Core.Path.{◌≡◌, sym, ap, ◌∙◌, subst}
use mathlib.Core.Bool.{true}
use mathlib.Core.List.Memᴰ
use mathlib.Core.List.{[], ◌∷◌}
use Prim.Native.Nat.{ℕ}
use Rattle.k_tuple.specs.Strings.{Str, well_formed}
use Rattle.k_tuple.specs.Packed.{packed}
use Rattle.k_tuple.specs.declared.Terminals.{Terminals}
use Rattle.k_tuples.specs.Members.{open_of}
use Rattle.k_tuples.specs.Words.{encode}
use Rattle.k_tuples.specs.Held.{set_words}
use Rattle.k_tuples.proofs.Bridge.{open-unfinished}
use Rattle.blocks.proofs.single.Goals as goal

pub returns : goal.returns
unfolding set_words
returns c = record {
  words = λ w z e f.
      c.single.ensures ∙ ap (λ (t : Terminals). encode (open_of c.args.k (t ∷ [])) 3 (t ∷ [])) e
      ∙ ap (λ (u : ℕ). encode u 3 (packed w z ∷ [])) (open-unfinished w c.args.k (z ∷ []) (λ y m. subst (λ (x : Str). well_formed w x ≡ true) (sym (Memᴰ.eq_of_singleton m)) f));
}
