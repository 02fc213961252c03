-- q as the table counts it. Assumes nothing.
use Prim.Native.Nat.{ℕ, suc, ◌+◌}
use mathlib.Core.List.{List, [], ◌∷◌}
use mathlib.Core.Path.{◌≡◌, refl, ap, ap₂, ◌∙◌}
use lib.ListN.{length, length-append}
use Rattle.cfg.specs.Grammar.{Sym, nonterminal, terminal, Production}
use Rattle.cfg.specs.Written.{nonterminals, occurrences}
use Rattle.follow_theory.specs.Follow.{occurrences_in, occurrences_of}

in_count : (A : ℕ) (γ : List Sym) → length (occurrences_in A γ) ≡ nonterminals γ
in_count A [] = refl
in_count A (nonterminal B ∷ γ) = ap suc (in_count A γ)
in_count A (terminal x ∷ γ) = in_count A γ

pub occurrences-count : (ps : List Production) → length (occurrences_of ps) ≡ occurrences ps
occurrences-count [] = refl
occurrences-count (p ∷ ps) = length-append (occurrences_in p.left p.right) (occurrences_of ps) ∙ ap₂ ◌+◌ (in_count p.left p.right) (occurrences-count ps)
