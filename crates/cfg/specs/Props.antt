-- There is one way only in which words are sound: the types in `grammar.rt` ask that of the facts they keep. Nothing here says what a table is.
-- Assumes nothing.
use Rattle.std.specs.Prelude.{ℕ, zero, suc, ◌+◌, List, [], ◌∷◌, get_or, drop}
use Rattle.std.specs.Coded.{×_prop, Unit-prop, le_prop}
use Rattle.cfg.specs.Grammar.{Sym, nonterminal, terminal}
use Rattle.cfg.specs.Words.{Below, SoundHead, Sound}

pub Below-prop : (n : ℕ) (ss : List Sym) → IsProp (Below n ss)
Below-prop n [] = Unit-prop
Below-prop n (nonterminal i ∷ ss) = ×_prop le_prop (Below-prop n ss)
Below-prop n (terminal x ∷ ss) = Below-prop n ss

SoundHead-prop : (n : ℕ) (ws : List ℕ) → IsProp (SoundHead n ws)
SoundHead-prop n ws = Prim.hlevel (le_prop, Below-prop)

pub Sound-prop : (n p : ℕ) (ws : List ℕ) → IsProp (Sound n p ws)
Sound-prop n zero ws = Unit-prop
Sound-prop n (suc p) ws = ×_prop (SoundHead-prop n ws) (Sound-prop n p (drop (2 + get_or ws 1 0) ws))
