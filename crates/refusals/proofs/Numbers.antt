-- A refusal is known by its number. Assumes nothing.
use Prim.Native.Nat.{ℕ, ◌≤◌}
use mathlib.Core.Path.{◌≡◌, refl, sym, ap, ◌∙◌}
use mathlib.Core.List.{List, [], ◌∷◌}
use lib.Dec.{lit<}
use lib.ListN.{get_or}
use Rattle.refusals.specs.Numbers.{number}
use Rattle.refusals.specs.declared.Refusal.{Refusal}
use Rattle.refusals.specs.declared.Refusal.TheVariants as R

-- in the order of their numbers, from 0 on, which is nobody's
abbrev all : List Refusal
all =
    R.KOutside ∷ R.KOutside ∷ R.RoomOutside ∷ R.TableEnds ∷ R.BadNumber ∷ R.CountOutside ∷ R.SymbolOutside ∷ R.BytesLeft ∷
    R.Unproductive ∷ R.LeftRecursive ∷ R.LentTooFew ∷ R.SetTooLarge ∷ R.NotSettled ∷ R.Malformed ∷ R.TerminalOutside ∷
    R.WidthsDiffer ∷ R.StringFull ∷ R.PushOntoEps ∷ R.BadSyntax ∷ R.Undefined ∷ R.LimitPassed ∷ R.BehindEnd ∷ R.NoneServes ∷
    R.TooManyStates ∷ R.BadRow ∷ R.StringMissing ∷ []

-- the refusal of a number, some refusal where there is none
abbrev pub named : ℕ → Refusal
named n = get_or all n R.KOutside

-- the refusal of a refusal's number is that refusal
pub named-number : (e : Refusal) → named (number e) ≡ e
named-number R.KOutside = refl
named-number R.RoomOutside = refl
named-number R.TableEnds = refl
named-number R.BadNumber = refl
named-number R.CountOutside = refl
named-number R.SymbolOutside = refl
named-number R.BytesLeft = refl
named-number R.Unproductive = refl
named-number R.LeftRecursive = refl
named-number R.LentTooFew = refl
named-number R.SetTooLarge = refl
named-number R.NotSettled = refl
named-number R.Malformed = refl
named-number R.TerminalOutside = refl
named-number R.WidthsDiffer = refl
named-number R.StringFull = refl
named-number R.PushOntoEps = refl
named-number R.BadSyntax = refl
named-number R.Undefined = refl
named-number R.LimitPassed = refl
named-number R.BehindEnd = refl
named-number R.NoneServes = refl
named-number R.TooManyStates = refl
named-number R.BadRow = refl
named-number R.StringMissing = refl

-- two refusals of one number are one
pub number-injective : (d e : Refusal) → number d ≡ number e → d ≡ e
number-injective d e is = sym (named-number d) ∙ ap named is ∙ named-number e

-- no refusal has the number 0
pub number-positive : (e : Refusal) → 1 ≤ number e
number-positive R.KOutside = lit< tt
number-positive R.RoomOutside = lit< tt
number-positive R.TableEnds = lit< tt
number-positive R.BadNumber = lit< tt
number-positive R.CountOutside = lit< tt
number-positive R.SymbolOutside = lit< tt
number-positive R.BytesLeft = lit< tt
number-positive R.Unproductive = lit< tt
number-positive R.LeftRecursive = lit< tt
number-positive R.LentTooFew = lit< tt
number-positive R.SetTooLarge = lit< tt
number-positive R.NotSettled = lit< tt
number-positive R.Malformed = lit< tt
number-positive R.TerminalOutside = lit< tt
number-positive R.WidthsDiffer = lit< tt
number-positive R.StringFull = lit< tt
number-positive R.PushOntoEps = lit< tt
number-positive R.BadSyntax = lit< tt
number-positive R.Undefined = lit< tt
number-positive R.LimitPassed = lit< tt
number-positive R.BehindEnd = lit< tt
number-positive R.NoneServes = lit< tt
number-positive R.TooManyStates = lit< tt
number-positive R.BadRow = lit< tt
number-positive R.StringMissing = lit< tt
