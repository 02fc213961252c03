-- The numbers of the refusals, as the table of the rules has them. Assumes nothing.
use Prim.Native.Nat.{ℕ}
use Rattle.refusals.specs.declared.Refusal.{Refusal}
use Rattle.refusals.specs.declared.Refusal.TheVariants as R

abbrev pub number : Refusal → ℕ
number R.KOutside = 1
number R.RoomOutside = 2
number R.TableEnds = 3
number R.BadNumber = 4
number R.CountOutside = 5
number R.SymbolOutside = 6
number R.BytesLeft = 7
number R.Unproductive = 8
number R.LeftRecursive = 9
number R.LentTooFew = 10
number R.SetTooLarge = 11
number R.NotSettled = 12
number R.Malformed = 13
number R.TerminalOutside = 14
number R.WidthsDiffer = 15
number R.StringFull = 16
number R.PushOntoEps = 17
number R.BadSyntax = 18
number R.Undefined = 19
number R.LimitPassed = 20
number R.BehindEnd = 21
number R.NoneServes = 22
number R.TooManyStates = 23
number R.BadRow = 24
number R.StringMissing = 25
