-- Going from one production to the next in words that the table's reader has made: each right side is in range. Assumes nothing.
use mathlib.Core.Path.{◌≡◌, refl}
use mathlib.Core.List.{List, ◌∷◌, map, Memᴰ}
use Prim.Native.Nat.{ℕ, ◌+◌, ◌-◌, ◌≤◌, ◌<◌}
use native.Mathlib.Omega.{arith}
use lib.ListN.{length, get_or, take, drop}
use Rattle.cfg.specs.declared.table.Span.{Span}
use Rattle.cfg.specs.Grammar.{Sym, Production}
use Rattle.cfg.specs.Written.{symbol_of, productions_of}
use Rattle.cfg.specs.Words.{SoundHead, SpanAt}
use Rattle.cfg.proofs.Tests.{below_wider}
use Rattle.cfg.proofs.Cursor.{Cursor, cursor-start, cursor-next, head, span-first}
use Rattle.first.specs.declared.Setup.{Setup}
use Rattle.first.specs.Steps.{sizes, Symbols}
use Rattle.first.specs.Rounds.{grammar_in, Rules}
use Rattle.first.proofs.Codes.{range_same}

-- the symbols of a production lie within the words
pub span-within : {words : List ℕ} {place : ℕ} {span : Span} → SpanAt words place span → (span.from ≤ span.to) × (span.to ≤ length words)
span-within e = (omega (arith, e.from, e.to, e.inside), omega (arith, e.from, e.to, e.inside))

-- each of some productions lies within the sizes
abbrev pub Within : Setup → List Production → Type 0
Within u ps = (q : Production) → Memᴰ q ps → (q.left < u.n) × Symbols u q.right

pub rules-within : {u : Setup} {words : List ℕ} → Rules u words → Within u (productions_of u.p words)
rules-within {u} {words} rules = λ q m. ((rules.ranged.rules m).0, range_same (grammar_in u words) (sizes u) q.right refl refl (rules.ranged.rules m).1)

-- i productions are passed, and the next begins at `place`; those still to come are in range
pub record Passing (u : Setup) (words : List ℕ) (i place : ℕ) : Type 0 where
  pub cursor : Cursor u.n u.p words i place
  pub ranged : (q : Production) → Memᴰ q (productions_of (u.p - i) (drop place words)) → Symbols u q.right

pub pass-start : {u : Setup} {words : List ℕ} → Rules u words → Passing u words 0 0
pass-start {u} {words} rules =
    let all : u.p - 0 ≡ u.p = omega arith in
    record {
      cursor = cursor-start u.n u.p words rules.sound;
      ranged = rw all (λ q m. range_same (grammar_in u words) (sizes u) q.right refl refl (rules.ranged.rules m).1);
    }

module _ {u : Setup} {words : List ℕ} {i place : ℕ} (pass : Passing u words i place) (more : i < u.p) where
  -- what is asked of the words there
  pub pass-head : u.n ≤ 128 → SoundHead 128 (drop place words)
  pass-head h =
      let s = head u.n u.p words i place pass.cursor more in
      let ws = drop place words in
      record { whole = s.whole; left = omega (arith, s.left); right = below_wider u.n 128 h (map symbol_of (take (get_or ws 1 0) (drop 2 ws))) s.right }

  module _ (span : Span) (s : SpanAt words place span) where
    abbrev pub right_at : List Sym
    right_at = map symbol_of (take (span.to - span.from) (drop span.from words))

    pub pass-split : productions_of (u.p - i) (drop place words) ≡ record { left = span.left; right = right_at } ∷ productions_of (u.p - (i + 1)) (drop span.to words)
    pass-split = span-first u.n u.p words i place pass.cursor more span s

    pub pass-symbols : Symbols u (map symbol_of (take (span.to - span.from) (drop span.from words)))
    pass-symbols = pass.ranged (record { left = span.left; right = right_at }) (rw pass-split (Memᴰ.head refl))

    pub pass-next : Passing u words (i + 1) span.to
    pass-next =
        record {
          cursor = cursor-next u.n u.p words i place pass.cursor more span s;
          ranged = λ q m. pass.ranged q (rw pass-split (Memᴰ.tail m));
        }
