-- On the way over the occurrences: i of them are passed, the others are to come, and all name nonterminals and terminals of the grammar.
-- Assumes nothing.
use Prim.Native.Nat.{ℕ, ◌+◌, ◌-◌, ◌≤◌, ◌<◌}
use native.Mathlib.Omega.{arith}
use mathlib.Core.Path.{◌≡◌, refl, ap}
use mathlib.Core.List.Memᴰ.{head as here}
use mathlib.Core.List.Memᴰ.{tail as there}
use mathlib.Core.List.{List, [], ◌∷◌}
use lib.ListN.{length}
use Rattle.cfg.specs.Grammar.{nonterminal}
use Rattle.cfg.proofs.Tests.{sound-wider}
use Rattle.k_tuples.specs.Sets.{◌∈◌}
use Rattle.first.specs.declared.Setup.{Setup}
use Rattle.first.specs.Steps.{sizes, Symbols}
use Rattle.first.proofs.Codes.{range_same}
use Rattle.first_theory.proofs.Ranges.{in-range-append}
use Rattle.follow_theory.specs.Follow.{Occurrence}
use Rattle.follow_theory.proofs.Meaning.{occurs}
use Rattle.follow.specs.declared.walk.Walk.{Walk}
use Rattle.follow.specs.Walk.{symbols_left, to_come, Goes, Met, start_of}
use Rattle.first.specs.Rounds.{grammar_in}
use Rattle.follow.specs.Steps.{places_at, occurrences, Grammatical, At}
use Rattle.follow.proofs.Seeking.{start-come, start-goes}

-- what an occurrence names is in range
pub record Inside (u : Setup) (o : Occurrence) : Type 0 where
  pub target : o.target < u.n
  pub source : o.source < u.n
  pub rest : Symbols u o.rest

-- every occurrence is so
pub all-inside : (u : Setup) (words : List ℕ) → Grammatical u words → (o : Occurrence) → o ∈ occurrences u words → Inside u o
all-inside u words g o m =
    let w = grammar_in u words in
    let r = occurs w w.productions (λ p i. i) o m in
    let rule = g.rules.ranged.rules r.1 in
    let range = ((in-range-append w r.0 (nonterminal o.target ∷ o.rest)).0 rule.1).1 in
    record { target = range.0; source = rule.0; rest = range_same w (sizes u) o.rest refl refl range.1 }

-- i occurrences are passed, and the walk is at w
pub record Way (u : Setup) (words : List ℕ) (w : Walk) (i : ℕ) : Type 0 where
  pub goes : Goes words w
  pub count : places_at u + (i + length (to_come words w)) ≡ u.rsets
  pub inside : (o : Occurrence) → o ∈ to_come words w → Inside u o

module _ {u : Setup} {words : List ℕ} where
  pub way-start : Grammatical u words → Way u words (start_of u.p) 0
  way-start g =
      let all = start-come u.p words in
      record {
        goes = start-goes u.p words (sound-wider u.n 128 g.rules.few u.p words g.rules.sound);
        count = rw all (omega (arith, g.places));
        inside = λ o m. all-inside u words g o (rw all at m);
      }

  module _ {w : Walk} {i : ℕ} (h : Way u words w i) where
    none_left : (os : List Occurrence) → to_come words w ≡ os → u.rsets - places_at u ≤ i → os ≡ []
    none_left [] e l = refl
    none_left (o ∷ os) e l = absurd (omega (arith, h.count, ap length e))

    pub way_end : u.rsets - places_at u ≤ i → to_come words w ≡ []
    way_end l = none_left (to_come words w) refl l

    pub way-some : i < u.rsets - places_at u → 1 ≤ length (to_come words w)
    way-some l = omega (arith, h.count)

    module _ {r : Walk} (m : Met words w r) where
      -- the occurrence that was met
      abbrev pub met : Occurrence
      met = record { target = r.target; source = r.source; rest = symbols_left words r }

      pub met-inside : Inside u met
      met-inside = h.inside met (rw m.passed (here refl))

      pub way_next : Way u words r (i + 1)
      way_next = record {
        goes = m.goes;
        count = omega (arith, h.count, ap length m.passed);
        inside = λ o i. h.inside o (rw m.passed (there i));
      }

      pub met_at : At u i r.source r.target
      met_at = record { place = omega (arith, h.count, ap length m.passed); from = met-inside.source; to = met-inside.target }
