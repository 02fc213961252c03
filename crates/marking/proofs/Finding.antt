-- Level by level: what is known once all levels below k were looked through. Assumes nothing.
use Prim.Native.Nat.{ℕ, ◌+◌, ◌*◌, ◌/◌, ◌≤◌, ◌<◌}
use native.Mathlib.Omega.{arith}
use native.Mathlib.Decide.{dec_lt}
use mathlib.Core.Path.{◌≡◌, refl, sym, ◌∙◌, subst}
use mathlib.Core.Logic.{⊎_elim}
use mathlib.Core.List.{List}
use lib.ListN.{length}
use Rattle.std.specs.Prelude.{None}
use Rattle.cfg.specs.Grammar.{Grammar}
use Rattle.k_tuple.specs.Strings.{width_of}
use Rattle.k_tuples.specs.Sets.{◌∈◌}
use Rattle.decision.specs.declared.Links.{Links}
use Rattle.decision.specs.declared.Layout.{Layout}
use Rattle.decision.specs.Steps.{grammar_of, Given, Beyond}
use Rattle.decision.specs.Onward.{Known, KJoined}
use Rattle.decision_theory.specs.Marking.{Row, Wanted, row_at, Bad}
use Rattle.marking.specs.Lines.{level_of, end_of}
use Rattle.marking.specs.Rows.{rows_in}
use Rattle.marking.specs.Levels.{Stands, LevelDone, AtLevel, Before, MadeStand, Turn, Finding, AllFound}
use Rattle.marking.specs.declared.Found.{Found}
use Rattle.marking.proofs.Standing.{zero-stands, level-stands}

-- ---- one level is made to stand

module _ {limit c : ℕ} {table : List ℕ} {u : Layout} {links : Links} {κ : List ℕ} {R S : ℕ} (given : Given limit c table u links R S) (known : Known limit c (grammar_of table) κ) where
  pub zero-made : {k : ℕ} {result scratch : List ℕ} → Before (grammar_of table) u k result → k ≡ 0 → MadeStand c (grammar_of table) u k links κ result scratch result scratch
  zero-made {k} {result} b e = record {
    stands = subst (λ (j : ℕ). Stands (grammar_of table) (width_of ((grammar_of table).t + 5)) j u links κ result) (sym e) (zero-stands given known result (b.zero e));
    beyond = record { result-beyond = refl; scratch-beyond = refl };
  }

  pub level-made : {k : ℕ} {result scratch result' scratch' : List ℕ} → Before (grammar_of table) u k result → 1 ≤ k → KJoined limit c k (grammar_of table) u κ result scratch result' scratch'
      → MadeStand c (grammar_of table) u k links κ result scratch result' scratch'
  level-made b h j =
      let s = j.stored b.at b.store in
      record { stands = level-stands given known h s.1 j.each; beyond = j.beyond }

-- and looked through
pub turn-done : {c : ℕ} {g : Grammar} {u : Layout} {k : ℕ} {links : Links} {κ ws : List ℕ} {f r : Found} {result scratch result' scratch' : List ℕ} → MadeStand c g u k links κ result scratch result' scratch'
    → AtLevel k u links κ result' ws f r → Turn c g u k κ ws f r result scratch result' scratch'
turn-done {g = g} m l = record {
  done = l g (width_of (g.t + 5)) m.stands;
  before = record { at = m.stands.at; store = m.stands.store; zero = λ e. absurd (omega arith) };
  beyond = m.beyond;
}

-- ---- all levels

module _ {g : Grammar} {w n : ℕ} {κ ws : List ℕ} where
  pub find-start : Finding g w 0 n κ ws (record { bad = length ws / 4; missed = None })
  find-start = record {
    below = omega arith;
    fine = λ t h l. absurd (omega arith);
    bad = λ h. absurd (omega arith);
    few = omega arith;
    whole = λ e s q l. absurd (omega arith);
    told = λ e m q. absurd (cc);
  }

  pub find-more : {k : ℕ} {f r : Found} → Finding g w k n κ ws f → LevelDone g w k n κ ws f r → Finding g w (k + 1) n κ ws r
  find-more {k} {f} {r} s d = record {
    below = let a = d.checked.below in let b = s.below in omega arith;
    fine = λ t h l. fine t h l (dec_lt (level_of n κ (row_at (rows_in w ws) t).nonterminal) k);
    bad = λ h. bad h (dec_lt r.bad f.bad);
    few = d.few;
    whole = λ e x q l h. whole e x q l h (dec_lt (level_of n κ x.nonterminal) k);
    told = λ e x q. ⊎_elim (λ z. s.told (full e) x z) (λ z. z) ((d.missed e).told x q);
  }
    where
      full : 4 * r.bad ≡ length ws → 4 * f.bad ≡ length ws
      full e = let a = d.checked.below in let b = s.below in omega arith

      fine : (t : ℕ) → t < r.bad → level_of n κ (row_at (rows_in w ws) t).nonterminal < k + 1 → Dec (level_of n κ (row_at (rows_in w ws) t).nonterminal < k) → ¬ Bad g (rows_in w ws) t
      fine t h l (yes m) = s.fine t (let a = d.checked.below in omega arith) m
      fine t h l (no m) = d.checked.fine t h (omega arith)

      bad : r.bad < length ws / 4 → Dec (r.bad < f.bad) → Bad g (rows_in w ws) r.bad
      bad h (yes m) = d.checked.bad m
      bad h (no m) = let z : f.bad ≡ r.bad = let a = d.checked.below in omega arith in subst (Bad g (rows_in w ws)) z (s.bad (omega arith))

      under : 4 * r.bad ≡ length ws → end_of n r.missed ≤ end_of n f.missed
      under e = (d.missed e).under

      whole : 4 * r.bad ≡ length ws → (x : Row) → Wanted g x → level_of n κ x.nonterminal < k + 1 → x.nonterminal < end_of n r.missed → Dec (level_of n κ x.nonterminal < k) → x ∈ rows_in w ws
      whole e x q l h (yes m) = s.whole (full e) x q m (let a = under e in omega arith)
      whole e x q l h (no m) = (d.missed e).whole x q (omega arith) h

-- the loop over the levels
pub record Going (c : ℕ) (g : Grammar) (u : Layout) (κ ws : List ℕ) (k : ℕ) (f : Found) (result₀ scratch₀ result scratch : List ℕ) : Type 0 where
  pub few : k ≤ 11
  pub found : Finding g (width_of (g.t + 5)) k u.n κ ws f
  pub before : Before g u k result
  pub beyond : Beyond c g result₀ scratch₀ result scratch
  pub long : (length result ≡ length result₀) × (length scratch ≡ length scratch₀)

pub going_start : {c : ℕ} {g : Grammar} {u : Layout} {κ ws result scratch : List ℕ} → Before g u 0 result
    → Going c g u κ ws 0 (record { bad = length ws / 4; missed = None }) result scratch result scratch
going_start b = record { few = omega arith; found = find-start; before = b; beyond = record { result-beyond = refl; scratch-beyond = refl }; long = (refl, refl) }

pub going_more : {c k : ℕ} {g : Grammar} {u : Layout} {κ ws : List ℕ} {f r : Found} {result₀ scratch₀ result scratch result' scratch' : List ℕ}
    → Going c g u κ ws k f result₀ scratch₀ result scratch → k < 11 → Turn c g u k κ ws f r result scratch result' scratch' → length result' ≡ length result → length scratch' ≡ length scratch
    → Going c g u κ ws (k + 1) r result₀ scratch₀ result' scratch'
going_more s h t l m = record {
  few = omega arith;
  found = find-more s.found t.done;
  before = t.before;
  beyond = record { result-beyond = t.beyond.result-beyond ∙ s.beyond.result-beyond; scratch-beyond = t.beyond.scratch-beyond ∙ s.beyond.scratch-beyond };
  long = (l ∙ s.long.0, m ∙ s.long.1);
}

pub going_end : {c k : ℕ} {g : Grammar} {u : Layout} {κ ws : List ℕ} {f : Found} {result₀ scratch₀ result scratch : List ℕ} → Going c g u κ ws k f result₀ scratch₀ result scratch → 11 ≤ k
    → AllFound c g u κ ws f result₀ scratch₀ result scratch
going_end {g = g} {u = u} {κ = κ} {ws = ws} {f = f} s h =
    record { found = subst (λ (j : ℕ). Finding g (width_of (g.t + 5)) j u.n κ ws f) (let a = s.few in omega arith) s.found; beyond = s.beyond }

-- the buffers are as long as they came
pub going-given : {limit c k : ℕ} {table : List ℕ} {u : Layout} {links : Links} {κ ws : List ℕ} {f : Found} {result₀ scratch₀ result scratch : List ℕ} → Given limit c table u links (length result₀) (length scratch₀)
    → Going c (grammar_of table) u κ ws k f result₀ scratch₀ result scratch → Given limit c table u links (length result) (length scratch)
going-given {limit} {c} {table = table} {u = u} {links = links} {scratch₀ = scratch₀} {result = result} g s =
    subst (λ (m : ℕ). Given limit c table u links (length result) m) (sym s.long.1) (subst (λ (m : ℕ). Given limit c table u links m (length scratch₀)) (sym s.long.0) g)
