-- A level: rounds up to the first whose sets equal those before it. The invariant is `Climbing`: `left` rounds more after `done`, from the sets
-- as they stand, end as the level does. And all levels, one after the other: `Running`. Assumes nothing.
use mathlib.Core.Path.{◌≡◌, refl, sym, ap, ap₂, ◌∙◌, subst}
use mathlib.Core.Bool.{Bool, true, false, true≢false}
use mathlib.Core.List.{List, [], ◌∷◌, ◌++◌, append_assoc, append-nil}
use Prim.Native.Nat.{ℕ, zero, suc, ◌+◌, ◌-◌, ◌≤◌, ◌<◌}
use native.Mathlib.Nat.{not-suc-le-zero}
use native.Mathlib.Numerals.{add-one}
use native.Mathlib.Omega.{arith}
use lib.ListN.{length, get_or, set, take, drop, replicate, length-set, length-replicate, get_or-replicate}
use lib.Seq.{length-take-le, take-suc-set, drop-set-lt, drop-drop}
use Rattle.k_tuple.specs.Strings.{Str, eps}
use Rattle.k_tuples.specs.States.{State, set_of, same_sets}
use Rattle.k_tuples.specs.Work.{Answer, refused, got, ◌>>=◌, Settling, settle}
use Rattle.k_tuples.proofs.Lists.{drop-replicate}
use Rattle.k_tuples.proofs.States.{set_of-replicate}
use Rattle.k_tuples.proofs.Blocks.{length-sets}
use Rattle.cfg.specs.Written.{productions_of}
use Rattle.cfg.specs.Marks.{no_marks}
use Rattle.std.specs.Prelude.{Result, Ok, Err}
use Rattle.refusals.specs.declared.Refusal.{Refusal}
use Rattle.refusals.specs.declared.Refusal.TheVariants.{NotSettled}
use Rattle.blocks.specs.Stores.{Turned, Raised}
use Rattle.blocks.proofs.Stores.{turned-store, turned-sets, turned-beyond}
use Rattle.blocks.proofs.Fronts.{front-start, front_same, front-then, front-all}
use Rattle.first_theory.specs.Compute.{Worked, round, level, levels, first}
use Rattle.first.specs.declared.Setup.{Setup}
use Rattle.first.specs.declared.round.Round.{Round}
use Rattle.first.specs.declared.round.Round.TheVariants.{Same, Changed}
use Rattle.first.specs.Steps.{result_sets, scratch_sets, old_sets, room, Ready, ReadyBelow, Free}
use Rattle.first.specs.Rounds.{grammar_in, InResult, round_told, RoundDone, Rounded}
use Rattle.first.specs.Due.{due_of, Known, Alike}
use Rattle.first.specs.Levels.{Moved, LevelEnds, Levelled, LevelsEnd, LevelsRun}
use Rattle.first.proofs.Known.{not-due, agree-below, new-same, round-new}

told_same : (b : Bool) → Same ≡ round_told b → b ≡ true
told_same true e = refl
told_same false e = let z : ◌≡◌ {A = ℕ} 0 1 = cc in absurd (omega arith)

told-changed : (b : Bool) → Changed ≡ round_told b → b ≡ false
told-changed true e = let z : ◌≡◌ {A = ℕ} 0 1 = cc in absurd (omega arith)
told-changed false e = refl

-- ---- what has changed

pub moved-start : {u : Setup} (at : ℕ) {k : ℕ} {result scratch : List ℕ} → Ready u k result scratch → Moved u at k result scratch result scratch
moved-start at r = record { in-result = front-start r.result-store; in-scratch = front-start r.scratch-store }

module _ {u : Setup} {at k : ℕ} {result scratch result' scratch' : List ℕ} (m : Moved u at k result scratch result' scratch') where
  -- from the buffers at any level
  pub moved_ready : {j : ℕ} → Ready u j result scratch → 1 ≤ k → k ≤ 10 → Ready u k result' scratch'
  moved_ready r some few = record {
    result-store = m.in-result.store;
    scratch-store = m.in-scratch.store;
    work = r.work;
    some = r.some;
    least = some;
    most = few;
    wide = r.wide;
    narrow = r.narrow;
    slots = r.slots;
  }

  pub moved_then : {j : ℕ} {result'' scratch'' : List ℕ} → Moved u at j result' scratch' result'' scratch'' → Moved u at j result scratch result'' scratch''
  moved_then t = record { in-result = front-then m.in-result t.in-result; in-scratch = front-then m.in-scratch t.in-scratch }

-- the numbers of all sets made anew at k
module _ {u : Setup} {k : ℕ} {result scratch result₁ scratch₁ : List ℕ} (r : ReadyBelow u k result scratch) (f : Raised k u.b u.rsets result result₁) (g : Raised k u.b u.ssets scratch scratch₁) where
  result-raised : Turned k u.w u.b u.rsets (result_sets u result) result result₁
  result-raised = f.step r.j u.w r.low r.ready.result-store

  scratch-raised : Turned k u.w u.b u.ssets (scratch_sets u scratch) scratch scratch₁
  scratch-raised = g.step r.j u.w r.low r.ready.scratch-store

  pub ready-raised : Ready u k result₁ scratch₁
  ready-raised = record {
    result-store = turned-store result-raised;
    scratch-store = turned-store scratch-raised;
    work = r.ready.work;
    some = r.ready.some;
    least = omega (arith, r.ready.least, r.low);
    most = r.high;
    wide = r.ready.wide;
    narrow = r.ready.narrow;
    slots = r.ready.slots;
  }

  moved-raised : (at : ℕ) → Moved u at k result scratch result₁ scratch₁
  moved-raised at = record { in-result = front_same result-raised; in-scratch = front_same scratch-raised }

  -- and the rounds after them
  pub level-raised : {at : ℕ} {result₂ scratch₂ : List ℕ} {e : Result ℕ Refusal} (words : List ℕ)
      → Levelled u at k (level (room u) (grammar_in u words) k (old_sets u result₁)) e result₁ scratch₁ result₂ scratch₂
      → Levelled u at k (level (room u) (grammar_in u words) k (old_sets u result)) e result scratch result₂ scratch₂
  level-raised {at} {result₂} {scratch₂} {e} words m =
      let same : old_sets u result₁ ≡ old_sets u result = ap (take u.n) (turned-sets result-raised) in
      let answer : State → Answer Settling = λ F. level (room u) (grammar_in u words) k F in
      record {
        ends = by e (subst (λ (F : State). LevelEnds u at k (answer F) e result₁ scratch₁ result₂ scratch₂) same m.ends);
        result-beyond = m.result-beyond ∙ turned-beyond result-raised;
        scratch-beyond = m.scratch-beyond ∙ turned-beyond scratch-raised;
      }
    where
      by : (e : Result ℕ Refusal) → LevelEnds u at k (level (room u) (grammar_in u words) k (old_sets u result)) e result₁ scratch₁ result₂ scratch₂
          → LevelEnds u at k (level (room u) (grammar_in u words) k (old_sets u result)) e result scratch result₂ scratch₂
      by (Ok n) h = (h.0, moved_then (moved-raised at) h.1)
      by (Err n) h = h

-- ---- what is due

-- a level begins with all
pub known_start : {u : Setup} (k : ℕ) (words : List ℕ) (result scratch : List ℕ) → u.n ≤ 128 → Known u k words (replicate 128 true) result scratch
known_start k words result scratch few =
    let all : (A : ℕ) → A < 128 → get_or (replicate 128 true) A false ≡ false → ⊥ = λ A h e. true≢false (sym (get_or-replicate 128 A true false h) ∙ e) in
    record { again = λ A h e. absurd (all A (omega arith) e); stands = λ A h e. absurd (all A (omega arith) e) }

-- after a round, what it did not touch
module _ {u : Setup} {at k : ℕ} (words : List ℕ) {result scratch result' scratch' : List ℕ} {r : Round} {same : List Bool} (few : u.n ≤ 128) (free : Free u at) (alike : Alike u same result result')
    (d : RoundDone u at k (round (room u) (grammar_in u words) k (old_sets u result)) r result scratch result' scratch') where
  old-long : (ws : List ℕ) → length (old_sets u ws) ≡ u.n
  old-long ws = length-take-le u.n (result_sets u ws) (omega (arith, length-sets u.b u.rsets ws, free.after, free.within))

  pub known_next : Known u k words (due_of same (productions_of u.p words)) result' scratch'
  unfolding round
  known_next = record {
    again = λ A h e.
        let ps = productions_of u.p words in
        let untouched = (not-due same A ps no_marks (omega (arith, length-replicate 128 false)) e).1 in
        let agree = agree-below same u.n (old_sets u result') (old_sets u result) (old-long result') (old-long result) alike.kept in
        let given = round-new (room u) k (old_sets u result) A ps (replicate u.n []) d.new (omega (arith, length-replicate {A = List Str} u.n [])) d.made in
        new-same (room u) k same (old_sets u result') (old_sets u result) agree A ps [] untouched ∙ rw d.in-result.front (rw (set_of-replicate u.n A) at given);
    stands = λ A h e. ap (λ (F : State). set_of F A) (d.in-scratch.front ∙ sym d.in-result.front);
  }

-- ---- the rounds of a level

-- `left` rounds more, after `done`, from the sets X
abbrev pub level_from : Setup → ℕ → List ℕ → ℕ → ℕ → State → Answer Settling
level_from u k words left done X = settle (round (room u) (grammar_in u words) k) 12 left done X

-- after a round that gave Y: the level has settled, or goes on
abbrev after : Setup → ℕ → List ℕ → ℕ → ℕ → State → Bool → Answer Settling
after u k words left done Y same = elim same [ true ↦ got (record { sets = Y; rounds = suc done }) | false ↦ level_from u k words left (suc done) Y ]

-- so many rounds are done, of n + 1
pub record Climbing (u : Setup) (at k : ℕ) (words result₀ scratch₀ : List ℕ) (done : ℕ) (result scratch : List ℕ) : Type 0 where
  pub moved : Moved u at k result₀ scratch₀ result scratch
  pub to-come : level_from u k words (u.n + 1 - done) done (old_sets u result) ≡ level (room u) (grammar_in u words) k (old_sets u result₀)

pub climb-start : {u : Setup} (at : ℕ) {k : ℕ} (words : List ℕ) {result₀ scratch₀ : List ℕ} → Ready u k result₀ scratch₀ → Climbing u at k words result₀ scratch₀ 0 result₀ scratch₀
unfolding level
climb-start {u} at words r = let all : u.n + 1 - 0 ≡ suc u.n = omega arith in record { moved = moved-start at r; to-come = rw all }

module _ {u : Setup} {at k : ℕ} {words result₀ scratch₀ : List ℕ} {done : ℕ} {result scratch : List ℕ} (climb : Climbing u at k words result₀ scratch₀ done result scratch) where
  -- no round more
  pub climb-late : u.n + 1 ≤ done → Levelled u at k (level (room u) (grammar_in u words) k (old_sets u result₀)) (Err NotSettled) result₀ scratch₀ result scratch
  unfolding settle
  climb-late h =
      let none : u.n + 1 - done ≡ 0 = omega arith in
      record {
        ends = sym climb.to-come ∙ rw none;
        result-beyond = climb.moved.in-result.beyond;
        scratch-beyond = climb.moved.in-scratch.beyond;
      }

  -- one round more
  module _ (some : done < u.n + 1) where
    abbrev left : ℕ
    left = u.n - done

    next : level (room u) (grammar_in u words) k (old_sets u result₀)
        ≡ (round (room u) (grammar_in u words) k (old_sets u result) >>= λ Y. after u k words left done Y (same_sets Y (old_sets u result)))
    unfolding settle
    next =
        let one : u.n + 1 - done ≡ suc left = omega arith in
        sym climb.to-come ∙ ap (λ (l : ℕ). level_from u k words l done (old_sets u result)) one

    pub climb-over : {e : Refusal} {result' scratch' : List ℕ} → Rounded u at k (round (room u) (grammar_in u words) k (old_sets u result)) (Err e) result scratch result' scratch'
        → Levelled u at k (level (room u) (grammar_in u words) k (old_sets u result₀)) (Err e) result₀ scratch₀ result' scratch'
    climb-over m =
        record {
          ends = next ∙ rw (m.ends.0, m.ends.1);
          result-beyond = m.result-beyond ∙ climb.moved.in-result.beyond;
          scratch-beyond = m.scratch-beyond ∙ climb.moved.in-scratch.beyond;
        }

    module _ {t : Round} {result' scratch' : List ℕ} (m : Rounded u at k (round (room u) (grammar_in u words) k (old_sets u result)) (Ok t) result scratch result' scratch') where
      abbrev d : RoundDone u at k (round (room u) (grammar_in u words) k (old_sets u result)) t result scratch result' scratch'
      d = m.ends

      step-moved : Moved u at k result₀ scratch₀ result' scratch'
      step-moved = moved_then climb.moved (record { in-result = rw d.in-result.front d.in-result; in-scratch = rw d.in-scratch.front d.in-scratch })

      told : (same : Bool) → same_sets d.new (old_sets u result) ≡ same → level (room u) (grammar_in u words) k (old_sets u result₀) ≡ after u k words left done (old_sets u result') same
      told same e =
          next ∙ ap (λ (a : Answer State). a >>= λ Y. after u k words left done Y (same_sets Y (old_sets u result))) d.made
          ∙ ap₂ (after u k words left done) (sym d.in-result.front) e

      pub climb-settled : t ≡ Same → Levelled u at k (level (room u) (grammar_in u words) k (old_sets u result₀)) (Ok (done + 1)) result₀ scratch₀ result' scratch'
      climb-settled e =
          record {
            ends = (told true (told_same _ (sym e ∙ d.told)) ∙ rw add-one, step-moved);
            result-beyond = step-moved.in-result.beyond;
            scratch-beyond = step-moved.in-scratch.beyond;
          }

      pub climb-known : {same : List Bool} → u.n ≤ 128 → Free u at → Alike u same result result' → Known u k words (due_of same (productions_of u.p words)) result' scratch'
      climb-known few free alike = known_next words few free alike d

      pub climb-more : t ≡ Changed → Climbing u at k words result₀ scratch₀ (done + 1) result' scratch'
      climb-more e =
          record {
            moved = step-moved;
            to-come = let less : u.n + 1 - (done + 1) ≡ left = omega arith in rw (less, add-one) (sym (told false (told-changed _ (sym e ∙ d.told))));
          }

-- ---- all levels

-- behind the rounds of some levels: those of an answer
abbrev behind : List ℕ → Answer Worked → Answer Worked
behind rs m = m >>= λ w. got (record { sets = w.sets; rounds = rs ++ w.rounds })

behind-one : (rs : List ℕ) (r : ℕ) (m : Answer Worked)
    → behind rs (m >>= λ w. got (record { sets = w.sets; rounds = r ∷ w.rounds })) ≡ behind (rs ++ (r ∷ [])) m
behind-one rs r (refused e) = refl
behind-one rs r (got w) = ap (λ (l : List ℕ). got (record { sets = w.sets; rounds = l })) (sym (append_assoc rs (r ∷ []) w.rounds))

behind-none : (m : Answer Worked) → m ≡ behind [] m
behind-none (refused e) = refl
behind-none (got w) = refl

-- the k at which the buffers hold sets after i levels
abbrev pub reached : ℕ → ℕ
reached zero = 1
reached (suc i) = suc i

reached-some : (k : ℕ) → 1 ≤ k → reached k ≡ k
reached-some zero h = absurd (not-suc-le-zero h)
reached-some (suc k) h = refl

pub reached-least : (i : ℕ) → 1 ≤ reached i
reached-least zero = omega arith
reached-least (suc i) = omega arith

pub reached-most : (i : ℕ) → reached i ≤ suc i
reached-most zero = omega arith
reached-most (suc i) = omega arith

abbrev levels_from : Setup → List ℕ → ℕ → ℕ → State → Answer Worked
levels_from u words left i X = levels (room u) (grammar_in u words) left i X

-- what the levels from number i + 1 on give, behind the rounds of those before them
abbrev level_then : Setup → List ℕ → ℕ → ℕ → List ℕ → Answer Settling → Answer Worked
level_then u words left i rs m = behind rs (m >>= λ here. levels_from u words left i here.sets >>= λ w. got (record { sets = w.sets; rounds = here.rounds ∷ w.rounds }))

-- i levels have settled
pub record Running (u : Setup) (at k : ℕ) (words result₀ scratch₀ : List ℕ) (i : ℕ) (rounds : List ℕ) (result scratch : List ℕ) : Type 0 where
  pub within : i ≤ k
  pub long : length rounds ≡ 10
  pub unused : drop i rounds ≡ replicate (10 - i) 0
  pub moved : Moved u at (reached i) result₀ scratch₀ result scratch
  pub to-come : levels_from u words k 0 (old_sets u result₀) ≡ behind (take i rounds) (levels_from u words (k - i) i (old_sets u result))

pub run-start : {u : Setup} (at k : ℕ) (words : List ℕ) {result₀ scratch₀ : List ℕ} → Ready u 1 result₀ scratch₀ → Running u at k words result₀ scratch₀ 0 (replicate 10 0) result₀ scratch₀
run-start {u} at k words {result₀} ready =
    let all : k - 0 ≡ k = omega arith in
    record {
      within = omega arith;
      long = refl;
      unused = refl;
      moved = moved-start at ready;
      to-come = behind-none (levels_from u words k 0 (old_sets u result₀)) ∙ rw all;
    }

module _ {u : Setup} {at k : ℕ} {words result₀ scratch₀ : List ℕ} {i : ℕ} {rounds : List ℕ} {result scratch : List ℕ} (run : Running u at k words result₀ scratch₀ i rounds result scratch) where
  -- ready for the next level
  pub run-ready : Ready u 1 result₀ scratch₀ → (order : ℕ) → order ≡ suc i → order ≤ 10 → ReadyBelow u order result scratch
  run-ready ready order same few =
      let most = reached-most i in
      record { j = reached i; low = omega (arith, most); high = few; ready = moved_ready run.moved ready (reached-least i) (omega (arith, most)) }

  -- no level more
  pub run_end : 1 ≤ k → k ≤ i → LevelsRun u at k (levels_from u words k 0 (old_sets u result₀)) (Ok rounds) result₀ scratch₀ result scratch
  unfolding levels
  run_end some h =
      let none : k - i ≡ 0 = omega arith in
      let all : i ≡ k = omega (arith, run.within) in
      record {
        ends = record {
          made = run.to-come ∙ rw none (rw all (ap (λ (l : List ℕ). got (record { sets = old_sets u result; rounds = l })) (append-nil (take k rounds))));
          unused = rw (← all) run.unused;
          moved = subst (λ (j : ℕ). Moved u at j result₀ scratch₀ result scratch) (ap reached all ∙ reached-some k some) run.moved;
        };
        result-beyond = run.moved.in-result.beyond;
        scratch-beyond = run.moved.in-scratch.beyond;
      }

  -- one level more
  module _ (more : i < k) (order : ℕ) (same : order ≡ suc i) where
    level-next : levels_from u words k 0 (old_sets u result₀) ≡ level_then u words (k - (i + 1)) (suc i) (take i rounds) (level (room u) (grammar_in u words) order (old_sets u result))
    unfolding levels
    level-next =
        let one : k - i ≡ suc (k - (i + 1)) = omega arith in
        run.to-come ∙ ap (λ (left : ℕ). behind (take i rounds) (levels_from u words left i (old_sets u result))) one
        ∙ ap (λ (q : ℕ). level_then u words (k - (i + 1)) (suc i) (take i rounds) (level (room u) (grammar_in u words) q (old_sets u result))) (sym same)

    pub run-refused : {e : Refusal} {result' scratch' : List ℕ} → Levelled u at order (level (room u) (grammar_in u words) order (old_sets u result)) (Err e) result scratch result' scratch'
        → LevelsRun u at k (levels_from u words k 0 (old_sets u result₀)) (Err e) result₀ scratch₀ result' scratch'
    run-refused m =
        record {
          ends = level-next ∙ rw m.ends;
          result-beyond = m.result-beyond ∙ run.moved.in-result.beyond;
          scratch-beyond = m.scratch-beyond ∙ run.moved.in-scratch.beyond;
        }

    pub run_more : {n : ℕ} {result' scratch' : List ℕ} → Levelled u at order (level (room u) (grammar_in u words) order (old_sets u result)) (Ok n) result scratch result' scratch' → k ≤ 10 → Running u at k words result₀ scratch₀ (i + 1) (set rounds i n) result' scratch'
    run_more {n} {result'} {scratch'} m few =
        let ends = m.ends in
        let rest = levels_from u words (k - (i + 1)) (suc i) (old_sets u result') in
        let less : 10 - i - 1 ≡ 10 - (i + 1) = omega arith in
        let here : i < length rounds = omega (arith, run.long) in
        let at-number : order ≡ reached (i + 1) = same ∙ sym (ap reached (add-one i)) in
        record {
          within = omega arith;
          long = length-set rounds i n ∙ run.long;
          unused = drop-set-lt (i + 1) rounds i n (omega arith) ∙ sym (drop-drop 1 i rounds) ∙ ap (drop 1) run.unused ∙ drop-replicate 1 (10 - i) 0 ∙ ap (λ (m : ℕ). replicate m 0) less;
          moved = moved_then run.moved (subst (λ (j : ℕ). Moved u at j result scratch result' scratch') at-number ends.1);
          to-come =
              level-next ∙ ap (level_then u words (k - (i + 1)) (suc i) (take i rounds)) ends.0
              ∙ behind-one (take i rounds) n rest ∙ ap (λ (l : List ℕ). behind l rest) (sym (take-suc-set rounds i n here)) ∙ rw add-one;
        }

-- ---- from {ε} for each nonterminal

module _ {u : Setup} {result scratch result₁ : List ℕ} (at : ℕ) (ready : Ready u 1 result scratch)
    (started : Turned 1 u.w u.b u.rsets (replicate u.n (eps ∷ []) ++ drop u.n (result_sets u result)) result result₁) where
  begun : InResult u at 1 (replicate u.n (eps ∷ [])) result result₁
  begun = front-all u.n at (replicate u.n (eps ∷ [])) (length-replicate u.n (eps ∷ [])) started

  begin-moved : Moved u at 1 result scratch result₁ scratch
  begin-moved = record { in-result = rw begun.front begun; in-scratch = front-start ready.scratch-store }

  pub begin-ready : Ready u 1 result₁ scratch
  begin-ready = moved_ready begin-moved ready ready.least ready.most

  pub begin-run : (k : ℕ) (words : List ℕ) {r : Result (List ℕ) Refusal} {result' scratch' : List ℕ}
      → LevelsRun u at k (levels_from u words k 0 (old_sets u result₁)) r result₁ scratch result' scratch'
      → LevelsRun u at k (first (room u) (grammar_in u words) k) r result scratch result' scratch'
  unfolding first
  begin-run k words {r} {result'} {scratch'} run =
      let from : first (room u) (grammar_in u words) k ≡ levels_from u words k 0 (old_sets u result₁) = ap (levels_from u words k 0) (sym begun.front) in
      record {
        ends = by from r run.ends;
        result-beyond = run.result-beyond ∙ begun.beyond;
        scratch-beyond = run.scratch-beyond;
      }
    where
      by : first (room u) (grammar_in u words) k ≡ levels_from u words k 0 (old_sets u result₁) → (r : Result (List ℕ) Refusal)
          → LevelsEnd u at k (levels_from u words k 0 (old_sets u result₁)) r result₁ scratch result' scratch' → LevelsEnd u at k (first (room u) (grammar_in u words) k) r result scratch result' scratch'
      by from (Ok rounds) d = record { made = from ∙ d.made; unused = d.unused; moved = moved_then begin-moved d.moved }
      by from (Err e) h = from ∙ h
