-- The work from the start: buffers of zeros are ready for FIRST, and what is worked out then is the analysis. Assumes nothing.
use Prim.Native.Nat.{ℕ, zero, suc, ◌+◌, ◌*◌, ◌-◌, ◌/◌, ◌≤◌, ◌<◌}
use native.Mathlib.Nat.{min-eq_left}
use native.Mathlib.Omega.{arith}
use mathlib.Core.Path.{◌≡◌, refl, sym, ap, ◌∙◌, subst}
use mathlib.Core.List.{List, [], ◌∷◌, ◌++◌}
use lib.ListN.{length, take, drop, replicate, take-append-drop}
use Rattle.std.specs.Prelude.{Result, Ok, Err}
use Rattle.refusals.specs.Numbers.{number}
use Rattle.refusals.specs.declared.Refusal.{Refusal}
use Rattle.cfg.specs.Written.{productions_of, occurrences}
use Rattle.cfg.proofs.Sizes.{length-productions}
use Rattle.k_tuple.specs.Strings.{places, width_of}
use Rattle.k_tuple.proofs.Binary.{width-holds, width-le, width-pos}
use Rattle.k_tuples.specs.States.{State}
use Rattle.k_tuples.specs.Words.{room_of}
use Rattle.k_tuples.specs.Work.{Answer, got, refused, ◌>>=◌, Settling}
use Rattle.k_tuples.specs.Blocks.{store}
use Rattle.k_tuples.proofs.Work.{got-inj, not-got}
use Rattle.first_theory.specs.Compute.{first, production_sets}
use Rattle.follow_theory.specs.Follow.{occurrences_of, follow, position_sets}
use Rattle.analysis.specs.Analysis.{Analysis, work, result_needs, scratch_needs}
use Rattle.analysis.proofs.Counts.{occurrences-count}
use Rattle.analysis.proofs.Kept.{answers-right}
use Rattle.first.specs.declared.Setup.{Setup}
use Rattle.first.specs.Steps.{old_sets, room, Free}
use Rattle.first.specs.Steps as Steps
use Rattle.first.specs.Rounds.{Rules}
use Rattle.first.specs.Rounds as Rounds
use Rattle.first.specs.Levels.{LevelsRun}
use Rattle.first.proofs.Walk.{zeros-ready}
use Rattle.first.proofs.Levels.{moved_ready}
use Rattle.cfg.specs.declared.table.Shape.{Shape}
use Rattle.engine.specs.Call.{Record, record_of, answer_of, sets_of, wiped}
use Rattle.engine.specs.Steps.{grammar_in, Ready, Clean, Ran}
use Rattle.engine.specs.Runs.{setup_of, finished, Begun, Rest, rest_of, rest_for, RestRan}
use Rattle.engine.proofs.Needed.{productions-few}
use Rattle.engine.proofs.Running.{refused_record}

pub room-is : (c : ℕ) → c < 4294967296 → room_of (2 * c + 1) ≡ c
unfolding room_of
room-is c h = let e : (2 * c + 1 - 1) / 2 ≡ c = omega arith in rw e (min-eq_left (omega arith))

pub places-padded : (n : ℕ) (xs : List ℕ) → length xs ≤ n → places n xs ≡ xs ++ replicate (n - length xs) 0
places-padded zero [] h = refl
places-padded zero (x ∷ xs) h = absurd (omega arith)
places-padded (suc n) [] h = let e : suc n - 0 ≡ suc n = omega arith in ap (λ (l : List ℕ). 0 ∷ l) (places-padded n [] (omega arith)) ∙ rw e (let f : n - 0 ≡ n = omega arith in rw f)
places-padded (suc n) (x ∷ xs) h = let e : suc n - suc (length xs) ≡ n - length xs = omega arith in rw e (ap (λ (l : List ℕ). x ∷ l) (places-padded n xs (omega arith)))

module _ {k c : ℕ} {s : Shape} {words : List ℕ} (ready : Ready k c s words) {q : ℕ} (eq : q ≡ occurrences (productions_of s.p words)) where
  occurrences-are : length (occurrences_of (productions_of s.p words)) ≡ q
  occurrences-are = occurrences-count (productions_of s.p words) ∙ sym eq

  -- as many words as are needed
  result-size : (2 * s.n + s.p + q) * (2 * c + 1) ≡ result_needs c (grammar_in s words)
  result-size = rw (length-productions s.p words, occurrences-are)

  pub few-n : s.n ≤ 128
  few-n = ready.sizes.nonterminals

  pub few-t : s.t ≤ 4089
  few-t = ready.read.terminals

  pub few-q : q ≤ 4096
  few-q = rw eq ready.sizes.positions

  module _ {result scratch : List ℕ} (clean : Clean c (grammar_in s words) result scratch) where
    pub first-ready : {u : Setup} → u ≡ setup_of c s q → Steps.Ready u 1 result scratch
    first-ready e =
        let U = setup_of c s q in
        let N = result_needs c (grammar_in s words) in
        let M = scratch_needs c (grammar_in s words) in
        let wide = width-holds (s.t + 5) (omega (arith, few-t)) in
        let is = zeros-ready U 1 (drop N result) (drop M scratch) (omega arith) (omega (arith, ready.c>0)) (omega arith, omega arith) (width-pos (s.t + 5), width-le (s.t + 5) (omega (arith, few-t))) (omega arith) in
        rw (e, clean.result-clean, clean.scratch-clean) (subst (λ (m : ℕ). Steps.Ready U 1 (replicate m 0 ++ drop N result) (wiped M scratch)) result-size is)

    pub first-free : {u : Setup} → u ≡ setup_of c s q → Free u (u.n + u.p)
    first-free e = rw e (record { after = omega arith; within = omega (arith, ready.sizes.some) })

    pub first-rules : {u : Setup} → u ≡ setup_of c s q → Rules u words
    first-rules e = rw e (record { few = few-n; short = productions-few ready; sound = ready.sound; ranged = ready.read.ranged })

    -- ---- behind the levels

    module _ {at : ℕ} {result₁ scratch₁ : List ℕ} where
      refused-there : {e : Refusal} → LevelsRun (setup_of c s q) at k (first c (grammar_in s words) k) (Err e) result scratch result₁ scratch₁
          → Ran k c (grammar_in s words) result scratch (record_of (Err e)) result₁ scratch₁
      unfolding work
      refused-there {e} run =
          record {
            answer = refused_record e ∙ rw run.ends;
            sets = λ x w. let no : ◌≡◌ {A = Answer Analysis} (refused (number e)) (got x) = rw run.ends at w in not-got no;
            result-beyond = subst (λ (m : ℕ). drop m result₁ ≡ drop m result) result-size run.result-beyond;
            scratch-beyond = run.scratch-beyond;
          }

      module _ {rounds : List ℕ} (run : LevelsRun (setup_of c s q) at k (first c (grammar_in s words) k) (Ok rounds) result scratch result₁ scratch₁) where
        past : drop (result_needs c (grammar_in s words)) result₁ ≡ drop (result_needs c (grammar_in s words)) result
        past = subst (λ (m : ℕ). drop m result₁ ≡ drop m result) result-size run.result-beyond

        begun-there : Begun (setup_of c s q) k words result₁ scratch₁
        begun-there = record {
          ready = moved_ready run.ends.moved (first-ready refl) ready.k>0 ready.k<11;
          rules = first-rules refl;
          sets = omega (arith, occurrences-are);
        }

        X : State
        X = old_sets (setup_of c s q) result₁

        -- the analysis, from what is worked out behind FIRST
        whole : Rest → Analysis
        whole x = record {
          n = s.n;
          p = length (productions_of s.p words);
          q = length (occurrences_of (productions_of s.p words));
          width = width_of (s.t + 5);
          rounds = take k rounds;
          follow_rounds = x.follow_rounds;
          nonterminals = X;
          productions = x.productions;
          follows = x.follows;
          positions = x.positions;
        }

        work-is : work k c (grammar_in s words) ≡ (rest_of c k (grammar_in s words) X >>= λ x. got (whole x))
        unfolding work rest_of whole X
        work-is = rw run.ends.made (assoc (production_sets c k X (productions_of s.p words)) (follow c k (grammar_in s words) X) (λ F. position_sets c k X (occurrences_of (productions_of s.p words)) F))
          where
            assoc : (P : Answer State) (F : Answer Settling) (Q : State → Answer State)
                → (P >>= λ p. F >>= λ f. Q f.sets >>= λ z. got (whole (record { productions = p; follows = f.sets; follow_rounds = f.rounds; positions = z })))
                ≡ ((P >>= λ p. F >>= λ f. Q f.sets >>= λ z. got (record { productions = p; follows = f.sets; follow_rounds = f.rounds; positions = z })) >>= λ x. got (whole x))
            assoc (refused e) F Q = refl
            assoc (got p) (refused e) Q = refl
            assoc (got p) (got f) Q = by (Q f.sets)
              where
                by : (m : Answer State) → (m >>= λ z. got (whole (record { productions = p; follows = f.sets; follow_rounds = f.rounds; positions = z })))
                    ≡ ((m >>= λ z. got (record { productions = p; follows = f.sets; follow_rounds = f.rounds; positions = z })) >>= λ x. got (whole x))
                by (refused e) = refl
                by (got z) = refl

        -- the rounds are those of the levels that were run, and then zeros
        rounds-are : (x : Rest) → work k c (grammar_in s words) ≡ got (whole x) → places 10 (take k rounds) ≡ rounds
        unfolding whole
        rounds-are x w =
            let few : length (take k rounds) ≡ k = (answers-right (grammar_in s words) k c ready.accepted ready.k>0 ready.c>0 (whole x) w).level-rounds.one_each in
            places-padded 10 (take k rounds) (omega (arith, ready.k<11))
            ∙ ap (λ (m : ℕ). take k rounds ++ replicate (10 - m) 0) few
            ∙ ap (λ (zs : List ℕ). take k rounds ++ zs) (sym run.ends.unused)
            ∙ take-append-drop k rounds

        told-whole : (x : Rest) → work k c (grammar_in s words) ≡ got (whole x) → finished (setup_of c s q) q rounds x.follow_rounds ≡ answer_of (got (whole x))
        unfolding answer_of whole
        told-whole x w = rw (rounds-are x w, length-productions s.p words, occurrences-are)

        module _ {r : Record} {result₂ scratch₂ : List ℕ} (rest : RestRan (setup_of c s q) k q rounds words result₁ scratch₁ r result₂ scratch₂) where
          rest-room : rest_for (setup_of c s q) k words result₁ ≡ rest_of c k (grammar_in s words) X
          unfolding X
          rest-room = ap (λ (d : ℕ). rest_of d k (grammar_in s words) (old_sets (setup_of c s q) result₁)) (room-is c (omega (arith, ready.c<1025)))

          held : (x : Rest) → rest_for (setup_of c s q) k words result₁ ≡ got x
              → result₂ ≡ store k (2 * c + 1) (whole x).width (sets_of (whole x)) (drop (result_needs c (grammar_in s words)) result)
          unfolding sets_of whole X
          held x f =
              rest.sets x f
              ∙ ap (store k (2 * c + 1) (width_of (s.t + 5)) (old_sets (setup_of c s q) result₁ ++ (x.productions ++ (x.follows ++ x.positions))))
              (ap (λ (m : ℕ). drop m result₁) result-size ∙ past)

          done-there : Ran k c (grammar_in s words) result scratch r result₂ scratch₂
          done-there = by (rest_of c k (grammar_in s words) X) refl
            where
              N : ℕ
              N = result_needs c (grammar_in s words)

              beyond : drop N result₂ ≡ drop N result
              beyond = subst (λ (m : ℕ). drop m result₂ ≡ drop m result₁) result-size rest.result-beyond ∙ past

              by : (m : Answer Rest) → rest_of c k (grammar_in s words) X ≡ m → Ran k c (grammar_in s words) result scratch r result₂ scratch₂
              by (refused e) f =
                  let w : work k c (grammar_in s words) ≡ refused e = work-is ∙ rw f in
                  record {
                    answer = rest.answer ∙ rw (rest-room ∙ f, w);
                    sets = λ x v. not-got (sym w ∙ v);
                    result-beyond = beyond;
                    scratch-beyond = rest.scratch-beyond ∙ run.scratch-beyond;
                  }
              by (got x) f =
                  let w : work k c (grammar_in s words) ≡ got (whole x) = work-is ∙ rw f in
                  record {
                    answer = rest.answer ∙ rw (rest-room ∙ f, w) (told-whole x w);
                    sets = λ y v. let same : whole x ≡ y = got-inj (sym w ∙ v) in
                        subst (λ (a : Analysis). result₂ ≡ store k (2 * c + 1) a.width (sets_of a) (drop N result)) same (held x (rest-room ∙ f));
                    result-beyond = beyond;
                    scratch-beyond = rest.scratch-beyond ∙ run.scratch-beyond;
                  }

    -- ---- as the function goes

    module _ {u : Setup} (e : u ≡ setup_of c s q) {at j : ℕ} (same : j ≡ k) {result₁ scratch₁ : List ℕ} where
      run-there : {l : Result (List ℕ) Refusal} → LevelsRun u at j (first (room u) (Rounds.grammar_in u words) j) l result scratch result₁ scratch₁
          → LevelsRun (setup_of c s q) at k (first c (grammar_in s words) k) l result scratch result₁ scratch₁
      run-there {l} run =
          let here : LevelsRun (setup_of c s q) at j (first (room_of (2 * c + 1)) (grammar_in s words) j) l result scratch result₁ scratch₁ = rw e at run in
          rw (room-is c (omega (arith, ready.c<1025)), same) at here

      pub levels-refused : {e : Refusal} → LevelsRun u at j (first (room u) (Rounds.grammar_in u words) j) (Err e) result scratch result₁ scratch₁
          → Ran k c (grammar_in s words) result scratch (record_of (Err e)) result₁ scratch₁
      levels-refused run = refused-there (run-there run)

      module _ {rounds : List ℕ} (run : LevelsRun u at j (first (room u) (Rounds.grammar_in u words) j) (Ok rounds) result scratch result₁ scratch₁) where
        pub levels-begun : Begun u k words result₁ scratch₁
        levels-begun = rw e (begun-there (run-there run))

        pub levels-done : {r : Record} {result₂ scratch₂ : List ℕ} → RestRan u k q rounds words result₁ scratch₁ r result₂ scratch₂
            → Ran k c (grammar_in s words) result scratch r result₂ scratch₂
        levels-done rest = done-there (run-there run) (rw e at rest)
