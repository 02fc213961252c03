-- The rounds, up to the first that adds nothing. The invariant is `Climbing`: the rounds that are left after `done`, from the FOLLOW sets as they
-- stand, end as all the rounds do, and each equation is due or has nothing to add. Assumes nothing.
use Prim.Native.Nat.{ℕ, suc, ◌+◌, ◌-◌, ◌*◌, ◌≤◌, ◌<◌}
use native.Mathlib.Nat.{le_refl, mul-le-mul_left}
use native.Mathlib.Numerals.{add-one}
use native.Mathlib.Omega.{arith}
use mathlib.Core.Path.{◌≡◌, refl, sym, ap, ap₂, ◌∙◌, subst}
use mathlib.Core.Bool.{Bool, true, false}
use mathlib.Core.List.{List}
use lib.ListN.{length, replicate}
use Rattle.k_tuples.specs.States.{State, same_sets}
use Rattle.k_tuples.specs.Work.{Answer, got, Settling, settle}
use Rattle.k_tuples.specs.declared.set.Grown.{Grown}
use Rattle.k_tuples.specs.declared.set.Grown.TheVariants.{Added, Same}
use Rattle.k_tuples.proofs.Words.{room-words}
use Rattle.k_tuples.proofs.Blocks.{in-sets, part_room}
use Rattle.blocks.proofs.Stores.{turned-beyond, turned-length}
use Rattle.first.specs.declared.Setup.{Setup}
use Rattle.first.specs.Steps.{old_sets, room}
use Rattle.follow_theory.specs.Follow.{take_all}
use Rattle.std.specs.Prelude.{Ok, Err}
use Rattle.refusals.specs.declared.Refusal.{Refusal}
use Rattle.refusals.specs.declared.Refusal.TheVariants.{SetTooLarge}
use Rattle.follow.specs.Due.{Due}
use Rattle.follow.specs.Steps.{first_sets, follow_sets, place_sets, occurrences, Stands, Running, round_told, RoundDone, Rounded, Ended}
use Rattle.follow.proofs.Growing.{settle-over, settle-end, settle-next}
use Rattle.follow.proofs.Lowering.{due-start}
use Rattle.follow.proofs.Standing.{stands-start, row_first, row-follow, row-places, row_old, stands-then, still-running}

told_same : (b : Bool) → Same ≡ round_told b → b ≡ true
told_same true e = refl
told_same false e = let z : ◌≡◌ {A = ℕ} 0 1 = cc in absurd (omega arith)

told-added : (b : Bool) → Added ≡ round_told b → b ≡ false
told-added true e = let z : ◌≡◌ {A = ℕ} 0 1 = cc in absurd (omega arith)
told-added false e = refl

-- so many rounds can be counted
rounds-fit : {u : Setup} {k : ℕ} {words result scratch : List ℕ} → Running u k words result scratch → u.n * room u + 1 ≤ length scratch
rounds-fit {u} {scratch = scratch} run =
    let s = run.ready.scratch-store in
    let small : room u ≤ u.b = omega (arith, room-words (room u) u.b (le_refl (room u)) (omega (arith, run.ready.some))) in
    omega (arith, part_room s.stored u.n (in-sets s run.ready.work), mul-le-mul_left u.n small, run.ready.some)

pub rounds-fit-by : {u : Setup} {k m : ℕ} {words result scratch : List ℕ} → Running u k words result scratch → m ≡ room u → u.n * m + 1 ≤ length scratch
rounds-fit-by {u} {scratch = scratch} run e = subst (λ (n : ℕ). u.n * n + 1 ≤ length scratch) (sym e) (rounds-fit run)

module _ (u : Setup) (k : ℕ) (words result₀ scratch₀ : List ℕ) where
  abbrev round : State → Answer State
  round = take_all (room u) k (old_sets u result₀) (occurrences u words)

  -- what the rounds are to give
  abbrev answer : Answer Settling
  answer = settle round 11 (suc (u.n * room u)) 0 (follow_sets u result₀)

  -- so many rounds are done
  pub record Climbing (done : ℕ) (result scratch due : List ℕ) : Type 0 where
    pub sets : State
    pub stands : Stands u k (first_sets u result₀) sets (place_sets u result₀) result₀ scratch₀ result scratch
    pub to-come : settle round 11 (u.n * room u + 1 - done) done sets ≡ answer
    pub to_take : Due u k words 0 result due

  module _ (run : Running u k words result₀ scratch₀) where
    -- every equation is due
    pub climb-start : Climbing 0 result₀ scratch₀ (replicate 128 (u.rsets - (u.n + u.p + u.n)))
    climb-start = record {
      sets = follow_sets u result₀;
      stands = stands-start run.suffixed.grammatical run.ready run.copied;
      to-come = let all : u.n * room u + 1 - 0 ≡ suc (u.n * room u) = omega arith in rw all;
      to_take = due-start result₀ run.suffixed.grammatical;
    }

    module _ {done : ℕ} {result scratch due : List ℕ} (h : Climbing done result scratch due) where
      -- as long as at entry
      pub result-length : length result ≡ length result₀
      result-length = turned-length h.stands.row.turned run.ready.result-store

      pub scratch-length : length scratch ≡ length scratch₀
      scratch-length = turned-length h.stands.in-scratch run.ready.scratch-store

      pub climb-running : Running u k words result scratch
      climb-running = still-running run h.stands

      -- no round more
      pub climb-late : {m : ℕ} → m ≡ room u → u.n * m + 1 ≤ done → Ended u k answer (Err SetTooLarge) result₀ scratch₀ result scratch
      unfolding settle
      climb-late e l =
          let most : u.n * room u + 1 ≤ done = rw (← e) l in
          let none : u.n * room u + 1 - done ≡ 0 = omega arith in
          record {
            ends = (sym (rw none at h.to-come), refl);
            result-beyond = turned-beyond h.stands.row.turned;
            scratch-beyond = turned-beyond h.stands.in-scratch;
          }

      -- one round more
      module _ {m : ℕ} (size : m ≡ room u) (some : done < u.n * m + 1) where
        -- the round is one from the sets in hand
        here : take_all (room u) k (old_sets u result) (occurrences u words) (follow_sets u result) ≡ round h.sets
        here = ap₂ (λ (X F : State). take_all (room u) k X (occurrences u words) F) (row_old h.stands.row) (row-follow h.stands.row)

        abbrev left : ℕ
        left = u.n * room u + 1 - (done + 1)

        one_left : u.n * room u + 1 - done ≡ suc left
        one_left = let more : done < u.n * room u + 1 = rw (← size) some in omega arith

        pub climb-over : {e : Refusal} {result' scratch' : List ℕ} → Rounded u k (take_all (room u) k (old_sets u result) (occurrences u words) (follow_sets u result)) (Err e) result scratch result' scratch'
            → Ended u k answer (Err e) result₀ scratch₀ result' scratch'
        climb-over t = record {
          ends = (sym h.to-come ∙ ap (λ (n : ℕ). settle round 11 n done h.sets) one_left ∙ settle-over round 11 left done h.sets 11 (sym here ∙ t.ends.0), t.ends.1);
          result-beyond = t.result-beyond ∙ turned-beyond h.stands.row.turned;
          scratch-beyond = t.scratch-beyond ∙ turned-beyond h.stands.in-scratch;
        }

        module _ {g : Grown} {result' scratch' : List ℕ} (t : Rounded u k (take_all (room u) k (old_sets u result) (occurrences u words) (follow_sets u result)) (Ok g) result scratch result' scratch') where
          abbrev d : RoundDone u k (take_all (room u) k (old_sets u result) (occurrences u words) (follow_sets u result)) g result scratch result' scratch'
          d = t.ends

          new-stands : Stands u k (first_sets u result₀) d.new (place_sets u result₀) result₀ scratch₀ result' scratch'
          new-stands = stands-then h.stands (rw (← row_first h.stands.row, ← row-places h.stands.row) d.stands)

          new-here : round h.sets ≡ got d.new
          new-here = sym here ∙ d.made

          new_told : g ≡ round_told (same_sets d.new h.sets)
          new_told = d.told ∙ ap (λ (F : State). round_told (same_sets d.new F)) (row-follow h.stands.row)

          counted : answer ≡ settle round 11 (suc left) done h.sets
          counted = sym h.to-come ∙ ap (λ (n : ℕ). settle round 11 n done h.sets) one_left

          pub climb-settled : g ≡ Same → Ended u k answer (Ok (done + 1)) result₀ scratch₀ result' scratch'
          climb-settled e =
              record {
                ends = record {
                  sets = d.new;
                  made = counted ∙ settle-end round 11 left done h.sets d.new new-here (told_same _ (sym e ∙ new_told)) ∙ ap (λ (n : ℕ). got (record { sets = d.new; rounds = n })) (sym (add-one done));
                  stands = new-stands;
                };
                result-beyond = t.result-beyond ∙ turned-beyond h.stands.row.turned;
                scratch-beyond = t.scratch-beyond ∙ turned-beyond h.stands.in-scratch;
              }

          pub climb-more : g ≡ Added → {due' : List ℕ} → Due u k words 0 result' due' → Climbing (done + 1) result' scratch' due'
          climb-more e to_take =
              record {
                sets = d.new;
                stands = new-stands;
                to-come = ap (λ (n : ℕ). settle round 11 left n d.new) (add-one done)
                    ∙ sym (counted ∙ settle-next round 11 left done h.sets d.new new-here (told-added _ (sym e ∙ new_told)));
                to_take = to_take;
              }
