-- A round: the equations one after the other. The invariant is `Rounding`: the equations still to come, on the FOLLOW sets as they stand, give
-- the round's sets, and each equation is due or has nothing to add. Assumes nothing.
use Prim.Native.Nat.{ℕ, ◌+◌, ◌-◌, ◌*◌, ◌≤◌, ◌<◌}
use native.Mathlib.Nat.{mul-le-mul_left}
use native.Mathlib.Omega.{arith}
use mathlib.Core.Path.{◌≡◌, sym, ap, ◌∙◌}
use mathlib.Core.Bool.{Bool, true, false, not}
use mathlib.Core.List.{List, [], ◌∷◌}
use lib.ListN.{length, get_or, set, length-set}
use Rattle.k_tuple.specs.Strings.{Str}
use Rattle.k_tuples.specs.Sets.{Sorted, union, join_sets}
use Rattle.k_tuples.specs.Words.{Growth, grown, is_full}
use Rattle.k_tuples.specs.States.{State, set_of}
use Rattle.k_tuples.specs.Work.{Answer}
use Rattle.k_tuples.specs.declared.set.Grown.TheVariants.{Added, Same}
use Rattle.std.specs.Prelude.{Ok, Err}
use Rattle.refusals.specs.declared.Refusal.{Refusal}
use Rattle.k_tuples.proofs.Blocks.{length-sets, stored-length}
use Rattle.blocks.proofs.Stores.{turned-beyond, turned-length}
use Rattle.first.specs.declared.Setup.{Setup}
use Rattle.first.specs.Steps.{result_sets, old_sets, room, Ready}
use Rattle.follow_theory.specs.Follow.{Occurrence, take_all}
use Rattle.follow.specs.declared.walk.Walk.{Walk}
use Rattle.follow.specs.Walk.{to_come, Met, start_of}
use Rattle.follow.specs.Due.{TakenDue, was-due, not-due, Due}
use Rattle.follow.specs.Steps.{first_sets, follow_sets, place_sets, occurrences, Stands, Copied, Running, At, Taken, round_told, Rounded}
use Rattle.first.proofs.Walk.{told-large}
use Rattle.follow.proofs.Growing.{union-unchanged, grows-told, told_same, told-added}
use Rattle.follow.proofs.Idling.{Turning, turning-start, turning-end, turning-skipped, turning-idle, turning-grown}
use Rattle.follow.proofs.Seeking.{start-come}
use Rattle.follow.proofs.Passes.{Taking, taking-start, taking-end, taking-suffix, taking-idle, taking-over, taking-same, taking-added, taking-skip}
use Rattle.follow.proofs.Standing.{row_old, row-follow, stands-start, stands-ready, stands-copied, stands-sorted, stands-room, taken-answer, taken-stands}
use Rattle.follow.proofs.Way.{Way, way-start, way_end, way_next, met, met_at}

-- the numbers of the equations of two rounds can be counted
pub numbers_fit : {u : Setup} {k : ℕ} {result scratch : List ℕ} → Ready u k result scratch → 2 * u.rsets ≤ length result
numbers_fit {u} {result = result} ready =
    omega (arith, stored-length ready.result-store.stored, length-sets u.b u.rsets result, mul-le-mul_left (length (result_sets u result)) ready.some)

module _ (u : Setup) (k : ℕ) (words result₀ scratch₀ : List ℕ) where
  -- what the round is to give
  abbrev answer : Answer State
  answer = take_all (room u) k (old_sets u result₀) (occurrences u words) (follow_sets u result₀)

  abbrev TakingFrom : List Occurrence → ℕ → State → Bool → Type 0
  TakingFrom os i F added = Taking (room u) k (old_sets u result₀) (occurrences u words) (follow_sets u result₀) os i (place_sets u result₀) F added

  abbrev TurningFrom : List Occurrence → ℕ → State → List ℕ → Type 0
  TurningFrom = Turning (room u) k (old_sets u result₀) (occurrences u words)

  -- i equations are passed
  pub record Rounding (w : Walk) (i : ℕ) (added : Bool) (result scratch due : List ℕ) : Type 0 where
    pub way : Way u words w i
    pub sets : State
    pub stands : Stands u k (first_sets u result₀) sets (place_sets u result₀) result₀ scratch₀ result scratch
    pub taking : TakingFrom (to_come words w) i sets added
    pub turning : TurningFrom (to_come words w) i sets due
    pub long : length due ≡ 128

  pub rounding-start : {due : List ℕ} → Running u k words result₀ scratch₀ → Due u k words 0 result₀ due → Rounding (start_of u.p) 0 false result₀ scratch₀ due
  rounding-start r d = record {
    way = way-start r.suffixed.grammatical;
    sets = follow_sets u result₀;
    stands = stands-start r.suffixed.grammatical r.ready r.copied;
    taking = rw (start-come u.p words) (taking-start (room u) k (old_sets u result₀) (occurrences u words) (follow_sets u result₀) (place_sets u result₀) r.suffixed.suffixes);
    turning = rw (start-come u.p words) (turning-start (room u) k (old_sets u result₀) d.or-idle);
    long = d.long;
  }

  module _ (run : Running u k words result₀ scratch₀) {w : Walk} {i : ℕ} {added : Bool} {result scratch due : List ℕ} (h : Rounding w i added result scratch due) where
    pub rounding-ready : Ready u k result scratch
    rounding-ready = stands-ready h.stands run.ready

    pub rounding-copied : Copied u result scratch
    rounding-copied = stands-copied h.stands

    -- as long as at entry
    pub result-length : length result ≡ length result₀
    result-length = turned-length h.stands.row.turned run.ready.result-store

    pub scratch-length : length scratch ≡ length scratch₀
    scratch-length = turned-length h.stands.in-scratch run.ready.scratch-store

    -- no equation more
    pub rounding-end : u.rsets - (u.n + u.p + u.n) ≤ i → (b : Bool) → added ≡ b → Rounded u k answer (Ok (round_told (not b))) result₀ scratch₀ result scratch
    rounding-end l b e =
        let t : TakingFrom [] i h.sets added = rw (way_end h.way l) at h.taking in
        record {
          ends = record {
            new = h.sets;
            made = taking-end (room u) k (old_sets u result₀) (occurrences u words) t;
            told = ap round_told (ap not (sym e) ∙ sym (grows-told t.grows));
            stands = h.stands;
          };
          result-beyond = turned-beyond h.stands.row.turned;
          scratch-beyond = turned-beyond h.stands.in-scratch;
        }

    -- the equations are due or idle in the next round
    pub rounding-due : u.rsets - (u.n + u.p + u.n) ≤ i → Due u k words (u.rsets - (u.n + u.p + u.n)) result due
    rounding-due l =
        let none = way_end h.way l in
        let all : i ≡ u.rsets - (u.n + u.p + u.n) = omega (arith, h.way.count, ap length none) in
        record {
          long = h.long;
          or-idle = rw (← all, row_old h.stands.row, row-follow h.stands.row) (turning-end (room u) k (old_sets u result₀) (rw none at h.turning));
        }

    -- one equation more
    module _ {w' : Walk} (m : Met words w w') where
      abbrev X : State
      X = old_sets u result₀

      abbrev F : State
      F = h.sets

      a : At u i w'.source w'.target
      a = met_at h.way m

      sorted : Sorted (set_of F w'.target)
      sorted = stands-sorted h.stands w'.target a.to

      coming : TakingFrom (met h.way m ∷ to_come words w') i F added
      coming = rw m.passed at h.taking

      turning : TurningFrom (met h.way m ∷ to_come words w') i F due
      turning = rw m.passed at h.turning

      -- it is not due, and passed over
      passed_over : get_or due w'.source 0 ≤ i → Rounding w' (i + 1) added result scratch due
      passed_over l =
          let idle = turning-skipped (room u) k X turning l in
          record {
            way = way_next h.way m;
            sets = F;
            stands = h.stands;
            taking = taking-skip (room u) k X (occurrences u words) coming sorted (stands-room h.stands w'.target a.to) idle;
            turning = turning-idle (room u) k X turning idle;
            long = h.long;
          }

      -- it is taken
      module _ {r : Growth} {result' scratch' : List ℕ} (t : Taken u k i w'.source w'.target r result scratch result' scratch') where
        abbrev join : List Str
        join = join_sets k (set_of (place_sets u result₀) i) (set_of F w'.source)

        abbrev made : List Str
        made = union (set_of F w'.target) join

        told : r ≡ grown (room u) (length (set_of F w'.target)) (length made)
        told = taken-answer h.stands w'.target a.to i w'.source a.from t

        next : {added' : Bool} {due' : List ℕ} → is_full r ≡ false → TakingFrom (to_come words w') (i + 1) (set F w'.target made) added'
            → TurningFrom (to_come words w') (i + 1) (set F w'.target made) due' → length due' ≡ 128 → Rounding w' (i + 1) added' result' scratch' due'
        next e c d l = record {
          way = way_next h.way m;
          sets = set F w'.target made;
          stands = taken-stands h.stands w'.target a.to i w'.source a.from t e;
          taking = c;
          turning = d;
          long = l;
        }

        taken-over : {e : Refusal} → r ≡ Err e → Rounded u k answer (Err e) result₀ scratch₀ result' scratch'
        taken-over e = let large = told-large (room u) _ _ (sym e ∙ told) in record {
          ends = (taking-over (room u) k X (occurrences u words) coming sorted large.0, large.1);
          result-beyond = t.result-beyond ∙ turned-beyond h.stands.row.turned;
          scratch-beyond = t.scratch-beyond ∙ turned-beyond h.stands.in-scratch;
        }

        -- it is idle now
        taken-same : r ≡ Ok Same → Rounding w' (i + 1) added result' scratch' due
        taken-same e =
            let l = told_same (room u) _ _ (sym e ∙ told) in
            let idle = taking-idle (room u) k X (occurrences u words) coming sorted l.1 in
            next (ap is_full e) (taking-same (room u) k X (occurrences u words) coming sorted l.0 l.1)
            (rw (union-unchanged F w'.target join sorted l.1) (turning-idle (room u) k X turning idle))
            h.long

        -- its target's growth is noted
        taken-added : r ≡ Ok Added → Rounding w' (i + 1) true result' scratch' (set due w'.target (u.rsets - (u.n + u.p + u.n) + i + 1))
        taken-added e =
            let l = told-added (room u) _ _ (sym e ∙ told) in
            let in-sets : w'.target < length F = rw h.stands.row.many a.to in
            let in-due : w'.target < length due = omega (arith, h.long, a.to, run.suffixed.grammatical.rules.few) in
            let suffix = taking-suffix (room u) k X (occurrences u words) coming sorted in
            next (ap is_full e) (taking-added (room u) k X (occurrences u words) coming sorted l.0 in-sets l.1)
            (turning-grown (room u) k X turning (set_of (place_sets u result₀) i) suffix in-sets in-due _ (omega (arith, run.suffixed.grammatical.places)))
            (length-set due w'.target _ ∙ h.long)

      -- it is taken if it is due
      abbrev Step : Growth → (result' scratch' due' : List ℕ) → Type 0
      Step r = TakenDue u k i w'.source w'.target r result scratch due

      pub rounding-over : {r : Growth} {e : Refusal} {result' scratch' due' : List ℕ} → Step r result' scratch' due' → r ≡ Err e → Rounded u k answer (Err e) result₀ scratch₀ result' scratch'
      rounding-over (was-due t n) e = taken-over t e
      rounding-over (not-due l s f g n) e = cc

      pub rounding-same : {r : Growth} {result' scratch' due' : List ℕ} → Step r result' scratch' due' → r ≡ Ok Same → Rounding w' (i + 1) added result' scratch' due'
      rounding-same (was-due t n) e = rw (n, e) (taken-same t e)
      rounding-same (not-due l s f g n) e = rw (f, g, n) (passed_over l)

      pub rounding-added : {r : Growth} {result' scratch' due' : List ℕ} → Step r result' scratch' due' → r ≡ Ok Added → Rounding w' (i + 1) true result' scratch' due'
      rounding-added (was-due t n) e = rw (n, e) (taken-added t e)
      rounding-added (not-due l s f g n) e = cc
