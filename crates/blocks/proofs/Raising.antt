-- The sets of one level at the next: their members are the same, and their numbers of unfinished members are made anew, one set after the other.
-- Assumes nothing.
use mathlib.Core.Path.{◌≡◌, sym, ap, ap₂, ◌∙◌}
use mathlib.Core.List.{List, [], ◌∷◌, ◌++◌}
use Prim.Native.Nat.{ℕ, zero, suc, ◌+◌, ◌-◌, ◌*◌, ◌≤◌, ◌<◌}
use native.Mathlib.Nat.{le_trans}
use native.Mathlib.Numerals.{add-one}
use native.Mathlib.Omega.{arith}
use lib.ListN.{length, take, drop, length-append, length-drop, drop_of_length-le}
use lib.Seq.{take-suc, drop-cons, take_at, drop_at, length-take-le, take_all}
use Rattle.k_tuple.specs.Strings.{Str}
use Rattle.k_tuples.specs.States.{State, set_of}
use Rattle.k_tuples.specs.Members.{open_of}
use Rattle.k_tuples.specs.Words.{encode, decode}
use Rattle.k_tuples.specs.Held.{set_words, Fits, Holds}
use Rattle.k_tuples.specs.Blocks.{Kept, AllKept, Stored, store, sets_in, part_at, put_at}
use Rattle.k_tuples.proofs.Held.{set-length, holds-words, as-any, any-decode, any_open}
use Rattle.k_tuples.proofs.Blocks.{kept_at, store-append, store-front, stored-rest, stored-length, length-sets}
use Rattle.blocks.specs.Stores.{Turned}

fits-raised : {k j w : ℕ} {z : Str} → k ≤ j → Fits k w z → Fits j w z
fits-raised h f = record { well = f.well; some = f.some; short = le_trans f.short h }

kept-raised : {k j w b : ℕ} {a : List Str} → k ≤ j → Kept k w b a → Kept j w b a
kept-raised h f = record { room = f.room; counted = f.counted; sorted = f.sorted; fit = λ z m. fits-raised h (f.fit z m) }

all-raised : {k j : ℕ} (w b : ℕ) (F : State) → k ≤ j → AllKept k w b F → AllKept j w b F
all-raised w b [] h f = tt
all-raised w b (a ∷ F) h f = (kept-raised h f.0, all-raised w b F h f.1)

take-kept : (k w b i : ℕ) (F : State) → AllKept k w b F → AllKept k w b (take i F)
take-kept k w b zero F f = tt
take-kept k w b (suc i) [] f = tt
take-kept k w b (suc i) (a ∷ F) f = (f.0, take-kept k w b i F f.1)

-- the first i of the sets F are at k, the others at j
pub record Raising (j k w b i : ℕ) (F : State) (rest ws : List ℕ) : Type 0 where
  pub low : j ≤ k
  pub kept : AllKept j w b F
  pub words : ws ≡ store k b w (take i F) (store j b w (drop i F) rest)

pub raise-start : {j k w b : ℕ} {F : State} {rest ws : List ℕ} → j ≤ k → Stored j w b F rest ws → Raising j k w b 0 F rest ws
unfolding store
raise-start h s = record { low = h; kept = s.kept; words = s.words }

module _ {j k w b i : ℕ} {F : State} {rest ws : List ℕ} (r : Raising j k w b i F rest ws) where
  front : Stored k w b (take i F) (store j b w (drop i F) rest) ws
  front = record { words = r.words; kept = take-kept k w b i F (all-raised w b F r.low r.kept) }

  module _ (turn : i < length F) where
    a : List Str
    a = set_of F i

    size : length (take i F) ≡ i
    size = length-take-le i F (omega arith)

    kept_here : Kept j w b a
    unfolding a
    kept_here = kept_at F i r.kept turn

    others : List ℕ
    others = store j b w (drop (suc i) F) rest

    behind : drop (i * b) ws ≡ set_words j b w a ++ others
    unfolding a others store
    behind = ap (λ (n : ℕ). drop (n * b) ws) (sym size) ∙ stored-rest front ∙ ap (λ (G : State). store j b w G rest) (drop-cons F i [] turn)

    span : i * b + b - i * b ≡ b
    span = omega arith

    long : length (set_words j b w a) ≡ b
    long = set-length j b w a kept_here.room

    part : part_at b i ws ≡ set_words j b w a
    part = rw (span, behind) (take_at (set_words j b w a) others b long)

    -- what the call asks of the part
    pub raise-holds : Holds j w (set_of F i) (part_at b i ws)
    unfolding a
    raise-holds = let f = kept_here in rw part (holds-words j b w (set_of F i) f.room f.counted f.sorted f.fit)

    pub raise-room : i * b + b ≤ length ws
    raise-room =
        let all : length (drop (i * b) ws) ≡ b + length others = ap length behind ∙ length-append (set_words j b w a) others ∙ ap (λ (n : ℕ). n + length others) long in
        let whole : length ws ≡ i * b + length (store j b w (drop i F) rest) = stored-length front ∙ ap (λ (n : ℕ). n * b + length (store j b w (drop i F) rest)) size in
        omega (arith, all, length-drop (i * b) ws, whole)

    pub raise-more : {p : List ℕ} → p ≡ encode (open_of k (decode (part_at b i ws))) (length (part_at b i ws)) (decode (part_at b i ws)) → Raising j k w b (i + 1) F rest (put_at b i p ws)
    unfolding a others set_words store
    raise-more {p} e =
        let h = as-any raise-holds in
        let p-is : p ≡ set_words k b w (set_of F i) =
        e ∙ ap₂ (λ (n : ℕ) (m : ℕ). encode n m (decode (part_at b i ws))) (any_open h k) (ap length part ∙ long) ∙ ap (encode _ b) (any-decode h) in
        let up : take (i + 1) F ≡ take i F ++ set_of F i ∷ [] = ap (λ (n : ℕ). take n F) (add-one i) ∙ take-suc F i [] turn in
        let on : drop (suc i) F ≡ drop (i + 1) F = ap (λ (n : ℕ). drop n F) (sym (add-one i)) in
        let before : (l : List ℕ) → take (i * b) ws ++ l ≡ store k b w (take i F) l =
        λ l. ap₂ (λ (n : ℕ) (v : List ℕ). take (n * b) v ++ l) (sym size) r.words ∙ store-front k w b _ (take i F) l front.kept in
        let after : drop (i * b + b - i * b) (drop (i * b) ws) ≡ others = rw (span, behind) (drop_at (set_words j b w a) others b long) in
        record {
          low = r.low;
          kept = r.kept;
          words =
              before (p ++ drop (i * b + b - i * b) (drop (i * b) ws))
              ∙ ap₂ (λ (q o : List ℕ). store k b w (take i F) (q ++ o)) p-is after
              ∙ sym (store-append k w b others (take i F) (set_of F i ∷ []))
              ∙ ap₂ (λ (G H : State). store k b w G (store j b w H rest)) (sym up) on;
        }

-- all are at k
pub raise-done : {j k w b m i : ℕ} {ws ws' : List ℕ} → Raising j k w b i (sets_in b m ws) (drop (m * b) ws) ws' → m ≤ i → Turned k w b m (sets_in b m ws) ws ws'
unfolding store
raise-done {j} {k} {w} {b} {m} {i} {ws} r h =
    let F = sets_in b m ws in
    let size = length-sets b m ws in
    let all : take i F ≡ F = take_all i F (omega arith) in
    let none : drop i F ≡ [] = drop_of_length-le F {i = i} (omega arith) in
    record {
      count = size;
      held = record {
        words = r.words ∙ ap₂ (λ (G H : State). store k b w G (store j b w H (drop (m * b) ws))) all none;
        kept = all-raised w b F r.low r.kept;
      };
    }
