-- The strings of a set are put down one after the other. Assumes nothing.
use Prim.Native.Nat.{ℕ, suc, ◌+◌, ◌*◌, ◌≤◌, ◌<◌}
use native.Mathlib.Omega.{arith}
use native.Mathlib.Numerals.{add-one}
use mathlib.Core.Path.{◌≡◌, refl, sym, ap, ap₂, ◌∙◌, subst}
use mathlib.Core.Bool.{true, false}
use mathlib.Core.List.Memᴰ.{head as here}
use mathlib.Core.List.Memᴰ.{tail as there}
use mathlib.Core.List.{List, [], ◌∷◌, ◌++◌, map, map-append, append_assoc, append-nil}
use lib.ListN.{length, take}
use lib.Seq.{take-suc, take_all}
use Rattle.k_tuple.specs.Strings.{Str, eps, slots, is_eps, good, well_formed}
use Rattle.k_tuple.specs.Packed.{reads, packed, terminals_in}
use Rattle.k_tuple.specs.declared.Terminals.{Terminals}
use Rattle.k_tuple.proofs.Closed.{reads-packed}
use Rattle.k_tuples.specs.Sets.{◌∈◌}
use Rattle.k_tuples.specs.Words.{member_at, decode}
use Rattle.k_tuples.specs.Held as held
use Rattle.k_tuples.proofs.Held.{holds-decode, holds-member}
use Rattle.k_tuples.proofs.Words.{get_d-decode, length-decode, set_room}
use Rattle.decision_theory.specs.Automaton.{Entry, entries_in}
use Rattle.decision_theory.proofs.Tree.{entry}
use Rattle.std.specs.Prelude.{Result, Ok, Err}
use Rattle.refusals.specs.declared.Refusal.{Refusal}
use Rattle.refusals.specs.declared.Refusal.TheVariants.{TooManyStates}
use Rattle.trees.specs.Listed.{Listed, Plain, Addable, SameWidth, entries, Appended, no_room, appended}
use Rattle.trees.specs.Collected.{entries_for, Collect, Collected, over, collected}

-- Member i is the next.
member-next : (set : List ℕ) (i : ℕ) → i < length (decode set) → take (suc i) (decode set) ≡ take i (decode set) ++ member_at set (2 * i + 1) ∷ []
member-next set i h =
    let d : Terminals = record { lo = 0; hi = 0 } in
    take-suc (decode set) i d h ∙ ap (λ (t : Terminals). take i (decode set) ++ t ∷ []) (get_d-decode set i d (let e = length-decode set in omega arith))

pub record Collecting (n production : ℕ) (set before now : List ℕ) (m i : ℕ) : Type 0 where
  pub below : i ≤ length (decode set)
  pub count : m ≡ n + i
  pub few : m ≤ 2048
  pub listed : (l : Listed before n) → ((i : ℕ) → i < length (decode set) → Plain l.width (member_at set (2 * i + 1))) → SameWidth now m l.width
  pub same : length now ≡ length before
  pub so_far : entries now m ≡ entries before n ++ entries_for production (take i (decode set))

module _ (n production : ℕ) (set before : List ℕ) (h : Collect before n set production) where
  pub collect-start : Collecting n production set before before n 0
  collect-start = record { below = omega arith; count = omega arith; few = h.few; listed = λ l plain. (l, refl); same = refl; so_far = sym (append-nil (entries before n)) }

  -- What reading and adding ask.
  pub collect-inside : (i size : ℕ) → size ≡ length (decode set) → i < size → 2 * i + 2 < length set
  collect-inside i size e l = let r = set_room h.is_set in omega arith

  module _ (now : List ℕ) (m i : ℕ) (g : Collecting n production set before now m i) (size : ℕ) (sized : size ≡ length (decode set)) where
    pub collect-end : size ≤ i → Collected n production set before now (Ok m)
    collect-end l =
        let b = g.below in
        let c = g.count in
        let e : m ≡ n + length (decode set) = omega arith in
        collected (ap Ok e) (let f = g.few in omega arith) (subst (λ (k : ℕ). (l : Listed before n) → ((i : ℕ) → i < length (decode set) → Plain l.width (member_at set (2 * i + 1))) → SameWidth now k l.width) e g.listed) g.same
        (ap (entries now) (sym e) ∙ g.so_far ∙ ap (λ (ts : List Terminals). entries before n ++ entries_for production ts) (take_all i (decode set) (omega arith)))

    module _ (l : i < size) (t : Terminals) (read : t ≡ member_at set (2 * i + 1)) where
      pub collect-asks : Addable now m t production
      collect-asks =
          let (k, e) = g.listed h.listed h.plain in
          record {
            listed = k;
            plain = rw (read, e) (h.plain i (omega arith));
            small = h.small;
            room = let r = h.room in let s = g.same in omega arith;
          }

      module _ (after : List ℕ) (r : Result ℕ Refusal) (told : Appended m t production now after r) where
        pub collect-same : length after ≡ length before
        collect-same = by told
          where
            by : Appended m t production now after r → length after ≡ length before
            by (no_room q a e) = ap length e ∙ g.same
            by (appended q a b c e) = c ∙ g.same

        pub collect-over : (e : Refusal) → r ≡ Err e → Collected n production set before after (Err e)
        collect-over e z = by told
          where
            by : Appended m t production now after r → Collected n production set before after (Err e)
            by (no_room q a s) = over (sym z ∙ q) (let c = g.count in omega arith) (ap length s ∙ g.same)
            by (appended q a b c d) = let x : Ok (m + 1) ≡ Err e = sym q ∙ z in let y : ◌≡◌ {A = ℕ} 0 1 = cc in absurd (omega arith)

        pub collect-turn : (more : ℕ) → r ≡ Ok more → Collecting n production set before after more (i + 1)
        collect-turn more z = by told
          where
            by : Appended m t production now after r → Collecting n production set before after more (i + 1)
            by (no_room q a e) = let x : Err TooManyStates ≡ Ok more = sym q ∙ z in let y : ◌≡◌ {A = ℕ} 0 1 = cc in absurd (omega arith)
            by (appended q a b c e) =
                let x : Ok (m + 1) ≡ Ok more = sym q ∙ z in
                let k : m + 1 ≡ more = cc in
                let f = g.count in
                record {
                  below = omega arith;
                  count = omega arith;
                  few = omega arith;
                  listed = λ from plain.
                      let (o, w) = g.listed from plain in
                      let (s, v) = b o (rw (read, w) (plain i (omega arith))) in
                      subst (λ (j : ℕ). SameWidth after j from.width) k (s, v ∙ w);
                  same = c ∙ g.same;
                  so_far =
                      ap (entries after) (sym k) ∙ e
                      ∙ ap₂ (λ (E : List Entry) (s : Terminals). E ++ entry (terminals_in (reads s)) production ∷ []) g.so_far read
                      ∙ append_assoc (entries before n) (entries_for production (take i (decode set))) (entry (terminals_in (reads (member_at set (2 * i + 1)))) production ∷ [])
                      ∙ ap (λ (E : List Entry). entries before n ++ E)
                      (sym (map-append (λ (t : Terminals). entry (terminals_in (reads t)) production) (take i (decode set)) (member_at set (2 * i + 1) ∷ [])))
                      ∙ ap (λ (ts : List Terminals). entries before n ++ entries_for production ts) (sym (ap (λ (j : ℕ). take j (decode set)) (add-one i) ∙ member-next set i (omega arith)));
                }

-- ---- sets of strings

-- Packed strings are read as the strings.
packed-entries : (w production : ℕ) (a : List Str) → ((z : Str) → z ∈ a → well_formed w z ≡ true) → entries_for production (map (packed w) a) ≡ entries_in production a
packed-entries w production [] h = refl
packed-entries w production (z ∷ a) h =
    ap₂ (λ (v : List ℕ) (E : List Entry). entry v production ∷ E) (ap terminals_in (reads-packed w z (h z (here refl)))) (packed-entries w production a (λ y m. h y (there m)))

module _ (k w : ℕ) (a : List Str) (set : List ℕ) (holds : held.Holds k w a set) where
  -- The strings of words that hold a set are the theory's.
  pub set-entries : (production : ℕ) → entries_for production (decode set) ≡ entries_in production a
  set-entries production = ap (entries_for production) (holds-decode holds) ∙ packed-entries w production a (λ z m. (holds.fit z m).well)

  -- Where ε is not among them, they can be collected.
  pub set-plain : ((z : Str) → z ∈ a → is_eps z ≡ false) → (i : ℕ) → i < length (decode set) → Plain w (member_at set (2 * i + 1))
  set-plain none i h =
      let (z, m, e) = holds-member holds i (let l = length-decode set in omega arith) in
      by z (none z m) (ap reads e ∙ reads-packed w z (holds.fit z m).well)
    where
      by : (z : Str) → is_eps z ≡ false → reads (member_at set (2 * i + 1)) ≡ good w z → Plain w (member_at set (2 * i + 1))
      by eps n q = let y : ◌≡◌ {A = ℕ} 0 1 = cc in absurd (omega arith)
      by (slots xs) n q = record { word = xs; is = q }
