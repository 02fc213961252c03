-- Numbers and bytes put one after another, and the cases of each function that puts them. Assumes nothing.
use Prim.Native.Nat.{ℕ, zero, suc, ◌+◌, ◌*◌, ◌-◌, ◌/◌, ◌%◌, ◌≤◌, ◌<◌}
use native.Mathlib.Numerals.{add-one}
use native.Mathlib.Omega.{arith}
use mathlib.Core.Path.{◌≡◌, refl, sym, ap, ◌∙◌}
use mathlib.Core.List.{List, [], ◌∷◌, ◌++◌, map, append_assoc, append-nil}
use mathlib.Core.Bool.{Bool, true, false}
use lib.ListN.{length, get_or, take, drop, set, length-set, length-append}
use lib.Seq.{drop-cons, take-suc-set, length-take-le, set_at, take-set-lt, take-suc, take_at, drop_at, drop-drop}
use lib.Dec.{leb}
use borrow.Author.Tests.{lt-ltb, le-ltb, le-leb, lt-leb, eq-eqb, ne_eqb}
use Rattle.cfg.specs.Grammar.{Sym, Production}
use Rattle.cfg.specs.Write.{write_number, write_numbers, all_numbers, production_numbers, code_of}
use Rattle.abnf_tables.specs.Run.{Run, on}
use Rattle.abnf_tables.specs.Words.{rank}
use Rattle.abnf_tables.specs.Tables.{Tables, among}
use Rattle.abnf.specs.Numbering.{missing, number_of, symbol_of, right, alternatives, empty_of, production_of, productions_of, productions_from}
use Rattle.abnf.specs.Writes.{FirstMissing, Puts, PutsAll, Pastes, WritesTable}
use Rattle.abnf.specs.declared.grammar.Put.{Put}
use Rattle.refusals.specs.declared.Refusal.TheVariants.{LentTooFew}
use Rattle.abnf_tables.specs.declared.refused.Refused.{Refused}
use Rattle.std.specs.Prelude.{Some, None, Result, Ok, Err}
use Rattle.abnf_tables.proofs.WordLaws.{drop_past}

-- ---- the first name that is missing

pub record Misses (xs : List ℕ) (n k : ℕ) : Type 0 where
  pub below : k ≤ n
  pub says : (names : List ℕ) (good : Run Tables) → length names ≡ n → missing xs 0 names good ≡ missing xs k (drop k names) good

module _ (xs : List ℕ) (n : ℕ) where
  pub misses-start : Misses xs n 0
  misses-start = record { below = omega arith; says = λ names good h. refl }

  module _ (k : ℕ) (w : Misses xs n k) where
    pub misses-end : n ≤ k → FirstMissing xs n None
    unfolding missing
    misses-end h = record { inside = tt; says = λ names good e. w.says names good e ∙ rw (drop_past names k (omega arith)) }

    module _ (h : k < n) (t : Bool) (e : t ≡ among k xs) where
      pub misses-next : t ≡ true → Misses xs n (k + 1)
      unfolding missing
      misses-next z = record {
        below = omega arith;
        says = λ names good f.
            let d : drop k names ≡ get_or names k 0 ∷ drop (k + 1) names = rw add-one (drop-cons names k 0 (omega arith)) in
            w.says names good f ∙ rw (d, ← e, z);
      }

      pub misses-here : t ≡ false → FirstMissing xs n (Some k)
      unfolding missing
      misses-here z = record { inside = h; says = λ names good f. w.says names good f ∙ rw (drop-cons names k 0 (omega arith), ← e, z) }

-- ---- numbers of symbols

module _ (text names : List ℕ) where
  pub number-rank : (left w f r : ℕ) → left < 128 → w ≡ get_or names left 0 → f ≡ w → r ≡ rank text f names → r ≡ number_of text names left
  unfolding number_of
  number-rank left w f r h a b d = d ∙ rw (lt-ltb left 128 h, b, a)

  pub number-group : (left : ℕ) → 128 ≤ left → length names + (left - 128) ≡ number_of text names left
  unfolding number_of
  number-group left h = rw (le-ltb left 128 h)

  pub code-even : (code a : ℕ) → code % 2 ≡ 0 → (a ≡ number_of text names (code / 2)) × (a < 32768) → 2 * a ≡ code_of (symbol_of text names code)
  unfolding symbol_of
  code-even code a h e = rw (eq-eqb (code % 2) 0 h, e.0)

  pub code-odd : (code : ℕ) → (code % 2 ≡ 0 → ⊥) → code ≡ code_of (symbol_of text names code)
  unfolding symbol_of
  code-odd code h = rw (ne_eqb (code % 2) 0 h) (omega arith)

-- ---- numbers behind numbers

-- `rest` is still to come behind the first `at` numbers, and all are `goal`
pub record Filling (ns : List ℕ) (at : ℕ) (rest goal : List ℕ) (end : ℕ) : Type 0 where
  pub inside : at + length rest ≡ end
  pub room : end ≤ length ns
  pub same : take at ns ++ rest ≡ goal

pub filling-start : (ns : List ℕ) (used : ℕ) (rest : List ℕ) → used + length rest ≤ length ns → Filling ns used rest (take used ns ++ rest) (used + length rest)
filling-start ns used rest h = record { inside = refl; room = h; same = refl }

filling-as : {ns rest rest' goal : List ℕ} {at end : ℕ} → rest ≡ rest' → Filling ns at rest goal end → Filling ns at rest' goal end
filling-as e w = rw e at w

filling_push : (ns : List ℕ) (at v : ℕ) (rest goal : List ℕ) (end : ℕ) → Filling ns at (v ∷ rest) goal end → Filling (set ns at v) (at + 1) rest goal end
filling_push ns at v rest goal end w =
    let h : at < length ns = omega (arith, w.inside, w.room) in
    let t : take (at + 1) (set ns at v) ≡ take at ns ++ (v ∷ []) = rw add-one (take-suc-set ns at v h) in
    record { inside = omega (arith, w.inside); room = rw (length-set ns at v) w.room; same = rw (t, append_assoc) w.same }

filling-more : (ns ms : List ℕ) (at r : ℕ) (xs rest goal : List ℕ) (end : ℕ) → Puts r at ns ms xs → length ms ≡ length ns → Filling ns at (xs ++ rest) goal end → Filling ms r rest goal end
filling-more ns ms at r xs rest goal end p e w = record {
  inside = omega (arith, p.end, w.inside, length-append xs rest);
  room = rw e w.room;
  same = rw (p.says, append_assoc) w.same;
}

filling-puts : (ns₀ ns : List ℕ) (used at : ℕ) (more : List ℕ) → Filling ns at [] (take used ns₀ ++ more) (used + length more) → Puts at used ns₀ ns more
filling-puts ns₀ ns used at more w = record {
  end = let z : at + 0 ≡ used + length more = w.inside in omega arith;
  says = sym (append-nil (take at ns)) ∙ w.same;
}

-- ---- one right side

module _ (text names : List ℕ) (l : ℕ) (items ns₀ : List ℕ) (from used : ℕ) where
  abbrev codes : ℕ → List ℕ
  codes i = map code_of (right text names l (drop i items))

  -- the items before i are passed
  abbrev pub Rights : List ℕ → ℕ → ℕ → Type 0
  Rights ns at i = Filling ns at (codes i) (take used ns₀ ++ codes from) (used + length (codes from))

  length-codes : (ss : List Sym) → length (map code_of ss) ≡ length ss
  length-codes [] = refl
  length-codes (s ∷ ss) = ap suc (length-codes ss)

  pub rights-start : used + length (right text names l (drop from items)) ≤ length ns₀ → Rights ns₀ used from
  rights-start h = filling-start ns₀ used (codes from) (rw (length-codes (right text names l (drop from items))) h)

  module _ (ns : List ℕ) (at i : ℕ) (w : Rights ns at i) where
    pub rights-end : length items ≤ i → Puts at used ns₀ ns (codes from)
    unfolding right
    rights-end h = filling-puts ns₀ ns used at (codes from) (rw (drop_past items i h) at w)

    module _ (h : i < length items) where
      split : drop i items ≡ get_or items i 0 ∷ drop (i + 1) items
      split = rw add-one (drop-cons items i 0 h)

      pub rights-mark : get_or items i 0 / 65536 ≡ l → get_or items i 0 % 65536 ≡ 1 → Puts at used ns₀ ns (codes from)
      unfolding right
      rights-mark e m = filling-puts ns₀ ns used at (codes from) (rw (split, eq-eqb (get_or items i 0 / 65536) l e, eq-eqb (get_or items i 0 % 65536) 1 m) at w)

      pub rights-other : (get_or items i 0 / 65536 ≡ l → ⊥) → Rights ns at (i + 1)
      unfolding right
      rights-other e = rw (split, ne_eqb (get_or items i 0 / 65536) l e) at w

      module _ (e : get_or items i 0 / 65536 ≡ l) (m : get_or items i 0 % 65536 ≡ 1 → ⊥) where
        symbol : Filling ns at (code_of (symbol_of text names (get_or items i 0 % 65536)) ∷ codes (i + 1)) (take used ns₀ ++ codes from) (used + length (codes from))
        unfolding right
        symbol = rw (split, eq-eqb (get_or items i 0 / 65536) l e, ne_eqb (get_or items i 0 % 65536) 1 m) at w

        pub rights-room : (n : ℕ) → length ns ≡ n → (p : ℕ) → p ≡ at → p < length ns
        rights-room n f p g = let s = symbol in omega (arith, s.inside, s.room)

        pub rights-symbol : (c : ℕ) → c ≡ code_of (symbol_of text names (get_or items i 0 % 65536)) → (p : ℕ) → p ≡ at → Rights (set ns p c) (at + 1) (i + 1)
        rights-symbol c f p g = rw (f, g) (filling_push ns at _ (codes (i + 1)) _ _ symbol)

-- ---- one production

module _ (ns₀ ns : List ℕ) (used end a : ℕ) (ss : List Sym) (p : Puts end (used + 2) ns₀ ns (map code_of ss)) (room : used + 2 + length ss ≤ length ns₀) where
  size : length (map code_of ss) ≡ length ss
  size = by ss
    where
      by : (ss : List Sym) → length (map code_of ss) ≡ length ss
      by [] = refl
      by (s ∷ ss) = ap suc (by ss)

  front : take (used + 2) ns₀ ≡ take used ns₀ ++ (get_or ns₀ used 0 ∷ get_or ns₀ (used + 1) 0 ∷ [])
  front =
      let one : used + 2 ≡ suc (suc used) = omega arith in
      let two : used + 1 ≡ suc used = omega arith in
      rw (one, take-suc ns₀ (suc used) 0 (omega arith), take-suc ns₀ used 0 (omega arith), append_assoc, two)

  pub production-put : (ms : List ℕ) → ms ≡ set (set ns used a) (used + 1) (end - (used + 2)) → Puts end used ns₀ ms (production_numbers (production_of a ss))
  production-put ms f =
      let k : length (take used ns₀) ≡ used = length-take-le used ns₀ (omega arith) in
      let q : end - (used + 2) ≡ length ss = omega (arith, p.end, size) in
      let i : used < end = omega (arith, p.end) in
      let j : used + 1 < end = omega (arith, p.end) in
      let m : take end ns ≡ take used ns₀ ++ (get_or ns₀ used 0 ∷ get_or ns₀ (used + 1) 0 ∷ map code_of ss) = p.says ∙ rw (front, append_assoc) in
      let once : set (take end ns) used a ≡ take used ns₀ ++ (a ∷ get_or ns₀ (used + 1) 0 ∷ map code_of ss) = rw m (set_at (take used ns₀) _ _ a used k) in
      let again : take used ns₀ ++ (a ∷ get_or ns₀ (used + 1) 0 ∷ map code_of ss) ≡ (take used ns₀ ++ (a ∷ [])) ++ (get_or ns₀ (used + 1) 0 ∷ map code_of ss) = rw append_assoc in
      let wide : length (take used ns₀ ++ (a ∷ [])) ≡ used + 1 = length-append (take used ns₀) (a ∷ []) ∙ rw k in
      record {
        end = omega (arith, p.end, size);
        says = rw (f, take-set-lt end (set ns used a) (used + 1) (end - (used + 2)) j, take-set-lt end ns used a i, once, again, set_at (take used ns₀ ++ (a ∷ [])) _ _ (end - (used + 2)) (used + 1) wide, append_assoc, q);
      }

-- ---- the alternatives of one left side

all_append : (ps qs : List Production) → all_numbers (ps ++ qs) ≡ all_numbers ps ++ all_numbers qs
all_append [] qs = refl
all_append (p ∷ ps) qs = rw (all_append ps qs, append_assoc)

count-append : (ps qs : List Production) → length (ps ++ qs) ≡ length ps + length qs
count-append ps qs = length-append ps qs

module _ (text names : List ℕ) (l a : ℕ) (items ns₀ : List ℕ) (used : ℕ) where
  abbrev alts : ℕ → List Production
  alts i = alternatives text names l a (drop i items)

  pub record Alternatives (ns : List ℕ) (at count i : ℕ) : Type 0 where
    pub fills : Filling ns at (all_numbers (alts i)) (take used ns₀ ++ all_numbers (alts 0)) (used + length (all_numbers (alts 0)))
    pub counts : count + length (alts i) ≡ length (alts 0)
    pub few : used + count ≤ at

  pub alternatives-start : used + length (all_numbers (alternatives text names l a items)) ≤ length ns₀ → Alternatives ns₀ used 0 0
  alternatives-start h = record { fills = filling-start ns₀ used _ h; counts = omega arith; few = omega arith }

  module _ (ns : List ℕ) (at count i : ℕ) (w : Alternatives ns at count i) where
    pub alternatives-end : length items ≤ i → PutsAll (record { used = at; count = count }) used ns₀ ns (alternatives text names l a items)
    unfolding alternatives
    alternatives-end h = record {
      few = w.few;
      count = let z : count + 0 ≡ length (alts 0) = rw (drop_past items i h) at w.counts in omega arith;
      puts = filling-puts ns₀ ns used at _ (rw (drop_past items i h) at w.fills);
    }

    module _ (h : i < length items) where
      apart : drop i items ≡ get_or items i 0 ∷ drop (i + 1) items
      apart = rw add-one (drop-cons items i 0 h)

      pub alternatives-other : (get_or items i 0 / 65536 ≡ l → ⊥) → Alternatives ns at count (i + 1)
      unfolding alternatives
      alternatives-other e = record {
        fills = rw (apart, ne_eqb (get_or items i 0 / 65536) l e) at w.fills;
        counts = rw (apart, ne_eqb (get_or items i 0 / 65536) l e) at w.counts;
        few = w.few;
      }

      module _ (e : get_or items i 0 / 65536 ≡ l) where
        pub alternatives-symbol : (get_or items i 0 % 65536 ≡ 1 → ⊥) → Alternatives ns at count (i + 1)
        unfolding alternatives
        alternatives-symbol m = record {
          fills = rw (apart, eq-eqb (get_or items i 0 / 65536) l e, ne_eqb (get_or items i 0 % 65536) 1 m) at w.fills;
          counts = rw (apart, eq-eqb (get_or items i 0 / 65536) l e, ne_eqb (get_or items i 0 % 65536) 1 m) at w.counts;
          few = w.few;
        }

        module _ (m : get_or items i 0 % 65536 ≡ 1) where
          abbrev here : List ℕ
          here = production_numbers (production_of a (right text names l (drop (i + 1) items)))

          fills-here : Filling ns at (here ++ all_numbers (alts (i + 1))) (take used ns₀ ++ all_numbers (alts 0)) (used + length (all_numbers (alts 0)))
          unfolding alternatives
          fills-here = rw (apart, eq-eqb (get_or items i 0 / 65536) l e, eq-eqb (get_or items i 0 % 65536) 1 m) at w.fills

          counts-here : count + suc (length (alts (i + 1))) ≡ length (alts 0)
          unfolding alternatives
          counts-here = rw (apart, eq-eqb (get_or items i 0 / 65536) l e, eq-eqb (get_or items i 0 % 65536) 1 m) at w.counts

          pub alternatives-room : (n : ℕ) → length ns ≡ n → at + 2 + length (right text names l (drop (i + 1) items)) ≤ length ns
          alternatives-room n f =
              let k : length (map code_of (right text names l (drop (i + 1) items))) ≡ length (right text names l (drop (i + 1) items)) = codes-size (right text names l (drop (i + 1) items)) in
              let g = fills-here in
              omega (arith, g.inside, g.room, length-append here (all_numbers (alts (i + 1))))
            where
              codes-size : (ss : List Sym) → length (map code_of ss) ≡ length ss
              codes-size [] = refl
              codes-size (s ∷ ss) = ap suc (codes-size ss)

          pub alternatives-more : (ms : List ℕ) (r : ℕ) → Puts r at ns ms here → length ms ≡ length ns → Alternatives ms r (count + 1) (i + 1)
          alternatives-more ms r p f = record {
            fills = filling-more ns ms at r here _ _ _ p f fills-here;
            counts = let c = counts-here in omega arith;
            few = omega (arith, p.end, w.few);
          }

-- ---- the empty production of a group

module _ (left a : ℕ) (ns : List ℕ) (used : ℕ) where
  pub empty-none : left < 128 → PutsAll (record { used = used; count = 0 }) used ns ns (empty_of left a)
  empty-none h = rw (lt-leb 128 left h) (record { few = omega arith; count = refl; puts = record { end = omega arith; says = sym (append-nil (take used ns)) } })

  pub empty-room : 128 ≤ left → used + length (all_numbers (empty_of left a)) ≤ length ns → used + 2 ≤ length ns
  empty-room h r = rw (le-leb 128 left h) at r

  pub empty-one : 128 ≤ left → used + length (all_numbers (empty_of left a)) ≤ length ns → (ms : List ℕ) → ms ≡ set (set ns used a) (used + 1) 0 → PutsAll (record { used = used + 2; count = 1 }) used ns ms (empty_of left a)
  empty-one h r ms e =
      let k : used + 2 ≤ length ns = empty-room h r in
      let f : Filling ns used (a ∷ 0 ∷ []) (take used ns ++ (a ∷ 0 ∷ [])) (used + 2) = filling-start ns used (a ∷ 0 ∷ []) k in
      let g : Filling (set (set ns used a) (used + 1) 0) (used + 1 + 1) [] (take used ns ++ (a ∷ 0 ∷ [])) (used + 2) = filling_push _ (used + 1) 0 [] _ _ (filling_push ns used a (0 ∷ []) _ _ f) in
      let q : used + 1 + 1 ≡ used + 2 = omega arith in
      rw (le-leb 128 left h, e) (record { few = omega arith; count = refl; puts = filling-puts ns _ used (used + 2) (a ∷ 0 ∷ []) (rw q at g) })

pub head-put : (ns : List ℕ) (used a z p : ℕ) → p ≡ used → set (set ns p a) (p + 1) z ≡ set (set ns used a) (used + 1) z
head-put ns used a z p e = rw e

-- ---- the productions of one left side, and of all

module _ (text names items : List ℕ) (l left : ℕ) (ns₀ : List ℕ) (used a : ℕ) (e : (a ≡ number_of text names left) × (a < 32768)) where
  left_split : all_numbers (productions_of text names items l left) ≡ all_numbers (alternatives text names l a items) ++ all_numbers (empty_of left a)
  left_split = rw e.0 (all_append (alternatives text names l (number_of text names left) items) (empty_of left (number_of text names left)))

  left-lengths : length (all_numbers (productions_of text names items l left)) ≡ length (all_numbers (alternatives text names l a items)) + length (all_numbers (empty_of left a))
  left-lengths = ap length left_split ∙ length-append (all_numbers (alternatives text names l a items)) (all_numbers (empty_of left a))

  module _ (room : used + length (all_numbers (productions_of text names items l left)) ≤ length ns₀) where
    pub left-first : used + length (all_numbers (alternatives text names l a items)) ≤ length ns₀
    left-first = omega (arith, left-lengths)

    module _ (ns : List ℕ) (p : Put) (w : PutsAll p used ns₀ ns (alternatives text names l a items)) where
      pub left-last : (n : ℕ) → length ns ≡ n → length ns₀ ≡ n → p.used + length (all_numbers (empty_of left a)) ≤ length ns
      left-last n f g = omega (arith, left-lengths, w.puts.end)

      pub left-put : (ms : List ℕ) (q : Put) → PutsAll q p.used ns ms (empty_of left a) → PutsAll (record { used = q.used; count = p.count + q.count }) used ns₀ ms (productions_of text names items l left)
      left-put ms q v = record {
        few = omega (arith, w.few, v.few);
        count = rw (w.count, v.count, e.0) (sym (count-append (alternatives text names l (number_of text names left) items) (empty_of left (number_of text names left))));
        puts = record {
          end = omega (arith, w.puts.end, v.puts.end, left-lengths);
          says = rw left_split (v.puts.says ∙ rw (w.puts.says, append_assoc));
        };
      }

module _ (text names items lefts ns₀ : List ℕ) where
  abbrev all : ℕ → List Production
  all l = productions_from text names items l (drop l lefts)

  pub record Lefts (ns : List ℕ) (at count l : ℕ) : Type 0 where
    pub fills : Filling ns at (all_numbers (all l)) (take 0 ns₀ ++ all_numbers (all 0)) (0 + length (all_numbers (all 0)))
    pub counts : count + length (all l) ≡ length (all 0)
    pub few : 0 + count ≤ at

  pub lefts-start : length (all_numbers (productions_from text names items 0 lefts)) ≤ length ns₀ → Lefts ns₀ 0 0 0
  lefts-start h = record { fills = filling-start ns₀ 0 _ (omega arith); counts = omega arith; few = omega arith }

  module _ (ns : List ℕ) (at count l : ℕ) (w : Lefts ns at count l) where
    pub lefts-end : length lefts ≤ l → PutsAll (record { used = at; count = count }) 0 ns₀ ns (productions_from text names items 0 lefts)
    unfolding productions_from
    lefts-end h = record {
      few = w.few;
      count = let z : count + 0 ≡ length (all 0) = rw (drop_past lefts l h) at w.counts in omega arith;
      puts = filling-puts ns₀ ns 0 at _ (rw (drop_past lefts l h) at w.fills);
    }

    module _ (h : l < length lefts) where
      cut : drop l lefts ≡ get_or lefts l 0 ∷ drop (l + 1) lefts
      cut = rw add-one (drop-cons lefts l 0 h)

      abbrev these : List Production
      these = productions_of text names items l (get_or lefts l 0)

      fills-left : Filling ns at (all_numbers these ++ all_numbers (all (l + 1))) (take 0 ns₀ ++ all_numbers (all 0)) (0 + length (all_numbers (all 0)))
      unfolding productions_from
      fills-left = rw (cut, all_append these (all (l + 1))) at w.fills

      counts-left : count + (length these + length (all (l + 1))) ≡ length (all 0)
      unfolding productions_from
      counts-left = rw (cut, count-append these (all (l + 1))) at w.counts

      pub lefts-room : at + length (all_numbers these) ≤ length ns
      lefts-room = let s = fills-left in omega (arith, s.inside, s.room, length-append (all_numbers these) (all_numbers (all (l + 1))))

      pub lefts-more : (ms : List ℕ) (r : Put) → PutsAll r at ns ms these → length ms ≡ length ns → Lefts ms r.used (count + r.count) (l + 1)
      lefts-more ms r x z = record {
        fills = filling-more ns ms at r.used (all_numbers these) _ _ _ x.puts z fills-left;
        counts = let y = counts-left in omega (arith, x.count);
        few = omega (arith, x.few, w.few);
      }

pub second-inside : (ns : List ℕ) (v a used : ℕ) → v ≡ used → used + 2 ≤ length ns → v + 1 < length (set ns v a)
second-inside ns v a used e h = rw (length-set ns v a) (omega arith)

-- ---- the bytes of numbers

-- the numbers before i take n bytes
pub record Sizes (numbers : List ℕ) (n i : ℕ) : Type 0 where
  pub few : n ≤ 2 * i
  pub rest : n + length (write_numbers (drop i numbers)) ≡ length (write_numbers numbers)

module _ (numbers : List ℕ) where
  pub sizes-start : Sizes numbers 0 0
  sizes-start = record { few = omega arith; rest = omega arith }

  module _ (n i : ℕ) (w : Sizes numbers n i) where
    pub sizes-end : length numbers ≤ i → n ≡ length (write_numbers numbers)
    sizes-end h = let z : n + 0 ≡ length (write_numbers numbers) = rw (drop_past numbers i h) at w.rest in omega arith

    module _ (h : i < length numbers) where
      first : drop i numbers ≡ get_or numbers i 0 ∷ drop (i + 1) numbers
      first = rw add-one (drop-cons numbers i 0 h)

      turn : n + (length (write_number (get_or numbers i 0)) + length (write_numbers (drop (i + 1) numbers))) ≡ length (write_numbers numbers)
      turn = rw (first, length-append (write_number (get_or numbers i 0)) (write_numbers (drop (i + 1) numbers))) at w.rest

      pub sizes-one : get_or numbers i 0 < 128 → Sizes numbers (n + 1) (i + 1)
      unfolding write_number
      sizes-one z = record { few = omega (arith, w.few); rest = let t = rw (lt-ltb (get_or numbers i 0) 128 z) at turn in omega arith }

      pub sizes-two : 128 ≤ get_or numbers i 0 → Sizes numbers (n + 2) (i + 1)
      unfolding write_number
      sizes-two z = record { few = omega (arith, w.few); rest = let t = rw (le-ltb (get_or numbers i 0) 128 z) at turn in omega arith }

-- `rest` is still to come behind the first `at` bytes, and all are `goal`
pub record Pasting (out₀ out : List ℕ) (at : ℕ) (rest goal : List ℕ) : Type 0 where
  pub front : List ℕ
  pub is : out ≡ front ++ drop at out₀
  pub size : length front ≡ at
  pub room : at + length rest ≤ length out₀
  pub same : front ++ rest ≡ goal

pasting-push : (out₀ out : List ℕ) (at v : ℕ) (rest goal : List ℕ) → Pasting out₀ out at (v ∷ rest) goal → Pasting out₀ (set out at v) (at + 1) rest goal
pasting-push out₀ out at v rest goal w =
    let h : at < length out₀ = omega (arith, w.room) in
    record {
      front = w.front ++ (v ∷ []);
      is = rw (w.is, drop-cons out₀ at 0 h, set_at w.front (get_or out₀ at 0) (drop (suc at) out₀) v at w.size, append_assoc, add-one);
      size = length-append w.front (v ∷ []) ∙ rw w.size;
      room = omega (arith, w.room);
      same = rw append_assoc w.same;
    }

module _ (numbers out₀ : List ℕ) (from : ℕ) where
  pub record Bytes (out : List ℕ) (at i : ℕ) : Type 0 where
    pub pastes : Pasting out₀ out at (write_numbers (drop i numbers)) (take from out₀ ++ write_numbers numbers)

  pub bytes-start : from + length (write_numbers numbers) ≤ length out₀ → Bytes out₀ from 0
  bytes-start h = record {
    pastes = record { front = take from out₀; is = sym (take-drop from out₀); size = length-take-le from out₀ (omega arith); room = h; same = refl };
  }
    where
      take-drop : (n : ℕ) (l : List ℕ) → take n l ++ drop n l ≡ l
      take-drop zero l = refl
      take-drop (suc n) [] = refl
      take-drop (suc n) (x ∷ l) = ap (λ (k : List ℕ). x ∷ k) (take-drop n l)

  module _ (out : List ℕ) (at i : ℕ) (w : Bytes out at i) where
    pub bytes-end : length numbers ≤ i → from + length (write_numbers numbers) ≤ length out₀ → Pastes at from out₀ out (write_numbers numbers)
    bytes-end h r =
        let p : Pasting out₀ out at [] (take from out₀ ++ write_numbers numbers) = rw (drop_past numbers i h) at w.pastes in
        let f : p.front ≡ take from out₀ ++ write_numbers numbers = sym (append-nil p.front) ∙ p.same in
        record {
          end = sym p.size ∙ ap length f ∙ length-append (take from out₀) (write_numbers numbers) ∙ rw (length-take-le from out₀ (omega arith));
          says = p.is ∙ rw (f, append_assoc);
        }

    module _ (h : i < length numbers) where
      front-number : drop i numbers ≡ get_or numbers i 0 ∷ drop (i + 1) numbers
      front-number = rw add-one (drop-cons numbers i 0 h)

      module _ (z : get_or numbers i 0 < 128) where
        one : Pasting out₀ out at (get_or numbers i 0 ∷ write_numbers (drop (i + 1) numbers)) (take from out₀ ++ write_numbers numbers)
        unfolding write_number
        one = rw (front-number, lt-ltb (get_or numbers i 0) 128 z) at w.pastes

        pub bytes-one-room : (n : ℕ) → length out ≡ n → length out₀ ≡ n → at < length out
        bytes-one-room n f g = let o = one in omega (arith, o.room)

        pub bytes_one : Bytes (set out at (get_or numbers i 0)) (at + 1) (i + 1)
        bytes_one = record { pastes = pasting-push out₀ out at _ _ _ one }

      module _ (z : 128 ≤ get_or numbers i 0) where
        two : Pasting out₀ out at ((get_or numbers i 0 % 128 + 128) ∷ (get_or numbers i 0 / 128) ∷ write_numbers (drop (i + 1) numbers)) (take from out₀ ++ write_numbers numbers)
        unfolding write_number
        two = rw (front-number, le-ltb (get_or numbers i 0) 128 z) at w.pastes

        pub bytes-two-first : (n : ℕ) → length out ≡ n → length out₀ ≡ n → at < length out
        bytes-two-first n f g = let o = two in omega (arith, o.room)

        pub bytes-two-room : (n : ℕ) → length out ≡ n → length out₀ ≡ n → (v : ℕ) → at + 1 < length (set out at v)
        bytes-two-room n f g v = rw (length-set out at v) (let o = two in omega (arith, o.room))

        pub bytes-two : Bytes (set (set out at (get_or numbers i 0 % 128 + 128)) (at + 1) (get_or numbers i 0 / 128)) (at + 2) (i + 1)
        bytes-two =
            let t : at + 1 + 1 ≡ at + 2 = omega arith in
            record { pastes = rw t at (pasting-push out₀ _ (at + 1) _ _ _ (pasting-push out₀ out at _ _ _ two)) }

-- ---- the table

write-append : (xs ys : List ℕ) → write_numbers (xs ++ ys) ≡ write_numbers xs ++ write_numbers ys
write-append [] ys = refl
write-append (x ∷ xs) ys = rw (write-append xs ys, append_assoc)

module _ (header numbers out : List ℕ) (first rest : ℕ) (e : first ≡ length (write_numbers header)) (f : rest ≡ length (write_numbers numbers)) where
  all-size : length (write_numbers (header ++ numbers)) ≡ first + rest
  all-size = rw (write-append header numbers, length-append (write_numbers header) (write_numbers numbers), e, f)

  pub table-full : length out < first + rest → (r : Result ℕ Refused) → r ≡ Err (record { refusal = LentTooFew; place = 0 }) → WritesTable r out out (write_numbers (header ++ numbers))
  table-full h r x = rw x (record { says = rw (all-size, lt-leb (first + rest) (length out) h); kept = refl })

  pub table-first : first + rest ≤ length out → 0 + length (write_numbers header) ≤ length out
  table-first h = omega arith

  module _ (h : first + rest ≤ length out) (at : ℕ) (out1 : List ℕ) (p : Pastes at 0 out out1 (write_numbers header)) where
    pub table-rest : (n : ℕ) → length out1 ≡ n → length out ≡ n → at + length (write_numbers numbers) ≤ length out1
    table-rest n g k = omega (arith, p.end)

    pub table-written : (end : ℕ) (out2 : List ℕ) → Pastes end at out1 out2 (write_numbers numbers) → WritesTable (Ok end) out out2 (write_numbers (header ++ numbers))
    table-written end out2 q =
        let a : length (write_numbers header) ≡ at = omega (arith, p.end) in
        let start : out1 ≡ write_numbers header ++ drop at out = p.says in
        let keeps : take at out1 ≡ write_numbers header = rw start (take_at (write_numbers header) (drop at out) at a) in
        let b : at + length (write_numbers numbers) ≡ end = omega (arith, q.end) in
        let behind : drop end out1 ≡ drop end out = rw (← b) (sym (drop-drop (length (write_numbers numbers)) at out1) ∙ rw (start, drop_at (write_numbers header) (drop at out) at a, drop-drop)) in
        let whole : out2 ≡ write_numbers (header ++ numbers) ++ drop end out = q.says ∙ rw (keeps, behind, write-append header numbers, append_assoc) in
        let size : length (write_numbers (header ++ numbers)) ≡ end = omega (arith, all-size, a, b) in
        let fits : leb (length (write_numbers (header ++ numbers))) (length out) ≡ true = rw all-size (le-leb (first + rest) (length out) h) in
        record {
          says = rw (fits, whole) (ap on (take_at (write_numbers (header ++ numbers)) (drop end out) end size));
          kept = (omega (arith, all-size, size), rw whole (drop_at (write_numbers (header ++ numbers)) (drop end out) end size));
        }
