-- The strings of one nonterminal are listed, production by production along its links. Assumes nothing.
use Prim.Native.Nat.{ℕ, zero, suc, ◌+◌, ◌-◌, ◌*◌, ◌≤◌, ◌<◌}
use native.Mathlib.Omega.{arith}
use native.Mathlib.Decide.{dec_lt}
use native.Mathlib.Numerals.{add-one}
use mathlib.Core.Path.{◌≡◌, refl, sym, ap, ap₂, ◌∙◌, subst}
use mathlib.Core.Bool.{false}
use mathlib.Core.List.Memᴰ
use mathlib.Core.List.{List, [], ◌∷◌, ◌++◌, map, append_assoc, append-nil}
use borrow.Author.Tests.{eq-eqb, ne_eqb}
use lib.ListN.{length, get_or, drop, length-append, length-map, drop_of_length-le}
use lib.Seq.{drop-cons}
use Rattle.cfg.specs.Grammar.{Word, Grammar, Production, Accepted}
use Rattle.k_tuple.specs.Strings.{Str, slots, is_eps, good, decode, well_formed, width_of, width_field, count_field, slots_field}
use Rattle.k_tuple.specs.Wide.{value}
use Rattle.k_tuple.specs.Packed.{reads, terminals_in}
use Rattle.k_tuple.specs.declared.Terminals.{Terminals}
use Rattle.k_tuples.specs.Sets.{◌∈◌}
use Rattle.k_tuples.specs.States.{State}
use Rattle.k_tuples.specs.Words.{member_at, decode as decode_set}
use Rattle.k_tuples.specs.Work.{got}
use Rattle.k_tuples.specs.Held.{Holds}
use Rattle.k_tuples.specs.Blocks.{part_at}
use Rattle.k_tuples.proofs.Held.{holds-set}
use Rattle.k_tuples.proofs.Blocks.{in-sets, part_room, part-holds}
use Rattle.first_theory.specs.Compute.{str}
use Rattle.decision_theory.specs.Needed.{Of, OneProduction, own, own_from, Choice, Decided, decide, RightFor, right-one, right-several}
use Rattle.decision_theory.specs.Automaton.{Entry, entries_in, entries_of}
use Rattle.decision_theory.proofs.Needed.{own-means, choice-of, decided-right}
use Rattle.decision_theory.proofs.Ahead.{ahead-some}
use Rattle.std.specs.Prelude.{Result, Ok, Err}
use Rattle.refusals.specs.declared.Refusal.{Refusal}
use Rattle.refusals.specs.declared.Refusal.TheVariants.{TooManyStates}
use Rattle.trees.specs.Listed.{Listed, Plain, Addable, SameWidth, entries, Appended, no_room, appended}
use Rattle.trees.specs.Collected.{entries_for, Collect, Collected, over, collected}
use Rattle.trees.proofs.Collecting.{set-entries, set-plain}
use Rattle.decision.specs.declared.Layout.{Layout}
use Rattle.decision.specs.declared.Links.{Links}
use Rattle.decision.specs.Own.{left_at, next_at, first_at, FirstFrom, SidesOf}
use Rattle.decision.specs.Steps.{held, production_set, grammar_of}
use Rattle.decision.specs.Onward.{choices_in, JoinedFor}
use Rattle.decision.proofs.Answering.{table-ok}
use Rattle.decision.proofs.Onward.{needed-decided}
use Rattle.automaton.specs.declared.task.Task.{Task}
use Rattle.automaton.specs.Steps.{Planned, Stands, strings_by, Gathered, strings_of, strings}

-- ---- a nonterminal's productions, by its links

module _ (ps : List Production) (links : Links) (sides : SidesOf ps links) (A : ℕ) where
  abbrev none_left : Production
  none_left = record { left = 0; right = [] }

  -- behind the last there is none,
  own-end : (i : ℕ) → length ps ≤ i → own_from A i (drop i ps) ≡ []
  unfolding own_from
  own-end i h = ap (own_from A i) (drop_of_length-le ps h)

  -- one of A's own is the first of those from it on,
  own-here : (i : ℕ) → i < length ps → left_at links i ≡ A → own_from A i (drop i ps) ≡ i ∷ own_from A (suc i) (drop (suc i) ps)
  unfolding own_from
  own-here i h e = ap (own_from A i) (drop-cons ps i none_left h) ∙ rw (eq-eqb (get_or ps i none_left).left A (sym (sides.each i h) ∙ e))

  -- and another's is none of them.
  own-not : (i : ℕ) → i < length ps → ¬ left_at links i ≡ A → own_from A i (drop i ps) ≡ own_from A (suc i) (drop (suc i) ps)
  unfolding own_from
  own-not i h e = ap (own_from A i) (drop-cons ps i none_left h) ∙ rw (ne_eqb (get_or ps i none_left).left A (λ q. e (sides.each i h ∙ q)))

  -- those between are others'
  own-skip : (d from f : ℕ) → f ≡ from + d → f ≤ length ps → ((j : ℕ) → from ≤ j → j < f → ¬ left_at links j ≡ A) → own_from A from (drop from ps) ≡ own_from A f (drop f ps)
  own-skip zero from f e h none = let z : from ≡ f = omega arith in ap (λ (i : ℕ). own_from A i (drop i ps)) z
  own-skip (suc d) from f e h none = own-not from (omega arith) (none from (omega arith) (omega arith)) ∙ own-skip d (suc from) f (omega arith) h (λ j l m. none j (omega arith) m)

  -- So those from a place on are those from the first of them on.
  own_first : {p from f : ℕ} → p ≡ length ps → FirstFrom links p A from f → own_from A from (drop from ps) ≡ own_from A f (drop f ps)
  own_first {p} {from} {f} e q = let a = q.above in let b = q.below in own-skip (f - from) from f (omega arith) (omega arith) q.none

-- ---- what is decided

-- a nonterminal that needs k is decided, and rightly
pub record Right (limit c : ℕ) (g : Grammar) (A k : ℕ) : Type 0 where
  pub d : Decided
  pub is : decide c g A limit ≡ got d
  pub at : d.k ≡ k
  pub right : RightFor g A d

module _ {task : Task} (planned : Planned task) where
  abbrev g : Grammar
  g = grammar_of task.table.now

  -- the grammar was accepted
  pub ok : Accepted g
  ok = table-ok planned.on

  -- what needs k is decided rightly
  pub rightly : {k A : ℕ} {result : List ℕ} → Stands task k A result → Right task.limit task.c g A k
  rightly {k} {A} s = let (d, e, z) = needed-decided task.c g A task.limit k s.needs in record { d = d; is = e; at = z; right = decided-right g ok task.c planned.on.c>0 A task.limit d e }

  module _ {A : ℕ} (h : A < task.layout.n) where
    -- nonterminals are below 128
    small-number : A < 128
    small-number = let f = planned.fit.few in omega arith

    -- the first production of A is linked
    first_of : FirstFrom task.links.now task.layout.p A 0 (first_at task.links.now A)
    first_of = planned.fit.linked.firsts A small-number

    -- ---- a k above 0

    module _ {k : ℕ} (k>0 : 1 ≤ k) {result : List ℕ} (at : JoinedFor task.limit task.c k g task.layout A result) where
      abbrev choice : ℕ → Choice
      choice i = record { production = i; ahead = production_set task.layout (held task.layout result) i }

      -- no joined string is ε
      not-eps : (i : ℕ) → i ∈ own g A → (z : Str) → z ∈ production_set task.layout (held task.layout result) i → is_eps z ≡ false
      not-eps i m z n = by (record { k = k; choices = choices_in task.layout g (held task.layout result) A }) refl refl (decided-right g ok task.c planned.on.c>0 A task.limit _ at.decided)
        where
          word : (w : Word) → z ≡ str w → ¬ w ≡ [] → is_eps z ≡ false
          word [] e q = absurd (q refl)
          word (a ∷ w) e q = ap is_eps e

          by : (d : Decided) → d.k ≡ k → d.choices ≡ choices_in task.layout g (held task.layout result) A → RightFor g A d → is_eps z ≡ false
          by d e f (right-one o one) = absurd (let q = k>0 in omega arith)
          by d e f (right-several {k = j} {xs = xs} several j>0 each s needs) =
              let (x, l, is) = choice-of g j each i m in
              let (j, o, q) = Memᴰ.of_map choice (own g A) (subst (λ (ys : List Choice). x ∈ ys) f l) in
              let same : j ≡ i = ap (λ (y : Choice). y.production) q ∙ is.number in
              let set : x.ahead ≡ production_set task.layout (held task.layout result) i = ap (λ (y : Choice). y.ahead) (sym q) ∙ ap (λ (b : ℕ). production_set task.layout (held task.layout result) b) same in
              let (w, v) = is.set.words z (subst (λ (a : List Str). z ∈ a) (sym set) n) in
              word w v (ahead-some g ok _ j>0 i ((own-means g A i).0 m).0 w ((is.set.has w).0 (subst (λ (y : Str). y ∈ x.ahead) v (subst (λ (a : List Str). z ∈ a) (sym set) n))))

    -- ---- one production

    -- A's first production is the one that it has
    one-first : {i : ℕ} → Of g A i → OneProduction g A → first_at task.links.now A ≡ i
    one-first {i} o one = by (dec_lt i (first_at task.links.now A))
      where
        mine : left_at task.links.now i ≡ A
        mine = planned.sides.each i o.0 ∙ o.1

        by : Dec (i < first_at task.links.now A) → first_at task.links.now A ≡ i
        by (yes l) = absurd (first_of.none i (omega arith) l mine)
        by (no n) =
            let p = planned.sized.p in
            let l : first_at task.links.now A < length g.productions = omega (arith, o.0) in
            one.2 (first_at task.links.now A) (l, sym (planned.sides.each (first_at task.links.now A) l) ∙ first_of.here (omega arith)) ∙ sym (one.2 i o)

-- the strings of the productions of A from i on
abbrev rest_from : Layout → State → ℕ → List Production → ℕ → List Entry
rest_from u R A ps i = entries_of (map (λ (j : ℕ). record { production = j; ahead = production_set u R j }) (own_from A i (drop i ps)))

-- ---- the list

-- as many strings as are told
entries-length : (ws : List ℕ) (m : ℕ) → length (entries ws m) ≡ m
unfolding entries
entries-length ws zero = refl
entries-length ws (suc m) = length-append (entries ws m) _ ∙ (let e = entries-length ws m in omega arith)

-- none so far, of any width
abbrev nothing-listed : (w : ℕ) (list : List ℕ) → Listed list 0
nothing-listed w list = record { width = w; room = omega arith; plain = λ j h. absurd (omega arith); small = λ j h. absurd (omega arith) }

-- the loop: m strings are listed, and those of the productions from i on are to come
pub record Gathers (limit c : ℕ) (table : List ℕ) (u : Layout) (links : Links) (k A : ℕ) (result : List ℕ) (size m i : ℕ) (list : List ℕ) : Type 0 where
  pub at : JoinedFor limit c k (grammar_of table) u A result
  pub listed : SameWidth list m (width_of ((grammar_of table).t + 5))
  pub below : i ≤ u.p
  pub mine : i < u.p → left_at links i ≡ A
  pub few : m ≤ 2048
  pub room : 6144 ≤ length list
  pub long : length list ≡ size
  pub rest : entries list m ++ rest_from u (held u result) A (grammar_of table).productions i ≡ strings limit c (grammar_of table) A

module _ {task : Task} {k A : ℕ} {result : List ℕ} (planned : Planned task) (stands : Stands task k A result) (k>0 : 1 ≤ k) (h : A < task.layout.n) where
  abbrev G : Grammar
  G = grammar_of task.table.now

  -- nothing is listed, and all is to come
  pub gathers-start : (list : List ℕ) → 6144 ≤ length list → Gathers task.limit task.c task.table.now task.layout task.links.now k A result (length list) 0 (first_at task.links.now A) list
  unfolding entries
  gathers-start list room =
      let at = stands.joined k>0 in
      let first = first_of planned h in
      record {
        at = at;
        listed = (nothing-listed (width_of ((grammar_of task.table.now).t + 5)) list, refl);
        below = first.below;
        mine = first.here;
        few = omega arith;
        room = room;
        long = refl;
        rest =
            ap (λ (is : List ℕ). entries_of (map (λ (j : ℕ). record { production = j; ahead = production_set task.layout (held task.layout result) j }) is)) (sym (own_first G.productions task.links.now planned.sides A planned.sized.p first))
            ∙ ap strings_by (sym at.decided);
      }

  module _ {size m i : ℕ} {list : List ℕ} (l : Gathers task.limit task.c task.table.now task.layout task.links.now k A result size m i list) where
    -- nothing is to come, and all is listed
    pub gathers-end : task.layout.p ≤ i → Gathered (strings_of task A) list (Ok m)
    unfolding entries_of
    gathers-end e =
        let p = planned.sized.p in
        let none : own_from A i (drop i G.productions) ≡ [] = own-end G.productions task.links.now planned.sides A i (omega arith) in
        Gathered.gathered m refl l.few l.listed.0
        (sym (append-nil (entries list m)) ∙ ap (λ (is : List ℕ). entries list m ++ entries_of (map (λ (j : ℕ). record { production = j; ahead = production_set task.layout (held task.layout result) j }) is)) (sym none) ∙ l.rest)

    module _ (e : i < task.layout.p) where
      -- production i is one of the grammar's,
      inside : i < length G.productions
      inside = let p = planned.sized.p in omega arith

      -- and one of A's,
      mine-own : i ∈ own G A
      mine-own = (own-means G A i).1 (inside, sym (planned.sides.each i inside) ∙ l.mine e)

      -- with a block in the result,
      in-result : task.layout.n + i < task.layout.sets
      in-result = let w = planned.fit.whole in omega arith

      -- which holds its joined set,
      set_holds : Holds k (width_of ((grammar_of task.table.now).t + 5)) (production_set task.layout (held task.layout result) i) (part_at task.layout.b (task.layout.n + i) result)
      set_holds = part-holds l.at.store.stored (task.layout.n + i) (in-sets l.at.store in-result)

      -- none of whose members is ε
      members_plain : (j : ℕ) → j < length (decode_set (part_at task.layout.b (task.layout.n + i) result)) → Plain l.listed.0.width (member_at (part_at task.layout.b (task.layout.n + i) result) (2 * j + 1))
      members_plain j b = subst (λ (w : ℕ). Plain w (member_at (part_at task.layout.b (task.layout.n + i) result) (2 * j + 1))) (sym l.listed.1) (set-plain k (width_of ((grammar_of task.table.now).t + 5)) _ _ set_holds (not-eps planned h k>0 l.at i mine-own) j b)

      -- so its members can be listed
      pub gathers-asks : Collect list m (part_at task.layout.b (task.layout.n + i) result) i
      gathers-asks = record {
        listed = l.listed.0;
        few = l.few;
        room = l.room;
        is_set = holds-set set_holds;
        plain = members_plain;
        small = let f = planned.fit.linked.few in omega arith;
      }

      -- its block is within the result
      pub gathers-room : (task.layout.n + i) * task.layout.b + task.layout.b ≤ length result
      gathers-room = part_room l.at.store.stored (task.layout.n + i) (in-sets l.at.store in-result)

      -- the strings of production i are the next
      set_next : entries_for i (decode_set (part_at task.layout.b (task.layout.n + i) result)) ≡ entries_in i (production_set task.layout (held task.layout result) i)
      set_next = set-entries k (width_of ((grammar_of task.table.now).t + 5)) _ _ set_holds i

      -- what is to come begins with them
      split : rest_from task.layout (held task.layout result) A G.productions i ≡ entries_for i (decode_set (part_at task.layout.b (task.layout.n + i) result)) ++ rest_from task.layout (held task.layout result) A G.productions (suc i)
      unfolding entries_of
      split =
          ap (λ (is : List ℕ). entries_of (map (λ (j : ℕ). record { production = j; ahead = production_set task.layout (held task.layout result) j }) is)) (own-here G.productions task.links.now planned.sides A i inside (l.mine e))
          ∙ ap (λ (E : List Entry). E ++ rest_from task.layout (held task.layout result) A G.productions (suc i)) (sym set_next)

      -- listed with them, the rest is to come
      whole : (entries list m ++ entries_for i (decode_set (part_at task.layout.b (task.layout.n + i) result))) ++ rest_from task.layout (held task.layout result) A G.productions (suc i) ≡ strings_of task A
      whole = append_assoc (entries list m) _ _ ∙ ap (λ (E : List Entry). entries list m ++ E) (sym split) ∙ l.rest

      module _ {list' : List ℕ} {r : Result ℕ Refusal} (told : Collected m i (part_at task.layout.b (task.layout.n + i) result) list list' r) where
        -- they were too many
        pub gathers-over : (e : Refusal) → r ≡ Err e → Gathered (strings_of task A) list' (Err e)
        gathers-over e z = by told
          where
            many : 2048 < m + length (decode_set (part_at task.layout.b (task.layout.n + i) result)) → 2048 < length (strings_of task A)
            many b =
                let D = decode_set (part_at task.layout.b (task.layout.n + i) result) in
                let x = sym (ap length whole) ∙ length-append (entries list m ++ entries_for i D) (rest_from task.layout (held task.layout result) A G.productions (suc i)) in
                let y = length-append (entries list m) (entries_for i D) in
                let v = entries-length list m in
                let n : length (entries_for i D) ≡ length D = length-map D (λ (t : Terminals). record { word = terminals_in (reads t); production = i }) in
                omega arith

            by : Collected m i (part_at task.layout.b (task.layout.n + i) result) list list' r → Gathered (strings_of task A) list' (Err e)
            by (over q b s) = Gathered.over (sym z ∙ q) (many b)
            by (collected q b f s es) = let x : Ok (m + length (decode_set (part_at task.layout.b (task.layout.n + i) result))) ≡ Err e = sym q ∙ z in let y : ◌≡◌ {A = ℕ} 0 1 = cc in absurd (omega arith)

        -- they are listed, and the task.links.now lead to the next production
        pub gathers-more : (more : ℕ) → r ≡ Ok more → Gathers task.limit task.c task.table.now task.layout task.links.now k A result size more (next_at task.links.now i) list'
        gathers-more more z = by told
          where
            next : FirstFrom task.links.now task.layout.p A (i + 1) (next_at task.links.now i)
            next = subst (λ (B : ℕ). FirstFrom task.links.now task.layout.p B (i + 1) (next_at task.links.now i)) (l.mine e) (planned.fit.linked.nexts i (omega arith) e)

            on : rest_from task.layout (held task.layout result) A G.productions (suc i) ≡ rest_from task.layout (held task.layout result) A G.productions (next_at task.links.now i)
            on =
                ap (λ (j : ℕ). rest_from task.layout (held task.layout result) A G.productions j) (sym (add-one i))
                ∙ ap (λ (is : List ℕ). entries_of (map (λ (j : ℕ). record { production = j; ahead = production_set task.layout (held task.layout result) j }) is)) (own_first G.productions task.links.now planned.sides A planned.sized.p next)

            by : Collected m i (part_at task.layout.b (task.layout.n + i) result) list list' r → Gathers task.limit task.c task.table.now task.layout task.links.now k A result size more (next_at task.links.now i) list'
            by (over q b s) = let x : Err TooManyStates ≡ Ok more = sym q ∙ z in let y : ◌≡◌ {A = ℕ} 0 1 = cc in absurd (omega arith)
            by (collected q b f s es) =
                let x : Ok (m + length (decode_set (part_at task.layout.b (task.layout.n + i) result))) ≡ Ok more = sym q ∙ z in
                let n : m + length (decode_set (part_at task.layout.b (task.layout.n + i) result)) ≡ more = cc in
                let (o, w) = f l.listed.0 members_plain in
                record {
                  at = l.at;
                  listed = subst (λ (j : ℕ). SameWidth list' j (width_of ((grammar_of task.table.now).t + 5))) n (o, w ∙ l.listed.1);
                  below = next.below;
                  mine = next.here;
                  few = omega arith;
                  room = let a = l.room in omega arith;
                  long = s ∙ l.long;
                  rest = ap₂ (λ (E F : List Entry). E ++ F) (ap (entries list') (sym n) ∙ es) (sym on) ∙ whole;
                }

-- the next production of the same left side is a later one
pub next-later : {task : Task} → Planned task → (i : ℕ) → i < task.layout.p → i < next_at task.links.now i
next-later planned i h = let q = (planned.fit.linked.nexts i (omega arith) h).above in omega arith

-- ---- one production: the empty string

abbrev empty_string : Terminals
empty_string = record { lo = 0; hi = 1152921504606846976 }

-- its two words are read as the empty string
empty-reads : reads empty_string ≡ good 1 (slots [])
unfolding decode well_formed width_field value count_field slots_field
empty-reads = refl

module _ {task : Task} {A : ℕ} {result : List ℕ} (planned : Planned task) (stands : Stands task 0 A result) (h : A < task.layout.n) where
  -- it can be listed
  pub one-asks : (list : List ℕ) → 6144 ≤ length list → Addable list 0 (record { lo = 0; hi = 1152921504606846976 }) (first_at task.links.now A)
  one-asks list room = record {
    listed = nothing-listed 1 list;
    plain = record { word = []; is = empty-reads };
    small = let f = planned.fit.linked.few in let b = (first_of planned h).below in omega arith;
    room = room;
  }

  -- and is then all that is listed
  pub one-listed : {list list' : List ℕ} {r : Result ℕ Refusal} → 6144 ≤ length list → Appended 0 (record { lo = 0; hi = 1152921504606846976 }) (first_at task.links.now A) list list' r → Gathered (strings_of task A) list' r
  unfolding entries entries_of
  one-listed {list} {list'} {r} room told = by told
    where
      alone : (d : Decided) → d.k ≡ 0 → RightFor (grammar_of task.table.now) A d → record { word = []; production = first_at task.links.now A } ∷ [] ≡ entries_of d.choices
      alone d z (right-one o one) = ap (λ (i : ℕ). record { word = []; production = i } ∷ []) (one-first planned h o one)
      alone d z (right-several n k>0 each s needs) = absurd (omega arith)

      by : Appended 0 (record { lo = 0; hi = 1152921504606846976 }) (first_at task.links.now A) list list' r → Gathered (strings_of task A) list' r
      by (no_room q b e) = absurd (omega arith)
      by (appended q b f s e) =
          let right = rightly planned stands in
          Gathered.gathered 1 q (omega arith) (f (nothing-listed 1 list) (record { word = []; is = empty-reads })).0
          (e ∙ ap (λ (w : Word). record { word = w; production = first_at task.links.now A } ∷ []) (ap terminals_in empty-reads) ∙ alone right.d right.at right.right ∙ ap strings_by (sym right.is))
