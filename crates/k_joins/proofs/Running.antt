-- The loops of src/runs.rt: rows and runs that are written, parts of a set that are gathered, and a set that takes a part of another at a time. Assumes nothing.
use mathlib.Core.Path.{◌≡◌, refl, sym, ap, ap₂, ◌∙◌, subst}
use mathlib.Core.Bool.{Bool, true, false, cond}
use mathlib.Core.List.{List, [], ◌∷◌, ◌++◌, append_assoc, append-nil}
use Prim.Native.Nat.{ℕ, ◌+◌, ◌-◌, ◌*◌, ◌%◌, ◌^◌, ◌≤◌, ◌<◌}
use native.Mathlib.Nat.{mod-eq_of_lt, min-eq_right, min-le_left}
use native.Mathlib.Omega.{arith}
use lib.ListN.{length, take, drop, set, replicate, length-append, length-drop, length-map, length-take, length-replicate, drop_of_length-le, take-append-drop}
use lib.Seq.{take-add, drop-append-le, length-take-le}
use Rattle.k_tuple.specs.declared.Terminals.{Terminals}
use Rattle.k_tuple.specs.Strings.{number, fields, count_field, width_field, slots_field}
use Rattle.k_tuple.specs.Packed.{Room, words, width_in, number_of, reads, joined, cut_in, eps_in, complete_in}
use Rattle.k_tuple.proofs.Append.{Parts, room-left, grows}
use Rattle.k_tuple.proofs.Held.{seen, length-is, slots-are, plain-stored}
use Rattle.k_tuple.proofs.Round.{stored-lt}
use Rattle.k_tuples.specs.declared.set.Grown.{Grown}
use Rattle.k_tuples.specs.declared.set.Grown.TheVariants.{Same}
use Rattle.refusals.specs.declared.Refusal.{Refusal}
use Rattle.std.specs.Prelude.{Result, Ok, Err}
use Rattle.std.proofs.lemmas.List.{map-append}
use Rattle.k_tuples.specs.Members.{before, rising, adding, add_all}
use Rattle.k_tuples.specs.Words.{count_word, number_in, member_at, encode, decode, room_of, Growth, IsSet, Grew, grown_from, is_full}
use Rattle.k_tuples.specs.Cores.{with_gap}
use Rattle.k_tuples.proofs.Rising.{both, rising-add_all, length-add_all, add_all-append}
use Rattle.k_tuples.proofs.Words.{words-room, length-decode, rest-member, set-some, set-within, decode-encode, length-encode, encode-is-set, encode-none, zeros-set}
use Rattle.k_tuples.proofs.Inserting.{grown-full, grew-idle, gap-encode}
use Rattle.k_tuples.proofs.Filling.{Way, Filling, grown-fits, grew-over, grew-length, grew-decode, grew-number, grew-set}
use Rattle.k_joins.specs.Parts.{between, cut_of, on_at, CutAdded, KeptStep, cuts_of, keep_of, keeps_of, follows_of, run_of, meet_of, meets_of, left_of, lefts_of, Follows, AllFollow, AllPairs, Coded, Blank, RunPart, Gathered, ChunkEnd}
use Rattle.k_joins.proofs.Adding.{add_all-most}

-- ---- parts of a set

pub between_more : {t : ℕ} (i : ℕ) (xs : List ℕ) → i ≤ t → t < length (decode xs) → between i (t + 1) xs ≡ between i t xs ++ member_at xs (2 * t + 1) ∷ []
between_more {t} i xs h l =
    let next : take 1 (drop t (decode xs)) ≡ member_at xs (2 * t + 1) ∷ [] = ap (take 1) (rest-member xs t (omega (arith, length-decode xs))) in
    let size : i ≤ length (take t (decode xs)) = rw (length-take-le t (decode xs) (omega arith)) h in
    ap (drop i) (take-add t 1 (decode xs) ∙ ap (λ (r : List Terminals). take t (decode xs) ++ r) next) ∙ drop-append-le i (take t (decode xs)) (member_at xs (2 * t + 1) ∷ []) size

pub between_none : (i : ℕ) (xs : List ℕ) → between i i xs ≡ []
between_none i xs = drop_of_length-le (take i (decode xs)) {i = i} (rw (length-take i (decode xs)) (min-le_left i (length (decode xs))))

pub between-rest : (i e : ℕ) (xs : List ℕ) → i ≤ e → e ≤ length (decode xs) → drop i (decode xs) ≡ between i e xs ++ drop e (decode xs)
between-rest i e xs h l =
    ap (drop i) (sym (take-append-drop e (decode xs))) ∙ drop-append-le i (take e (decode xs)) (drop e (decode xs)) (rw (length-take-le e (decode xs) l) h)

pub length-between : (i e : ℕ) (xs : List ℕ) → e ≤ length (decode xs) → length (between i e xs) ≡ e - i
length-between i e xs h = length-drop i (take e (decode xs)) ∙ rw (length-take-le e (decode xs) h)

-- ---- what a member gives

abbrev pub its-cut : ℕ → Way
its-cut r = record { one = cut_of r; all = cuts_of r; none = refl; more = λ x xs. refl }

abbrev pub if_kept : ℕ → Way
if_kept k = record { one = keep_of k; all = keeps_of k; none = refl; more = λ x xs. refl }

abbrev pub its-meet : ℕ → List Terminals → Way
its-meet k xs = record { one = meet_of k xs; all = meets_of k xs; none = refl; more = λ y ys. refl }

abbrev pub its-left : ℕ → List Terminals → Way
its-left k ys = record { one = left_of k ys; all = λ xs. lefts_of k xs ys; none = refl; more = λ x xs. refl }

pub run_none : (k : ℕ) (xs : List Terminals) → run_of k xs [] ≡ []
unfolding run_of
run_none k xs = refl

pub run-cons : (k : ℕ) (xs : List Terminals) (y : Terminals) (ys : List Terminals) → run_of k xs (y ∷ ys) ≡ follows_of k y xs ++ run_of k xs ys
unfolding run_of
run-cons k xs y ys = refl

abbrev pub its-run : ℕ → List Terminals → Way
its-run k xs = record { one = λ y. follows_of k y xs; all = run_of k xs; none = run_none k xs; more = run-cons k xs }

way-append : (W : Way) (p q : List Terminals) → W.all (p ++ q) ≡ W.all p ++ W.all q
way-append W [] q = sym (ap (λ (l : List Terminals). l ++ W.all q) W.none)
way-append W (x ∷ p) q =
    W.more x (p ++ q) ∙ ap (λ (l : List Terminals). W.one x ++ l) (way-append W p q) ∙ sym (append_assoc (W.one x) (W.all p) (W.all q))
    ∙ ap (λ (l : List Terminals). l ++ W.all q) (sym (W.more x p))

way-last : (W : Way) (p : List Terminals) (x : Terminals) → W.all (p ++ x ∷ []) ≡ W.all p ++ W.one x
way-last W p x =
    way-append W p (x ∷ []) ∙ ap (λ (l : List Terminals). W.all p ++ l) (W.more x [] ∙ ap (λ (l : List Terminals). W.one x ++ l) W.none ∙ append-nil (W.one x))

module _ {out exit : List ℕ} {m : Terminals} {g : Growth} {t : Bool} (y : Terminals) (at : m ≡ y) where
  pub cut-given : {z : Terminals} (r : ℕ) → t ≡ eps_in (reads m) → t ≡ false → z ≡ cut_in r (reads m) → Grew out exit (adding z (decode out)) g → CutAdded r y out exit
  unfolding add_all
  cut-given r told e f h = record { told = g; grew = rw (sym at, sym told, e, sym f) h }

  pub kept-given : {s : Result ℕ Refusal} (p k : ℕ) → t ≡ complete_in k (reads m) → t ≡ true → Grew out exit (adding m (decode out)) g → s ≡ on_at p g → KeptStep k y s out exit
  unfolding add_all
  kept-given p k told e h f = record { told = g; at = p; is = f; grew = rw (sym at, sym told, e) h }

module _ {out : List ℕ} {m : Terminals} {t : Bool} (y : Terminals) (at : m ≡ y) where
  pub no_cut : (r : ℕ) → t ≡ eps_in (reads m) → t ≡ true → IsSet out → CutAdded r y out out
  unfolding add_all
  no_cut r told e s = record { told = Ok Same; grew = rw (sym at, sym told, e) (grew-idle s) }

  pub not-kept : {p : ℕ} (k : ℕ) → t ≡ complete_in k (reads m) → t ≡ false → IsSet out → KeptStep k y (Ok p) out out
  unfolding add_all
  not-kept {p} k told e s = record { told = Ok Same; at = p; is = refl; grew = rw (sym at, sym told, e) (grew-idle s) }

-- what the answer of a step says of the set
pub record Went (at a : ℕ) (told : Growth) : Type 0 where
  pub grown : Grown
  pub is : told ≡ Ok grown
  pub same : at ≡ a

pub went_on : {at a : ℕ} {told : Growth} → on_at at told ≡ Ok a → Went at a told
went_on {told = Ok t} e = record { grown = t; is = refl; same = cc }
went_on {told = Err x} e = cc

pub stayed : {x : Refusal} {told : Growth} (at : ℕ) → on_at at told ≡ Err x → told ≡ Err x
stayed {told = Ok t} at e = cc
stayed {told = Err y} at e = cc

-- ---- a set that takes what the members i to e of another give

module _ {W : Way} {src entry ws exit : List ℕ} {goal : List Terminals} {n old i e : ℕ} {r : Growth}
    (f : Filling W src entry goal n old i ws) (from : i ≤ e) (to : e ≤ length (decode src)) (given : List Terminals)
    (same : add_all given (decode ws) ≡ add_all (W.all (between i e src)) (decode ws)) (g : Grew ws exit (add_all given (decode ws)) r) where
  rest : List Terminals
  rest = W.all (drop e (decode src))

  rest-to-come : add_all rest (add_all given (decode ws)) ≡ goal
  unfolding rest
  rest-to-come =
      ap (add_all rest) same ∙ sym (add_all-append (W.all (between i e src)) rest (decode ws))
      ∙ ap (λ (l : List Terminals). add_all l (decode ws)) (sym (way-append W (between i e src) (drop e (decode src))) ∙ ap W.all (sym (between-rest i e src from to)))
      ∙ f.to-come

  pub part-more : {t : Grown} → r ≡ Ok t → Filling W src entry goal n old e exit
  unfolding rest
  part-more t =
      let e' : is_full r ≡ false = ap is_full t in
      let some : 1 ≤ length ws = set-some f.is_set in
      record {
        is_set = grew-set g e' some (rising-add_all given (decode ws) f.is_set.rises);
        as_long = grew-length g e' some ∙ f.as_long;
        number = grew-number g e' ∙ f.number;
        counted = f.counted;
        had = f.had;
        to-come = ap (add_all rest) (grew-decode g e') ∙ rest-to-come;
      }

  pub part-full : {x : Refusal} {q : Growth} → r ≡ Err x → q ≡ Err x → Grew entry exit goal q
  unfolding rest
  part-full t u =
      let over : room_of (length entry) < length goal =
      rw (← f.as_long) (omega (arith, grew-over g (ap is_full t), length-add_all rest (add_all given (decode ws)), ap length rest-to-come)) in
      record { answer = u ∙ sym t ∙ g.answer ∙ grown-full _ _ _ (grew-over g (ap is_full t)) ∙ sym (grown-full _ _ _ over); words = λ h. absurd (omega arith) }

-- ---- one member behind the others

pub pushed : {n : ℕ} {ws gap exit : List ℕ} (x : Terminals) → Coded ws → n ≡ length (decode ws) → gap ≡ with_gap (2 * n + 1) (2 * n + 1) x ws → 2 * n + 3 ≤ length ws → n < 4294967295 → exit ≡ set gap 0 (count_word 0 (n + 1))
    → exit ≡ encode 0 (length ws) (decode ws ++ x ∷ [])
pushed {n} {ws} {gap} {exit} x c e g some few h =
    let ms = decode ws in
    let none : ms ≡ ms ++ [] = sym (append-nil ms) in
    let size : n ≡ length (ms ++ []) = e ∙ ap length none in
    h
    ∙ ap₂ (λ (l : List ℕ) (m : ℕ). set l 0 (count_word 0 (m + 1))) (g ∙ ap (with_gap (2 * n + 1) (2 * n + 1) x) (c.is ∙ ap (encode 0 (length ws)) none)) size
    ∙ gap-encode 0 (length ws) ms [] x (2 * n + 1) (2 * n + 1) (omega arith) (omega arith)

-- ---- a row

-- on its way: the members i to t of xs, each followed by y, stand behind the n members that there were
pub record Rowing (k : ℕ) (y : Terminals) (xs entry : List ℕ) (n i e t : ℕ) (ws : List ℕ) : Type 0 where
  pub is : ws ≡ encode 0 (length entry) (decode entry ++ follows_of k y (between i t xs))
  pub members : decode ws ≡ decode entry ++ follows_of k y (between i t xs)
  pub coded : Coded ws
  pub place : n + (t - i) ≡ length (decode ws)
  pub from : i ≤ t
  pub to : t ≤ e
  pub as_long : length ws ≡ length entry

pub row-start : {n i e : ℕ} (k : ℕ) (y : Terminals) (xs entry : List ℕ) → Coded entry → n ≡ length (decode entry) → i ≤ e → Rowing k y xs entry n i e i entry
row-start {n} {i} {e} k y xs entry c s h =
    let none : decode entry ≡ decode entry ++ follows_of k y (between i i xs) = sym (append-nil (decode entry)) ∙ ap (λ (l : List Terminals). decode entry ++ l) (sym (ap (follows_of k y) (between_none i xs))) in
    record {
      is = c.is ∙ ap (encode 0 (length entry)) none;
      members = none;
      coded = c;
      place = omega arith;
      from = omega arith;
      to = h;
      as_long = refl;
    }

encode-coded : (n : ℕ) (ms : List Terminals) (ws : List ℕ) → ws ≡ encode 0 n ms → 2 * length ms + 1 ≤ n → length ms < 4294967296 → (Coded ws) × (length ws ≡ n) × (decode ws ≡ ms)
encode-coded n ms ws e h few =
    let size : length ws ≡ n = ap length e ∙ length-encode 0 n ms h in
    let all : decode ws ≡ ms = ap decode e ∙ decode-encode 0 n ms few in
    (record { is = e ∙ ap₂ (encode 0) (sym size) (sym all) }, size, all)

module _ {k : ℕ} {y : Terminals} {xs entry ws : List ℕ} {n i e t : ℕ} (r : Rowing k y xs entry n i e t ws) where
  pub row_more : {x z : Terminals} {ws' : List ℕ} → e ≤ length (decode xs) → 2 * (n + (e - i)) + 1 ≤ length entry → n + (e - i) < 4294967296 → t < e
      → x ≡ member_at xs (2 * t + 1) → z ≡ joined k (reads x) (reads y) → ws' ≡ encode 0 (length ws) (decode ws ++ z ∷ []) → Rowing k y xs entry n i e (t + 1) ws'
  row_more {x} {z} {ws'} w l few h at ez ew =
      let place = r.place in
      let from = r.from in
      let new = decode ws ++ z ∷ [] in
      let size : length new ≡ length (decode ws) + 1 = length-append (decode ws) (z ∷ []) in
      let c = encode-coded (length ws) new ws' ew (omega (arith, r.as_long)) (omega arith) in
      let f : Terminals → Terminals = λ u. joined k (reads u) (reads y) in
      let before' : decode ws ≡ decode entry ++ follows_of k y (between i t xs) = r.members in
      let last : follows_of k y (between i (t + 1) xs) ≡ follows_of k y (between i t xs) ++ z ∷ [] =
      ap (follows_of k y) (between_more i xs from (omega arith)) ∙ map-append f (between i t xs) (member_at xs (2 * t + 1) ∷ []) ∙ ap (λ (u : Terminals). follows_of k y (between i t xs) ++ u ∷ []) (sym (ez ∙ ap f at)) in
      let all : new ≡ decode entry ++ follows_of k y (between i (t + 1) xs) =
      ap (λ (l : List Terminals). l ++ z ∷ []) before' ∙ append_assoc (decode entry) (follows_of k y (between i t xs)) (z ∷ []) ∙ ap (λ (l : List Terminals). decode entry ++ l) (sym last) in
      record {
        is = ew ∙ ap₂ (encode 0) r.as_long all;
        members = c.2 ∙ all;
        coded = c.0;
        place = omega (arith, ap length c.2);
        from = omega arith;
        to = omega arith;
        as_long = c.1 ∙ r.as_long;
      }

pub follows-here : {k l i e t : ℕ} {x y : Terminals} (xs : List ℕ) → AllFollow k l xs i e y → i ≤ t → t < e → x ≡ member_at xs (2 * t + 1) → Follows k l x y
follows-here {k} {l} {t = t} {y = y} xs f h b at = subst (λ (u : Terminals). Follows k l u y) (sym at) (f t h b)

-- the slots of y above those of x
module _ {k l w m h : ℕ} {x y : Terminals} (f : Follows k l x y) (ew : w ≡ width_field (number_of y)) (em : m ≡ count_field (number_of y)) (eh : h ≡ slots_field (number_of y)) where
  v : ℕ
  v = slots_field (number_of x)

  all_slots : h ≡ h % 2 ^ (m * w)
  all_slots =
      let g = f.alike.second in
      let s = seen y g in
      sym (mod-eq_of_lt (rw (eh ∙ s.slots, em ∙ s.count, ew ∙ s.width) (stored-lt g.width g.str s.fine)))

  parts : Parts x y k w l v m h m
  unfolding v
  parts =
      let a = f.alike in
      let room = f.room in
      record {
        unended = f.class.unended;
        width = ew ∙ (seen y a.second).width ∙ sym a.same ∙ sym (seen x a.first).width;
        first_count = sym (length-is x a.first l (sym f.class.slots)) ∙ ap length (plain-stored (reads x) f.class.plain);
        first-slots = slots-are x a.first ∙ ap (number (width_in (reads x))) (plain-stored (reads x) f.class.plain);
        second-count = sym (length-is y a.second m em) ∙ ap length (plain-stored (reads y) f.plain);
        second-slots = eh ∙ slots-are y a.second ∙ ap (number (width_in (reads y))) (plain-stored (reads y) f.plain);
        taken = sym (min-eq_right (omega arith));
      }

  pub follow-room : Room w l m (slots_field (number_of x)) h
  unfolding v
  follow-room = room-left x y f.alike k parts f.short h all_slots

  pub follow-is : words (fields w (l + m) (h * 2 ^ (l * w) + slots_field (number_of x))) ≡ joined k (reads x) (reads y)
  unfolding v
  follow-is = let some = f.some in grows x y f.alike k parts (λ z. omega arith) h all_slots

-- ---- a run

-- on its way: the rows of the members j to f of ds are written, which are n members
pub record Running (k : ℕ) (xs ds entry : List ℕ) (i e j n f : ℕ) (ws : List ℕ) : Type 0 where
  pub is : ws ≡ encode 0 255 (run_of k (between i e xs) (between j f ds))
  pub counted : n ≡ length (run_of k (between i e xs) (between j f ds))
  pub few : n ≤ 127
  pub from : j ≤ f
  pub to : f ≤ length (decode ds)
  pub first : f ≡ j → n ≡ 0
  pub as_long : length ws ≡ length entry

pub run-start : {ws : List ℕ} (k : ℕ) (xs ds : List ℕ) (i e j : ℕ) → Blank ws → j < length (decode ds) → Running k xs ds ws i e j 0 j ws
unfolding run_of
run-start k xs ds i e j b h = record {
  is = b ∙ encode-none 255 (omega arith) ∙ ap (λ (l : List Terminals). encode 0 255 (run_of k (between i e xs) l)) (sym (between_none j ds));
  counted = sym (ap (λ (l : List Terminals). length (run_of k (between i e xs) l)) (between_none j ds));
  few = omega arith;
  from = omega arith;
  to = omega arith;
  first = λ _. refl;
  as_long = refl;
}

module _ {k : ℕ} {xs ds entry ws : List ℕ} {i e j n f : ℕ} (r : Running k xs ds entry i e j n f ws) where
  run-coded : (Coded ws) × (length ws ≡ 255) × (decode ws ≡ run_of k (between i e xs) (between j f ds))
  run-coded = encode-coded 255 _ ws r.is (omega (arith, r.counted, r.few)) (omega (arith, r.counted, r.few))

  pub run-words : Coded ws
  run-words = run-coded.0

  run_long : length ws ≡ 255
  run_long = run-coded.1

  pub run-place : n ≡ length (decode ws)
  run-place = r.counted ∙ sym (ap length run-coded.2)

  pub run_room : e - i ≤ 127 - n → 2 * (n + (e - i)) + 1 ≤ length ws
  run_room h = omega (arith, run_long, r.few)

  pub run-counted : e - i ≤ 127 - n → n + (e - i) < 4294967296
  run-counted h = omega (arith, r.few)

  pub run_more : {y : Terminals} {ws' : List ℕ} → e ≤ length (decode xs) → i ≤ e → f < length (decode ds) → e - i ≤ 127 - n → 0 < e - i → y ≡ member_at ds (2 * f + 1)
      → ws' ≡ encode 0 (length ws) (decode ws ++ follows_of k y (between i e xs)) → Running k xs ds entry i e j (n + (e - i)) (f + 1) ws'
  run_more {y} {ws'} w o h room some at ew =
      let A = between i e xs in
      let last : run_of k A (between j (f + 1) ds) ≡ run_of k A (between j f ds) ++ follows_of k y A =
      ap (run_of k A) (between_more j ds r.from h) ∙ way-last (its-run k A) (between j f ds) (member_at ds (2 * f + 1)) ∙ ap (λ (u : Terminals). run_of k A (between j f ds) ++ follows_of k u A) (sym at) in
      let size : length (follows_of k y A) ≡ e - i = length-map A (λ x. joined k (reads x) (reads y)) ∙ length-between i e xs w in
      record {
        is = ew ∙ ap₂ (encode 0) run_long (ap (λ (l : List Terminals). l ++ follows_of k y A) run-coded.2 ∙ sym last);
        counted = sym (ap length last ∙ length-append (run_of k A (between j f ds)) (follows_of k y A) ∙ ap₂ ◌+◌ (sym r.counted) size);
        few = omega (arith, r.few);
        from = omega (arith, r.from);
        to = omega arith;
        first = λ z. absurd (omega (arith, r.from));
        as_long = ap length ew ∙ length-encode 0 (length ws) _ (omega (arith, run_long, length-append (decode ws) (follows_of k y A), run-place, r.few)) ∙ r.as_long;
      }

pub pair_row : {k l i e j ny : ℕ} {y : Terminals} (xs ys : List ℕ) → AllPairs k l xs i e ys → ny ≡ length (decode ys) → j < ny → y ≡ member_at ys (2 * j + 1) → AllFollow k l xs i e y
pair_row {k} {l} {i} {e} {j} xs ys f c h at = subst (AllFollow k l xs i e) (sym at) (f j (omega (arith, length-decode ys)))

-- ---- a part of a run

rising-front : (p q : List Terminals) → rising (p ++ q) ≡ true → rising p ≡ true
unfolding rising before
rising-front [] q r = refl
rising-front (x ∷ []) q r = refl
rising-front (x ∷ y ∷ p) q r = let b = both (before x (y ∷ p ++ q)) (rising (y ∷ p ++ q)) r in rw (b.0, rising-front (y ∷ p) q b.1)

rising-back : (p q : List Terminals) → rising (p ++ q) ≡ true → rising q ≡ true
unfolding rising
rising-back [] q r = r
rising-back (x ∷ p) q r = rising-back p q (both (before x (p ++ q)) (rising (p ++ q)) r).1

module _ {k : ℕ} {xs ds ws : List ℕ} {i e j f : ℕ} (p : RunPart k xs i e ds j f ws) where
  part-from : j ≤ f
  part-from = let more = p.more in omega arith

  part-rises : rising (run_of k (between i e xs) (decode ds)) ≡ true → rising (run_of k (between i e xs) (between j f ds)) ≡ true
  part-rises r =
      let A = between i e xs in
      let W = its-run k A in
      let whole : run_of k A (decode ds) ≡ run_of k A (take j (decode ds)) ++ (run_of k A (between j f ds) ++ run_of k A (drop f (decode ds))) =
      (ap (run_of k A) (sym (take-append-drop j (decode ds))) ∙ way-append W (take j (decode ds)) (drop j (decode ds))
      ∙ ap (λ (l : List Terminals). run_of k A (take j (decode ds)) ++ l) (ap (run_of k A) (between-rest j f ds part-from p.within) ∙ way-append W (between j f ds) (drop f (decode ds)))) in
      rising-front _ _ (rising-back (run_of k A (take j (decode ds))) _ (subst (λ (l : List Terminals). rising l ≡ true) whole r))

  pub part-set : rising (run_of k (between i e xs) (decode ds)) ≡ true → IsSet ws
  part-set r = subst IsSet (sym p.is) (encode-is-set 0 255 _ (omega arith) (words-room _ 255 p.fits (omega (arith, p.fits))) (part-rises r))

  pub part-is : decode ws ≡ run_of k (between i e xs) (between j f ds)
  part-is = ap decode p.is ∙ decode-encode 0 255 _ (omega (arith, p.fits))

  pub part-blank : {ws' : List ℕ} → ws' ≡ replicate (length ws) 0 → Blank ws'
  part-blank z = z ∙ ap (λ (n : ℕ). replicate n 0) (ap length p.is ∙ length-encode 0 255 _ p.fits)

-- the set that takes the run
module _ {k n old : ℕ} {xs ds entry out exit ws : List ℕ} {i e j f : ℕ} {goal : List Terminals} {r : Growth}
    (h : Filling (its-run k (between i e xs)) ds entry goal n old j out) (p : RunPart k xs i e ds j f ws) (g : Grew out exit (add_all (decode ws) (decode out)) r) where
  run-same : add_all (decode ws) (decode out) ≡ add_all (run_of k (between i e xs) (between j f ds)) (decode out)
  run-same = ap (λ (l : List Terminals). add_all l (decode out)) (part-is p)

  pub run-taken : {t : Grown} → r ≡ Ok t → Filling (its-run k (between i e xs)) ds entry goal n old f exit
  run-taken = part-more h (part-from p) p.within (decode ws) run-same g

  pub run-full : {x : Refusal} {q : Growth} → r ≡ Err x → q ≡ Err x → Grew entry exit goal q
  run-full = part-full h (part-from p) p.within (decode ws) run-same g

-- a set that takes what a class gives with a part of the second set
module _ (k : ℕ) {n old : ℕ} {ys entry out exit : List ℕ} {j f : ℕ} {goal : List Terminals} {r : Growth} (A : List Terminals) (h : Filling (its-meet k A) ys entry goal n old j out)
    (c : ChunkEnd n j f) (g : Grew out exit (add_all (meets_of k A (between j f ys)) (decode out)) r) where
  pub chunk-taken : {t : Grown} → r ≡ Ok t → Filling (its-meet k A) ys entry goal n old f exit
  chunk-taken = let more = c.more in part-more h (omega arith) (omega (arith, c.within, h.counted)) _ refl g

  pub chunk-full : {x : Refusal} {q : Growth} → r ≡ Err x → q ≡ Err x → Grew entry exit goal q
  chunk-full = let more = c.more in part-full {e = f} h (omega arith) (omega (arith, c.within, h.counted)) _ refl g

-- ---- one list after the other

-- the words were `entry`, with `old` members; what is still to come is `rest`
pub record Steps (entry : List ℕ) (goal : List Terminals) (old : ℕ) (rest : List Terminals) (ws : List ℕ) : Type 0 where
  pub is_set : IsSet ws
  pub as_long : length ws ≡ length entry
  pub number : number_in ws ≡ number_in entry
  pub had : old ≡ length (decode entry)
  pub to-come : add_all rest (decode ws) ≡ goal

pub steps-start : {entry : List ℕ} {goal : List Terminals} {old : ℕ} (rest : List Terminals) → IsSet entry → old ≡ length (decode entry) → add_all rest (decode entry) ≡ goal → Steps entry goal old rest entry
steps-start left s h e = record { is_set = s; as_long = refl; number = refl; had = h; to-come = e }

module _ {entry ws exit : List ℕ} {goal : List Terminals} {old : ℕ} {r : Growth} (p q : List Terminals) (s : Steps entry goal old (p ++ q) ws) (g : Grew ws exit (add_all p (decode ws)) r) where
  after : add_all q (add_all p (decode ws)) ≡ goal
  after = sym (add_all-append p q (decode ws)) ∙ s.to-come

  pub steps-more : {t : Grown} → r ≡ Ok t → Steps entry goal old q exit
  steps-more t =
      let e : is_full r ≡ false = ap is_full t in
      let some : 1 ≤ length ws = set-some s.is_set in
      record {
        is_set = grew-set g e some (rising-add_all p (decode ws) s.is_set.rises);
        as_long = grew-length g e some ∙ s.as_long;
        number = grew-number g e ∙ s.number;
        had = s.had;
        to-come = ap (add_all q) (grew-decode g e) ∙ after;
      }

  pub steps-full : {x : Refusal} {u : Growth} → r ≡ Err x → u ≡ Err x → Grew entry exit goal u
  steps-full t u =
      let over : room_of (length entry) < length goal = rw (← s.as_long) (omega (arith, grew-over g (ap is_full t), length-add_all q (add_all p (decode ws)), ap length after)) in
      record { answer = u ∙ sym t ∙ g.answer ∙ grown-full _ _ _ (grew-over g (ap is_full t)) ∙ sym (grown-full _ _ _ over); words = λ h. absurd (omega arith) }

pub steps-end : {entry ws : List ℕ} {goal : List Terminals} {old : ℕ} {r : Grown} → Steps entry goal old [] ws → r ≡ grown_from old (length (decode ws)) → Grew entry ws goal (Ok r)
unfolding add_all
steps-end {entry} {ws} {goal} s e =
    let all : decode ws ≡ goal = s.to-come in
    let fits : length goal ≤ room_of (length entry) = rw (← all, ← s.as_long) (set-within s.is_set) in
    record {
      answer = ap (λ (t : Grown). Ok t) (e ∙ ap₂ grown_from s.had (ap length all)) ∙ sym (grown-fits _ _ _ fits);
      words = λ _. s.is_set.coded ∙ ap₂ (λ (u n : ℕ). encode u n (decode ws)) s.number s.as_long ∙ ap (encode (number_in entry) (length entry)) all;
    }

-- ---- what a part of a set gives, gathered

-- on its way to member e, at member t
pub record Gathering (W : Way) (src : List ℕ) (j e t : ℕ) (ws : List ℕ) : Type 0 where
  pub is_set : IsSet ws
  pub as_long : length ws ≡ 255
  pub members : decode ws ≡ add_all (W.all (between j t src)) []
  pub few : length (decode ws) ≤ t - j
  pub from : j ≤ t
  pub to : t ≤ e

pub gather-start : {ws : List ℕ} {e n : ℕ} (W : Way) (src : List ℕ) (j : ℕ) → Blank ws → ChunkEnd n j e → Gathering W src j e j ws
unfolding add_all
gather-start {ws} W src j b h =
    let more = h.more in
    let none : decode ws ≡ [] = ap decode (b ∙ encode-none 255 (omega arith)) ∙ decode-encode 0 255 [] (omega arith) in
    record {
      is_set = zeros-set 255 (omega arith) b;
      as_long = ap length b ∙ length-replicate {A = ℕ} 255 0;
      members = none ∙ sym (ap (λ (l : List Terminals). add_all l []) (ap W.all (between_none j src) ∙ W.none));
      few = rw none (omega arith);
      from = omega arith;
      to = omega arith;
    }

module _ {W : Way} {src ws : List ℕ} {j e t : ℕ} (g : Gathering W src j e t ws) where
  pub gather-more : {exit : List ℕ} {r : Growth} → ChunkEnd (length (decode src)) j e → t < e → length (W.one (member_at src (2 * t + 1))) ≤ 1
      → Grew ws exit (add_all (W.one (member_at src (2 * t + 1))) (decode ws)) r → Gathering W src j e (t + 1) exit
  gather-more {exit} {r} c turn one grew =
      let within = c.within in
      let most' = c.few in
      let h : t < length (decode src) = omega arith in
      let x = member_at src (2 * t + 1) in
      let new = add_all (W.one x) (decode ws) in
      let most = add_all-most (W.one x) (decode ws) in
      let few = g.few in
      let from = g.from in
      let small : length new ≤ t + 1 - j = omega arith in
      let fits : length new ≤ room_of (length ws) = words-room (length new) (length ws) (omega (arith, g.as_long)) (omega arith) in
      let words = grew.words fits in
      let room : 2 * length new + 1 ≤ length ws = omega (arith, g.as_long) in
      let all : decode exit ≡ new = ap decode words ∙ decode-encode (number_in ws) (length ws) new (omega arith) in
      record {
        is_set = subst IsSet (sym words) (encode-is-set (number_in ws) (length ws) new (omega arith) fits (rising-add_all (W.one x) (decode ws) g.is_set.rises));
        as_long = ap length words ∙ length-encode (number_in ws) (length ws) new room ∙ g.as_long;
        members = all ∙ ap (add_all (W.one x)) g.members ∙ sym (add_all-append (W.all (between j t src)) (W.one x) [])
            ∙ ap (λ (l : List Terminals). add_all l []) (sym (ap W.all (between_more j src from h) ∙ way-last W (between j t src) x));
        few = rw all small;
        from = omega arith;
        to = omega arith;
      }

  -- what has been gathered is a set
  pub gather-end : e ≤ t → Gathered (W.all (between j e src)) ws
  gather-end h = let s : t ≡ e = omega (arith, g.to) in record { is_set = g.is_set; as_long = g.as_long; members = g.members ∙ ap (λ (u : ℕ). add_all (W.all (between j u src)) []) s }

pub one-cut : (r : ℕ) (y : Terminals) → length (cut_of r y) ≤ 1
one-cut r y = by (eps_in (reads y))
  where
    by : (t : Bool) → length (cond t [] (cut_in r (reads y) ∷ [])) ≤ 1
    by true = omega arith
    by false = omega arith
