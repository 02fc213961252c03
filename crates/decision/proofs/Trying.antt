-- One k, from the sets of the result: what is joined and decided is what the definition makes of each nonterminal. Assumes nothing.
use Prim.Native.Nat.{ℕ, ◌+◌, ◌≤◌, ◌<◌}
use native.Mathlib.Omega.{arith}
use mathlib.Core.Path.{◌≡◌, refl, sym, ap, ap₂, ◌∙◌, subst}
use mathlib.Core.Logic.{◌↔◌}
use mathlib.Core.Bool.{Bool, true, false, cond}
use mathlib.Core.List.Memᴰ.{head as here}
use mathlib.Core.List.Memᴰ.{tail as there}
use mathlib.Core.List.{List, [], ◌∷◌, ◌++◌, map}
use borrow.Author.Tests.{eqb-true, eqb-false}
use lib.Dec.{eqb, T}
use lib.ListN.{length, get_or, take, drop}
use lib.Seq.{drop_at, length-take-le}
use Rattle.cfg.specs.Grammar.{Grammar, Accepted}
use Rattle.k_tuple.specs.Strings.{Str}
use Rattle.k_tuples.specs.Sets.{◌∈◌, disjoint, join_sets}
use Rattle.k_tuples.specs.States.{State, set_of}
use Rattle.k_tuples.specs.Work.{Answer, got, refused}
use Rattle.k_tuples.proofs.Tests.{passed, holds, unpassed}
use Rattle.k_tuples.proofs.Work.{not-got, got-inj}
use Rattle.blocks.specs.Stores.{Sets}
use Rattle.analysis.specs.Analysis.{Analysis, work}
use Rattle.analysis.specs.Promises.{Analysed}
use Rattle.analysis.proofs.Kept.{answers-right}
use Rattle.engine.specs.Ask.{kind_start, kind_count}
use Rattle.engine.specs.Call.{sets_of, of_kind}
use Rattle.k_tuples.specs.Words.{room_of}
use Rattle.engine.proofs.Beginning.{room-is as room-of-size}
use Rattle.engine.proofs.Asked.{Counted, counted, kind-place}
use Rattle.decision_theory.specs.Needed.{own, Choice, choices_of, apart}
use Rattle.decision_theory.specs.Steps.{tried}
use Rattle.decision_theory.proofs.Needed.{own-means, own-rising}
use Rattle.decision_theory.proofs.Steps.{joined_at, choice_at, choices-fit, choices-over, apart-numbers}
use Rattle.decision.specs.declared.Links.{Links}
use Rattle.decision.specs.declared.Layout.{Layout}
use Rattle.decision.specs.Own.{left_at, SidesOf}
use Rattle.decision.specs.Steps.{Sized, held, room, production_set, joined_of, JoinedTo, JoinedAll, Apart, DecidedTo, Deciding, SetsTried, SetsDone, PassedTo, Passing, Told, after_k, TriedAt}
use Rattle.decision.specs.Onward.{choices_in}

-- ---- joined, and then decided

module _ {u : Layout} {links : Links} {k : ℕ} {ρ ρ₁ result work result₁ work₁ : List ℕ} (j : JoinedAll u links k u.p ρ ρ₁ result work result₁ work₁) where
  pub joined-sets : Sets u.b u.sets result₁
  joined-sets = record { k = k; width = j.ready.width; store = j.ready.result-store }

  pub joined-long : length ρ ≡ 128 → length ρ₁ ≡ 128
  joined-long m = j.joined.long ∙ m

  pub sets-done : {κ ρ₂ κ₂ : List ℕ} (scratch : List ℕ) → u.b ≤ length scratch → length work₁ ≡ length (take u.b scratch) → Deciding u links k u.n (held u result₁) ρ₁ κ ρ₂ κ₂
      → SetsDone u links k ρ κ ρ₂ κ₂ result scratch result₁ (work₁ ++ drop u.b scratch)
  sets-done scratch h e d = record {
    tried = record { made = held u result₁; marks = ρ₁; joined = j.joined; decided = d };
    result-beyond = j.beyond;
    scratch-beyond = drop_at work₁ (drop u.b scratch) u.b (e ∙ length-take-le u.b scratch h);
  }

-- ---- by the definition

-- functions that agree on the members of a list
map_same : {X Y : Type 0} (f h : X → Y) (xs : List X) → ((x : X) → x ∈ xs → f x ≡ h x) → map f xs ≡ map h xs
map_same f h [] e = refl
map_same f h (x ∷ xs) e = ap₂ ◌∷◌ (e x (here refl)) (map_same f h xs (λ y m. e y (there m)))

-- a k that is tried for an open one, by its choices
module _ (c : ℕ) (g : Grammar) (A k : ℕ) (a : Analysis) where
  abbrev choices : Answer (List Choice)
  choices = choices_of c k a.productions a.follows A (own g A)

  tried-over : choices ≡ refused 11 → tried c g A k (got a) ≡ refused 11
  unfolding tried
  tried-over e = rw e

  tried-serves : (xs : List Choice) → choices ≡ got xs → T (apart xs) → tried c g A k (got a) ≡ got k
  unfolding tried
  tried-serves xs e t = rw (e, holds (apart xs) t)

  tried-stays : (xs : List Choice) → choices ≡ got xs → ¬ T (apart xs) → tried c g A k (got a) ≡ refused 22
  unfolding tried
  tried-stays xs e t = rw (e, unpassed (apart xs) t)

-- what k makes of an answer, by whether it is open
module _ (c : ℕ) (g : Grammar) (k : ℕ) {ρ κ ρ' κ' : List ℕ} (A : ℕ) where
  pub after-told : (¬ get_or ρ A 0 ≡ 22 → (get_or ρ' A 0 ≡ get_or ρ A 0) × (get_or κ' A 0 ≡ get_or κ A 0)) → (get_or ρ A 0 ≡ 22 → get_or κ A 0 ≡ 0 → Told ρ' κ' A (tried c g A k (work k c g)))
      → (x : Answer ℕ) → Told ρ κ A x → Told ρ' κ' A (after_k c g A k x)
  after-told closed opens (got j) t =
      let s = closed (λ (e : get_or ρ A 0 ≡ 22). let z = t.refusal in omega arith) in
      record { refusal = s.0 ∙ t.refusal; k = s.1 ∙ t.k }
  after-told closed opens (refused r) t = by (eqb r 22) refl
    where
      by : (b : Bool) → eqb r 22 ≡ b → Told ρ' κ' A (cond b (tried c g A k (work k c g)) (refused r))
      by true e = opens (t.refusal ∙ eqb-true r 22 e) t.k
      by false e =
          let s = closed (λ f. eqb-false r 22 e (sym t.refusal ∙ f)) in
          record { refusal = s.0 ∙ t.refusal; k = s.1 ∙ t.k }

-- a refusal of the engine
pub passed-tried : (c : ℕ) (g : Grammar) (k : ℕ) {n : ℕ} {ρ ρ' : List ℕ} (κ : List ℕ) → n ≡ g.n → work k c g ≡ refused 11 → Passing n ρ ρ' → TriedAt c g k ρ κ ρ' κ
unfolding tried
passed-tried c g k {n} {ρ} {ρ'} κ en e p = record {
  each = λ A h. let l : A < n = omega (arith, en) in after-told c g k A (λ o. (still A o (p.each A l), refl)) (λ o z. rw e (record { refusal = past A o (p.each A l); k = z }));
  others = λ A h. (p.others A (omega (arith, en)), refl);
  long = (p.long, refl);
}
  where
    still : (A : ℕ) → ¬ get_or ρ A 0 ≡ 22 → PassedTo (get_or ρ A 0) (get_or ρ' A 0) → get_or ρ' A 0 ≡ get_or ρ A 0
    still A o (PassedTo.closed n f) = f
    still A o (PassedTo.passed n f) = absurd (o n)

    past : (A : ℕ) → get_or ρ A 0 ≡ 22 → PassedTo (get_or ρ A 0) (get_or ρ' A 0) → get_or ρ' A 0 ≡ 11
    past A o (PassedTo.closed n f) = absurd (n o)
    past A o (PassedTo.passed n f) = f

-- the sets of an analysis
module _ (c k : ℕ) (g : Grammar) (ok : Accepted g) (k>0 : 1 ≤ k) (c>0 : 1 ≤ c) (c<1025 : c ≤ 1024) (a : Analysis) (e : work k c g ≡ got a)
    (u : Layout) (sized : Sized c g u) (links : Links) (sides : SidesOf g.productions links) where
  is : Analysed g k c a
  is = answers-right g k c ok k>0 c>0 a e

  many : Counted a
  many = counted g k c a is

  at-production : (i : ℕ) → i < u.p → set_of (sets_of a) (u.n + i) ≡ set_of a.productions i
  unfolding of_kind kind_count kind_start
  at-production i h =
      let p : u.p ≡ a.p = sized.p ∙ sym is.sizes.p in
      ap (λ (m : ℕ). set_of (sets_of a) (m + i)) (sized.n ∙ sym is.sizes.n) ∙ kind-place a many 1 i (rw p at h)

  at-follow : (A : ℕ) → A < u.n → set_of (sets_of a) (u.n + u.p + A) ≡ set_of a.follows A
  unfolding of_kind kind_count kind_start
  at-follow A h =
      let n : u.n ≡ a.n = sized.n ∙ sym is.sizes.n in
      let p : u.p ≡ a.p = sized.p ∙ sym is.sizes.p in
      ap₂ (λ (m q : ℕ). set_of (sets_of a) (m + q + A)) n p ∙ kind-place a many 2 A (rw n at h)

  room-is : room u ≡ c
  room-is = ap room_of sized.b ∙ room-of-size c (omega arith)

  module _ (A : ℕ) (h : A < u.n) where
    own_at : (i : ℕ) → i < u.p → left_at links i ≡ A → i ∈ own g A
    own_at i l q = let m : i < length g.productions = omega (arith, sized.p) in (own-means g A i).1 (m, sym (sides.each i m) ∙ q)

    own_of : (i : ℕ) → i ∈ own g A → (i < u.p) × (left_at links i ≡ A)
    own_of i m = let o = (own-means g A i).0 m in (omega (arith, sized.p, o.0), sides.each i o.0 ∙ o.1)

    abbrev joined : ℕ → List Str
    joined i = joined_at c k a.productions a.follows A i

    joined_is : (i : ℕ) → i < u.p → left_at links i ≡ A → joined_of u links k (sets_of a) i ≡ joined i
    joined_is i l q = ap₂ (join_sets k) (at-production i l) (ap (λ (B : ℕ). set_of (sets_of a) (u.n + u.p + B)) q ∙ at-follow A h)

    -- the sets in place, and the choices
    module _ (M : State) (all : (j : ℕ) → j < u.p → left_at links j ≡ A → (length (joined_of u links k (sets_of a) j) ≤ room u) × (set_of M (u.n + j) ≡ joined_of u links k (sets_of a) j)) where
      chosen : choices c g A k a ≡ got (map (choice_at c k a.productions a.follows A) (own g A))
      chosen = choices-fit c k a.productions a.follows A (own g A) (λ i m.
          let (l, q) = own_of i m in
          subst (λ (J : List Str). length J ≤ c) (joined_is i l q) (subst (λ (r : ℕ). length (joined_of u links k (sets_of a) i) ≤ r) room-is (all i l q).0))

      in_place : (i : ℕ) → i < u.p → left_at links i ≡ A → set_of M (u.n + i) ≡ joined i
      in_place i l q = (all i l q).1 ∙ joined_is i l q

      apart-is : T (apart (map (choice_at c k a.productions a.follows A) (own g A))) ↔ Apart u links M A
      apart-is =
          let n = apart-numbers c k a.productions a.follows A (own g A) (own-rising A 0 g.productions) in (
            λ t i l q j f m r. ap₂ disjoint (in_place i l q) (in_place j m (r ∙ q)) ∙ holds (disjoint (joined i) (joined j)) (n.0 t i j (own_at i l q) (own_at j m (r ∙ q)) (omega arith)),
            λ s. n.1 (λ i j mi mj lt.
                let (l, q) = own_of i mi in
                let (m, r) = own_of j mj in
                passed (sym (ap₂ disjoint (in_place i l q) (in_place j m r)) ∙ s i l q j (omega arith) m (r ∙ sym q))),
          )

    -- where the definition has the choices xs, the sets in place are theirs
    pub choices-in-place : (M : State) {old new : ℕ} (xs : List Choice) → choices c g A k a ≡ got xs → old ≡ 22 → JoinedTo u links k u.p A (sets_of a) M old new → xs ≡ choices_in u g M A
    choices-in-place M xs e z (JoinedTo.closed n f) = absurd (n z)
    choices-in-place M xs e z (JoinedTo.over j l q big o f) =
        not-got (sym (choices-over c k a.productions a.follows A (own g A) j (own_at j l q)
        (subst (λ (J : List Str). c < length J) (joined_is j l q) (subst (λ (r : ℕ). r < length (joined_of u links k (sets_of a) j)) room-is big))) ∙ e)
    choices-in-place M xs e z (JoinedTo.fits o f all) =
        got-inj (sym e ∙ chosen M all)
        ∙ map_same (choice_at c k a.productions a.follows A) (λ (i : ℕ). record { production = i; ahead = production_set u M i }) (own g A)
        (λ i m. let (l, q) = own_of i m in ap (λ (s : List Str). record { production = i; ahead = s }) (sym (in_place M all i l q)))

    module _ {ρ κ ρ' κ' : List ℕ} (t : SetsTried u links k (sets_of a) ρ κ ρ' κ') where
      sets-closed : ¬ get_or ρ A 0 ≡ 22 → (get_or ρ' A 0 ≡ get_or ρ A 0) × (get_or κ' A 0 ≡ get_or κ A 0)
      sets-closed n = by (t.joined.each A h) (t.decided.each A h)
        where
          by : JoinedTo u links k u.p A (sets_of a) t.made (get_or ρ A 0) (get_or t.marks A 0) → DecidedTo (Apart u links t.made A) k (get_or t.marks A 0) (get_or ρ' A 0) (get_or κ A 0) (get_or κ' A 0)
              → (get_or ρ' A 0 ≡ get_or ρ A 0) × (get_or κ' A 0 ≡ get_or κ A 0)
          by (JoinedTo.closed o f) (DecidedTo.closed q r s) = (r ∙ f, s)
          by (JoinedTo.closed o f) (DecidedTo.serves q r s v) = absurd (n (sym f ∙ q))
          by (JoinedTo.closed o f) (DecidedTo.stays q r s v) = absurd (n (sym f ∙ q))
          by (JoinedTo.over j l q b o f) d = absurd (n o)
          by (JoinedTo.fits o f all) d = absurd (n o)

      sets-open : get_or ρ A 0 ≡ 22 → get_or κ A 0 ≡ 0 → Told ρ' κ' A (tried c g A k (got a))
      sets-open o z = by (t.joined.each A h) (t.decided.each A h)
        where
          by : JoinedTo u links k u.p A (sets_of a) t.made (get_or ρ A 0) (get_or t.marks A 0) → DecidedTo (Apart u links t.made A) k (get_or t.marks A 0) (get_or ρ' A 0) (get_or κ A 0) (get_or κ' A 0)
              → Told ρ' κ' A (tried c g A k (got a))
          by (JoinedTo.closed n f) d = absurd (n o)
          by (JoinedTo.over j l q big p f) (DecidedTo.closed n r s) =
              rw (tried-over c g A k a (choices-over c k a.productions a.follows A (own g A) j (own_at j l q)
              (subst (λ (J : List Str). c < length J) (joined_is j l q) (subst (λ (r : ℕ). r < length (joined_of u links k (sets_of a) j)) room-is big))))
              (record { refusal = r ∙ f; k = s ∙ z })
          by (JoinedTo.over j l q big p f) (DecidedTo.serves n r s v) = absurd (let y : ◌≡◌ {A = ℕ} 11 22 = sym f ∙ n in omega arith)
          by (JoinedTo.over j l q big p f) (DecidedTo.stays n r s v) = absurd (let y : ◌≡◌ {A = ℕ} 11 22 = sym f ∙ n in omega arith)
          by (JoinedTo.fits p f all) (DecidedTo.closed n r s) = absurd (n f)
          by (JoinedTo.fits p f all) (DecidedTo.serves n r s v) =
              rw (tried-serves c g A k a (map (choice_at c k a.productions a.follows A) (own g A)) (chosen t.made all) ((apart-is t.made all).1 r))
              (record { refusal = s; k = v })
          by (JoinedTo.fits p f all) (DecidedTo.stays n r s v) =
              rw (tried-stays c g A k a (map (choice_at c k a.productions a.follows A) (own g A)) (chosen t.made all) (λ y. r ((apart-is t.made all).0 y)))
              (record { refusal = s; k = v ∙ z })

  pub sets-tried : {ρ κ ρ' κ' : List ℕ} → SetsTried u links k (sets_of a) ρ κ ρ' κ' → TriedAt c g k ρ κ ρ' κ'
  sets-tried {ρ} {κ} {ρ'} {κ'} t = record {
    each = λ A h. let l : A < u.n = omega (arith, sized.n) in after-told c g k A (sets-closed A l t) (λ o z. rw e (sets-open A l t o z));
    others = λ A h.
        let l : u.n ≤ A = omega (arith, sized.n) in
        let d = t.decided.others A l in
        (d.0 ∙ t.joined.others A l, d.1);
    long = (t.decided.long.0 ∙ t.joined.long, t.decided.long.1);
  }
