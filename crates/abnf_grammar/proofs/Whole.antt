-- The automaton reads a whole text of the subset: to its end, or to a name that is defined again, or to a limit. Assumes nothing.
use Prim.Native.Nat.{ℕ, ◌+◌, ◌≤◌}
use native.Mathlib.Omega.{arith}
use mathlib.Core.Path.{◌≡◌, refl, sym, ap, ◌∙◌, subst}
use mathlib.Core.Logic.{◌⊎◌, inl, inr}
use mathlib.Core.List.{List, [], ◌∷◌, ◌++◌, map, append_assoc, append-nil}
use mathlib.Core.Bool.{Bool, true, false}
use lib.ListN.{length, drop, length-append}
use lib.Dec.{leb}
use borrow.Author.Tests.{leb-false, leb-true}
use Rattle.cfg.specs.Reading.{pick}
use Rattle.abnf_tables.specs.Run.{Run, on, refused, ◌then◌}
use Rattle.abnf_tables.specs.Bytes.{blank, letter, name_byte, lower}
use Rattle.abnf_tables.specs.Words.{part, word, word_at}
use Rattle.abnf_tables.specs.Tables.{Tables, none, defined}
use Rattle.abnf_rules.specs.Machine.{State, breaks, broken, equals, empty, inside, whole, fresh, step, finished, scanned, start}
use Rattle.abnf_rules.specs.declared.machine.Mode.{Mode}
use Rattle.abnf_rules.specs.declared.machine.Mode.TheVariants.{Blank, Naming, Equals, Want, Name, Quote, After, Spaced}
use Rattle.abnf_rules.specs.declared.machine.Line.{Line}
use Rattle.abnf_rules.specs.declared.machine.Line.TheVariants.{Inside, Ended}
use Rattle.abnf_grammar.specs.Subset.{Definition, Many, more, ◌⨾◌, spelled, WSP, c-nl, c-wsp, rulename, defined-as, elements, alternation, Lines, end, rules, blanks, defines, Different}
use Rattle.abnf_grammar.specs.Meaning.{index}
use Rattle.abnf_grammar.proofs.Notes.{Notes, note_name, note_left, note_choice, note_rule, note_rules, nothing}
use Rattle.abnf_grammar.proofs.Numbered.{different-snoc, different-none, of_names}
use Rattle.abnf_grammar.proofs.Kept.{Gives, gives-if, in-rule}
use Rattle.abnf_grammar.proofs.Told.{Says, In, Start, Between, Defines, limit, again, new, rule_told}
use Rattle.abnf_grammar.proofs.Leads.{state, Goes, here, Loose, stop-name, cnl-stops, cwsp-stops, blanks-stop, Leads, over, goes, lead-then, reads, settles, reads-to, blanks-lead, cnl-leads}
use Rattle.abnf_grammar.proofs.Complete.{word-is, letter-name, letter-solid, name-part, choice-leads}

-- what a word of a name may stop at
abbrev Halts : List ℕ → Type 0
Halts bs = (c : ℕ) × (r : List ℕ) × (bs ≡ c ∷ r) × (name_byte c ≡ false)

-- where no byte of a name follows no word begins
halt-word : (bs : List ℕ) → Halts bs → word false bs ≡ []
unfolding word part
halt-word bs s = rw (s.2, s.3)

-- blanks and "=" halt a name
sign-halts : (bs rest r : List ℕ) → Many c-wsp bs rest → rest ≡ 61 ∷ r → Halts bs
unfolding name_byte letter
sign-halts bs rest r Many.none e = (61, r, e, refl)
sign-halts bs rest r (more {mid = mid} w ws) e = let s = cwsp-stops bs mid w in (s.0, s.1, s.2, stop-name s.0 s.3)

-- where a line may end, a blank may stand
whole-loose : (m : Mode) (t : Tables) → whole m t ≡ true → Loose m
unfolding whole
whole-loose Blank t e = tt
whole-loose (Naming from) t e = let z : ◌≡◌ {A = ℕ} 0 1 = cc in absurd (omega arith)
whole-loose Equals t e = tt
whole-loose Want t e = tt
whole-loose (Name from) t e = let z : ◌≡◌ {A = ℕ} 0 1 = cc in absurd (omega arith)
whole-loose (Quote from) t e = let z : ◌≡◌ {A = ℕ} 0 1 = cc in absurd (omega arith)
whole-loose After t e = let z : ◌≡◌ {A = ℕ} 0 1 = cc in absurd (omega arith)
whole-loose Spaced t e = tt

module _ (text : List ℕ) where
  -- ---- a line without a rule

  -- tables that have P, where the line may end
  abbrev Rests : (Tables → Type 0) → Mode → Tables → Type 0
  Rests P m t = P t × (whole m t ≡ true)

  -- a line end or a comment at the beginning of a line
  fresh-break : (at b : ℕ) (m : Mode) (t : Tables) (r : Run State) → whole m t ≡ true → letter b ≡ false → blank b ≡ false → breaks b ≡ true
      → broken b Blank t ≡ r → step text at b Ended m t ≡ r
  unfolding step fresh
  fresh-break at b m t r e f g h k = rw (g, e, f, h) k

  -- a line end or a comment where a line begins is one of a line without a rule
  fresh-cnl : (at : ℕ) (bs rest : List ℕ) (m : Mode) (t : Tables) (Q : Tables → Type 0) → whole m t ≡ true → drop at text ≡ bs → c-nl bs rest → Q t
      → Leads text (scanned text at bs (state Ended m t)) Ended Blank rest Q
  unfolding scanned step inside empty letter blank
  fresh-cnl at bs rest m t Q h d w q = subst (λ x. Leads text x Ended Blank rest Q) (sym (by (cnl-cases w))) (cnl-leads text at bs rest Blank t Q tt d w q)
    where
      cnl-cases : c-nl bs rest → (r : List ℕ) × ((bs ≡ 59 ∷ r) ⊎ (bs ≡ 13 ∷ r))
      cnl-cases (inl w) = (w.0, inl w.1)
      cnl-cases (inr w) = (w.0, inr w.1)

      by : (r : List ℕ) × ((bs ≡ 59 ∷ r) ⊎ (bs ≡ 13 ∷ r)) → scanned text at bs (state Ended m t) ≡ scanned text at bs (state Inside Blank t)
      by (r, inl e) = rw (e, fresh-break at 59 m t (broken 59 Blank t) h refl refl refl refl)
      by (r, inr e) = rw (e, fresh-break at 13 m t (broken 13 Blank t) h refl refl refl refl)

  -- a blank there continues the line before
  fresh-wsp : (at : ℕ) (bs rest : List ℕ) (m : Mode) (t : Tables) (Q : Tables → Type 0) → drop at text ≡ bs → WSP bs rest → Q t
      → Leads text (scanned text at bs (state Ended m t)) Inside m rest Q
  unfolding step
  fresh-wsp at bs rest m t Q d w q = reads-to text at w.0 bs rest Ended m t Inside m t Q d w.1 (rw w.2) q

  -- a line without a rule leads to the next line
  blank-line : (at : ℕ) (bs rest : List ℕ) (m : Mode) (t : Tables) (P : Tables → Type 0) → drop at text ≡ bs → (Many c-wsp ⨾ c-nl) bs rest → P t
      → whole m t ≡ true
      → (m' : Mode) × Leads text (scanned text at bs (state Ended m t)) Ended m' rest (Rests P m')
  unfolding whole
  blank-line at bs rest m t P d w q h = by w.0 w.1 w.2
    where
      by : (x : List ℕ) → Many c-wsp bs x → c-nl x rest → (m' : Mode) × Leads text (scanned text at bs (state Ended m t)) Ended m' rest (Rests P m')
      by x Many.none n = (Blank, fresh-cnl at bs rest m t (Rests P Blank) h d n (q, refl))
      by x (more {mid = mid} (inl s) ss) n =
          let l : Loose m = whole-loose m t h in (
            m,
            lead-then text (fresh-wsp at bs mid m t (Rests P m) d s (q, h))
                (λ a₁ t₁ d₁ w₁. lead-then text (blanks-lead text a₁ mid x m t₁ (Rests P m) l d₁ ss w₁)
                (λ a₂ t₂ d₂ w₂. cnl-leads text a₂ x rest m t₂ (Rests P m) l d₂ n w₂)),
          )
      by x (more {mid = mid} (inr s) ss) n = (
        Blank,
        lead-then text (fresh-cnl at bs s.0 m t (Rests P Blank) h d s.1 (q, refl))
            (λ a₁ t₁ d₁ w₁. lead-then text (fresh-wsp a₁ s.0 mid Blank t₁ (Rests P Blank) d₁ s.2 w₁)
            (λ a₂ t₂ d₂ w₂. lead-then text (blanks-lead text a₂ mid x Blank t₂ (Rests P Blank) tt d₂ ss w₂)
            (λ a₃ t₃ d₃ w₃. cnl-leads text a₃ x rest Blank t₃ (Rests P Blank) tt d₃ n w₃))),
      )

  -- ---- a rule

  -- the first letter of a name that is defined
  naming-leads : (at b : ℕ) (bs rest : List ℕ) (m : Mode) (t : Tables) (Q : Tables → Type 0) → drop at text ≡ bs → bs ≡ b ∷ rest → letter b ≡ true
      → whole m t ≡ true → Q t
      → Leads text (scanned text at bs (state Ended m t)) Inside (Naming at) rest Q
  unfolding step fresh
  naming-leads at b bs rest m t Q d e f h q = reads-to text at b bs rest Ended m t Inside (Naming at) t Q d e (rw (letter-solid b f, h, f)) q

  -- its other bytes
  naming-bytes : (from at : ℕ) (w bs rest : List ℕ) (t : Tables) (Q : Tables → Type 0) → drop at text ≡ bs → spelled name_byte w bs rest → Q t
      → Leads text (scanned text at bs (state Inside (Naming from) t)) Inside (Naming from) rest Q
  unfolding step inside
  naming-bytes from at [] bs rest t Q d s q = goes at t (d ∙ s) (rw s) q
  naming-bytes from at (b ∷ w) bs rest t Q d s q =
      lead-then text
      (reads text at b bs s.0 Inside (Naming from) t Inside (Naming from) Q d s.1
      (rw s.2 (gives-if (Goes Inside (Naming from) Q) (leb (from + 64) at) _ _ (λ z. refl) (λ z. here Inside (Naming from) Q t q))))
      (λ a u e r. naming-bytes from a w s.0 rest u Q e s.3 r)

  -- its end: the name is defined, and "=" is wanted
  naming-step : (at from c : ℕ) (t : Tables) → name_byte c ≡ false
      → step text at c Inside (Naming from) t ≡ (defined text from t then λ u. step text at c Inside Equals u)
  unfolding step inside
  naming-step at from c t e = rw e

  -- "="
  equals-leads : (at : ℕ) (bs rest : List ℕ) (t : Tables) (Q : Tables → Type 0) → drop at text ≡ bs → bs ≡ 61 ∷ rest → Q t
      → Leads text (scanned text at bs (state Inside Equals t)) Inside Want rest Q
  unfolding step inside equals blank
  equals-leads at bs rest t Q d e q = reads-to text at 61 bs rest Inside Equals t Inside Want t Q d e refl q

  -- what is left of a rule behind its name
  right-leads : (d : Definition) (at : ℕ) (bs x y z mid rest : List ℕ) (t : Tables) (l : ℕ) (ws : List (List ℕ)) (n : Notes) → drop at text ≡ bs
      → Many c-wsp bs x → x ≡ 61 ∷ y → Many c-wsp y z
      → (alternation d.choice ⨾ Many c-wsp) z mid → c-nl mid rest → Start text [] l ws n t
      → Leads text (scanned text at bs (state Inside Equals t)) Ended Spaced rest (In text [] l ws (note_choice d.choice l n))
  right-leads d at bs x y z mid rest t l ws n e b₁ s b₂ a c w =
      lead-then text (blanks-lead text at bs x Equals t _ tt e b₁ w)
      (λ a₁ t₁ d₁ w₁. lead-then text (equals-leads a₁ x y t₁ _ d₁ s w₁)
      (λ a₂ t₂ d₂ w₂. lead-then text (blanks-lead text a₂ y z Want t₂ _ tt d₂ b₂ w₂)
      (λ a₃ t₃ d₃ w₃. lead-then text (choice-leads text d.choice a₃ z a.0 t₃ [] l ws n d₃ a.1
      (blanks-stop a.0 mid a.2 (cnl-stops mid rest c)) w₃)
      (λ a₄ t₄ d₄ w₄. lead-then text (blanks-lead text a₄ a.0 mid Spaced t₄ _ tt d₄ a.2 w₄)
      (λ a₅ t₅ d₅ w₅. cnl-leads text a₅ mid rest Spaced t₅ _ tt d₅ c w₅)))))

  -- ---- the lines of a text

  -- what a run comes to, where the words ws have rules and the definitions ds are still to come
  pub data Comes (ws : List (List ℕ)) (ds : List Definition) (n : Notes) (x : Run Tables) : Type 0 where
    limited : (p : ℕ) → x ≡ refused 20 p → Comes ws ds n x
    repeated : (p : ℕ) → x ≡ refused 18 p → ¬ Different (ws ++ defines ds) → Comes ws ds n x
    bare : (p : ℕ) → x ≡ refused 18 p → length (ws ++ defines ds) ≡ 0 → Comes ws ds n x
    done : (t : Tables) → x ≡ on t → Different (ws ++ defines ds) → 1 ≤ length (ws ++ defines ds)
        → Says text (ws ++ defines ds) (note_rules ds n) t.names t.literals t.lefts t.items t.groups → Comes ws ds n x

  -- a way, and then what it comes to
  comes-then : {x : Run Tables} {l : Line} {m : Mode} {bs : List ℕ} {Q : Tables → Type 0} (ws : List (List ℕ)) (ds : List Definition) (n : Notes)
      → Leads text x l m bs Q
      → ((at : ℕ) (t : Tables) → drop at text ≡ bs → Q t → Comes ws ds n (scanned text at bs (state l m t))) → Comes ws ds n x
  comes-then ws ds n (over p e) k = limited p e
  comes-then ws ds n (goes at t d e q) k = subst (λ y. Comes ws ds n y) (sym e) (k at t d q)

  -- one definition passes from those to come to the words that have rules
  comes-on : (d : Definition) (ds : List Definition) (ws : List (List ℕ)) (n : Notes) (x : Run Tables)
      → Comes (ws ++ (map lower d.name ∷ [])) ds (note_rule d n) x → Comes ws (d ∷ ds) n x
  unfolding note_rules
  comes-on d ds ws n x (limited p e) = limited p e
  comes-on d ds ws n x (repeated p e h) = repeated p e (λ q. h (subst (λ v. Different v) (sym (append_assoc ws (map lower d.name ∷ []) (defines ds))) q))
  comes-on d ds ws n x (bare p e h) = bare p e (ap length (sym (append_assoc ws (map lower d.name ∷ []) (defines ds))) ∙ h)
  comes-on d ds ws n x (done t e h k s) =
      let a : (ws ++ (map lower d.name ∷ [])) ++ defines ds ≡ ws ++ defines (d ∷ ds) = append_assoc ws (map lower d.name ∷ []) (defines ds) in
      done t e (subst (λ v. Different v) a h) (subst (λ v. 1 ≤ length v) a k)
      (subst (λ v. Says text v (note_rules ds (note_rule d n)) t.names t.literals t.lefts t.items t.groups) a s)

  -- behind a rule
  rule-rests : (ws : List (List ℕ)) (v : List ℕ) (n : Notes) (l : ℕ) (t : Tables) → In text [] l (ws ++ (v ∷ [])) n t
      → Rests (Between text (ws ++ (v ∷ [])) n) Spaced t
  unfolding whole
  rule-rests ws v n l t w =
      (record { base = w.keep.base; told = w.told; some = λ h. w.items; fewer = λ h. omega (arith, length-append ws (v ∷ [])) }, rw (in-rule t w.keep))

  -- nothing is defined
  no_word : (ws : List (List ℕ)) → (1 ≤ length ws → ⊥) → length (ws ++ []) ≡ 0
  no_word [] h = refl
  no_word (w ∷ ws) h = absurd (h (omega arith))

  -- the end of the text
  end-comes : (at : ℕ) (m : Mode) (t : Tables) (ws : List (List ℕ)) (n : Notes) → Rests (Between text ws n) m t → Different ws
      → Comes ws [] n (scanned text at [] (state Ended m t))
  unfolding scanned finished note_rules
  end-comes at m t ws n w h = rw w.1 (by (leb 1 (length t.items)) refl)
    where
      by : (b : Bool) → leb 1 (length t.items) ≡ b → Comes ws [] n (pick b (on t) (refused 18 at))
      by true e =
          let a : ws ≡ ws ++ [] = sym (append-nil ws) in
          done t refl (subst (λ v. Different v) a h) (subst (λ v. 1 ≤ length v) a (w.0.fewer (leb-true 1 (length t.items) e)))
          (subst (λ v. Says text v n t.names t.literals t.lefts t.items t.groups) a w.0.told)
      by false e = bare at refl (no_word ws (λ k. let z = w.0.some k in let y = leb-false 1 (length t.items) e in omega arith))

  -- behind a name that is being defined
  name-comes : (d : Definition) (ds : List Definition) (from at : ℕ) (bs rest : List ℕ) (t : Tables) (ws : List (List ℕ)) (n : Notes) → drop at text ≡ bs
      → Halts bs
      → Defines text (map lower d.name) ws n (defined text from t) → Different ws
      → ((a : ℕ) (u : Tables) → drop a text ≡ bs → Start text [] (length n.lefts) (ws ++ (map lower d.name ∷ [])) (note_left (index (map lower d.name) n.names) (note_name (map lower d.name) n)) u
      → Different (ws ++ (map lower d.name ∷ []))
      → Comes ws (d ∷ ds) n (scanned text a bs (state Inside Equals u))) → Comes ws (d ∷ ds) n (scanned text at bs (state Inside (Naming from) t))
  unfolding scanned
  name-comes d ds from at bs rest t ws n e s (limit p f) h k =
      comes-then ws (d ∷ ds) n (settles text at s.0 bs s.1 (Naming from) Equals t (defined text from t) (λ u. ⊥) e s.2
      (naming-step at from s.0 t s.3) (subst (λ r. Gives (λ u. ⊥) r) (sym f) refl)) (λ a u g z. absurd z)
  name-comes d ds from at bs rest t ws n e s (again p f m) h k = rw (s.2, naming-step at from s.0 t s.3, f) (by (leb 32768 at))
    where
      by : (b : Bool) → Comes ws (d ∷ ds) n (pick b (refused 20 at) (refused 18 p))
      by true = limited at refl
      by false = repeated p refl (λ q. m (different-none (map lower d.name) ws (defines ds) q))
  name-comes d ds from at bs rest t ws n e s (new u f m w) h k =
      let Q =
      Start text [] (length n.lefts) (ws ++ (map lower d.name ∷ []))
      (note_left (index (map lower d.name) n.names) (note_name (map lower d.name) n)) in
      comes-then ws (d ∷ ds) n (settles text at s.0 bs s.1 (Naming from) Equals t (defined text from t) Q e s.2
      (naming-step at from s.0 t s.3) (subst (λ r. Gives Q r) (sym f) w))
      (λ a v g z. k a v g z (different-snoc (map lower d.name) ws h m))

  -- a rule, and then what comes behind it
  rule-comes : (w : List ℕ) (d : Definition) (ds : List Definition) (at : ℕ) (bs x rest : List ℕ) (m : Mode) (t : Tables) (ws : List (List ℕ)) (n : Notes)
      → d.name ≡ w → drop at text ≡ bs → rulename w bs x
      → (defined-as ⨾ elements d.choice ⨾ c-nl) x rest → Rests (Between text ws n) m t → Different ws
      → ((a : ℕ) (u : Tables) → drop a text ≡ rest → Rests (Between text (ws ++ (map lower d.name ∷ [])) (note_rule d n)) Spaced u → Different (ws ++ (map lower d.name ∷ []))
      → Comes (ws ++ (map lower d.name ∷ [])) ds (note_rule d n) (scanned text a rest (state Ended Spaced u)))
      → Comes ws (d ∷ ds) n (scanned text at bs (state Ended m t))
  unfolding note_rule
  rule-comes [] d ds at bs x rest m t ws n i f s r q h k = absurd s
  rule-comes (b ∷ w) d ds at bs x rest m t ws n i f s r q h k =
      let halts : Halts x = sign-halts x r.1.0 r.1.2.0 r.1.1 r.1.2.1 in
      let v : word_at false text at ≡ map lower d.name =
      ap (word false) f ∙ word-is false name_byte (b ∷ w) bs x name-part (s.0, s.1, letter-name b s.2, s.3) (halt-word x halts) ∙ ap (map lower)
      (sym i) in
      let vs = ws ++ (map lower d.name ∷ []) in
      let n' = note_left (index (map lower d.name) n.names) (note_name (map lower d.name) n) in
      comes-then ws (d ∷ ds) n (naming-leads at b bs s.0 m t (Between text ws n) f s.1 s.2 q.1 q.0)
      (λ a₁ t₁ d₁ w₁. comes-then ws (d ∷ ds) n (naming-bytes at a₁ w s.0 x t₁ (Between text ws n) d₁ s.3 w₁)
      (λ a₂ t₂ d₂ w₂. name-comes d ds at a₂ x rest t₂ ws n d₂ halts (rule_told text at (map lower d.name) ws n t₂ v w₂) h
      (λ a₃ t₃ d₃ w₃ h₃. comes-on d ds ws n _
      (comes-then vs ds (note_rule d n) (right-leads d a₃ x r.1.0 r.1.2.0 r.0 r.2.0 rest t₃ (length n.lefts) vs n' d₃ r.1.1
      r.1.2.1 r.1.2.2 r.2.1 r.2.2 w₃)
      (λ a₄ t₄ d₄ w₄. k a₄ t₄ d₄ (rule-rests ws (map lower d.name) (note_rule d n) (length n.lefts) t₄ w₄) h₃)))))

  -- line by line
  lines-come : {ds : List Definition} {bs : List ℕ} → Lines ds bs → (at : ℕ) (m : Mode) (t : Tables) (ws : List (List ℕ)) (n : Notes) → drop at text ≡ bs
      → Rests (Between text ws n) m t → Different ws
      → Comes ws ds n (scanned text at bs (state Ended m t))
  lines-come end at m t ws n e w h = end-comes at m t ws n w h
  lines-come (rules {d = d} {ds = ds} {bs = bs} {rest = rest} r ls) at m t ws n e w h =
      rule-comes d.name d ds at bs r.0 rest m t ws n refl e r.1 r.2 w h
      (λ a u f v k. lines-come ls a Spaced u (ws ++ (map lower d.name ∷ [])) (note_rule d n) f v k)
  lines-come (blanks {ds = ds} {bs = bs} {rest = rest} b ls) at m t ws n e w h =
      let g = blank-line at bs rest m t (Between text ws n) e b w.0 w.1 in
      comes-then ws ds n g.1 (λ a u f v. lines-come ls a g.0 u ws n f v h)

  -- before the text nothing is noted
  none_between : Between text [] nothing none
  unfolding of_names
  none_between = record {
    base = record { few = omega arith; fresh = tt };
    told = record { names = refl; literals = refl; lefts = refl; items = refl; groups = refl; ruled = refl; known = tt };
    some = λ h. h;
    fewer = λ h. h;
  }

  -- a text of lines is read to its end, or to a name that is defined again, or to a limit; without a rule it is refused at its end
  pub text-comes : (ds : List Definition) → Lines ds text → Comes [] ds nothing (scanned text 0 text start)
  unfolding whole
  text-comes ds l = lines-come l 0 Blank none [] nothing refl (none_between, refl) tt
