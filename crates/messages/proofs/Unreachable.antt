-- The exercise: where a nonterminal is unreachable, a complete string of its rule still arrives in the FOLLOW of one that is reached, and no
-- message shows it. Assumes nothing.
use Prim.Native.Nat.{ℕ}
use native.Mathlib.Omega.{arith}
use mathlib.Core.List.Memᴰ
use mathlib.Core.List.{List, [], ◌∷◌, ◌++◌, map}
use mathlib.Core.Logic.{◌⊎◌, inl, inr, ⊎_elim}
use mathlib.Core.Path.{◌≡◌, refl, sym, ap, subst, ◌∙◌}
use lib.ListN.{take}
use Rattle.cfg.specs.Grammar.{Sym, nonterminal, terminal, Word, Production, Rule, Step, Steps, done, then, Accepted}
use Rattle.cfg.proofs.Meaning.{accepted}
use Rattle.follow_theory.specs.Follow.{Follow}
use Rattle.messages.specs.Messages.{Form, InMessages, Reachable}
use Rattle.messages.specs.Exercise.{table, unreached, table-accepted}

-- [6] is in FOLLOW(U): S stands right of U in U → 6 U S, and begins with 6.
pub six-follows-unreached : Follow unreached 1 0 (6 ∷ [])
six-follows-unreached =
    Follow.keeps (terminal 6 ∷ []) (nonterminal 1 ∷ []) (Memᴰ.tail (Memᴰ.head refl))
    (6 ∷ 5 ∷ [], then (record { before = []; A = 1; after = []; γ = terminal 6 ∷ terminal 5 ∷ []; rule = Memᴰ.head refl; from = refl; to = refl }) done, refl)
    refl

-- So it is in FOLLOW(S): S ends the same rule.
pub six-follows-start : Follow unreached 1 1 (6 ∷ [])
six-follows-start =
    Follow.joins (terminal 6 ∷ nonterminal 0 ∷ []) [] {x = []} (Memᴰ.tail (Memᴰ.head refl)) ([], done, refl) refl six-follows-unreached refl

-- A form is S alone, or has no nonterminal.
abbrev AllTerminals : List Sym → Type 0
AllTerminals [] = Unit {0}
AllTerminals (nonterminal A ∷ α) = ⊥
AllTerminals (terminal x ∷ α) = AllTerminals α

-- A form of terminals has no nonterminal.
no-nonterminal : (α : List Sym) (A : ℕ) (β : List Sym) → AllTerminals (α ++ nonterminal A ∷ β) → ⊥
no-nonterminal [] A β h = h
no-nonterminal (nonterminal B ∷ α) A β h = h
no-nonterminal (terminal x ∷ α) A β h = no-nonterminal α A β h

-- What S derives: S itself, or terminals.
abbrev Early : List Sym → Type 0
Early φ = (φ ≡ nonterminal 1 ∷ []) ⊎ AllTerminals φ

-- A nonterminal that is all of a form.
pub record Alone (α : List Sym) (A : ℕ) (β : List Sym) : Type 0 where
  pub before : α ≡ []
  pub same : A ≡ 1
  pub after : β ≡ []

-- If S is all of a form, any nonterminal of the form is S and stands alone.
alone : (α : List Sym) (A : ℕ) (β : List Sym) → α ++ nonterminal A ∷ β ≡ nonterminal 1 ∷ [] → Alone α A β
alone [] A β e = record { before = refl; same = cc; after = cc }
alone (s ∷ []) A β e = absurd (let z : ◌≡◌ {A = ℕ} 0 1 = cc in omega arith)
alone (s ∷ r ∷ α) A β e = absurd (let z : ◌≡◌ {A = ℕ} 0 1 = cc in omega arith)

-- A production's left side.
left-of : Production → ℕ
left-of p = p.left

-- S has one rule, of terminals.
start-rule : (A : ℕ) (γ : List Sym) → A ≡ 1 → Rule unreached A γ → AllTerminals (γ ++ [])
unfolding left-of
start-rule A γ one m =
    ⊎_elim (λ (e : record { left = A; right = γ } ≡ record { left = 1; right = terminal 6 ∷ terminal 5 ∷ [] }). subst (λ (p : Production). AllTerminals (p.right ++ [])) (sym e) tt)
    (λ m. ⊎_elim (λ (e : record { left = A; right = γ } ≡ record { left = 0; right = terminal 6 ∷ nonterminal 0 ∷ nonterminal 1 ∷ [] }). absurd (omega (arith, ap left-of e)))
    (λ m. ⊎_elim (λ (e : record { left = A; right = γ } ≡ record { left = 0; right = [] }). absurd (omega (arith, ap left-of e)))
    (λ m. absurd (Memᴰ.not-nil m))
    (Memᴰ.cases_cons m)) (Memᴰ.cases_cons m)) (Memᴰ.cases_cons m)

-- One step leaves it so.
early-step : {φ ψ : List Sym} → Step unreached φ ψ → Early φ → Early ψ
early-step s (inl e) =
    let a = alone s.before s.A s.after (sym s.from ∙ e) in
    inr (rw (s.to, a.before, a.after) (start-rule s.A s.γ a.same s.rule))
early-step s (inr h) = absurd (no-nonterminal s.before s.A s.after (rw s.from at h))

-- So do any number of steps.
early-steps : {φ ψ : List Sym} → Steps unreached φ ψ → Early φ → Early ψ
early-steps done h = h
early-steps (then s d) h = early-steps d (early-step s h)

-- A nonterminal in a message is S, and the message is S alone.
in-message : (α : List Sym) (A : ℕ) (β : List Sym) → Form unreached (α ++ nonterminal A ∷ β) → Alone α A β
in-message α A β form = ⊎_elim (alone α A β) (λ h. absurd (no-nonterminal α A β h)) (early-steps form (inl refl))

-- U is unreachable.
pub not-reached : ¬ Reachable unreached 0
not-reached (α, β, form) = let a = in-message α 0 β form in omega (arith, a.same)

-- Messages show the end marker right of S, and nothing else: no 6.
pub message-ends : (x : Word) → InMessages unreached 1 1 x → x ≡ 0 ∷ []
message-ends x (α, w, form, e) = by w e (in-message α 1 (map terminal w) form).after
  where
    by : (w : Word) → x ≡ take 1 (w ++ 0 ∷ []) → map terminal w ≡ [] → x ≡ 0 ∷ []
    by [] e n = e
    by (a ∷ w) e n = absurd (let z : ◌≡◌ {A = ℕ} 0 1 = cc in omega arith)

-- So the 6 of FOLLOW(S) comes from the rule of U, which no message uses.
pub six-in-no-message : ¬ InMessages unreached 1 1 (6 ∷ [])
six-in-no-message m = let e = message-ends (6 ∷ []) m in absurd (let z : ◌≡◌ {A = ℕ} 6 0 = cc in omega arith)

-- The grammar is accepted: nothing but the unreachable rule is amiss.
pub unreached-accepted : Accepted unreached
unreached-accepted = (accepted table unreached 15 table-accepted).0

-- So it is reachability that the way from FOLLOW to messages needs.
pub reach-needed : ¬ ((A : ℕ) (x : Word) → Follow unreached 1 A x → InMessages unreached 1 A x)
reach-needed h = six-in-no-message (h 1 (6 ∷ []) six-follows-start)
