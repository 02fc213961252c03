-- What an analysis that was got tells of its input. Assumes nothing.
use Prim.Native.Nat.{ℕ, ◌≤◌}
use mathlib.Core.Path.{◌≡◌, refl}
use mathlib.Core.Bool.{Bool, true, false, ◌&&◌}
use mathlib.Core.List.{List}
use borrow.Author.Tests.{leb-true}
use lib.Dec.{leb}
use Rattle.cfg.specs.Grammar.{Grammar}
use Rattle.cfg.specs.Reading.{Reading, got as read, refused as unread}
use Rattle.cfg.specs.Accept.{accept_table}
use Rattle.k_tuples.specs.Work.{Answer, got, ◌>>=◌, ◌>>◌, demand}
use Rattle.k_tuples.proofs.Work.{not-got}
use Rattle.analysis.specs.Analysis.{Analysis, work, accepts, analyse, result_needs, scratch_needs}
use Rattle.engine.proofs.Asking.{both}

pub record Got (k c : ℕ) (table : List ℕ) (result scratch : ℕ) (a : Analysis) : Type 0 where
  pub k>0 : 1 ≤ k
  pub k<11 : k ≤ 10
  pub c>0 : 1 ≤ c
  pub c<1025 : c ≤ 1024
  pub g : Grammar
  pub next : ℕ
  pub reads : accept_table table ≡ read g next
  pub result-enough : result_needs c g ≤ result
  pub scratch-enough : scratch_needs c g ≤ scratch
  pub works : work k c g ≡ got a

demand-got : {B : Type 0} (r : ℕ) (t : Bool) (m : Answer B) (b : B) → (demand r t >> m) ≡ got b → (t ≡ true) × (m ≡ got b)
demand-got r true m b e = (refl, e)
demand-got r false m b e = not-got e

accepts-got : {B : Type 0} (x : Reading Grammar) (f : Grammar → Answer B) (b : B) → (accepts x >>= f) ≡ got b → (g : Grammar) × (next : ℕ) × (x ≡ read g next) × (f g ≡ got b)
accepts-got (read g next) f b e = (g, next, refl, e)
accepts-got (unread r) f b e = not-got e

pub analyse-got : (k c : ℕ) (table : List ℕ) (result scratch : ℕ) (a : Analysis) → analyse k c table result scratch ≡ got a → Got k c table result scratch a
unfolding analyse
analyse-got k c table result scratch a e =
    let enough : Grammar → Bool = λ g. leb (result_needs c g) result && leb (scratch_needs c g) scratch in
    let last : Grammar → Answer Analysis = λ g. demand 10 (enough g) >> work k c g in
    let (t, e₁) = demand-got 1 (leb 1 k && leb k 10) (demand 2 (leb 1 c && leb c 1024) >> (accepts (accept_table table) >>= last)) a e in
    let (u, e₂) = demand-got 2 (leb 1 c && leb c 1024) (accepts (accept_table table) >>= last) a e₁ in
    let (g, next, reads, e₃) = accepts-got (accept_table table) last a e₂ in
    let (v, works) = demand-got 10 (enough g) (work k c g) a e₃ in
    let ks = both (leb 1 k) (leb k 10) t in
    let cs = both (leb 1 c) (leb c 1024) u in
    let ws = both (leb (result_needs c g) result) (leb (scratch_needs c g) scratch) v in
    record {
      k>0 = leb-true 1 k ks.0;
      k<11 = leb-true k 10 ks.1;
      c>0 = leb-true 1 c cs.0;
      c<1025 = leb-true c 1024 cs.1;
      g = g;
      next = next;
      reads = reads;
      result-enough = leb-true (result_needs c g) result ws.0;
      scratch-enough = leb-true (scratch_needs c g) scratch ws.1;
      works = works;
    }
