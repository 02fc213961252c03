-- Two outcomes that keep a contract of the surface for C are the same: the number given, and every lent word. Assumes nothing.
use Prim.Native.Nat.{ℕ}
use mathlib.Core.Path.{◌≡◌, sym, ◌∙◌}
use mathlib.Core.List.{List}
use Rattle.k_tuple.specs.Paper.{Paper}
use Rattle.k_tuple.specs.Answers.{UnpackedRecord}
use Rattle.exports.specs.Call.{Called}
use Rattle.exports.specs.Told.{Wrote, Told, Made, Left, UnpackedTo}

-- numbers in lent words; strings and tests; unpacked; a union; another set; the call
pub wrote_one : {n r₀ : ℕ} {values out : List ℕ} {r s : ℕ} {o o' : List ℕ} → Wrote n r₀ values out r o → Wrote n r₀ values out s o' → (r ≡ s) × (o ≡ o')
wrote_one p q = (p.number ∙ sym q.number, p.words ∙ sym q.words)

pub told-one : {n : ℕ} {p : Paper} {out : List ℕ} {r s : ℕ} {o o' : List ℕ} → Told n p out r o → Told n p out s o' → (r ≡ s) × (o ≡ o')
told-one p q = wrote_one p.wrote q.wrote

pub unpacked-one : (u : UnpackedRecord) {out : List ℕ} {r s : ℕ} {o o' : List ℕ} → UnpackedTo u out r o → UnpackedTo u out s o' → (r ≡ s) × (o ≡ o')
unpacked-one u p q = wrote_one p q

pub made_one : {n : ℕ} {p : Paper} {new out told : List ℕ} {r s : ℕ} {o t o' t' : List ℕ} → Made n p new out told r o t → Made n p new out told s o' t' → (r ≡ s) × (o ≡ o') × (t ≡ t')
made_one p q = let w = wrote_one p.wrote q.wrote in (w.0, p.words ∙ sym q.words, w.1)

pub left_one : {p : Paper} {new : List ℕ} {r s : ℕ} {o o' : List ℕ} → Left p new r o → Left p new s o' → (r ≡ s) × (o ≡ o')
left_one p q = (p.number ∙ sym q.number, p.words ∙ sym q.words)

pub called-one : {k c : ℕ} {table result scratch answer : List ℕ} {r s : ℕ} {R S A R' S' A' : List ℕ}
    → Called k c table result scratch answer r R S A → Called k c table result scratch answer s R' S' A' → (r ≡ s) × (R ≡ R') × (S ≡ S') × (A ≡ A')
called-one p q = let w = wrote_one p.wrote q.wrote in (w.0, p.result_words ∙ sym q.result_words, p.scratch-words ∙ sym q.scratch-words, w.1)
