-- What is decided on a picture is what the rules decide; a refused request leaves all as it is, and one that is not names a row.
-- Assumes nothing.
use Rattle.std.specs.Prelude.{Result}
use Rattle.answer.specs.declared.Refusal.{Refusal}
use Rattle.answer.specs.Answered.{number, refusal_of}
use Rattle.answer.proofs.RefusalNumbers.{not-zero}
use Prim.Native.Nat.{ℕ, ◌≤◌}
use mathlib.Core.Path.{◌≡◌, refl, sym, ◌∙◌}
use mathlib.Core.Logic.{◌≢◌}
use mathlib.Core.List.{List}
use lib.ListN.{drop}
use lib.IntN.{ℤ}
use lib.Ieee.{Float}
use Rattle.mesh.specs.State.{State, Header}
use Rattle.mesh.specs.LeafCounts.{Counted}
use Rattle.mesh.specs.Refusal.{refusal}
use Rattle.mesh.specs.Request.{Request, refine, sentence, remove, kill, set_value, loose_checks, checks}
use Rattle.number_laws.proofs.Checks.{loosely}
use Rattle.refusals.specs.Decide.{refine_rows, sentence_rows, remove_rows, kill_rows, set_rows, refine_refusal, sentence_refusal, remove_refusal, kill_refusal, set_refusal}
use Rattle.refusals.proofs.Arms.{accepted-within}
use Rattle.refusals.proofs.Refusing.{refine-refusal, sentence-refusal, remove-refusal, kill-refusal, set-refusal}
use Rattle.apply.specs.Drawn.{lists, Drawn, Pictured}
use Rattle.apply.specs.Applied.{Applied}
use Rattle.apply.proofs.Drawing.{from-picture}

-- on every picture the refusal is the rules'
abbrev pub Decides : Request → ℕ → ℕ → (Header → Counted) → ℕ → Type 0
Decides q cap d l given = (s : State) → Drawn s cap d l → given ≡ refusal (checks s q)

-- ---- the five kinds

module _ (cap d n : ℕ) (t : List ℤ) (v : List Float) (c : List ℕ) where
  pub refine-decides : {given : ℕ} → given ≡ refine_refusal t cap n → Decides (refine n) cap d (lists t v c) given
  refine-decides x s p = x ∙ from-picture p (λ t cap d. refine_refusal t cap n ≡ refusal (checks s (refine n))) (refine-refusal s p.valid n)

  pub sentence-decides : {given : ℕ} → given ≡ sentence_refusal t cap n → Decides (sentence n) cap d (lists t v c) given
  sentence-decides x s p = x ∙ from-picture p (λ t cap d. sentence_refusal t cap n ≡ refusal (checks s (sentence n))) (sentence-refusal s p.valid n)

  pub remove-decides : {given : ℕ} → given ≡ remove_refusal t cap n → Decides (remove n) cap d (lists t v c) given
  remove-decides x s p = x ∙ from-picture p (λ t cap d. remove_refusal t cap n ≡ refusal (checks s (remove n))) (remove-refusal s p.valid n)

  pub kill-decides : {given : ℕ} → given ≡ kill_refusal t cap d n → Decides (kill n) cap d (lists t v c) given
  kill-decides x s p = x ∙ from-picture p (λ t cap d. kill_refusal t cap d n ≡ refusal (checks s (kill n))) (kill-refusal s p.valid n)

  pub set-decides : (x : Float) {given : ℕ} → given ≡ set_refusal t cap n x → Decides (set_value n x) cap d (lists t v c) given
  set-decides x y s p = y ∙ from-picture p (λ t cap d. set_refusal t cap n x ≡ refusal (checks s (set_value n x))) (set-refusal s p.valid n x)

module _ (t : List ℤ) (cap n : ℕ) where
  -- a request that is not refused names one of the rows
  pub refine-within : {given : ℕ} → given ≡ refine_refusal t cap n → given ≡ 0 → n ≤ cap
  unfolding refine_refusal
  refine-within x z = (accepted-within t cap n (drop 1 (refine_rows t cap n)) (sym x ∙ z)).1

  pub sentence-within : {given : ℕ} → given ≡ sentence_refusal t cap n → given ≡ 0 → n ≤ cap
  unfolding sentence_refusal
  sentence-within x z = (accepted-within t cap n (drop 1 (sentence_rows t cap n)) (sym x ∙ z)).1

  pub remove-within : {given : ℕ} → given ≡ remove_refusal t cap n → given ≡ 0 → n ≤ cap
  unfolding remove_refusal
  remove-within x z = (accepted-within t cap n (drop 1 (remove_rows t cap n)) (sym x ∙ z)).1

  pub set-within : (x : Float) {given : ℕ} → given ≡ set_refusal t cap n x → given ≡ 0 → n ≤ cap
  unfolding set_refusal
  set-within x y z = (accepted-within t cap n (drop 1 (set_rows t cap n x)) (sym y ∙ z)).1

  pub kill-within : (d : ℕ) {given : ℕ} → given ≡ kill_refusal t cap d n → given ≡ 0 → n ≤ cap
  unfolding kill_refusal
  kill-within d x z = (accepted-within t cap n (drop 1 (kill_rows t cap d n)) (sym x ∙ z)).1

-- ---- one that is not refused passes the checks that its effect rests on

pub passed : {cap d : ℕ} {t : List ℤ} {v : List Float} {c : List ℕ} (h : Pictured cap d (lists t v c)) (q : Request) → Decides q cap d (lists t v c) 0 → refusal (loose_checks h.state q) ≡ 0
passed h q x = loosely h.state q (sym (x h.state h.drawn))

-- ---- a refused request

pub refused-applied : (q : Request) (cap d : ℕ) (l : Header → Counted) (given : ℕ) → Decides q cap d l given → given ≢ 0 → Applied q cap d l l given
refused-applied q cap d l given x z = record { decided = x; done = λ s p h. absurd (z h); refused = λ _. refl }

-- by the answer that passes the refusal on
pub stopped : {A : Type 0} (q : Request) (cap d : ℕ) (l : Header → Counted) (out : Result A Refusal) (e : Refusal) → refusal_of out ≡ number e → Decides q cap d l (number e) → Applied q cap d l l (refusal_of out)
stopped q cap d l out e o x = refused-applied q cap d l (refusal_of out) (λ s p. o ∙ x s p) (λ z. not-zero e (sym o ∙ z))
