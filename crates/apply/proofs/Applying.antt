-- An accepted request of each kind on a picture: what it writes is the picture of what the rules make.
-- Assumes nothing.
use Prim.Native.Nat.{ℕ}
use mathlib.Core.Path.{◌≡◌, refl, sym, ◌∙◌}
use mathlib.Core.List.{List}
use lib.IntN.{ℤ}
use lib.Ieee.{Float}
use Rattle.mesh.specs.State.{State}
use Rattle.mesh.specs.Picture.{table, amounts}
use Rattle.mesh.specs.LeafCounts.{leaf_counts}
use Rattle.mesh.specs.Refusal.{refusal}
use Rattle.mesh.specs.Request.{Request, refine, sentence, remove, kill, set_value, loose_checks, checks, effect}
use Rattle.number_laws.proofs.Checks.{loosely}
use Rattle.refusals.specs.Decide.{refine_refusal, sentence_refusal, remove_refusal, kill_refusal, set_refusal}
use Rattle.refusals.specs.OneRow.{sentence_table}
use Rattle.carried.specs.Carried.{put_status, put_amount, measured_as}
use Rattle.refusals.proofs.OneRow.{sentence-table, sentence-amounts, set-table, set-amounts}
use Rattle.edit_laws.specs.Tables.{refine_table, refine_values, remove_table, remove_values, kill_table, kill_values}
use Rattle.edit_laws.proofs.Refined.{refine-table, refine-values}
use Rattle.edit_laws.proofs.Removal.{remove-table, remove-values}
use Rattle.edit_laws.proofs.Killing.{kill-table, kill-values}
use Rattle.tally.specs.CountSteps.{moved}
use Rattle.tally.specs.TallyRows.{refined_move, removed_move, killed_move, measured_move}
use Rattle.apply.specs.Drawn.{lists, Drawn}
use Rattle.apply.specs.Applied.{Applied}
use Rattle.apply.proofs.Drawing.{drawn-words, drawn-values, from-picture, marked-drawn}
use Rattle.apply.proofs.Tallying.{refine-tallied, sentence-tallied, remove-tallied, kill-tallied, set-tallied}
use Rattle.apply.proofs.Deciding.{Decides, refine-decides, sentence-decides, remove-decides, kill-decides, set-decides}

module _ (q : Request) (cap d : ℕ) (t : List ℤ) (v : List Float) (c : List ℕ) where
  -- the words, the values and the counts are those of the effect
  abbrev Makes : List ℤ → List Float → List ℕ → Type 0
  Makes t' v' c' = (s : State) → Drawn s cap d (lists t v c) → refusal (loose_checks s q) ≡ 0
      → (t' ≡ table (effect s q)) × (v' ≡ amounts (effect s q)) × (c' ≡ leaf_counts (effect s q))

  accepted-applied : (t' : List ℤ) (v' : List Float) (c' : List ℕ) → Decides q cap d (lists t v c) 0 → Makes t' v' c' → Applied q cap d (lists t v c) (lists t' v' c') 0
  accepted-applied t' v' c' x m = record {
    decided = x;
    done = λ s p h.
        let ok : refusal (checks s q) ≡ 0 = sym (x s p) in
        let (a, b, e) = m s p (loosely s q ok) in
        marked-drawn q p ok a b e;
    refused = λ z. absurd (z refl);
  }

module _ (cap d n : ℕ) (t : List ℤ) (v : List Float) (c : List ℕ) where
  -- ---- refine

  pub refine-applied : {given : ℕ} (t' : List ℤ) (v' : List Float) (c' : List ℕ) → given ≡ refine_refusal t cap n → given ≡ 0
      → t' ≡ refine_table t v cap d n → v' ≡ refine_values t v cap d n → c' ≡ moved c (refined_move t v n) → Applied (refine n) cap d (lists t v c) (lists t' v' c') 0
  refine-applied t' v' c' x z y w u = accepted-applied (refine n) cap d t v c t' v' c' (refine-decides cap d n t v c (sym z ∙ x)) makes
    where
      makes : Makes (refine n) cap d t v c t' v' c'
      makes s p ok = (
        y ∙ rw (drawn-values p) (from-picture p (λ t cap d. refine_table t (amounts s) cap d n ≡ table (effect s (refine n))) (refine-table s p.valid n ok)),
        w ∙ rw (drawn-values p) (from-picture p (λ t cap d. refine_values t (amounts s) cap d n ≡ amounts (effect s (refine n))) (refine-values s p.valid n ok)),
        u ∙ (refine-tallied p n ok).2.counted,
      )

  -- ---- sentence

  pub sentence-applied : {given : ℕ} (t' : List ℤ) → given ≡ sentence_refusal t cap n → given ≡ 0 → t' ≡ sentence_table t n → Applied (sentence n) cap d (lists t v c) (lists t' v c) 0
  sentence-applied t' x z y = accepted-applied (sentence n) cap d t v c t' v c (sentence-decides cap d n t v c (sym z ∙ x)) makes
    where
      makes : Makes (sentence n) cap d t v c t' v c
      makes s p ok = (y ∙ rw (drawn-words p) (sentence-table s p.valid n ok), drawn-values p ∙ sentence-amounts s p.valid n ok, sentence-tallied p n ok)

  -- ---- set value

  module _ (x : Float) where
    pub set-applied : {given : ℕ} (t' : List ℤ) (v' : List Float) (c' : List ℕ) → given ≡ set_refusal t cap n x → given ≡ 0 → t' ≡ put_status t n (measured_as x) → v' ≡ put_amount v n (measured_as x) → c' ≡ moved c (measured_move t v n x) → Applied (set_value n x) cap d (lists t v c) (lists t' v' c') 0
    set-applied t' v' c' r z y w u = accepted-applied (set_value n x) cap d t v c t' v' c' (set-decides cap d n t v c x (sym z ∙ r)) makes
      where
        makes : Makes (set_value n x) cap d t v c t' v' c'
        makes s p ok = (y ∙ rw (drawn-words p) (set-table s p.valid n x ok), w ∙ rw (drawn-values p) (set-amounts s p.valid n x ok), u ∙ (set-tallied p n x ok).1.counted)

  -- ---- remove and kill

  pub remove-applied : {given : ℕ} (t' : List ℤ) (v' : List Float) (c' : List ℕ) → given ≡ remove_refusal t cap n → given ≡ 0
      → t' ≡ remove_table t cap d n → v' ≡ remove_values t cap n v → c' ≡ moved c (removed_move t v cap n) → Applied (remove n) cap d (lists t v c) (lists t' v' c') 0
  remove-applied t' v' c' x z y w u = accepted-applied (remove n) cap d t v c t' v' c' (remove-decides cap d n t v c (sym z ∙ x)) makes
    where
      makes : Makes (remove n) cap d t v c t' v' c'
      makes s p ok = (
        y ∙ from-picture p (λ t cap d. remove_table t cap d n ≡ table (effect s (remove n))) (remove-table s p.valid n ok),
        w ∙ rw (drawn-values p) (from-picture p (λ t cap d. remove_values t cap n (amounts s) ≡ amounts (effect s (remove n))) (remove-values s p.valid n ok)),
        u ∙ (remove-tallied p n ok).2.counted,
      )

  pub kill-applied : {given : ℕ} (t' : List ℤ) (v' : List Float) (c' : List ℕ) → given ≡ kill_refusal t cap d n → given ≡ 0
      → t' ≡ kill_table t cap d n → v' ≡ kill_values n v → c' ≡ moved c (killed_move t v n) → Applied (kill n) cap d (lists t v c) (lists t' v' c') 0
  kill-applied t' v' c' x z y w u = accepted-applied (kill n) cap d t v c t' v' c' (kill-decides cap d n t v c (sym z ∙ x)) makes
    where
      makes : Makes (kill n) cap d t v c t' v' c'
      makes s p ok = (
        y ∙ from-picture p (λ t cap d. kill_table t cap d n ≡ table (effect s (kill n))) (kill-table s p.valid n ok),
        w ∙ rw (drawn-values p) (kill-values s p.valid n ok),
        u ∙ (kill-tallied p n ok).1.counted,
      )
