-- A table that passes the row-by-row test is sound: the state that it decodes to is valid, and the table and the values are that state's.
-- Assumes nothing.
use Prim.Native.Nat.{ℕ, ◌≤◌}
use native.Mathlib.Omega.{arith}
use native.Mathlib.Decide.{ℕ_discrete}
use mathlib.Core.Path.{◌≡◌, refl}
use mathlib.Core.Bool.{not}
use mathlib.Core.List.{List}
use lib.Dec.{T}
use lib.IntN.{ℤ}
use lib.Ieee.{Float}
use Rattle.mesh.specs.Call.{Sizes, Rectangle}
use Rattle.mesh.specs.State.{State, is_nil, entry, grid_of}
use Rattle.mesh.specs.Valid.{Valid}
use Rattle.mesh.specs.Picture.{flags_word, free_flags, Lent, Sound}
use Rattle.mesh.specs.Decode.{decode}
use Rattle.table.specs.Words.{word_of, Fits}
use Rattle.checker_laws.specs.Rowwise.{rowwise}
use Rattle.number_laws.proofs.Entries.{stands-in}
use Rattle.picture_laws.proofs.Parts.{parts-picture}
use Rattle.checker_laws.proofs.Facts.{rowwise-tested}
use Rattle.checker_laws.proofs.Climbing.{root_said}
use Rattle.checker_laws.proofs.Reading.{Reads, decode-reads}
use Rattle.checker_laws.proofs.Linking.{used-place}
use Rattle.checker_laws.proofs.Meshing.{cells-mesh}
use Rattle.checker_laws.proofs.Existing.{row-patch, patch-row}
use Rattle.checker_laws.proofs.Valuing.{sentence-rule, value-rule}
use Rattle.checker_laws.proofs.Picturing.{are_words, are-amounts}

-- ---- the state

module _ (s : State) {cap : ℕ} {t : List ℤ} {v : List Float} (o : Reads (grid_of s) cap t v s.entries) where
  not-nil : (n : ℕ) → 1 ≤ n → n ≤ cap → T (not (is_nil (entry s.entries n)))
  not-nil n l h = go (ℕ_discrete (word_of t n flags_word) free_flags)
    where
      go : Dec (word_of t n flags_word ≡ free_flags) → T (not (is_nil (entry s.entries n)))
      go (yes e) = rw (o.entry_free n l h e) tt
      go (no e) = rw (o.entry-used n (record { low = l; high = h; taken = e })) tt

  reads-valid : 5 ≤ cap → cap ≤ 4095 → Valid s
  reads-valid low high = record {
    sizes = (omega (arith, o.size), omega (arith, o.size));
    rectangle = o.in-range;
    zeroth = o.numbered.zeroth;
    others = λ n l h. not-nil n l (omega (arith, o.size));
    mesh = cells-mesh o;
    each = λ n p e. let (u, q) = o.used-at n p e in rw q at (row-patch o n u);
    every = λ p h. let (n, u, q) = patch-row o p h in stands-in s.entries n p (rw q at (used-place o n u));
    once = o.numbered.once;
    first-root = rw (root_said o.tested) at (used-place o 1 o.tested.root-used);
    sentences = sentence-rule o;
    values = value-rule s o;
  }

-- ---- the table

pub rowwise-sound : (cap : ℕ) (l : Lent) → Sizes cap l → Rectangle l.header.grid → Fits l.words → T (rowwise l.header.grid l.words cap l.values) → Sound l
unfolding decode
rowwise-sound cap l z r f x =
    let s = decode l in
    let o = decode-reads l (rowwise-tested l.header.grid cap l.words l.values (omega (arith, z.low)) x) r f z.values in
    record { state = s; valid = reads-valid s o z.low z.high; is-picture = parts-picture s refl (are_words s o f z.high z.words) (are-amounts s o f z.high z.values) }
