-- The entries in the middle of a request that takes cells away: the cells at some places have gone, and no patch yet. Their cells are those of the
-- state after the request, and the patches of both states stand.
-- Assumes nothing.
use Prim.Native.Nat.{ℕ}
use mathlib.Core.Path.{◌≡◌, sym, ◌∙◌, subst, fun_ext}
use mathlib.Core.Bool.{Bool, true, false, cond}
use mathlib.Core.Option.{none, some}
use mathlib.Core.List.{List}
use lib.Dec.{T}
use Rattle.mesh.specs.Tools.{any}
use Rattle.mesh.specs.Place.{Place, Grid, same, In}
use Rattle.mesh.specs.Mesh.{Mesh, patch}
use Rattle.mesh.specs.State.{State, Entry, place_of, stands, entry, cells, grid_of, with_entries, contents}
use Rattle.mesh.specs.Valid.{Valid}
use Rattle.mesh.specs.Request.{fill, prune}
use Rattle.place_laws.proofs.Bools.{no-is, and_right}
use Rattle.place_laws.proofs.Tree.{cell-patch, patch-more}
use Rattle.number_laws.proofs.NumberedPlaces.{valid-numbered, numbered-not-zero}
use Rattle.number_laws.proofs.Filling.{fill-place, fill-stands, fill-contents, fill-cells}
use Rattle.number_laws.proofs.Pruning.{prune-stands}
use Rattle.number_laws.proofs.Keeping.{Kept}

-- of the entries of s without the cells at ps, and of what is left of them after the request
pub record Between (s : State) (ps : List Place) : Type 0 where
  pub there : (q : Place) → In q ps → T (any (stands q) s.entries)
  pub cells_are : (q : Place) → cells (fill ps none s.entries) q ≡ cond (any (same q) ps) false (cells s.entries q)
  pub contents-are : (q : Place) → contents (fill ps none s.entries) q ≡ cond (any (same q) ps) none (contents s.entries q)
  pub cells_same : cells (prune (grid_of s) (fill ps none s.entries)) ≡ cells (fill ps none s.entries)
  pub mesh : Mesh (grid_of s) (cells (fill ps none s.entries))
  -- the other cells are left
  pub left : (q : Place) → T (cells s.entries q) → (In q ps → ⊥) → T (cells (fill ps none s.entries) q)
  -- what stands was a patch; the patches before stand, and so do those that are left
  pub was-patch : (n : ℕ) (q : Place) → place_of (entry (fill ps none s.entries) n) ≡ some q → T (patch (grid_of s) (cells s.entries) q)
  pub patch-stands : (q : Place) → T (patch (grid_of s) (cells s.entries) q) → T (any (stands q) (fill ps none s.entries))
  pub left-stands : (q : Place) → T (patch (grid_of s) (cells (fill ps none s.entries)) q) → T (any (stands q) (fill ps none s.entries))
  -- what stands after the request stood before it
  pub stood : (q : Place) → T (any (stands q) (prune (grid_of s) (fill ps none s.entries))) → T (any (stands q) s.entries)

pub in_between : {s : State} {ps : List Place} → Valid s → ((q : Place) → In q ps → T (cells s.entries q)) → Kept s ps none (with_entries s (prune (grid_of s) (fill ps none s.entries))) → Between s ps
in_between {s} {ps} v cell kept = record {
  there = stand;
  cells_are = are;
  contents-are = fill-contents ps none es (valid-numbered v) (λ q i. numbered-not-zero es (valid-numbered v) q (stand q i));
  cells_same = alike;
  mesh = subst (λ (x : Place → Bool). Mesh g x) alike kept.valid.mesh;
  left = λ q t o. rw (are q, no-is (any (same q) ps) o) t;
  was-patch = λ n q e. v.each n q (sym (fill-place ps none es n) ∙ e);
  patch-stands = stands-then;
  left-stands = λ q t. stands-then q (patch-more g (cells (fill ps none es)) (cells es) fewer q t);
  stood = λ q t. rw (fill-stands ps none es q) at (and_right (patch g (cells (fill ps none es)) q) (any (stands q) (fill ps none es)) (rw (prune-stands g (fill ps none es) q) at t));
}
  where
    g : Grid
    g = grid_of s

    es : List Entry
    es = s.entries

    stand : (q : Place) → In q ps → T (any (stands q) es)
    stand q i = v.every q (cell-patch g (cells es) v.mesh q (cell q i))

    are : (q : Place) → cells (fill ps none es) q ≡ cond (any (same q) ps) false (cells es q)
    are = fill-cells ps none es (valid-numbered v) (λ q i. numbered-not-zero es (valid-numbered v) q (stand q i))

    alike : cells (prune g (fill ps none es)) ≡ cells (fill ps none es)
    alike = fun_ext (λ q. kept.cells_is q ∙ sym (are q))

    fewer : (q : Place) → T (cells (fill ps none es) q) → T (cells es q)
    fewer q t = go (any (same q) ps) (subst T (are q) t)
      where
        go : (b : Bool) → T (cond b false (cells es q)) → T (cells es q)
        go true u = absurd u
        go false u = u

    stands-then : (q : Place) → T (patch g (cells es) q) → T (any (stands q) (fill ps none es))
    stands-then q t = rw (fill-stands ps none es q) (v.every q t)
