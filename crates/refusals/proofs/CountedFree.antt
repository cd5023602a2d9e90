-- As many rows of a picture are free as numbers of the state.
-- Assumes nothing.
use Prim.Native.Nat.{ℕ, zero, suc, ◌+◌, ◌-◌, ◌≤◌}
use native.Mathlib.Omega.{arith}
use mathlib.Core.Path.{◌≡◌, sym, ap, ◌∙◌}
use mathlib.Core.Bool.{Bool, false}
use mathlib.Core.List.{List, [], ◌∷◌}
use lib.ListN.{length, get_or, get_or-eq_default}
use Rattle.mesh.specs.Tools.{count}
use Rattle.mesh.specs.State.{State, Entry, nil, is_free, free_count}
use Rattle.mesh.specs.Valid.{Valid}
use Rattle.mesh.specs.Picture.{table}
use Rattle.table.specs.Words.{free_at}
use Rattle.table_laws.proofs.TakenRows.{free-at}
use Rattle.free.specs.FreeMap.{total}
use Rattle.free.specs.Free.{free_total}

-- numbers that are those of a list's entries, from k on
total-count : (f : ℕ → Bool) (k : ℕ) (xs : List Entry) → ((i : ℕ) → f (k + i) ≡ is_free (get_or xs i nil)) → total f (k + length xs) ≡ total f k + count is_free xs
unfolding total
total-count f k [] h = let z : k + 0 ≡ k = omega arith in rw z (omega arith)
total-count f k (x ∷ xs) h =
    let z : k + 0 ≡ k = omega arith in
    let y : k + suc (length xs) ≡ suc k + length xs = omega arith in
    let a : f k ≡ is_free x = ap f (sym z) ∙ h 0 in
    let i = total-count f (suc k) xs (λ i. let e : suc k + i ≡ k + suc i = omega arith in ap f e ∙ h (suc i)) in
    rw (y, i, a) (omega arith)

-- none from n on
total-past : (f : ℕ → Bool) (n d : ℕ) → ((j : ℕ) → n ≤ j → f j ≡ false) → total f (n + d) ≡ total f n
unfolding total
total-past f n zero h = let z : n + 0 ≡ n = omega arith in rw z
total-past f n (suc d) h = let z : n + suc d ≡ suc (n + d) = omega arith in rw (z, h (n + d) (omega arith), total-past f n d h) (omega arith)

total-all : (f : ℕ → Bool) (xs : List Entry) → ((i : ℕ) → f i ≡ is_free (get_or xs i nil)) → total f (length xs) ≡ count is_free xs
unfolding total
total-all f xs h =
    let z : 0 + length xs ≡ length xs = omega arith in
    ap (total f) (sym z) ∙ total-count f 0 xs (λ i. let y : 0 + i ≡ i = omega arith in ap f y ∙ h i) ∙ omega arith

pub free-total : (s : State) → Valid s → free_total (table s) ≡ free_count s.entries
unfolding free_total free_count
free-total s v =
    let long : length s.entries ≤ 4096 = omega (arith, v.sizes.1) in
    let z : 4096 ≡ length s.entries + (4096 - length s.entries) = omega arith in
    let past : (j : ℕ) → length s.entries ≤ j → free_at (table s) j ≡ false = λ j l. free-at s v j ∙ ap is_free (get_or-eq_default s.entries nil l) in
    ap (total (free_at (table s))) z ∙ total-past (free_at (table s)) (length s.entries) (4096 - length s.entries) past ∙ total-all (free_at (table s)) s.entries (free-at s v)
