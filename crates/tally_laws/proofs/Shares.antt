-- How often a test passes in a list that has each place once: as often as any other that passes at the same places. So two tests that agree but at
-- some places differ by what passes there.
-- Assumes nothing.
use Prim.Native.Nat.{◌+◌}
use native.Mathlib.Omega.{arith}
use mathlib.Core.Path.{◌≡◌, sym, ap, ◌∙◌, fun_ext}
use mathlib.Core.Logic.{◌⊎◌, inl, inr}
use mathlib.Core.Bool.{Bool, not, ◌&&◌}
use mathlib.Core.List.{List, ◌++◌}
use lib.Dec.{T, T_not}
use lib.ListN.{length-append}
use Rattle.mesh.specs.Tools.{any, keep, count}
use Rattle.mesh.specs.Place.{Place, same, In, Distinct}
use Rattle.place_laws.proofs.Bools.{either, no-is}
use Rattle.place_laws.proofs.Counting.{length-keep}
use Rattle.place_laws.proofs.Distinct.{in-append, append_left, append_right, distinct_append, same_length, keep-in, in-keep, keep-distinct}
use Rattle.place_laws.proofs.Shrinking.{shrunk, stays, stayed, not-gone}

-- the places that pass are the same
pub count_same : (f h : Place → Bool) (xs ys : List Place) → Distinct xs → Distinct ys → ((q : Place) → In q xs → T (f q) → In q ys × T (h q)) → ((q : Place) → In q ys → T (h q) → In q xs × T (f q)) → count f xs ≡ count h ys
count_same f h xs ys dx dy a b =
    sym (length-keep f xs)
    ∙ same_length (keep f xs) (keep h ys) (keep-distinct f xs dx) (keep-distinct h ys dy)
    (λ q i. let (j, t) = keep-in f xs q i in let (k, u) = a q j t in in-keep h ys q k u)
    (λ q i. let (j, t) = keep-in h ys q i in let (k, u) = b q j t in in-keep f xs q k u)
    ∙ length-keep h ys

-- those that pass in a part of the list, and those that pass outside of it
count-split : (f : Place → Bool) (xs ys : List Place) → Distinct xs → Distinct ys → ((q : Place) → In q ys → T (f q) → In q xs) → count f xs ≡ count f ys + count (shrunk f ys) xs
count-split f xs ys dx dy inside =
    omega (
      arith,
      length-keep f xs,
      length-keep f ys,
      length-keep (shrunk f ys) xs,
      length-append (keep f ys) (keep (shrunk f ys) xs),
      same_length (keep f xs) (keep f ys ++ keep (shrunk f ys) xs) (keep-distinct f xs dx) apart (λ q i. there q i (either (any (same q) ys))) (λ q i. back q (in-append q (keep f ys) (keep (shrunk f ys) xs) i)),
    )
  where
    apart : Distinct (keep f ys ++ keep (shrunk f ys) xs)
    apart =
        distinct_append (keep f ys) (keep (shrunk f ys) xs) (keep-distinct f ys dy) (keep-distinct (shrunk f ys) xs dx)
        (λ q i j. not-gone f ys q (keep-in (shrunk f ys) xs q j).1 (keep-in f ys q i).0)

    there : (q : Place) → In q (keep f xs) → In q ys ⊎ T (not (any (same q) ys)) → In q (keep f ys ++ keep (shrunk f ys) xs)
    there q i (inl j) = append_left q (keep f ys) (keep (shrunk f ys) xs) (in-keep f ys q j (keep-in f xs q i).1)
    there q i (inr n) =
        let (j, t) = keep-in f xs q i in
        append_right q (keep f ys) (keep (shrunk f ys) xs) (in-keep (shrunk f ys) xs q j (stays f ys q t (T_not (any (same q) ys) n)))

    back : (q : Place) → In q (keep f ys) ⊎ In q (keep (shrunk f ys) xs) → In q (keep f xs)
    back q (inl i) = let (j, t) = keep-in f ys q i in in-keep f xs q (inside q j t) t
    back q (inr i) = let (j, t) = keep-in (shrunk f ys) xs q i in in-keep f xs q j (stayed f ys q t)

-- places outside of the part pass both tests or none
pub counts-moved : (f h : Place → Bool) (xs ys : List Place) → Distinct xs → Distinct ys → ((q : Place) → T (f q) → In q xs) → ((q : Place) → T (h q) → In q xs) → ((q : Place) → (In q ys → ⊥) → h q ≡ f q) → count h xs + count f ys ≡ count f xs + count h ys
counts-moved f h xs ys dx dy a b agree =
    omega (arith, count-split f xs ys dx dy (λ q i t. a q t), count-split h xs ys dx dy (λ q i t. b q t), ap (λ (e : Place → Bool). count e xs) (fun_ext rest))
  where
    rest : (q : Place) → shrunk h ys q ≡ shrunk f ys q
    rest q = go (either (any (same q) ys))
      where
        go : In q ys ⊎ T (not (any (same q) ys)) → shrunk h ys q ≡ shrunk f ys q
        go (inl i) = no-is (shrunk h ys q) (λ t. not-gone h ys q t i) ∙ sym (no-is (shrunk f ys q) (λ t. not-gone f ys q t i))
        go (inr n) = ap (λ (b : Bool). b && not (any (same q) ys)) (agree q (T_not (any (same q) ys) n))
