-- What is put on a sheet piece by piece is put in one.
-- Assumes nothing.
use Rattle.std.proofs.Common.{ℕ, ◌+◌, ◌≤◌, ◌≡◌, List, [], ◌∷◌, ◌++◌, length, take, refl, subst, ap, ◌∙◌, arith, length-append}
use Rattle.mesh.specs.Page.{decimal, space}
use Rattle.lines.specs.Puts.{Put}
use Rattle.lines.specs.Sheets.{PutOn}
use Rattle.lines.specs.declared.sheets.Sheet.{Sheet}
use Rattle.lines.proofs.Puts.{put-more, put_as, put-length, put_front}

pub wrote_none : (s : Sheet) → PutOn s [] s
wrote_none s = record { same = refl; put = record { stored = refl; next = omega arith } }

pub wrote_more : {s e f : Sheet} {xs ys : List ℕ} → PutOn s xs e → PutOn e ys f → PutOn s (xs ++ ys) f
wrote_more w u = record { same = u.same ∙ w.same; put = put-more w.put u.put }

pub wrote_as : {s e : Sheet} {xs ys : List ℕ} → xs ≡ ys → PutOn s xs e → PutOn s ys e
wrote_as h w = record { same = w.same; put = put_as h w.put }

-- what the next piece has to know
pub wrote_to : {s e : Sheet} {xs : List ℕ} → PutOn s xs e → (length e.out.now ≡ length s.out.now) × (e.at ≡ s.at + length xs)
wrote_to w = (put-length w.put, w.put.next)

-- where a number and its blank are put
pub number_to : (x : ℕ) {s e : Sheet} → PutOn s (decimal x ++ space ∷ []) e → (length e.out.now ≡ length s.out.now) × (e.at ≡ s.at + length (decimal x) + 1)
number_to x w = (put-length w.put, omega (arith, w.put.next, length-append (decimal x) (space ∷ [])))

pub same_digits : {x y : ℕ} → x ≡ y → length (decimal x) ≡ length (decimal y)
same_digits e = ap (λ x. length (decimal x)) e

-- what stands on a sheet that was empty
pub wrote_front : {s e : Sheet} {xs : List ℕ} → PutOn s xs e → s.at ≡ 0 → length xs ≤ length s.out.now → take e.at e.out.now ≡ xs
wrote_front {s} {e} {xs} w h l = put_front (subst (λ (n : ℕ). Put s.out.now n xs e.out.now e.at) h w.put) l
