-- In a tape only the requests before the refused one have acted: the bytes before its kind byte, run alone, leave the same state and are not
-- refused. For a request reads its own body only, and the offset lies behind the bodies of all that were accepted.
-- Assumes nothing.
use Prim.Native.Nat.{ℕ, zero, suc, ◌+◌, ◌≤◌}
use native.Mathlib.Omega.{arith}
use native.Mathlib.Nat.{zero-add}
use mathlib.Core.Path.{◌≡◌, refl, sym, ap, ◌∙◌}
use mathlib.Core.Logic.{◌≢◌}
use mathlib.Core.Bool.{Bool, true, false}
use mathlib.Core.Option.{Option, none, some}
use mathlib.Core.List.{List, [], ◌∷◌}
use lib.Dec.{ltb}
use lib.ListN.{length, take}
use lib.Seq.{length-take-le, take-take}
use borrow.Author.Tests.{le-ltb, ltb-false}
use Rattle.mesh.specs.State.{State}
use Rattle.mesh.specs.Request.{Request, Result, refused, accepted, request}
use Rattle.mesh.specs.Tape.{Kind, kind, asks, Step, stop, next, answered, step_by, run_from, run}
use Rattle.mesh.proofs.Runs.{run-stop, run-next}
use Rattle.demand_laws.proofs.Exactly.{refused-is}

-- ---- one request

-- what stops a tape is 4 or above
step-stop : (s : State) (o : Option Kind) (bs : List ℕ) (r : ℕ) → step_by s o bs ≡ stop r → 4 ≤ r
step-stop s none bs r e = let i : 5 ≡ r = cc in omega arith
step-stop s (some k) bs r e = body (ltb (length bs) k.len) refl
  where
    q : Request
    q = asks k bs

    done : (x : Result) → request s q ≡ x → answered x k.len ≡ stop r → 4 ≤ r
    done (refused n) f h = let i : n ≡ r = cc in omega (arith, (refused-is s q n f).0)
    done (accepted u) f h = absurd (let z : ◌≡◌ {A = ℕ} 0 1 = cc in omega arith)

    body : (b : Bool) → ltb (length bs) k.len ≡ b → 4 ≤ r
    body true f = let h : stop 4 ≡ stop r = rw f at e in let i : 4 ≡ r = cc in omega arith
    body false f = done (request s q) refl (rw f at e)

-- a request that goes on has its body, and reads no more
step-body : (s : State) (o : Option Kind) (bs : List ℕ) (t : State) (l : ℕ) → step_by s o bs ≡ next t l → (l ≤ length bs) × ((m : ℕ) → l ≤ m → m ≤ length bs → step_by s o (take m bs) ≡ next t l)
step-body s none bs t l e = absurd (let z : ◌≡◌ {A = ℕ} 0 1 = cc in omega arith)
step-body s (some k) bs t l e = body (ltb (length bs) k.len) refl
  where
    done : (x : Result) → answered x k.len ≡ next t l → k.len ≡ l
    done (refused n) h = absurd (let z : ◌≡◌ {A = ℕ} 0 1 = cc in omega arith)
    done (accepted u) h = cc

    body : (b : Bool) → ltb (length bs) k.len ≡ b → (l ≤ length bs) × ((m : ℕ) → l ≤ m → m ≤ length bs → step_by s (some k) (take m bs) ≡ next t l)
    body true f = absurd (let h : stop 4 ≡ next t l = rw f at e in let z : ◌≡◌ {A = ℕ} 0 1 = cc in omega arith)
    body false f =
        let h : answered (request s (asks k bs)) k.len ≡ next t l = rw f at e in
        let i : k.len ≡ l = done (request s (asks k bs)) h in
        let a : k.len ≤ length bs = ltb-false (length bs) k.len f in
        (omega arith, λ m c d. rw (length-take-le m bs d, le-ltb m k.len (omega arith), asks, take-take k.len m bs (omega arith)) h)

-- ---- the rest of a tape

-- so many bytes come before the refused kind byte, and run alone they do what was done
record Part (l : ℕ) (s : State) (n o : ℕ) (bs : List ℕ) : Type 0 where
  size : ℕ
  over : l ≤ size
  within : size ≤ length bs
  offset-is : (run_from l s n o bs).offset ≡ o + size
  alone : run_from l s n o (take size bs) ≡ record { state = (run_from l s n o bs).state; done = (run_from l s n o bs).done; refusal = 0; offset = (run_from l s n o bs).offset }
  -- a tape that is not refused has no more bytes
  whole : (run_from l s n o bs).refusal ≡ 0 → size ≡ length bs
  refused-4 : (run_from l s n o bs).refusal ≢ 0 → 4 ≤ (run_from l s n o bs).refusal

part : (bs : List ℕ) (l : ℕ) (s : State) (n o : ℕ) → l ≤ length bs → Part l s n o bs
unfolding run_from
part [] l s n o h = record { size = 0; over = h; within = omega arith; offset-is = omega arith; alone = refl; whole = λ e. refl; refused-4 = λ f. absurd (f refl) }
part (b ∷ bs) (suc l) s n o h =
    let p = part bs l s n (o + 1) (omega arith) in
    record { size = suc p.size; over = omega arith; within = omega arith; offset-is = omega arith; alone = p.alone; whole = λ e. ap suc (p.whole e); refused-4 = p.refused-4 }
part (k ∷ bs) zero s n o h = go (step_by s (kind k) bs) refl (part bs)
  where
    go : (x : Step) → step_by s (kind k) bs ≡ x → ((l : ℕ) (s : State) (n o : ℕ) → l ≤ length bs → Part l s n o bs) → Part 0 s n o (k ∷ bs)
    go (stop r) e ih =
        let i = run-stop s n o k r bs e in
        let a = step-stop s (kind k) bs r e in
        record { size = 0; over = omega arith; within = omega arith; offset-is = rw i (omega arith); alone = rw i; whole = λ z. absurd (let y : r ≡ 0 = rw i at z in omega arith); refused-4 = λ f. rw i a }
    go (next t l) e ih =
        let (a, reads) = step-body s (kind k) bs t l e in
        let p = ih l t (n + 1) (o + 1) a in
        let i = run-next s n o k l t bs e in
        record {
          size = suc p.size;
          over = omega arith;
          within = omega (arith, p.within);
          offset-is = rw i (omega (arith, p.offset-is));
          alone = rw i (run-next s n o k l t (take p.size bs) (reads p.size p.over p.within) ∙ p.alone);
          whole = λ z. ap suc (p.whole (rw i at z));
          refused-4 = λ f. rw i (p.refused-4 (λ z. f (rw i z)));
        }

-- ---- a tape

module _ (s : State) (bytes : List ℕ) where
  parted : Part 0 s 0 0 bytes
  parted = part bytes 0 s 0 0 (omega arith)

  parted-size : parted.size ≡ (run s bytes).offset
  unfolding run
  parted-size = sym (parted.offset-is ∙ zero-add parted.size)

  -- "kind (5), then body (4), then the kind's list"
  pub run-refused : (run s bytes).refusal ≢ 0 → 4 ≤ (run s bytes).refusal
  unfolding run
  run-refused = parted.refused-4

  -- "the byte offset of the refused kind byte (the tape length if none)"
  pub run-offset : ((run s bytes).offset ≤ length bytes) × ((run s bytes).refusal ≡ 0 → (run s bytes).offset ≡ length bytes)
  unfolding run
  run-offset = rw (sym parted-size) (parted.within, parted.whole)

  -- "in a tape only the requests before the refused one have acted"
  pub tape-prefix : run s (take (run s bytes).offset bytes) ≡ record { state = (run s bytes).state; done = (run s bytes).done; refusal = 0; offset = (run s bytes).offset }
  unfolding run
  tape-prefix = ap (λ (m : ℕ). run s (take m bytes)) (sym parted-size) ∙ parted.alone
