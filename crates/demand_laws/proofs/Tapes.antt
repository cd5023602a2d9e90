-- A tape: the state that it leaves comes from the accepted requests alone, one after the other; so does that of any list of tapes.
-- Assumes nothing.
use Prim.Native.Nat.{ℕ, zero, suc, ◌+◌, ◌%◌}
use native.Mathlib.Nat.{add-zero}
use native.Mathlib.Omega.{arith}
use mathlib.Core.Path.{◌≡◌, refl, sym, ap, ◌∙◌}
use mathlib.Core.Bool.{Bool, true, false}
use mathlib.Core.Option.{Option, none, some}
use mathlib.Core.List.{List, [], ◌∷◌, ◌++◌}
use lib.Dec.{ltb}
use lib.ListN.{length, length-append}
use Rattle.mesh.specs.State.{State, grid_of, contents}
use Rattle.mesh.specs.Valid.{Valid}
use Rattle.mesh.specs.Deed.{Deed, Contents, set_rule}
use Rattle.mesh.specs.Request.{Request, deed_of, Result, refused, accepted, request}
use Rattle.mesh.specs.Tape.{Kind, kind, asks, Step, stop, next, answered, step_by, run_from, run}
use Rattle.mesh.proofs.Runs.{run-stop, run-next}
use Rattle.demand_laws.specs.Deeds.{set_rules, asked_by, deeds_from, after, deeds}
use Rattle.demand_laws.specs.History.{History, no_more, one_more}
use Rattle.demand_laws.specs.Demand.{raised}
use Rattle.demand_laws.proofs.History.{history-then}
use Rattle.demand_laws.proofs.Requests.{Done, request-done}

-- ---- from a state by some deeds to another

pub record Led (s : State) (ds : List Deed) (t : State) : Type 0 where
  pub valid : Valid t
  pub same-grid : grid_of t ≡ grid_of s
  pub same_length : length t.entries ≡ length s.entries
  pub mark : t.header.mark ≡ raised (length ds) s.header.mark
  pub by-rules : contents t.entries ≡ set_rules ds (contents s.entries)
  pub history : History s ds t

led-none : (s : State) → Valid s → Led s [] s
unfolding set_rules
led-none s v = record { valid = v; same-grid = refl; same_length = refl; mark = refl; by-rules = refl; history = no_more }

led-more : (s t u : State) (r : Request) (ds : List Deed) → Done s r t → Led t ds u → Led s (deed_of s.entries r ∷ ds) u
unfolding set_rules
led-more s t u r ds d l = record {
  valid = l.valid;
  same-grid = l.same-grid ∙ d.same-grid;
  same_length = l.same_length ∙ d.same_length;
  mark = l.mark ∙ ap (raised (length ds)) d.next-mark;
  by-rules = l.by-rules ∙ ap (set_rules ds) d.by-rule;
  history = one_more d l.history;
}

raised-more : (n k m : ℕ) → raised (n + k) m ≡ raised k (raised n m)
raised-more n k m = go n m
  where
    go : (n m : ℕ) → raised (n + k) m ≡ raised k (raised n m)
    go zero m = let e : 0 + k ≡ k = omega arith in ap (λ (i : ℕ). raised i m) e
    go (suc n) m = let e : suc n + k ≡ suc (n + k) = omega arith in ap (λ (i : ℕ). raised i m) e ∙ go n ((m + 1) % 65536)

rules-more : (ds es : List Deed) (c : Contents) → set_rules (ds ++ es) c ≡ set_rules es (set_rules ds c)
unfolding set_rules
rules-more [] es c = refl
rules-more (d ∷ ds) es c = rules-more ds es (set_rule d c)

led-then : (s t u : State) (ds es : List Deed) → Led s ds t → Led t es u → Led s (ds ++ es) u
led-then s t u ds es a b = record {
  valid = b.valid;
  same-grid = b.same-grid ∙ a.same-grid;
  same_length = b.same_length ∙ a.same_length;
  mark = b.mark ∙ ap (raised (length es)) a.mark ∙ sym (ap (λ (n : ℕ). raised n s.header.mark) (length-append ds es) ∙ raised-more (length ds) (length es) s.header.mark);
  by-rules = b.by-rules ∙ ap (set_rules es) a.by-rules ∙ sym (rules-more ds es (contents s.entries));
  history = history-then a.history b.history;
}

-- ---- one tape

-- a request that goes on was accepted
pub step-next : (s : State) (o : Option Kind) (bs : List ℕ) (t : State) (l : ℕ) → step_by s o bs ≡ next t l → (r : Request) × (request s r ≡ accepted t) × (asked_by s.entries o bs ≡ deed_of s.entries r ∷ [])
step-next s none bs t l e = absurd (let z : ◌≡◌ {A = ℕ} 0 1 = cc in omega arith)
step-next s (some k) bs t l e = body (ltb (length bs) k.len) refl
  where
    r : Request
    r = asks k bs

    done : (x : Result) → request s r ≡ x → answered x k.len ≡ next t l → (r : Request) × (request s r ≡ accepted t) × (asked_by s.entries (some k) bs ≡ deed_of s.entries r ∷ [])
    done (refused n) f h = absurd (let z : ◌≡◌ {A = ℕ} 0 1 = cc in omega arith)
    done (accepted u) f h = let i : u ≡ t = cc in (r, f ∙ ap accepted i, refl)

    body : (b : Bool) → ltb (length bs) k.len ≡ b → (r : Request) × (request s r ≡ accepted t) × (asked_by s.entries (some k) bs ≡ deed_of s.entries r ∷ [])
    body true f = absurd (let h : stop 4 ≡ next t l = rw f at e in let z : ◌≡◌ {A = ℕ} 0 1 = cc in omega arith)
    body false f = done (request s r) refl (rw f at e)

deeds-stop : (s : State) (k r : ℕ) (bs : List ℕ) → step_by s (kind k) bs ≡ stop r → deeds_from 0 s (k ∷ bs) ≡ []
unfolding deeds_from
deeds-stop s k r bs e = rw (deeds_from, e)

deeds-next : (s : State) (k l : ℕ) (t : State) (bs : List ℕ) → step_by s (kind k) bs ≡ next t l → deeds_from 0 s (k ∷ bs) ≡ asked_by s.entries (kind k) bs ++ deeds_from l t bs
unfolding deeds_from
deeds-next s k l t bs e = rw (deeds_from, e)

-- the requests done are the deeds
pub run-led : (bs : List ℕ) (l : ℕ) (s : State) (n o : ℕ) → Valid s → Led s (deeds_from l s bs) (run_from l s n o bs).state × ((run_from l s n o bs).done ≡ n + length (deeds_from l s bs))
unfolding run_from deeds_from
run-led [] l s n o v = (led-none s v, sym (add-zero n))
run-led (b ∷ bs) (suc l) s n o v = run-led bs l s n (o + 1) v
run-led (k ∷ bs) zero s n o v = go (step_by s (kind k) bs) refl (run-led bs)
  where
    go : (x : Step) → step_by s (kind k) bs ≡ x → ((l : ℕ) (s : State) (n o : ℕ) → Valid s → Led s (deeds_from l s bs) (run_from l s n o bs).state × ((run_from l s n o bs).done ≡ n + length (deeds_from l s bs)))
        → Led s (deeds_from zero s (k ∷ bs)) (run_from zero s n o (k ∷ bs)).state × ((run_from zero s n o (k ∷ bs)).done ≡ n + length (deeds_from zero s (k ∷ bs)))
    go (stop r) e ih = rw (run-stop s n o k r bs e, deeds-stop s k r bs e) (led-none s v, sym (add-zero n))
    go (next t l) e ih =
        let (r, f, a) = step-next s (kind k) bs t l e in
        let d = request-done s v r t f in
        let (led, count) = ih l t (n + 1) (o + 1) d.valid in
        rw (run-next s n o k l t bs e, deeds-next s k l t bs e, a) (led-more s t (run_from l t (n + 1) (o + 1) bs).state r (deeds_from l t bs) d led, count ∙ omega arith)

-- ---- any list of tapes

pub tapes-led : (ts : List (List ℕ)) (s : State) → Valid s → Led s (deeds s ts) (after s ts)
unfolding after deeds run
tapes-led [] s v = led-none s v
tapes-led (t ∷ ts) s v =
    let (led, count) = run-led t 0 s 0 0 v in
    led-then s (run s t).state (after (run s t).state ts) (deeds_from 0 s t) (deeds (run s t).state ts) led (tapes-led ts (run s t).state led.valid)
