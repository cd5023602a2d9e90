-- An accepted request: it keeps the state valid, changes the cells by its set rule, and gives the numbers that the rules give.
-- Assumes nothing.
use Prim.Native.Nat.{◌+◌, ◌%◌}
use mathlib.Core.Path.{◌≡◌, refl, sym, ap, ◌∙◌, subst, fun_ext}
use mathlib.Core.Bool.{cond}
use mathlib.Core.Option.{Option}
use mathlib.Core.List.{List, []}
use lib.ListN.{length}
use Rattle.mesh.specs.Place.{Place, same}
use Rattle.mesh.specs.Tools.{any}
use Rattle.mesh.specs.State.{State, Header, Cell, Value, blank, measured, carried, grid_of, contents}
use Rattle.mesh.specs.Valid.{Valid, ValueRule}
use Rattle.mesh.specs.Refusal.{refusal}
use Rattle.mesh.specs.Deed.{set_rule}
use Rattle.mesh.specs.Request.{Request, refine, sentence, remove, kill, set_value, deed_of, loose_checks, effect, marked, accepted, request}
use Rattle.number_laws.proofs.Checks.{loosely}
use Rattle.number_laws.proofs.Keeping.{Kept}
use Rattle.number_laws.proofs.Marking.{sentence-kept, set_value-kept}
use Rattle.number_laws.proofs.Taking.{remove-kept, kill-kept}
use Rattle.number_laws.proofs.Refining.{refine-valid, refine-contents, refine-frame}
use Rattle.demand_laws.specs.Numbers.{turns, Numbers}
use Rattle.demand_laws.specs.History.{Follows}
use Rattle.demand_laws.proofs.Exactly.{accepted-is}
use Rattle.demand_laws.proofs.Numbers.{refine-numbers, kept-numbers, marked-numbers}

-- ---- the mark plays no part

rule-marked : (s : State) (p : Place) (w : Value) → ValueRule s p w → ValueRule (marked s) p w
unfolding marked
rule-marked s p blank r = r
rule-marked s p (measured x) r = r
rule-marked s p (carried x) r = r

marked-valid : (s : State) → Valid s → Valid (marked s)
unfolding marked
marked-valid s v = record {
  sizes = v.sizes;
  rectangle = v.rectangle;
  zeroth = v.zeroth;
  others = v.others;
  mesh = v.mesh;
  each = v.each;
  every = v.every;
  once = v.once;
  first-root = v.first-root;
  sentences = v.sentences;
  values = λ n p x e. rule-marked s p x.value (v.values n p x e);
}

-- ---- what an accepted request leaves

-- what follows s by an accepted request
abbrev pub Done : State → Request → State → Type 0
Done s r t = Follows s (deed_of s.entries r) t

-- the same of the state before the mark is raised
record Effected (s : State) (r : Request) : Type 0 where
  valid : Valid (effect s r)
  same-header : (effect s r).header ≡ s.header
  same_length : length (effect s r).entries ≡ length s.entries
  by-rule : (q : Place) → contents (effect s r).entries q ≡ set_rule (deed_of s.entries r) (contents s.entries) q
  numbers : Numbers s (deed_of s.entries r) (effect s r)

kept-effected : (s : State) (r : Request) (ps : List Place) (x : Option Cell) → turns (grid_of s) (deed_of s.entries r) ≡ [] → ((q : Place) → set_rule (deed_of s.entries r) (contents s.entries) q ≡ cond (any (same q) ps) x (contents s.entries q)) → Kept s ps x (effect s r) → Effected s r
kept-effected s r ps x none-new rule k = record {
  valid = k.valid;
  same-header = k.header_is;
  same_length = k.length-is;
  by-rule = λ q. k.contents-is q ∙ sym (rule q);
  numbers = kept-numbers (deed_of s.entries r) none-new k;
}

effected : (s : State) → Valid s → (r : Request) → refusal (loose_checks s r) ≡ 0 → Effected s r
unfolding set_rule
effected s v (refine n) ok = record {
  valid = refine-valid s v n ok;
  same-header = (refine-frame s v n ok).0;
  same_length = (refine-frame s v n ok).1;
  by-rule = refine-contents s v n ok;
  numbers = refine-numbers s v n ok;
}
effected s v (sentence n) ok = kept-effected s (sentence n) _ _ refl (λ q. refl) (sentence-kept s v n ok)
effected s v (remove n) ok = kept-effected s (remove n) _ _ refl (λ q. refl) (remove-kept s v n ok)
effected s v (kill n) ok = kept-effected s (kill n) _ _ refl (λ q. refl) (kill-kept s v n ok)
effected s v (set_value n x) ok = kept-effected s (set_value n x) _ _ refl (λ q. refl) (set_value-kept s v n x ok)

marked-done : (s : State) (r : Request) → Effected s r → Done s r (marked (effect s r))
unfolding marked
marked-done s r k = record {
  valid = marked-valid (effect s r) k.valid;
  same-grid = ap (λ (x : Header). x.grid) k.same-header;
  same_length = k.same_length;
  next-mark = ap (λ (x : Header). (x.mark + 1) % 65536) k.same-header;
  by-rule = fun_ext k.by-rule;
  numbers = marked-numbers s (deed_of s.entries r) (effect s r) k.numbers;
}

pub request-done : (s : State) → Valid s → (r : Request) (t : State) → request s r ≡ accepted t → Done s r t
request-done s v r t h =
    let (ok, e) = accepted-is s r t h in
    subst (Done s r) (sym e) (marked-done s r (effected s v r (loosely s r ok)))
