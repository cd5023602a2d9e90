-- What a request makes of a lent table: on a picture the rules' refusal and effect, and nothing at all if it is refused.
-- Assumes nothing.
use Rattle.std.specs.Prelude.{ℕ, ◌≡◌, ◌≢◌}
use Rattle.mesh.specs.State.{State, Header}
use Rattle.mesh.specs.LeafCounts.{Counted}
use Rattle.mesh.specs.Refusal.{refusal}
use Rattle.mesh.specs.Request.{Request, checks, effect, marked}
use Rattle.apply.specs.Drawn.{Drawn}

-- l becomes l', and given is the refusal, 0 for none
pub record Applied (q : Request) (cap d : ℕ) (l l' : Header → Counted) (given : ℕ) : Type 0 where
  pub decided : (s : State) → Drawn s cap d l → given ≡ refusal (checks s q)
  pub done : (s : State) → Drawn s cap d l → given ≡ 0 → Drawn (marked (effect s q)) cap d l'
  pub refused : given ≢ 0 → l' ≡ l
