-- `border::pass_down` meets its contract. The invariant: what is left to do at the kids is the same from here as from the first of them, and as long
-- as no row is met nothing has changed.
use Rattle.std.proofs.Common.{◌≡◌, false, ◌-◌, drop}
use Rattle.table.specs.Plain.{Plain}
use Rattle.edit_laws.specs.Tables.{each_kid, each_down}
use Rattle.border.proofs.Borders.{Quiet}
use Rattle.border.proofs.+pass_down.Given as goal

abbrev pub decreases-pass_down : goal.decreases-pass_down
decreases-pass_down g l = l.e

abbrev pub invariant-loop-w : goal.invariant-loop-w
invariant-loop-w g l =
    let below = each_down (g.P.Pass.step l.pass l.cap) l.cap l.ws (l.e - 1) in
    record {
      plain : Plain l.t l.cap;
      left : each_kid below l.cap l.n l.ws l.initial.t ≡ each_kid below l.cap l.n (drop l.w-index l.ws) l.t;
      quiet : l.met ≡ false → Quiet l.cap l.ws l.initial.t l.t (l.e - 1) l.n l.w-index;
    }
