-- A tape that is run on a sound table gives what the rules' call of a tape gives.
-- Assumes nothing.
use Prim.Native.Nat.{ℕ}
use mathlib.Core.Path.{◌≡◌, sym, ap, ◌∙◌}
use mathlib.Core.List.{List}
use lib.IntN.{ℤ}
use lib.Ieee.{Float}
use Rattle.mesh.specs.Place.{base}
use Rattle.mesh.specs.State.{State, Header, grid_of}
use Rattle.mesh.specs.LeafCounts.{Counted, counted, SoundCounts}
use Rattle.mesh.specs.Tape.{run}
use Rattle.mesh.specs.Call.{Sizes, Taped, tape_call}
use Rattle.picture_laws.proofs.Parts.{parts-picture}
use Rattle.picture_laws.proofs.Accepted.{sound-capacity}
use Rattle.tally_laws.proofs.CountedChecks.{lent_of}
use Rattle.demand_laws.proofs.Tapes.{run-led}
use Rattle.demand_laws.proofs.PicturedCalls.{tape-runs}
use Rattle.apply.specs.Drawn.{lists, Drawn, Pictured}
use Rattle.tape.specs.Ran.{Ran}
use Rattle.apply.proofs.Drawing.{drawn-words, drawn-values, drawn-counts}

module _ (cap : ℕ) (l : Counted) (o : SoundCounts l) (z : Sizes cap l.lent) {d : ℕ} (deep : d ≡ base l.lent.header.grid) where
  abbrev s : State
  s = o.state

  same-header : l.lent.header ≡ s.header
  same-header = ap (λ (x : Counted). x.lent.header) o.is-counted

  sound-drawn : Drawn o.state cap d (lists l.lent.words l.lent.values l.counts)
  sound-drawn = record {
    valid = o.valid;
    is-capacity = sound-capacity cap l.lent z (lent_of o);
    is-depth = sym (deep ∙ ap (λ (h : Header). base h.grid) same-header);
    is-counted = λ i. record { lent = record { header = s.header; words = (o.is-counted i).lent.words; values = (o.is-counted i).lent.values }; counts = (o.is-counted i).counts };
  }

  -- a sound table is a picture
  pub pictured : Pictured cap d (lists l.lent.words l.lent.values l.counts)
  pictured = record { state = o.state; drawn = sound-drawn }

  module _ {bytes : List ℕ} {t' : List ℤ} {v' : List Float} {c' : List ℕ} {done refusal offset mark' : ℕ}
      (r : Ran bytes cap d l.lent.header.mark (lists l.lent.words l.lent.values l.counts) (lists t' v' c') done refusal offset mark') where
    abbrev left : Counted
    left = record { lent = record { header = record { grid = l.lent.header.grid; mark = mark' }; words = t'; values = v' }; counts = c' }

    pub ran_call : record { done = done; refusal = refusal; offset = offset; lent = left } ≡ tape_call cap l bytes
    unfolding run
    ran_call =
        let u = (run s bytes).state in
        let (a, b, c, e) = r.answer s sound-drawn in
        let m = sym (r.marks s sound-drawn (ap (λ (h : Header). h.mark) (sym same-header))) in
        let (led, _) = run-led bytes 0 s 0 0 o.valid in
        let grid : l.lent.header.grid ≡ grid_of u = ap (λ (h : Header). h.grid) same-header ∙ sym led.same-grid in
        let header : ◌≡◌ {A = Header} (record { grid = l.lent.header.grid; mark = mark' }) u.header = λ i. record { grid = grid i; mark = m i } in
        let after : left ≡ counted u = λ i. record { lent = parts-picture u header (drawn-words e) (drawn-values e) i; counts = drawn-counts e i } in
        let ends : ◌≡◌ {A = Taped} (record { done = done; refusal = refusal; offset = offset; lent = left })
        (let x = run s bytes in record { done = x.done; refusal = x.refusal; offset = x.offset; lent = counted x.state })
        = λ i. record { done = a i; refusal = b i; offset = c i; lent = after i } in
        ends ∙ sym (ap (λ (x : Counted). tape_call cap x bytes) o.is-counted ∙ tape-runs s o.valid cap sound-drawn.is-capacity bytes)
