-- `border::pass_corners` meets its contract.
use Rattle.border.specs.Borders.{border_of}
use Rattle.border.proofs.Borders.{corners-passed, corners-met}
use Rattle.border.proofs.pass_corners.Goals as goal

pub returns : goal.returns
returns g c =
    let a = c.args in
    let (h₁, p₁, k₁) = c.pass_down-own.ensures in
    let (h₂, p₂, k₂) = c.pass_down-north.ensures in
    let (h₃, p₃, k₃) = c.pass_down-east.ensures in
    let (h₄, p₄, k₄) = c.pass_down-both.ensures in
    let step = g.P.Pass.step a.pass a.cap in
    let nil-kept = g.met.P.Pass.skips_nil a.pass a.cap in
    (corners-passed (border_of a.b) a.cap a.e step nil-kept a.t.now h₁ h₂ h₃ h₄, p₄, corners-met (border_of a.b) a.cap a.e step nil-kept a.t.now h₁ h₂ h₃ h₄ k₁ k₂ k₃ k₄)
