-- `border::refresh_level` meets its contract.
use Rattle.border.specs.Borders.{border_of}
use Rattle.border.proofs.Borders.{level-refreshed, level-met}
use Rattle.border.proofs.refresh_level.Goals as goal

pub returns : goal.returns
returns c =
    let a = c.args in
    let (h₁, p₁, k₁) = c.pass_corners.ensures in
    let (h₂, p₂, k₂) = c.pass_corners-corners.ensures in
    let (h₃, p₃, k₃) = c.pass_down-south.ensures in
    let (h₄, p₄, k₄) = c.pass_down-west.ensures in
    (level-refreshed (border_of a.b) a.cap a.d a.e a.t.now h₁ h₂ h₃ h₄, p₄, level-met (border_of a.b) a.cap a.d a.e a.t.now h₁ h₂ h₃ h₄ k₂ k₃ k₄)
