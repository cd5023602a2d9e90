-- `build::build_table` meets its contract.
use Rattle.build.proofs.Whole.{depth_small, all-levels, grown-plain, ground-plain, made}
use Rattle.std.proofs.Common.{rules, arith, ap₂, replicate, ◌∙◌}
use Rattle.carried.proofs.Bits.{plus-zero}
use Rattle.build.proofs.build_table.Goals as goal

pub root_table-requires : goal.root_table-requires
root_table-requires c =
    let p = c.requires in
    (omega arith, omega arith, omega arith, omega (arith, depth_small _ _ _ c.ground_depth-d.ensures p.4 p.2 p.3 p.5))

pub grow_levels-r-requires : goal.grow_levels-r-requires
grow_levels-r-requires c =
    let p = c.requires in
    let ground = c.ground_depth-d.ensures in (search rules, all-levels _ _ _ ground p.4 p.2 p.3 p.5 _ c.root_table.ensures)

pub seam_rows-requires : goal.seam_rows-requires
seam_rows-requires c =
    let p = c.requires in
    let ground = c.ground_depth-d.ensures in
    let r = c.grow_levels-r.ensures in (grown-plain _ _ _ ground p.4 p.2 p.3 p.5 _ _ _ _ c.root_table.ensures r, omega arith, omega (arith, depth_small _ _ _ ground p.4 p.2 p.3 p.5), p.4.2, r.before, r.high)

pub pass_rows-requires : goal.pass_rows-requires
pass_rows-requires c =
    let p = c.requires in
    let ground = c.ground_depth-d.ensures in
    let r = c.grow_levels-r.ensures in (ground-plain _ _ _ ground p.4 p.2 p.3 p.5 _ _ _ _ c.root_table.ensures r _ _ c.seam_rows.ensures c.put_ground.ensures, r.before, r.high)

pub invariant_of-grow_levels : goal.invariant_of-grow_levels
invariant_of-grow_levels c =
    let p = c.requires in
    let ground = c.ground_depth-d.ensures in
    record { depth_is = ground; within = omega (arith, depth_small _ _ _ ground p.4 p.2 p.3 p.5) }

pub invariant_of-pass_rows : goal.invariant_of-pass_rows
invariant_of-pass_rows c =
    let p = c.requires in
    record { within = omega (arith, depth_small _ _ _ c.ground_depth-d.ensures p.4 p.2 p.3 p.5) }

pub returns : goal.returns
returns c =
    let p = c.requires in
    let blank = c.fill.ensures.after (λ y same. same) ∙ ap₂ replicate p.1 plus-zero in
    made _ _ _ c.ground_depth-d.ensures p.4 p.2 p.3 p.5 _ _ _ _ c.root_table.ensures c.grow_levels-r.ensures _ _ c.seam_rows.ensures c.put_ground.ensures _ _ _ c.pass_rows.ensures.0 c.pass_rows-2.ensures.0 blank _
