-- `build::grow::grow_kids` meets its contract.
use mathlib.Core.List.{[], ◌∷◌}
use Rattle.mesh.specs.Place.{NE, SE, SW, NW}
use Rattle.build.proofs.Growths.{able, kids-on, kids-plain, four-kids}
use native.Mathlib.Omega.{arith}
use Rattle.build.proofs.grow.grow_kids.Goals as goal

pub grow_kid-a-requires : goal.grow_kid-a-requires
grow_kid-a-requires c =
    let e = c.args.plan.depth_is in
    let k0 = c.requires.1 in
    (kids-plain k0, omega arith, able _ _ _ e _ _ SW (NW ∷ SE ∷ NE ∷ []) _ k0)

pub grow_kid-b-requires : goal.grow_kid-b-requires
grow_kid-b-requires c =
    let e = c.args.plan.depth_is in
    let k0 = c.requires.1 in
    let k1 = kids-on _ _ _ e _ _ SW (NW ∷ SE ∷ NE ∷ []) _ _ k0 c.grow_kid-a.ensures in (kids-plain k1, omega arith, able _ _ _ e _ _ NW (SE ∷ NE ∷ []) _ k1)

pub grow_kid-c-requires : goal.grow_kid-c-requires
grow_kid-c-requires c =
    let e = c.args.plan.depth_is in
    let k0 = c.requires.1 in
    let k1 = kids-on _ _ _ e _ _ SW (NW ∷ SE ∷ NE ∷ []) _ _ k0 c.grow_kid-a.ensures in
    let k2 = kids-on _ _ _ e _ _ NW (SE ∷ NE ∷ []) _ _ k1 c.grow_kid-b.ensures in (kids-plain k2, omega arith, able _ _ _ e _ _ SE (NE ∷ []) _ k2)

pub grow_kid-requires : goal.grow_kid-requires
grow_kid-requires c =
    let e = c.args.plan.depth_is in
    let k0 = c.requires.1 in
    let k1 = kids-on _ _ _ e _ _ SW (NW ∷ SE ∷ NE ∷ []) _ _ k0 c.grow_kid-a.ensures in
    let k2 = kids-on _ _ _ e _ _ NW (SE ∷ NE ∷ []) _ _ k1 c.grow_kid-b.ensures in
    let k3 = kids-on _ _ _ e _ _ SE (NE ∷ []) _ _ k2 c.grow_kid-c.ensures in (kids-plain k3, omega arith, able _ _ _ e _ _ NE [] _ k3)

pub returns : goal.returns
returns c = four-kids _ _ _ c.args.plan.depth_is _ _ _ _ _ _ _ c.grow_kid-a.ensures c.grow_kid-b.ensures c.grow_kid-c.ensures c.grow_kid.ensures
