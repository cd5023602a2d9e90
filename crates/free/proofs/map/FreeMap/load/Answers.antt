-- `free::map::FreeMap::load` meets its contract: the map has the free rows from n on.
use native.Mathlib.Omega.{arith}
use mathlib.Core.Path.{refl, sym, ◌∙◌}
use Rattle.free.proofs.Switching.{mapped-few, given, given-mapped}
use Rattle.free.proofs.LoadingMap.{load-start, load-bit, load-free, load-taken, load-end}
use Rattle.free.proofs.map.FreeMap.load.Goals as goal

pub loop-n-init : goal.loop-n-init
loop-n-init c = load-start _ _ c.requires.0

pub overflow_add-count : goal.overflow_add-count
overflow_add-count c = let few = mapped-few c.loop-n.invariant in omega arith

pub loop-n-preserved-then-is_free : goal.loop-n-preserved-then-is_free
loop-n-preserved-then-is_free c =
    let none = load-bit _ c.loop-n.n (omega arith) (omega arith) c.loop-n.invariant in
    let more = given (omega arith) c.loop-n.invariant.kept refl (omega arith) c.set_bit.ensures c.set_bit-top.ensures in
    load-free _ _ (omega arith) (sym c.is_free.ensures ∙ c.if-is_free.true) (given-mapped (omega arith) c.loop-n.invariant more none)

pub loop-n-preserved : goal.loop-n-preserved
loop-n-preserved c = load-taken _ _ (omega arith) (sym c.is_free.ensures ∙ c.if-is_free.false) c.loop-n.invariant

pub invariant_of-self : goal.invariant_of-self
invariant_of-self c = c.loop-n.invariant.kept

pub returns : goal.returns
returns c =
    let all = load-end _ c.loop-n.n c.requires.2 (omega arith) c.loop-n.invariant in
    record { bits = all.maps; counts = all.counts }
