-- `grid::build_core` meets its contract: refused by the first checks or for want of numbers, or built.
use Rattle.std.proofs.Common.{refl}
use Rattle.header.specs.Headers.{counted_of}
use Rattle.grid.proofs.BuildCalls.{build-refused, sized, long-counts, buildable, few-cells, build-made}
use native.Mathlib.Omega.{arith}
use Rattle.grid.proofs.build_core.Goals as goal

pub returns-in-Err : goal.returns-in-Err
returns-in-Err c = build-refused _ _ _ _ _ c.fresh-new.ensures _ c.in-Err.ensures c.in-Err.refusal refl

pub build_table-used-requires : goal.build_table-used-requires
build_table-used-requires c =
    let a = c.args in
    let new = c.fresh-new.ensures in
    let is = c.in_default.ensures in
    let l = counted_of a.header a.table.now a.values.now a.counts.now in
    let z = sized l a.capacity a.columns a.rows a.mode new _ is refl in
    let b = buildable l a.capacity a.columns a.rows a.mode new _ is refl in
    (omega (arith, z.words), z.values, b.sizes.0, b.sizes.1, b.rectangle, b.room)

pub overflow_mul-columns : goal.overflow_mul-columns
overflow_mul-columns c =
    let a = c.args in
    let l = counted_of a.header a.table.now a.values.now a.counts.now in
    record { fits = few-cells l a.capacity a.columns a.rows a.mode c.fresh-new.ensures _ c.in_default.ensures refl }

pub put_built-requires : goal.put_built-requires
put_built-requires c =
    let a = c.args in
    let l = counted_of a.header a.table.now a.values.now a.counts.now in
    long-counts l a.capacity a.columns a.rows a.mode c.fresh-new.ensures _ c.in_default.ensures refl

pub returns : goal.returns
returns c =
    let a = c.args in
    let l = counted_of a.header a.table.now a.values.now a.counts.now in
    build-made l a.capacity a.columns a.rows a.mode c.fresh-new.ensures _ c.in_default.ensures refl _ _ _ _ c.build_table-used.ensures c.put_built.ensures
