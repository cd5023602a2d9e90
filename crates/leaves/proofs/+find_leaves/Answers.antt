-- `leaves::find_leaves` meets its contract: a row itself, and then the leaves of its kids.
use native.Mathlib.Omega.{arith}
use mathlib.Core.Path.{sym, ◌∙◌}
use borrow.Author.Tests.{eq-eqb, ne_eqb}
use Rattle.lines.proofs.Puts.{text-put}
use Rattle.leaves.proofs.LeafRows.{first_more, first_all, first_few, leaves_none, leaves_end, own-few, none_also, more_also, also_as}
use Rattle.leaves.proofs.+find_leaves.Goals as goal
use Rattle.leaves.proofs.+find_leaves.Goals.{then-l-eq0-via-then-l-eq0, then-l-eq0-via-else-l-eq0+then-is_bare}

pub returns-then-n-eq0 : goal.returns-then-n-eq0
returns-then-n-eq0 t c = also_as (leaves_none _ _ c.args.l _ c.if-n-eq0.true) (none_also _)

pub add_own-requires : goal.add_own-requires
add_own-requires t c =
    let a = c.args in
    (c.requires.0, c.requires.1, omega (arith, c.requires, own-few a.t.now a.cap a.l a.n c.if-n-eq0.false))

pub returns-then-l-eq0 : goal.returns-then-l-eq0
returns-then-l-eq0 t c =
    elim c.then-l-eq0.branch [
      | then-l-eq0-via-then-l-eq0 w ↦ also_as (leaves_end _ _ c.args.l _ c.if-n-eq0.false (rw (eq-eqb c.args.l 0 w.if-l-eq0.true))) c.add_own.ensures
      | then-l-eq0-via-else-l-eq0+then-is_bare w ↦
          also_as (leaves_end _ _ c.args.l _ c.if-n-eq0.false (rw (ne_eqb c.args.l 0 w.if-l-eq0.false) (sym w.is_bare.ensures ∙ w.if-is_bare.true))) c.add_own.ensures
    ]

pub find_leaves-requires : goal.find_leaves-requires
find_leaves-requires t c =
    let a = c.args in (
      omega (arith, c.requires, c.if-l-eq0.false),
      (
        c.requires.0,
        c.link.ensures.0,
        omega (arith, c.requires, text-put c.loop-w.invariant.put, first_few a.t.now a.cap a.l a.n c.loop-w.w-index _ c.if-n-eq0.false c.if-l-eq0.false c.loop-w-test.true c.link.ensures.1),
      ),
    )

pub loop-w-preserved : goal.loop-w-preserved
loop-w-preserved t c = also_as (first_more _ _ c.args.l c.args.n c.loop-w.w-index _ c.loop-w-test.true c.link.ensures.1) (more_also c.loop-w.invariant c.find_leaves.ensures)

pub returns : goal.returns
returns t c = also_as (first_all _ _ c.args.l _ c.loop-w.w-index c.if-n-eq0.false c.if-l-eq0.false c.loop-w-test.false) c.loop-w.invariant
