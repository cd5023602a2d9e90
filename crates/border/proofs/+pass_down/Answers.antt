-- `border::pass_down` meets its contract.
use Rattle.std.proofs.Common.{arith, sym, ◌∙◌, ◌-◌}
use Rattle.place_laws.proofs.Bools.{neither}
use Rattle.edit_laws.specs.Tables.{each_down}
use Rattle.border.proofs.Borders.{word_in, kid-more, kid-last, down-last, down-nil, down-on, bare-nil, quiet-more, quiet-last, not-met}
use Rattle.border.proofs.+pass_down.Goals as goal

pub returns-then-n-eq0 : goal.returns-then-n-eq0
returns-then-n-eq0 g t c =
    let a = c.args in
    let step = g.P.Pass.step a.pass a.cap in
    let nil-kept = g.met.P.Pass.skips_nil a.pass a.cap in
    (down-nil step nil-kept a.cap a.ws.now a.t.now a.n a.e c.if-n-eq0.true, c.requires.0, λ z. bare-nil a.t.now a.cap a.ws.now a.n a.e c.if-n-eq0.true)

pub returns-then-e-eq0 : goal.returns-then-e-eq0
returns-then-e-eq0 g t c =
    let a = c.args in
    (down-last (g.P.Pass.step a.pass a.cap) a.cap a.ws.now a.t.now a.n a.e c.if-e-eq0.true c.row.ensures.0, c.row.ensures.1, λ z. not-met z)

pub link-k-requires : goal.link-k-requires
link-k-requires g t c = (c.loop-w.invariant.plain, omega arith, word_in c.args.ws.now c.requires.2 c.loop-w.w-index c.loop-w-test.true)

pub pass_down-one-requires : goal.pass_down-one-requires
pass_down-one-requires g t c κs within = (omega (arith, c.if-e-eq0.false), (within, (c.loop-w.invariant.plain, omega arith, c.requires.2)))

pub loop-w-preserved : goal.loop-w-preserved
loop-w-preserved g t c =
    let a = c.args in
    let l = c.loop-w in
    let step = g.P.Pass.step a.pass a.cap in
    let nil-kept = g.met.P.Pass.skips_nil a.pass a.cap in
    let (passed, plain, bare) = c.pass_down-one.ensures in
    record {
      plain = plain;
      left = l.invariant.left ∙ kid-more (each_down step a.cap a.ws.now (a.e - 1)) a.cap a.n a.ws.now l.t l.w-index c.loop-w-test.true c.link-k.ensures.1 passed;
      quiet = λ z.
          let (x, y) = neither _ _ z in
          quiet-more step nil-kept _ _ _ _ l.w-index (l.invariant.quiet y) c.loop-w-test.true c.link-k.ensures.1 passed (bare x);
    }

pub returns : goal.returns
returns g t c =
    let a = c.args in
    let l = c.loop-w in
    let step = g.P.Pass.step a.pass a.cap in (
      sym (down-on step a.cap a.ws.now a.t.now a.n a.e c.if-e-eq0.false c.if-n-eq0.false ∙ l.invariant.left ∙ kid-last (each_down step a.cap a.ws.now (a.e - 1)) a.cap a.n a.ws.now l.t l.w-index c.loop-w-test.false),
      l.invariant.plain,
      λ z. quiet-last _ _ a.e _ l.w-index c.if-e-eq0.false c.loop-w-test.false (l.invariant.quiet z),
    )
