-- `page::pages::write_page` meets its contract: what was found are the leaves.
use native.Mathlib.Omega.{arith}
use mathlib.Core.Path.{sym, ap, ◌∙◌}
use lib.Seq.{length-take-le}
use Rattle.header.specs.Headers.{header_of}
use Rattle.mesh.specs.Call.{writing}
use Rattle.page.specs.PageRows.{row_page, row_out, page_of}
use Rattle.lines.proofs.Puts.{text-put, put_front}
use Rattle.leaves.proofs.LeafRows.{leaves-within}
use Rattle.page.proofs.PagePut.{found-few, found_within}
use Rattle.page.proofs.pages.write_page.Goals as goal

pub slice_bounds-leaves-end : goal.slice_bounds-leaves-end
slice_bounds-leaves-end c = sym (length-take-le _ _ (omega (arith, c.requires, text-put c.find_leaves.ensures.put)))

pub invariant_of-leaves : goal.invariant_of-leaves
invariant_of-leaves c =
    record { listed = (c.requires.0, c.requires.2, found-few c.find_leaves.ensures.put c.requires.3 c.requires.3, found_within c.find_leaves.ensures.put c.requires.3 _ (leaves-within _ _ _ _ c.requires.1)) }

pub returns : goal.returns
unfolding row_out row_page
returns c =
    let a = c.args in
    c.write.ensures
    ∙ ap (λ ns. writing (page_of (header_of a.header) a.t.now a.v.now ns) a.out.now) (put_front c.find_leaves.ensures.put c.requires.3)
