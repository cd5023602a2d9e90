-- The page of listed leaves.
-- Assumes nothing.
use Rattle.std.specs.Prelude.{ℕ, List}
use Rattle.header.specs.Headers.{header_of}
use Rattle.page.specs.PageRows.{body_of, page_of}
use Rattle.page.specs.declared.pages.Page.{Page}

-- all its lines but the last
abbrev pub body : Page → List ℕ
body p = body_of (header_of p.header) p.leaves.t.now p.leaves.v.now p.leaves.rows.now

abbrev pub whole : Page → List ℕ
whole p = page_of (header_of p.header) p.leaves.t.now p.leaves.v.now p.leaves.rows.now
