-- A lent table while requests edit it: what it is before each, and what a request makes of it.
-- Assumes nothing.
use Rattle.std.specs.Prelude.{ℕ, ◌≡◌}
use Rattle.mesh.specs.State.{Header}
use Rattle.mesh.specs.LeafCounts.{Counted}
use Rattle.mesh.specs.Request.{Request}
use Rattle.table.specs.Words.{free_at}
use Rattle.free.specs.FreeMap.{IsMapOf}
use Rattle.apply.specs.Drawn.{lists, Pictured}
use Rattle.apply.specs.Applied.{Applied}
use Rattle.apply.specs.declared.EditedTable.{EditedTable}

-- what its lists hold, whatever header they are lent with
abbrev pub held : EditedTable → Header → Counted
held e = lists e.t.now e.v.now e.c.now

-- its lists picture a state, and its map is of their free numbers
pub record Ready (e : EditedTable) : Type 0 where
  pub pictured : Pictured e.cap e.d (held e)
  pub maps : IsMapOf e.map.now (free_at e.t.now)

-- e became e': the same lists and the same map are lent, and it is of the free numbers that they have now
pub record Kept (e e' : EditedTable) : Type 0 where
  pub same-words : e'.t.ghost_name ≡ e.t.ghost_name
  pub same-values : e'.v.ghost_name ≡ e.v.ghost_name
  pub same-counts : e'.c.ghost_name ≡ e.c.ghost_name
  pub same-map : e'.map.ghost_name ≡ e.map.ghost_name
  pub same-capacity : e'.cap ≡ e.cap
  pub same-depth : e'.d ≡ e.d
  pub maps : IsMapOf e'.map.now (free_at e'.t.now)

-- the request q made e' of e, and given is the refusal, 0 for none
pub record Requested (q : Request) (e e' : EditedTable) (given : ℕ) : Type 0 where
  pub applied : Applied q e.cap e.d (held e) (held e') given
  pub kept : Kept e e'
