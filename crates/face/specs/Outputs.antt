-- What an exported call may do: what it is lent and given at entry; then what is lent at exit, what its pointers hold at exit, and the refusal
-- that it returns. Each is one equation with the call's definition in `mesh`.
-- Assumes nothing.
use Rattle.std.specs.Prelude.{ℕ, ◌≡◌, List, ℤ, Float}
use Rattle.mesh.specs.State as State
use Rattle.mesh.specs.Picture.{Lent}
use Rattle.mesh.specs.LeafCounts.{Counted}
use Rattle.mesh.specs.Call as Call

-- "is a measured value, a carried value, or blank", as a status and a value
pub record Told : Type 0 where
  pub refusal : ℕ
  pub leaf : ℕ
  pub status : ℕ
  pub value : Float

abbrev pub told : Call.Found → Told
told f = record { refusal = f.refusal; leaf = f.leaf; status = State.status f.value; value = State.amount f.value }

module _ (l : Counted) (cap : ℕ) where
  pub record Builds (columns rows mode : ℕ) (l' : Counted) (in_use r : ℕ) : Type 0 where
    pub is : record { refusal = r; in_use = in_use; lent = l' } ≡ Call.build_call cap l (record { columns = columns; rows = rows; mode = mode })

  pub record Tapes (bytes : List ℕ) (l' : Counted) (done offset r : ℕ) : Type 0 where
    pub is : record { done = done; refusal = r; offset = offset; lent = l' } ≡ Call.tape_call cap l bytes

  pub record Checks (r : ℕ) : Type 0 where
    pub is : r ≡ Call.check_call cap l

module _ (l : Lent) (cap : ℕ) where
  pub record Scans (start : ℕ) (order : List ℕ) (kind : ℕ) (from to : ℤ) (out out' : List ℕ) (count r : ℕ) : Type 0 where
    pub is : record { refusal = r; count = count; out = out' } ≡ Call.scan_call cap l start order kind from to out

  pub record Looks (speed load number status : ℕ) (value : Float) (r : ℕ) : Type 0 where
    pub is : record { refusal = r; leaf = number; status = status; value = value } ≡ told (Call.lookup_call cap l speed load)

  pub record Pages (out out' : List ℕ) (count r : ℕ) : Type 0 where
    pub is : record { refusal = r; count = count; out = out' } ≡ Call.page_call cap l out

-- the question is lent the counts alone
pub record Counts (c : List ℕ) (level status count r : ℕ) : Type 0 where
  pub is : record { refusal = r; count = count } ≡ Call.count_call c level status
