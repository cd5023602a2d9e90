-- The invariant: with the digits that are left, what is put is all 16.
use Rattle.std.proofs.Common.{◌≡◌, ◌-◌, [], length}
use Rattle.mesh.specs.Page.{hex_in}
use Rattle.lines.specs.LineRows.{hex_digit}
use Rattle.lines.proofs.Puts.{places}
use lib.Seq.{sets}
use Rattle.lines.proofs.sheets.Sheet.hex.Given as goal

abbrev pub invariant-loop-i : goal.invariant-loop-i
invariant-loop-i l =
    record {
      same : l.self.out.ghost_name ≡ l.fn.self.out.ghost_name;
      end : l.self.at ≡ l.initial.self.at;
      size : length l.self.out.now ≡ length l.fn.self.out.now;
      digits : sets l.self.out.now l.start (places hex_digit 16 (l.i - l.start) l.rest) ≡ sets l.fn.self.out.now l.start (hex_in 16 l.x []);
    }
