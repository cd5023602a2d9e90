-- The invariant: with the digits that are left, what is put is the decimal.
use Rattle.std.proofs.Common.{◌≡◌, ◌-◌, length}
use Rattle.mesh.specs.Page.{decimal}
use Rattle.lines.proofs.Decimals.{dec_digit}
use Rattle.lines.proofs.Puts.{places}
use lib.Seq.{sets}
use Rattle.lines.proofs.sheets.Sheet.decimal.Given as goal

abbrev pub invariant-loop-i : goal.invariant-loop-i
invariant-loop-i l =
    record {
      same : l.self.out.ghost_name ≡ l.fn.self.out.ghost_name;
      end : l.self.at ≡ l.initial.self.at;
      size : length l.self.out.now ≡ length l.fn.self.out.now;
      digits : sets l.self.out.now l.start (places dec_digit 10 (l.i - l.start) l.rest) ≡ sets l.fn.self.out.now l.start (decimal l.x);
    }
