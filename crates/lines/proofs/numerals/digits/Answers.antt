-- `lines::numerals::digits` meets its contract, by the powers of ten between which the number is.
use Rattle.std.proofs.Common.{sym, arith}
use Rattle.lines.proofs.Decimals.{decimal-one, decimal-size}
use Rattle.lines.proofs.numerals.digits.Goals as goal

pub returns-in-0-to-9 : goal.returns-in-0-to-9
returns-in-0-to-9 c = (omega arith, sym (decimal-one _ (omega arith)))

pub returns-in-10-to-99 : goal.returns-in-10-to-99
returns-in-10-to-99 c = (omega arith, sym (decimal-size 1 _ (omega arith) (omega arith) (omega arith)))

pub returns-in-100-to-999 : goal.returns-in-100-to-999
returns-in-100-to-999 c = (omega arith, sym (decimal-size 2 _ (omega arith) (omega arith) (omega arith)))

pub returns-in-1000-to-9999 : goal.returns-in-1000-to-9999
returns-in-1000-to-9999 c = (omega arith, sym (decimal-size 3 _ (omega arith) (omega arith) (omega arith)))

pub returns-in-10000-to-99999 : goal.returns-in-10000-to-99999
returns-in-10000-to-99999 c = (omega arith, sym (decimal-size 4 _ (omega arith) (omega arith) (omega arith)))

pub returns-in-100000-to-999999 : goal.returns-in-100000-to-999999
returns-in-100000-to-999999 c = (omega arith, sym (decimal-size 5 _ (omega arith) (omega arith) (omega arith)))

pub returns-in-1000000-to-9999999 : goal.returns-in-1000000-to-9999999
returns-in-1000000-to-9999999 c = (omega arith, sym (decimal-size 6 _ (omega arith) (omega arith) (omega arith)))

pub returns-in-10000000-to-99999999 : goal.returns-in-10000000-to-99999999
returns-in-10000000-to-99999999 c = (omega arith, sym (decimal-size 7 _ (omega arith) (omega arith) (omega arith)))

pub returns-in-100000000-to-999999999 : goal.returns-in-100000000-to-999999999
returns-in-100000000-to-999999999 c = (omega arith, sym (decimal-size 8 _ (omega arith) (omega arith) (omega arith)))

pub returns-in_default : goal.returns-in_default
returns-in_default c = (omega arith, sym (decimal-size 9 _ (omega arith) (omega arith) (omega arith)))
