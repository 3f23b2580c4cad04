-- `put_decimal` meets its contract: what is written before, and the last two digits.
use native.Mathlib.Omega.{arith}
use Rattle.text.proofs.Decimal.{decimal_low, decimal_two, decimal_pair}
use Rattle.text.proofs.Lengths.{length_low, length_two, length_pair}
use Rattle.text.proofs.Writing.{more}
use Rattle.text.proofs.+put_decimal.Goals as goal

pub put_digit-requires : goal.put_digit-requires
put_digit-requires t c = omega (arith, length_low c.args.n (omega arith))

pub returns-then-n-lt10 : goal.returns-then-n-lt10
returns-then-n-lt10 t c = rw (decimal_low c.args.n (omega arith)) c.put_digit.ensures

pub put_pair-requires : goal.put_pair-requires
put_pair-requires t c = omega (arith, length_two c.args.n (omega arith) (omega arith))

pub returns-then-n-lt100 : goal.returns-then-n-lt100
returns-then-n-lt100 t c = rw (decimal_two c.args.n (omega arith) (omega arith)) c.put_pair.ensures

pub put_decimal-last-requires : goal.put_decimal-last-requires
put_decimal-last-requires t c = (omega arith, record { fits = omega (arith, length_pair c.args.n (omega arith)) })

pub put_pair-requires-2 : goal.put_pair-requires-2
put_pair-requires-2 t c =
    omega (arith, length_pair c.args.n (omega arith), c.put_decimal-last.ensures.ended, c.put_decimal-last.auto.buffer)

pub returns : goal.returns
returns t c =
    rw (decimal_pair c.args.n (omega arith)) (more (omega (arith, c.requires.fits)) c.put_decimal-last.ensures c.put_pair-2.ensures)
