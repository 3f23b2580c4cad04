-- `put_key` meets its contract: the note's name, and then the octave.
use mathlib.Core.Path.{ap}
use native.Mathlib.Omega.{arith}
use lib.ListN.{length}
use Rattle.text.specs.Keys.{key_text}
use Rattle.text.proofs.Lengths.{key_parts}
use Rattle.text.proofs.Writing.{more}
use Rattle.text.proofs.put_key.Goals as goal

pub put_bytes-end-requires : goal.put_bytes-end-requires
put_bytes-end-requires c = record { fits = omega (arith, ap length c.name_of.ensures, key_parts c.args.key, c.requires) }

pub put_decimal-requires : goal.put_decimal-requires
put_decimal-requires c =
    record {
      fits = omega (
        arith,
        c.requires,
        ap length c.name_of.ensures,
        key_parts c.args.key,
        c.put_bytes-end.ensures.ended,
        c.put_bytes-end.auto.buffer,
      );
    }

pub returns : goal.returns
unfolding key_text
returns c =
    rw (← c.name_of.ensures) (more (omega (arith, c.requires.1.fits)) c.put_bytes-end.ensures c.put_decimal.ensures)
