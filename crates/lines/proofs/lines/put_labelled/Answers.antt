-- `put_labelled` meets its contract.
use Rattle.text.proofs.Writing.{within, room_first, more, room_rest}
use Rattle.lines.specs.Lines.{labelled}
use Rattle.lines.proofs.lines.put_labelled.Goals as goal

pub put_bytes-end-requires : goal.put_bytes-end-requires
unfolding labelled
put_bytes-end-requires c = room_first _ _ c.requires

pub put_decimal-requires : goal.put_decimal-requires
unfolding labelled
put_decimal-requires c = room_rest _ c.requires c.put_bytes-end.ensures

pub returns : goal.returns
unfolding labelled
returns c = more (within c.requires) c.put_bytes-end.ensures c.put_decimal.ensures
