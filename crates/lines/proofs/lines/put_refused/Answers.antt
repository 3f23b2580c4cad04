-- `put_refused` meets its contract.
use Rattle.text.proofs.Writing.{room_first, room_rest}
use Rattle.lines.specs.Lines.{refused_line}
use Rattle.lines.proofs.Parts.{room_second, three_parts}
use Rattle.lines.proofs.lines.put_refused.Goals as goal

pub put_labelled-number_end-requires : goal.put_labelled-number_end-requires
unfolding refused_line
put_labelled-number_end-requires c = room_first _ _ c.requires

pub put_place-place_end-requires : goal.put_place-place_end-requires
unfolding refused_line
put_place-place_end-requires c = room_second _ _ c.requires c.put_labelled-number_end.ensures

pub put_bytes-requires : goal.put_bytes-requires
unfolding refused_line
put_bytes-requires c = room_rest _ (room_rest _ c.requires c.put_labelled-number_end.ensures) c.put_place-place_end.ensures

pub returns : goal.returns
unfolding refused_line
returns c = three_parts c.requires c.put_labelled-number_end.ensures c.put_place-place_end.ensures c.put_bytes.ensures
