-- `put_origin` meets its contract.
use Rattle.text.proofs.Writing.{room_first, room_rest}
use Rattle.lines.specs.Lines.{origin_text}
use Rattle.lines.proofs.Parts.{room_second, three_parts}
use Rattle.lines.proofs.lines.put_origin.Goals as goal

pub put_labelled-number_end-requires : goal.put_labelled-number_end-requires
unfolding origin_text
put_labelled-number_end-requires c = room_first _ _ c.requires.1

pub put_key_name-key_end-requires : goal.put_key_name-key_end-requires
unfolding origin_text
put_key_name-key_end-requires c = (c.requires.0, room_second _ _ c.requires.1 c.put_labelled-number_end.ensures)

pub put_labelled-requires : goal.put_labelled-requires
unfolding origin_text
put_labelled-requires c = room_rest _ (room_rest _ c.requires.1 c.put_labelled-number_end.ensures) c.put_key_name-key_end.ensures

pub returns : goal.returns
unfolding origin_text
returns c = three_parts c.requires.1 c.put_labelled-number_end.ensures c.put_key_name-key_end.ensures c.put_labelled.ensures
