-- `put_bell` meets its contract.
use Rattle.text.proofs.Writing.{room_first}
use Rattle.lines.specs.Lines.{bell_line}
use Rattle.lines.proofs.Parts.{room_second, room_third, room_fourth, four_parts}
use Rattle.lines.proofs.lines.put_bell.Goals as goal

pub put_labelled-number_end-requires : goal.put_labelled-number_end-requires
unfolding bell_line
put_labelled-number_end-requires c = room_first _ _ c.requires

pub put_labelled-strokes_end-requires : goal.put_labelled-strokes_end-requires
unfolding bell_line
put_labelled-strokes_end-requires c = room_second _ _ c.requires c.put_labelled-number_end.ensures

pub put_labelled-total_end-requires : goal.put_labelled-total_end-requires
unfolding bell_line
put_labelled-total_end-requires c = room_third _ _ c.requires c.put_labelled-number_end.ensures c.put_labelled-strokes_end.ensures

pub put_bytes-requires : goal.put_bytes-requires
unfolding bell_line
put_bytes-requires c = room_fourth _ c.requires c.put_labelled-number_end.ensures c.put_labelled-strokes_end.ensures c.put_labelled-total_end.ensures

pub returns : goal.returns
unfolding bell_line
returns c =
    four_parts c.requires c.put_labelled-number_end.ensures c.put_labelled-strokes_end.ensures c.put_labelled-total_end.ensures c.put_bytes.ensures
