-- `put_last` meets its contract.
use Rattle.text.proofs.Writing.{room_first}
use Rattle.lines.specs.Lines.{accepted_line}
use Rattle.lines.proofs.Parts.{room_second, room_third, room_fourth, four_parts}
use Rattle.lines.proofs.lines.put_last.Goals as goal

pub put_labelled-jobs_end-requires : goal.put_labelled-jobs_end-requires
unfolding accepted_line
put_labelled-jobs_end-requires c = room_first _ _ c.requires

pub put_labelled-states_end-requires : goal.put_labelled-states_end-requires
unfolding accepted_line
put_labelled-states_end-requires c = room_second _ _ c.requires c.put_labelled-jobs_end.ensures

pub put_labelled-hold_end-requires : goal.put_labelled-hold_end-requires
unfolding accepted_line
put_labelled-hold_end-requires c = room_third _ _ c.requires c.put_labelled-jobs_end.ensures c.put_labelled-states_end.ensures

pub put_bytes-requires : goal.put_bytes-requires
unfolding accepted_line
put_bytes-requires c = room_fourth _ c.requires c.put_labelled-jobs_end.ensures c.put_labelled-states_end.ensures c.put_labelled-hold_end.ensures

pub returns : goal.returns
unfolding accepted_line
returns c =
    four_parts c.requires c.put_labelled-jobs_end.ensures c.put_labelled-states_end.ensures c.put_labelled-hold_end.ensures c.put_bytes.ensures
