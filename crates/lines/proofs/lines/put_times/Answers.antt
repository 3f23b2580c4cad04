-- `put_times` meets its contract.
use Rattle.text.proofs.Writing.{room_first}
use Rattle.lines.specs.Lines.{times_text}
use Rattle.lines.proofs.Parts.{room_second, room_third, room_fourth, four_parts}
use Rattle.lines.proofs.lines.put_times.Goals as goal

pub put_ranged-ends_end-requires : goal.put_ranged-ends_end-requires
unfolding times_text
put_ranged-ends_end-requires c = room_first _ _ c.requires

pub put_ranged-response_end-requires : goal.put_ranged-response_end-requires
unfolding times_text
put_ranged-response_end-requires c = room_second _ _ c.requires c.put_ranged-ends_end.ensures

pub put_labelled-due_end-requires : goal.put_labelled-due_end-requires
unfolding times_text
put_labelled-due_end-requires c = room_third _ _ c.requires c.put_ranged-ends_end.ensures c.put_ranged-response_end.ensures

pub put_bytes-requires : goal.put_bytes-requires
unfolding times_text
put_bytes-requires c = room_fourth _ c.requires c.put_ranged-ends_end.ensures c.put_ranged-response_end.ensures c.put_labelled-due_end.ensures

pub returns : goal.returns
unfolding times_text
returns c = four_parts c.requires c.put_ranged-ends_end.ensures c.put_ranged-response_end.ensures c.put_labelled-due_end.ensures c.put_bytes.ensures
