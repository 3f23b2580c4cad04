-- `put_late` meets its contract.
use Rattle.text.proofs.Writing.{room_first}
use Rattle.lines.specs.Lines.{late_line}
use Rattle.lines.proofs.Parts.{room_second, room_third, room_fourth, four_parts}
use Rattle.lines.proofs.lines.put_late.Goals as goal

pub put_labelled-number_end-requires : goal.put_labelled-number_end-requires
unfolding late_line
put_labelled-number_end-requires c = room_first _ _ c.requires

pub put_labelled-job_end-requires : goal.put_labelled-job_end-requires
unfolding late_line
put_labelled-job_end-requires c = room_second _ _ c.requires c.put_labelled-number_end.ensures

pub put_ranged-ends_end-requires : goal.put_ranged-ends_end-requires
unfolding late_line
put_ranged-ends_end-requires c = room_third _ _ c.requires c.put_labelled-number_end.ensures c.put_labelled-job_end.ensures

pub put_bytes-requires : goal.put_bytes-requires
unfolding late_line
put_bytes-requires c = room_fourth _ c.requires c.put_labelled-number_end.ensures c.put_labelled-job_end.ensures c.put_ranged-ends_end.ensures

pub returns : goal.returns
unfolding late_line
returns c = four_parts c.requires c.put_labelled-number_end.ensures c.put_labelled-job_end.ensures c.put_ranged-ends_end.ensures c.put_bytes.ensures
