-- `put_stroke` meets its contract.
use Rattle.text.proofs.Writing.{within, room_first, more, room_rest}
use Rattle.lines.specs.Lines.{stroke_line}
use Rattle.lines.proofs.lines.put_stroke.Goals as goal

pub put_origin-end-requires : goal.put_origin-end-requires
unfolding stroke_line
put_origin-end-requires c = (c.requires.0, room_first _ _ c.requires.1)

pub put_times-requires : goal.put_times-requires
unfolding stroke_line
put_times-requires c = room_rest _ c.requires.1 c.put_origin-end.ensures

pub returns : goal.returns
unfolding stroke_line
returns c = more (within c.requires.1) c.put_origin-end.ensures c.put_times.ensures
