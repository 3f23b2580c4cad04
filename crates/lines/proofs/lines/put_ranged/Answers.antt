-- `put_ranged` meets its contract.
use Rattle.text.proofs.Writing.{within, room_first, more, room_rest}
use Rattle.lines.specs.Lines.{ranged}
use Rattle.lines.proofs.lines.put_ranged.Goals as goal

pub put_labelled-end-requires : goal.put_labelled-end-requires
unfolding ranged
put_labelled-end-requires c = room_first _ _ c.requires

pub put_labelled-requires : goal.put_labelled-requires
unfolding ranged
put_labelled-requires c = room_rest _ c.requires c.put_labelled-end.ensures

pub returns : goal.returns
unfolding ranged
returns c = more (within c.requires) c.put_labelled-end.ensures c.put_labelled.ensures
