-- `put_key_name` meets its contract.
use Rattle.text.proofs.Writing.{within, more}
use Rattle.lines.proofs.lines.put_key_name.Goals as goal

pub returns : goal.returns
returns c = more (within c.requires.1) c.put_bytes-end.ensures c.put_key.ensures
