-- What the number 0 promises can be met. Assumes nothing.
use Rattle.model.specs.Exploration.{analysis}
use Rattle.model.proofs.Example.{kept}
use Rattle.format.specs.Reading.{reading}
use Rattle.format.proofs.examples.Files.{file_p}
use Rattle.checking.specs.Checking.{verdict, Playable}
use Rattle.phrase.specs.Host.{table_words}

-- Phrase P is playable as it is checked over a table of its own.
pub playable : Playable (reading file_p) (verdict (reading file_p) table_words)
unfolding reading analysis
playable = kept
