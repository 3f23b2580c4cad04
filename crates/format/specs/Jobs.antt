-- The jobs that the analysis makes of a phrase. Assumes nothing.
use Rattle.std.specs.Prelude.{ℕ, List, [], map, get_or}
use Rattle.std.proofs.Math.Option.{Option, none, some}
use Rattle.model.specs.Jobs.{Job}
use Rattle.format.specs.Phrase.{Bell, Note, Phrase, transposed, find}

abbrev pub no_bell : Bell
no_bell = record { written = 0; transposition = 0; least_execution = 0; most_execution = 0; rest = 0; priority = 0 }

abbrev pub no_note : Note
no_note = record { key = 0; earliest_release = 0; latest_release = 0; deadline = 0; listed = [] }

-- the note of job i
abbrev pub note : Phrase → ℕ → Note
note x i = get_or x.notes i no_note

-- the key of job i, moved by the shift: the one that is heard
abbrev pub shifted_key : Phrase → ℕ → ℕ
shifted_key x i = transposed (note x i).key x.shift

-- the number that was found (0 where none was, which no note that is read meets)
abbrev pub or_first : Option ℕ → ℕ
or_first (some i) = i
or_first none = 0

-- the number of the bell that a note strikes, found by its key and the shift
abbrev pub struck : ℕ → List Bell → Note → ℕ
struck shift bells n = or_first (find n.key shift bells)

-- the job (stroke) of a note that strikes a bell, which gives its execution-time range, its rest and its priority
abbrev pub job_on : ℕ → Bell → Note → Job
job_on i b n =
    record {
      earliest_release = n.earliest_release;
      latest_release = n.latest_release;
      least_execution = b.least_execution;
      most_execution = b.most_execution;
      deadline = n.deadline;
      priority = b.priority;
      bell = i;
      rest = b.rest;
      listed = n.listed;
    }

abbrev pub job_of : ℕ → List Bell → Note → Job
job_of shift bells n = job_on (struck shift bells n) (get_or bells (struck shift bells n) no_bell) n

-- The jobs of a phrase, in file order.
abbrev pub jobs_of : Phrase → List Job
jobs_of x = map (job_of x.shift x.bells) x.notes
