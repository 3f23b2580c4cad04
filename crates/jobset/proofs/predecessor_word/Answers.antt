use Prim.Native.Nat.{◌<◌}
use mathlib.Core.Path.{◌≡◌, ◌∙◌}
use native.Mathlib.Omega.{arith}
use lib.ListN.{length}
use Rattle.std.specs.Prelude.{option_to_list}
use Rattle.model.specs.Jobs.{job}
use Rattle.format.specs.Layout.{most_listed}
use Rattle.jobset.specs.internal.Making.{jobs_held}
use Rattle.jobset.proofs.Held.{job_below, count_word, listed_word_holds, few_listed_jobs, word_within, found_first, word_at_end, word_beyond}
use Rattle.jobset.proofs.predecessor_word.Goals as goal

pub note_word-listed-requires : goal.note_word-listed-requires
note_word-listed-requires c = (job_below c.args.phrase.now c.requires.0 c.args.i c.requires.1, omega arith)

pub returns-then-j-listed : goal.returns-then-j-listed
returns-then-j-listed c = let t = c.args.phrase.now in
    let l = (job (jobs_held t) c.args.i).listed in
    let inside : c.args.j < length l = omega (arith, c.if-j-listed.true, c.note_word-listed.ensures, count_word t c.requires.0 c.args.i c.requires.1) in
    let few : c.args.j < most_listed = omega (arith, inside, few_listed_jobs t c.requires.0 c.args.i c.requires.1) in
    c.note_word.ensures ∙ listed_word_holds t c.requires.0 c.args.i c.requires.1 c.args.j few ∙ word_within l (option_to_list c.args.earlier) c.args.j inside

pub returns-then-listed-j : goal.returns-then-listed-j
returns-then-listed-j c = let t = c.args.phrase.now in
    let l = (job (jobs_held t) c.args.i).listed in
    word_beyond l c.args.earlier c.args.j (omega (arith, c.if-listed-j.true, c.note_word-listed.ensures, count_word t c.requires.0 c.args.i c.requires.1))

pub returns : goal.returns
returns c = let t = c.args.phrase.now in
    let l = (job (jobs_held t) c.args.i).listed in
    let end : c.args.j ≡ length l = omega (arith, c.if-listed-j.false, c.if-j-listed.false, c.note_word-listed.ensures, count_word t c.requires.0 c.args.i c.requires.1) in
    c.unwrap_or.ensures ∙ found_first c.args.earlier ∙ word_at_end l (option_to_list c.args.earlier) c.args.j end
