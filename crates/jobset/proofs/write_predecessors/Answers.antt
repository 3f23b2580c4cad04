use Prim.Native.Nat.{ℕ, ◌+◌, ◌≤◌}
use mathlib.Core.Path.{◌≡◌, sym, ap, ◌∙◌}
use mathlib.Core.List.{List, [], ◌∷◌, ◌++◌}
use native.Mathlib.Omega.{arith}
use lib.ListN.{get_or, length, length-append}
use Rattle.std.specs.Prelude.{option_to_list}
use Rattle.std.specs.Int.{from_bool}
use Rattle.model.specs.Jobs.{job, nearest, as_list, predecessors}
use Rattle.words.specs.Tabulate.{tabulate}
use Rattle.words.specs.internal.Placed.{placed}
use Rattle.words.proofs.Placing.{sets_placed}
use Rattle.format.specs.internal.Analysable.{most_predecessors}
use Rattle.jobs.specs.internal.JobRow.{predecessor_count_at}
use Rattle.jobset.specs.internal.Making.{jobs_held, found_of, predecessor_words}
use Rattle.jobset.proofs.Held.{job_below, count_word, few_listed_jobs, few_predecessors, struck_word_holds, found_list, found_count, at_most_one, predecessor_words_holds}
use Rattle.jobset.proofs.write_predecessors.Goals as goal
use Rattle.jobset.proofs.write_predecessors.Goals.{After-from}

pub note_word-bell-requires : goal.note_word-bell-requires
note_word-bell-requires c = (job_below c.args.phrase.now c.requires.0 c.args.i c.requires.1, omega arith)

pub note_word-listed-requires : goal.note_word-listed-requires
note_word-listed-requires c = (job_below c.args.phrase.now c.requires.0 c.args.i c.requires.1, omega arith)

more : (c : After-from) → c.from.result ≡ length (option_to_list c.nearest_job-earlier.result)
more c = c.from.ensures ∙ ap from_bool c.is_some.ensures ∙ sym (found_count c.nearest_job-earlier.result)

pub overflow_add-row : goal.overflow_add-row
overflow_add-row c = let t = c.args.phrase.now in
    omega (arith, more c, at_most_one c.nearest_job-earlier.result, c.note_word-listed.ensures, count_word t c.requires.0 c.args.i c.requires.1, few_listed_jobs t c.requires.0 c.args.i c.requires.1)

pub returns : goal.returns
unfolding predecessors tabulate
returns c = let struck = c.note_word-bell in
    let listed = c.note_word-listed in
    let near = c.nearest_job-earlier in
    let first = c.predecessor_word in
    let second = c.predecessor_word-2 in
    let third = c.predecessor_word-3 in
    let fourth = c.predecessor_word-4 in
    let fifth = c.predecessor_word-5 in
    let t = c.args.phrase.now in
    let row = c.args.row.now in
    let i = c.args.i in
    let js = jobs_held t in
    let l = (job js i).listed in
    let looked : near.result ≡ found_of (nearest js (job js i).bell i) =
    near.ensures ∙ ap (λ (b : ℕ). found_of (nearest js b i)) (struck.ensures ∙ struck_word_holds t c.requires.0 i c.requires.1) in
    let found : option_to_list near.result ≡ as_list (nearest js (job js i).bell i) = ap option_to_list looked ∙ found_list (nearest js (job js i).bell i) in
    let q : List ℕ = l ++ option_to_list near.result in
    let all : q ≡ predecessors js i = ap (λ (o : List ℕ). l ++ o) found in
    let few : length q ≤ most_predecessors = omega (arith, ap length all, few_predecessors t c.requires.0 i c.requires.1) in
    let as_many : listed.result + c.from.result ≡ length q =
    omega (arith, more (goal.at.returns c).After-from, listed.ensures, count_word t c.requires.0 i c.requires.1, length-append l (option_to_list near.result)) in
    let ws : List ℕ = (listed.result + c.from.result) ∷ first.result ∷ second.result ∷ third.result ∷ fourth.result ∷ fifth.result ∷ [] in
    let same : ws ≡ length q ∷ tabulate (λ (j : ℕ). get_or q j 0) 0 most_predecessors =
    λ k. as_many k ∷ first.ensures k ∷ second.ensures k ∷ third.ensures k ∷ fourth.ensures k ∷ fifth.ensures k ∷ [] in
    let e : ws ≡ predecessor_words (predecessors js i) = same ∙ (predecessor_words_holds q few ∙ ap predecessor_words all) in
    sets_placed row predecessor_count_at ws (omega (arith, c.requires.2)) ∙ ap (placed row predecessor_count_at) e
