-- Runs of the dispatch rule, worked out by hand, in one table with one result. Assumes nothing.
use Rattle.std.specs.Prelude.{ℕ, ◌≡◌, refl, List, [], ◌∷◌, map, get_or}
use Rattle.model.specs.Jobs.{Job}
use Rattle.model.specs.Dispatch.{Scenario, Moment, waiting, running, done, run}
use Rattle.model.proofs.examples.Marked.{resting, due_waiting, stroke, on_own_bells, phrase_p}

-- a phrase on so many cores, the release and execution times of its jobs, and the state of the run that is due at a moment
pub record Case : Type 0 where
  pub cores : ℕ
  pub jobs : List Job
  pub releases : List ℕ
  pub executions : List ℕ
  pub moment : ℕ
  pub expected : Moment

abbrev pub scenario_of : Case → Scenario
scenario_of c = record { release = λ k. get_or c.releases k 0; execution = λ k. get_or c.executions k 0 }

abbrev pub reached : Case → Moment
reached c = run c.jobs c.cores (scenario_of c) c.moment

-- Phrase P, job 0 released at 1: job 1 runs from 0 until 4, job 0 from 4 until 6.
abbrev pub p_at : ℕ → Moment → Case
p_at t x = record { cores = 1; jobs = phrase_p 7; releases = 1 ∷ 0 ∷ []; executions = 2 ∷ 4 ∷ []; moment = t; expected = x }

-- Of equal priority the smaller number goes first; a smaller priority goes before either.
abbrev pub order_at : ℕ → Moment → Case
order_at t x =
    record {
      cores = 1;
      jobs = on_own_bells (stroke 0 0 1 1 2 ∷ stroke 0 0 1 1 2 ∷ stroke 0 0 1 1 1 ∷ []);
      releases = [];
      executions = 1 ∷ 1 ∷ 1 ∷ [];
      moment = t;
      expected = x;
    }

-- On two cores: job 1 strikes the bell of job 0, and starts in the millisecond in which that ends, though a core was free; job 2 lists job 1.
abbrev pub bell_at : ℕ → Moment → Case
bell_at t x =
    record {
      cores = 2;
      jobs = stroke 0 0 3 3 1 7 ∷ stroke 0 0 2 2 1 7 ∷ due_waiting 9 (1 ∷ []) 0 0 1 1 0 8 ∷ [];
      releases = [];
      executions = 3 ∷ 2 ∷ 1 ∷ [];
      moment = t;
      expected = x;
    }

-- On two cores, three jobs are ready at 0: two start in that moment, the first two by priority, and no core is left for job 0. Both end at 2 and free
-- their cores in one moment; job 0 starts then, and one core stays free.
abbrev pub together_at : ℕ → Moment → Case
together_at t x =
    record {
      cores = 2;
      jobs = on_own_bells (stroke 0 0 4 4 3 ∷ stroke 0 0 2 2 2 ∷ stroke 0 0 2 2 1 ∷ []);
      releases = [];
      executions = 4 ∷ 2 ∷ 2 ∷ [];
      moment = t;
      expected = x;
    }

-- On three cores: jobs 1 and 2 are released at 1, and start in that moment. Job 0, released at 2, goes before them but is late for it; it takes the last
-- core before job 3, released at 2 too, which finds one at 4.
abbrev pub last_core_at : ℕ → Moment → Case
last_core_at t x =
    record {
      cores = 3;
      jobs = on_own_bells (stroke 2 2 3 3 0 ∷ stroke 1 1 3 3 2 ∷ stroke 1 1 4 4 1 ∷ stroke 2 2 1 1 9 ∷ []);
      releases = 2 ∷ 1 ∷ 1 ∷ 2 ∷ [];
      executions = 3 ∷ 3 ∷ 4 ∷ 1 ∷ [];
      moment = t;
      expected = x;
    }

-- Three jobs of one bell on two cores: job 1 is released at 4, and job 2, released at 0, waits for it, the nearest earlier one, not for job 0.
abbrev pub nearest_at : ℕ → Moment → Case
nearest_at t x =
    record {
      cores = 2;
      jobs = stroke 0 0 1 1 1 7 ∷ stroke 4 4 2 2 1 7 ∷ stroke 0 0 1 1 0 7 ∷ [];
      releases = 0 ∷ 4 ∷ 0 ∷ [];
      executions = 1 ∷ 2 ∷ 1 ∷ [];
      moment = t;
      expected = x;
    }

-- Job 2 lists jobs 0 and 1, and waits until both are done, though the third core is free.
abbrev pub both_at : ℕ → Moment → Case
both_at t x =
    record {
      cores = 3;
      jobs = on_own_bells (stroke 0 0 1 1 1 ∷ stroke 0 0 3 3 1 ∷ due_waiting 9 (0 ∷ 1 ∷ []) 0 0 1 1 0 ∷ []);
      releases = [];
      executions = 1 ∷ 3 ∷ 1 ∷ [];
      moment = t;
      expected = x;
    }

-- Jobs 0 and 1 strike one bell, with a rest of 3. Job 0 starts at 0, for none is before it, and ends at 2. Job 1 is ready at 5: until then job 2, of lower
-- priority, finds the core, and from 4 on the core is free although job 1 waits.
abbrev pub rest_at : ℕ → Moment → Case
rest_at t x =
    record {
      cores = 1;
      jobs = resting 3 9 [] 0 0 2 2 1 7 ∷ resting 3 9 [] 0 0 1 1 1 7 ∷ stroke 0 0 2 2 2 8 ∷ [];
      releases = [];
      executions = 2 ∷ 1 ∷ 2 ∷ [];
      moment = t;
      expected = x;
    }

abbrev pub table : List Case
table =
    p_at 0 (record { statuses = waiting ∷ running 4 ∷ []; free = 0 })
    ∷ p_at 3 (record { statuses = waiting ∷ running 4 ∷ []; free = 0 })
    ∷ p_at 4 (record { statuses = running 6 ∷ done 4 ∷ []; free = 0 })
    ∷ p_at 6 (record { statuses = done 6 ∷ done 4 ∷ []; free = 1 })
    ∷ order_at 0 (record { statuses = waiting ∷ waiting ∷ running 1 ∷ []; free = 0 })
    ∷ order_at 1 (record { statuses = running 2 ∷ waiting ∷ done 1 ∷ []; free = 0 })
    ∷ order_at 2 (record { statuses = done 2 ∷ running 3 ∷ done 1 ∷ []; free = 0 })
    ∷ bell_at 0 (record { statuses = running 3 ∷ waiting ∷ waiting ∷ []; free = 1 })
    ∷ bell_at 3 (record { statuses = done 3 ∷ running 5 ∷ waiting ∷ []; free = 1 })
    ∷ bell_at 5 (record { statuses = done 3 ∷ done 5 ∷ running 6 ∷ []; free = 1 })
    ∷ together_at 0 (record { statuses = waiting ∷ running 2 ∷ running 2 ∷ []; free = 0 })
    ∷ together_at 1 (record { statuses = waiting ∷ running 2 ∷ running 2 ∷ []; free = 0 })
    ∷ together_at 2 (record { statuses = running 6 ∷ done 2 ∷ done 2 ∷ []; free = 1 })
    ∷ together_at 6 (record { statuses = done 6 ∷ done 2 ∷ done 2 ∷ []; free = 2 })
    ∷ last_core_at 0 (record { statuses = waiting ∷ waiting ∷ waiting ∷ waiting ∷ []; free = 3 })
    ∷ last_core_at 1 (record { statuses = waiting ∷ running 4 ∷ running 5 ∷ waiting ∷ []; free = 1 })
    ∷ last_core_at 2 (record { statuses = running 5 ∷ running 4 ∷ running 5 ∷ waiting ∷ []; free = 0 })
    ∷ last_core_at 4 (record { statuses = running 5 ∷ done 4 ∷ running 5 ∷ running 5 ∷ []; free = 0 })
    ∷ last_core_at 5 (record { statuses = done 5 ∷ done 4 ∷ done 5 ∷ done 5 ∷ []; free = 3 })
    ∷ nearest_at 3 (record { statuses = done 1 ∷ waiting ∷ waiting ∷ []; free = 2 })
    ∷ nearest_at 4 (record { statuses = done 1 ∷ running 6 ∷ waiting ∷ []; free = 1 })
    ∷ nearest_at 6 (record { statuses = done 1 ∷ done 6 ∷ running 7 ∷ []; free = 1 })
    ∷ both_at 1 (record { statuses = done 1 ∷ running 3 ∷ waiting ∷ []; free = 2 })
    ∷ both_at 3 (record { statuses = done 1 ∷ done 3 ∷ running 4 ∷ []; free = 2 })
    ∷ rest_at 0 (record { statuses = running 2 ∷ waiting ∷ waiting ∷ []; free = 0 })
    ∷ rest_at 2 (record { statuses = done 2 ∷ waiting ∷ running 4 ∷ []; free = 0 })
    ∷ rest_at 4 (record { statuses = done 2 ∷ waiting ∷ done 4 ∷ []; free = 1 })
    ∷ rest_at 5 (record { statuses = done 2 ∷ running 6 ∷ done 4 ∷ []; free = 0 })
    ∷ rest_at 6 (record { statuses = done 2 ∷ done 6 ∷ done 4 ∷ []; free = 1 })
    ∷ []

pub ran : map reached table ≡ map (λ (c : Case). c.expected) table
unfolding run
ran = refl
