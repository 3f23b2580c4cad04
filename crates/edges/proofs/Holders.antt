-- The jobs that may hold others back, in words: what a word says, and how a loop over the candidates lists them. Assumes nothing.
use Prim.Native.Nat.{ℕ, zero, suc, ◌+◌, ◌/◌, ◌%◌, ◌<◌, ◌≤◌, min}
use mathlib.Core.Path.{◌≡◌, refl, sym, ap, ◌∙◌}
use mathlib.Core.Bool.{Bool, true, false, cond}
use mathlib.Core.List.{List, [], ◌∷◌, ◌++◌, map, foldl-append}
use native.Mathlib.Omega.{arith}
use lib.Dec.{ltb}
use lib.ListN.{get_or, length, set, take, length-map}
use Rattle.model.specs.Limits.{most_jobs, latest_time, longest_rest}
use Rattle.model.specs.Folds.{ind, Limit, infinite}
use Rattle.model.specs.Jobs.{Job, job, before}
use Rattle.model.specs.States.{State}
use Rattle.model.specs.Edges.{certainly_ready, certainly_ready_beside}
use Rattle.model.specs.internal.Bounds.{TimedUpTo, RestsUpTo, Bounded}
use Rattle.model.proofs.Bounds.{certainly_ready_up_to, beside_up_to}
use Rattle.jobs.specs.internal.Order.{precedence}
use Rattle.jobs.proofs.Order.{job_at_holds, before_is}
use Rattle.edges.specs.internal.Edges.{limit_word, lower, bound_over, moments, holder_word, Holders, Holding}
use Rattle.edges.proofs.Listing.{each_snoc, written_behind, fold_turn}
use Rattle.edges.proofs.Folds.{lower_word}

-- ---- what a word says

map_at : (f : ℕ → ℕ) (l : List ℕ) (t : ℕ) → t < length l → get_or (map f l) t 0 ≡ f (get_or l t 0)
map_at f [] t h = absurd (omega arith)
map_at f (x ∷ l) zero h = refl
map_at f (x ∷ l) (suc t) h = map_at f l t (omega arith)

module _ (js : List Job) (σ : State) (k : ℕ) (few : k ≤ most_jobs) (ws : List ℕ) (h : Holders js σ k ws) where
  -- a word for each job
  pub as_many : length ws ≡ length h.jobs
  as_many = ap length h.words ∙ length-map h.jobs (holder_word js σ)

  module _ (t : ℕ) (b : t < length ws) where
    within : t < length h.jobs
    within = omega (arith, as_many)

    word_is : get_or ws t 0 ≡ holder_word js σ (get_or h.jobs t 0)
    word_is = ap (λ (l : List ℕ). get_or l t 0) h.words ∙ map_at (holder_word js σ) h.jobs t within

    -- the word says where the job stands,
    pub place_in : get_or ws t 0 / moments ≡ precedence js (get_or h.jobs t 0)
    place_in = omega (arith, word_is, (h.inside t within).1)

    -- from when on it is certainly ready,
    pub ready_in : get_or ws t 0 % moments ≡ certainly_ready js σ (get_or h.jobs t 0)
    ready_in = omega (arith, word_is, (h.inside t within).1)

    -- and which it is
    pub job_in : get_or ws t 0 / moments % most_jobs ≡ get_or h.jobs t 0
    job_in = ap (λ (x : ℕ). x % most_jobs) place_in ∙ job_at_holds js (get_or h.jobs t 0) (omega (arith, (h.inside t within).0))

    -- it is one of the k jobs
    pub job_inside : get_or h.jobs t 0 < k
    job_inside = (h.inside t within).0

    -- it goes before job i exactly when it stands before it
    pub before_in : (i : ℕ) → i < k → before js (get_or h.jobs t 0) i ≡ ltb (get_or ws t 0 / moments) (precedence js i)
    before_in i g =
        before_is js (get_or h.jobs t 0) (omega (arith, (h.inside t within).0)) i (omega arith) ∙ ap (λ (x : ℕ). ltb x (precedence js i)) (sym place_in)

-- ---- how they are listed

-- no job holds as none does
pub holding_none : (js : List Job) (σ : State) (k past : ℕ) → Holding js σ k past [] []
holding_none js σ k past = record { holders = record { jobs = []; words = refl; inside = λ t h. absurd (omega arith) }; enough = λ i. refl }

-- those that hold up to a moment hold up to an earlier one
pub holding_less : (js : List Job) (σ : State) (k past less : ℕ) (list ws : List ℕ) → less ≤ past → Holding js σ k past list ws → Holding js σ k less list ws
holding_less js σ k past less list ws h g = record { holders = g.holders; enough = λ i. omega (arith, g.enough i) }

released_first : (js : List Job) (σ : State) (i j : ℕ) → (job js j).latest_release ≤ certainly_ready_beside js σ i j
unfolding certainly_ready_beside
released_first js σ i j = omega arith

map_behind : (f : ℕ → ℕ) (l : List ℕ) (x : ℕ) → map f (l ++ (x ∷ [])) ≡ map f l ++ (f x ∷ [])
map_behind f [] x = refl
map_behind f (y ∷ l) x = ap (λ (r : List ℕ). f y ∷ r) (map_behind f l x)

module _ (js : List Job) (timed : TimedUpTo latest_time js) (rests : RestsUpTo longest_rest js) (σ : State) (g : Bounded js latest_time σ) (k : ℕ) (every_job : k ≡ length js) where
  -- One candidate more, the next of the list: its word is written behind the others, and stays if the job is released before the new moment. One that is
  -- released later holds none back before it.
  pub holding_next : (past less : ℕ) (list : List ℕ) (t : ℕ) → t < length list → get_or list t 0 < k → less ≤ past → (ws : List ℕ) (n w : ℕ) → n < length ws
      → w ≡ holder_word js σ (get_or list t 0) → (b : Bool) → (b ≡ false → less ≤ (job js (get_or list t 0)).latest_release)
      → Holding js σ k past (take t list) (take n ws) → Holding js σ k less (take (t + 1) list) (take (n + ind b) (set ws n w))
  holding_next past less list t h inside nearer ws n w room e b later x =
      rw (written_behind ws n w b room) (go b later)
    where
      j : ℕ
      j = get_or list t 0

      l : List ℕ
      l = x.holders.jobs

      -- with one job more, each bound is lowered by that job's
      one_more : (i : ℕ) (r : Limit) → limit_word (lower (λ y. before js y i) (certainly_ready_beside js σ i) r j) ≡ cond (before js j i) (min (limit_word r) (certainly_ready_beside js σ i j)) (limit_word r)
      one_more i r = lower_word (λ y. before js y i) (certainly_ready_beside js σ i) r j (omega (arith, beside_up_to js latest_time longest_rest timed rests σ g i j (omega (arith, inside, every_job))))

      longer : (i : ℕ) → limit_word (bound_over js σ i (take (t + 1) list)) ≡ cond (before js j i) (min (limit_word (bound_over js σ i (take t list))) (certainly_ready_beside js σ i j)) (limit_word (bound_over js σ i (take t list)))
      longer i = ap limit_word (fold_turn (lower (λ y. before js y i) (certainly_ready_beside js σ i)) infinite list t h) ∙ one_more i (bound_over js σ i (take t list))

      behind : (i : ℕ) → limit_word (bound_over js σ i (l ++ (j ∷ []))) ≡ cond (before js j i) (min (limit_word (bound_over js σ i l)) (certainly_ready_beside js σ i j)) (limit_word (bound_over js σ i l))
      behind i = ap limit_word (foldl-append (lower (λ y. before js y i) (certainly_ready_beside js σ i)) infinite l (j ∷ [])) ∙ one_more i (bound_over js σ i l)

      kept : (i : ℕ) (c : Bool) → min less (cond c (min (limit_word (bound_over js σ i l)) (certainly_ready_beside js σ i j)) (limit_word (bound_over js σ i l)))
          ≡ min less (cond c (min (limit_word (bound_over js σ i (take t list))) (certainly_ready_beside js σ i j)) (limit_word (bound_over js σ i (take t list))))
      kept i true = omega (arith, x.enough i)
      kept i false = omega (arith, x.enough i)

      left : less ≤ (job js j).latest_release → (i : ℕ) (c : Bool) → min less (limit_word (bound_over js σ i l))
          ≡ min less (cond c (min (limit_word (bound_over js σ i (take t list))) (certainly_ready_beside js σ i j)) (limit_word (bound_over js σ i (take t list))))
      left q i true = omega (arith, x.enough i, released_first js σ i j)
      left q i false = omega (arith, x.enough i)

      go : (c : Bool) → (c ≡ false → less ≤ (job js j).latest_release) → Holding js σ k less (take (t + 1) list) (cond c (take n ws ++ (w ∷ [])) (take n ws))
      go true q =
          record {
            holders =
                record {
                  jobs = l ++ (j ∷ []);
                  words = rw (x.holders.words, e, map_behind);
                  inside =
                      each_snoc (λ (y : ℕ). (y < k) × (certainly_ready js σ y < moments)) l j x.holders.inside
                      (inside, omega (arith, certainly_ready_up_to js latest_time longest_rest timed rests σ g j (omega (arith, inside, every_job))));
                };
            enough = λ i. ap (min less) (behind i) ∙ kept i (before js j i) ∙ ap (min less) (sym (longer i));
          }
      go false q = record { holders = x.holders; enough = λ i. left (q refl) i (before js j i) ∙ ap (min less) (sym (longer i)) }
