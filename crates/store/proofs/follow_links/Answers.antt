-- `store::follow_links`: no linked state before j merges with the new one.
use Prim.Native.Nat.{ℕ, suc, ◌+◌, ◌*◌, ◌-◌}
use mathlib.Core.Path.{◌≡◌, sym, ap, ◌∙◌, subst}
use native.Mathlib.Omega.{arith}
use borrow.Author.Count.{below_more}
use Rattle.model.specs.Exploration.{mergeable, state_words}
use Rattle.states.specs.internal.Slots.{set_of, state_of, slot_of}
use Rattle.store.specs.internal.Chains.{FirstFrom, LastBefore}
use Rattle.store.specs.internal.Index.{bucket_of, bucket_at}
use Rattle.store.proofs.Indexing.{none_merges, next_one, last_one, last_is_one}
use Rattle.store.proofs.follow_links.Goals as goal
use Rattle.store.proofs.follow_links.Goals.{After-can_merge, After-first_of-j, After-next_of-j, At-loop-j}

-- the bucket of the new state
bucket : (c : After-first_of-j) → c.bucket_of-bucket.result ≡ bucket_of c.args.index.buckets (set_of c.args.new.now)
bucket c = c.bucket_of-bucket.ensures ∙ ap (bucket_of c.args.index.buckets) c.started_set-set.ensures

-- the last of the bucket before the state that is looked at
last : (c : At-loop-j)
    → LastBefore c.args.used (bucket_at c.args.index.buckets c.args.m c.args.k c.args.half.now) c.bucket_of-bucket.result c.loop-j.j c.loop-j.last
last c = c.loop-j.invariant.2 c.args.index c.requires.m_le_most_cores.6 c.first_of-j.ensures

tested : (c : After-can_merge)
    → c.can_merge.result ≡ mergeable (state_of c.args.m c.args.k (slot_of c.args.m c.args.k c.args.half.now c.loop-j.j)) (state_of c.args.m c.args.k c.args.new.now)
tested c =
    let j = c.loop-j.j in
    let W = state_words c.args.m c.args.k in
    let p : j * W + W - j * W ≡ W = omega arith in
    rw (c.state_words-w.ensures, p) at c.can_merge.ensures

-- the buckets of the linked states
abbrev buckets_next : After-next_of-j → ℕ → ℕ
buckets_next c = bucket_at c.args.index.buckets c.args.m c.args.k c.args.half.now

-- the state that was tested is of the bucket
of_bucket : (c : After-next_of-j) → buckets_next c c.loop-j.j ≡ c.bucket_of-bucket.result
of_bucket c = last_is_one c.args.used (buckets_next c) c.bucket_of-bucket.result c.loop-j.j c.loop-j.last (c.loop-j.invariant.2 c.args.index c.requires.m_le_most_cores.6 c.first_of-j.ensures) c.loop-j-test.true

-- the next one of the bucket
next : (c : After-next_of-j) → FirstFrom c.args.used (buckets_next c) c.bucket_of-bucket.result (suc c.loop-j.j) c.next_of-j.result
next c =
    next_one c.requires.m_le_most_cores.6 c.bucket_of-bucket.result c.loop-j.j c.next_of-j.result c.next_of-j.ensures c.loop-j-test.true (of_bucket c)

pub loop-j-init : goal.loop-j-init
loop-j-init c = let f = c.first_of-j in (
  f.ensures.inside,
  none_merges c.args.m c.args.k c.args.half.now c.args.new.now c.args.used c.requires.k_in_bounds.1 c.requires.k_in_bounds.2 c.args.index.buckets 0 f.result
      (rw (bucket c) at f.ensures) (λ j h. absurd (omega (arith, h))),
  λ index linked first. first,
)

pub loop-j-preserved : goal.loop-j-preserved
loop-j-preserved c = let j = c.loop-j.j in
    let h = c.loop-j-test.true in
    let r = c.next_of-j in (
      (next c).inside,
      none_merges c.args.m c.args.k c.args.half.now c.args.new.now c.args.used c.requires.k_in_bounds.1 c.requires.k_in_bounds.2 c.args.index.buckets (suc j) r.result
          (subst (λ (z : ℕ). FirstFrom c.args.used (buckets_next c) z (suc j) r.result) (bucket (goal.at.loop-j-preserved c).After-first_of-j) (next c))
          (λ i g. below_more _ _ c.loop-j.invariant.1 (sym (tested (goal.at.loop-j-preserved c).After-can_merge) ∙ c.if-can_merge.false) i (omega (arith, g))),
      λ index linked first.
          last_one linked c.bucket_of-bucket.result j r.result r.ensures h (last_is_one c.args.used (bucket_at index.buckets c.args.m c.args.k c.args.half.now) c.bucket_of-bucket.result j c.loop-j.last (c.loop-j.invariant.2 index linked first) h),
    )

pub returns : goal.returns
returns c = let e : c.loop-j.j ≡ c.args.used = omega arith in
    record {
      bucket = bucket (goal.at.returns c).After-first_of-j;
      merging = rw e at c.loop-j.invariant.1;
      last = λ n. rw e at (last (goal.at.returns c).At-loop-j);
    }
