use Prim.Native.Nat.{◌-◌, ◌≤◌}
use Rattle.store.specs.internal.Half.{NoneMerges}
use Rattle.store.specs.internal.Chains.{FirstFrom, LastBefore}
use Rattle.store.specs.internal.Index.{bucket_at, Linked}
use Rattle.store.specs.declared.Index.{Index}
use Rattle.store.proofs.follow_links.Given as goal

-- the index itself is not at hand in the loop, so this is said of every one that links the states
abbrev pub invariant-loop-j : goal.invariant-loop-j
invariant-loop-j l = (l.j ≤ l.used) × NoneMerges l.m l.k l.half l.new l.j
    × ((index : Index) → Linked l.m l.k index l.half l.heads l.used → FirstFrom l.used (bucket_at index.buckets l.m l.k l.half) l.bucket 0 l.initial.j
    → LastBefore l.used (bucket_at index.buckets l.m l.k l.half) l.bucket l.j l.last)

abbrev pub decreases-loop-j : goal.decreases-loop-j
decreases-loop-j l = l.used - l.j
