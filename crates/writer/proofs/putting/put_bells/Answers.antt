-- The records of the first i bells are in their places.
use Prim.Native.Nat.{◌+◌, ◌-◌, ◌*◌, ◌≤◌}
use mathlib.Core.Path.{◌≡◌, refl, sym, ap, ◌∙◌}
use native.Mathlib.Omega.{arith}
use lib.ListN.{length}
use borrow.Rule.Slice.PartMut.{put_mid, same_len_mid}
use Rattle.words.proofs.Parts.{part_length}
use Rattle.format.specs.Bytes.{records}
use Rattle.format.specs.Layout.{bell_bytes}
use Rattle.format.specs.Writing.{bell_file}
use Rattle.fields.specs.internal.Layouts.{layout_of}
use Rattle.rows.specs.BellRow.{bell_words}
use Rattle.rows.specs.PhraseTable.{bell_rows_at}
use Rattle.writer.proofs.PutRecords.{put_none, put_all}
use Rattle.writer.proofs.PutBells.{bells, bells_count, bell_fits, bell_put_holds, bell_next, bell_within}
use borrow.Author.Rules.{rules}
use Rattle.writer.proofs.putting.put_bells.Goals as goal
use Rattle.writer.proofs.putting.put_bells.Goals.{At-loop-i, In-loop-i}

-- the bytes of a record, as the code has them
wide : (c : At-loop-i) → c.bell_bytes-width.result ≡ bell_bytes (layout_of c.args.l)
wide c = c.bell_bytes-width.ensures

room : (c : In-loop-i) → c.loop-i.at + c.bell_bytes-width.result ≤ length c.loop-i.file
room c =
    omega (
      arith,
      c.bell_bytes-width.ensures,
      c.loop-i.invariant.0,
      c.loop-i.invariant.1,
      c.requires.2,
      bell_within c.args.phrase.now c.args.n (layout_of c.args.l) c.requires.3 c.loop-i.i c.loop-i-test.true c.args.start,
    )

pub loop-i-init : goal.loop-i-init
unfolding records
loop-i-init c = let a = c.args in
    (refl, omega arith, sym (put_none (bell_file (layout_of a.l)) (bells a.phrase.now a.n) a.start a.file.now))

pub overflow_add-end : goal.overflow_add-end
overflow_add-end c = omega (arith, room c)

pub slice_bounds-put_bell-end-in-loop-i : goal.slice_bounds-put_bell-end-in-loop-i
slice_bounds-put_bell-end-in-loop-i c = omega (arith, room (goal.at.slice_bounds-put_bell-end-in-loop-i c).In-loop-i)

pub put_bell-requires : goal.put_bell-requires
put_bell-requires c = let v = c.loop-i in
    let from = bell_rows_at + v.i * bell_words in
    let k = v.at + c.bell_bytes-width.result - v.at in
    let same : k ≡ bell_bytes (layout_of c.args.l) = omega (arith, wide (goal.at.put_bell-requires c).At-loop-i) in (
      search rules,
      part_length v.at k v.file (omega (arith, room (goal.at.put_bell-requires c).In-loop-i)) ∙ same,
      bell_fits c.args.phrase.now c.args.n (layout_of c.args.l) c.requires.3 v.i c.loop-i-test.true (from + bell_words - from) (omega arith),
    )

pub loop-i-preserved : goal.loop-i-preserved
loop-i-preserved c = let v = c.loop-i in
    let f = c.requires.3 in
    let phrase = c.args.phrase.now in
    let n = c.args.n in
    let h = c.loop-i-test.true in
    let from = bell_rows_at + v.i * bell_words in
    let m = from + bell_words - from in
    let k = v.at + c.bell_bytes-width.result - v.at in
    let ws = c.put_bell.new.part in (
      same_len_mid v.at k v.file ws c.put_bell.auto.part ∙ v.invariant.0,
      omega (arith, wide (goal.at.loop-i-preserved c).At-loop-i, v.invariant.1, bell_next phrase n (layout_of c.args.l) f v.i h c.args.start),
      ap (λ was. put_mid v.at k was ws) v.invariant.2
          ∙ bell_put_holds phrase n (layout_of c.args.l) f v.i h m (omega arith) c.args.start c.args.file.now (omega arith) v.at k v.invariant.1
          (omega (arith, wide (goal.at.loop-i-preserved c).At-loop-i)) ws c.put_bell.ensures,
    )

pub returns : goal.returns
returns c = let a = c.args in
    let bs = bells a.phrase.now a.n in
    let last : length bs ≤ c.loop-i.i = omega (arith, bells_count a.phrase.now a.n) in
    c.loop-i.invariant.2 ∙ put_all (bell_file (layout_of c.args.l)) bs a.start a.file.now c.loop-i.i last
