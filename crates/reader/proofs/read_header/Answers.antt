-- Each way out is a case of `header_of`.
use mathlib.Core.Path.{◌≡◌, sym, ap, ◌∙◌}
use Prim.Native.Nat.{◌-◌}
use mathlib.Core.Bool.{true}
use lib.ListN.{length}
use Rattle.model.specs.Limits.{most_cores}
use Rattle.format.specs.Bytes.{number, within}
use Rattle.format.specs.Layout.{is_version, byte_count_at, uncounted_bytes, cores_at}
use Rattle.format.proofs.Versions.{versions_are}
use Rattle.records.specs.internal.Answers.{reading_of}
use Rattle.reader.proofs.FileReading.{empty, bad_version, no_header, bad_bytes, no_cores, bad_cores, header_read}
use Rattle.reader.proofs.read_header.Goals as goal
use Rattle.reader.proofs.read_header.Goals.{After-is_within, After-is_within-2, Else-count-file, Else-not-is_within}

-- the test of its version
version_tested : (c : After-is_within) → c.is_within.result ≡ is_version (number 1 0 c.args.file.now)
version_tested c =
    c.is_within.ensures ∙ ap (within 1 3) c.byte.ensures.0 ∙ sym (versions_are (number 1 0 c.args.file.now))

versioned : (c : Else-not-is_within) → is_version (number 1 0 c.args.file.now) ≡ true
versioned c = sym (c.is_within.ensures ∙ ap (within 1 3) c.byte.ensures.0 ∙ sym (versions_are (number 1 0 c.args.file.now))) ∙ c.if-not-is_within.false

-- its count is that of its bytes
measured : (c : Else-count-file) → let s = c.args.file.now in number 4 byte_count_at s ≡ length s - uncounted_bytes
measured c = sym c.be_32-count.ensures ∙ c.if-count-file.false

-- the test of its cores
cores_tested : (c : After-is_within-2) → c.is_within-2.result ≡ within 1 most_cores (number 1 cores_at c.args.file.now)
cores_tested c = c.is_within-2.ensures ∙ ap (within 1 most_cores) c.byte-2.ensures.0

pub returns-then-file-lt1 : goal.returns-then-file-lt1
returns-then-file-lt1 c = c.refuse.ensures ∙ ap reading_of (sym (empty c.args.file.now c.if-file-lt1.true))

pub returns-then-not-is_within : goal.returns-then-not-is_within
returns-then-not-is_within c = let wrong = sym (version_tested (goal.at.returns-then-not-is_within c).After-is_within) ∙ c.if-not-is_within.true in
    c.refuse-then-not-is_within.ensures ∙ ap reading_of (sym (bad_version c.args.file.now c.if-file-lt1.false wrong))

pub returns-then-file-lt-UNCOUNTED_BYTES : goal.returns-then-file-lt-UNCOUNTED_BYTES
returns-then-file-lt-UNCOUNTED_BYTES c = c.refuse-then-file-lt-UNCOUNTED_BYTES.ensures ∙ ap reading_of (sym (no_header c.args.file.now c.if-file-lt1.false (versioned (goal.at.returns-then-file-lt-UNCOUNTED_BYTES c).Else-not-is_within) c.if-file-lt-UNCOUNTED_BYTES.true))

pub returns-then-count-file : goal.returns-then-count-file
returns-then-count-file c = c.refuse-then-count-file.ensures ∙ ap reading_of (sym (bad_bytes c.args.file.now c.if-file-lt1.false (versioned (goal.at.returns-then-count-file c).Else-not-is_within) c.if-file-lt-UNCOUNTED_BYTES.false (λ e. c.if-count-file.true (c.be_32-count.ensures ∙ e))))

pub returns-then-file-le-CORES_AT : goal.returns-then-file-le-CORES_AT
returns-then-file-le-CORES_AT c = c.refuse-then-file-le-CORES_AT.ensures ∙ ap reading_of (sym (no_cores c.args.file.now c.if-file-lt1.false (versioned (goal.at.returns-then-file-le-CORES_AT c).Else-not-is_within) c.if-file-lt-UNCOUNTED_BYTES.false (measured (goal.at.returns-then-file-le-CORES_AT c).Else-count-file) c.if-file-le-CORES_AT.true))

pub returns-then-not-is_within-2 : goal.returns-then-not-is_within-2
returns-then-not-is_within-2 c = let wrong = sym (cores_tested (goal.at.returns-then-not-is_within-2 c).After-is_within-2) ∙ c.if-not-is_within-2.true in
    c.refuse-then-not-is_within-2.ensures ∙ ap reading_of (sym (bad_cores c.args.file.now c.if-file-lt1.false (versioned (goal.at.returns-then-not-is_within-2 c).Else-not-is_within) c.if-file-lt-UNCOUNTED_BYTES.false (measured (goal.at.returns-then-not-is_within-2 c).Else-count-file) c.if-file-le-CORES_AT.false wrong))

pub returns : goal.returns
returns c = let right = sym (cores_tested (goal.at.returns c).After-is_within-2) ∙ c.if-not-is_within-2.false in
    ap reading_of (sym (header_read c.args.file.now c.if-file-lt1.false (versioned (goal.at.returns c).Else-not-is_within) c.if-file-lt-UNCOUNTED_BYTES.false (measured (goal.at.returns c).Else-count-file) c.if-file-le-CORES_AT.false right))
