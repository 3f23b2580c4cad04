-- The file begins after three pairs of bytes.
use Rattle.std.proofs.Common.{arith, ℕ, ◌+◌, ◌≡◌, List}
use Rattle.std.proofs.Math.ListN.{drop}
use Rattle.std.proofs.lemmas.List.{drop-drop}
use Rattle.printing.proofs.next_example.Goals as goal

past : (n : ℕ) (input a b c : List ℕ) → a ≡ drop n input → b ≡ drop n a → drop n b ≡ c → drop (n + n + n) input ≡ c
past n input a b c e f g = cc (drop-drop n n input, drop-drop n (n + n) input)

pub returns : goal.returns
returns c = (omega (arith, c.in_ok-first.ensures.0, c.in_ok-second.ensures.0, c.in_ok-file.ensures.0), past 2 c.args.input.now c.in_ok-first.rest.now c.in_ok-second.rest.now _ c.in_ok-first.ensures.1 c.in_ok-second.ensures.1 c.in_ok-file.ensures.1)
