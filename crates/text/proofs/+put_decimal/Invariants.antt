use Rattle.text.proofs.+put_decimal.Given as goal

-- what is passed on is a hundredth
abbrev pub decreases-put_decimal : goal.decreases-put_decimal
decreases-put_decimal l = l.n
