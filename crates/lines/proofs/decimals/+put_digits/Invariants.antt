-- The measure of `lines::decimals::put_digits`, which calls itself on a tenth. Assumes nothing.
use Rattle.lines.proofs.decimals.+put_digits.Given as goal

abbrev pub decreases-put_digits : goal.decreases-put_digits
decreases-put_digits l = l.n
