-- A test by its kind. Assumes nothing.
use Rattle.std.proofs.Math.Option as maybe
use Rattle.std.specs.Prelude.{ℕ, ◌==◌, if◌then◌else◌, Option, None, Some}
use Rattle.conditions.specs.Tests.{test_of}
use Rattle.conditions.specs.declared.Test.{Test as Asking}
use Rattle.rules.specs.Conditions.{Test, below, at_least, equal, other}

-- 1 below k, 2 at least k, 3 equal to k, 4 not equal to k; there is no other
unfoldable pub test_in : ℕ → ℕ → maybe.Option Test
test_in kind k =
    if kind == 1 then maybe.some (below k)
    else if kind == 2 then maybe.some (at_least k)
    else if kind == 3 then maybe.some (equal k)
    else if kind == 4 then maybe.some (other k)
    else maybe.none

-- the code's
abbrev pub of_asked : Option Asking → maybe.Option Test
of_asked (Some t) = maybe.some (test_of t)
of_asked None = maybe.none
