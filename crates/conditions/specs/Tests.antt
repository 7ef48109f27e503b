-- The test of the code, in the terms of the rules. Assumes nothing.
use Rattle.rules.specs.Conditions as rules
use Rattle.conditions.specs.declared.Test.{Test}
use Rattle.conditions.specs.declared.Test.TheVariants.{Below, AtLeast, Equal, NotEqual}

-- document 01's four tests
unfoldable pub test_of : Test → rules.Test
test_of (Below k) = rules.below k
test_of (AtLeast k) = rules.at_least k
test_of (Equal k) = rules.equal k
test_of (NotEqual k) = rules.other k
