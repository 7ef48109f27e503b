-- What a look saw, in the terms of the rules. Assumes nothing.
use Rattle.std.proofs.Math.Option as maybe
use Rattle.std.specs.Prelude.{Option, None, Some}
use Rattle.rules.specs.Asks as rules
use Rattle.queue.specs.Looks.{order_of, spot_of, runs_of}
use Rattle.elements.specs.Answers.{given}
use Rattle.answers.specs.declared.sights.Sight.{Sight}
use Rattle.answers.specs.declared.sights.Sight.TheVariants.{Element, Truth, Ordered, Spot, Count, Ranges}

-- what was seen
abbrev pub of_sight : Sight → rules.Sight
of_sight (Element v) = rules.element (given v)
of_sight (Truth t) = rules.truth t
of_sight (Ordered o) = rules.ordered (order_of o)
of_sight (Spot p) = rules.spot (spot_of p)
of_sight (Count n) = rules.count n
of_sight (Ranges r) = rules.ranges (runs_of r)

-- the same, if there was a look and it was not refused
abbrev pub seen_of : Option Sight → maybe.Option rules.Sight
seen_of (Some s) = maybe.some (of_sight s)
seen_of None = maybe.none
