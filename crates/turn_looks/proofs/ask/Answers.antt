-- `turn_looks::ask` meets its contract. Assumes nothing.
use borrow.Author.Rules.{rules}
use Rattle.elements.specs.Answers.{given}
use Rattle.queue.specs.Looks.{runs_of, spot_of}
use Rattle.rules.specs.Asks.{answered, count, element, ranges, spot, truth}
use Rattle.turn_looks.proofs.Known.{told_by}
use Rattle.turn_looks.proofs.ask.Goals as goal

pub returns-in-Get : goal.returns-in-Get
unfolding answered
returns-in-Get c =
    rw c.in-Get.is (told_by given element (λ x y h. search rules) _ _ _
    c.map.ensures.cases c.get.ensures)

pub returns-in-Front : goal.returns-in-Front
unfolding answered
returns-in-Front c =
    rw c.in-Front.is (told_by given element (λ x y h. search rules) _ _ _
    c.map-in-Front.ensures.cases c.front.ensures)

pub returns-in-Back : goal.returns-in-Back
unfolding answered
returns-in-Back c =
    rw c.in-Back.is (told_by given element (λ x y h. search rules) _ _ _
    c.map-in-Back.ensures.cases c.back.ensures)

pub returns-in-Contains : goal.returns-in-Contains
unfolding answered
returns-in-Contains c =
    rw c.in-Contains.is (told_by (λ t. t) truth (λ x y h. search rules) _ _ _
    c.map-in-Contains.ensures.cases c.contains.ensures)

pub returns-in-SliceRanges : goal.returns-in-SliceRanges
unfolding answered
returns-in-SliceRanges c =
    rw c.in-SliceRanges.is (told_by runs_of ranges (λ x y h. search rules) _ _ _
    c.map-in-SliceRanges.ensures.cases c.slice_ranges.ensures)

pub returns-in-BinarySearch : goal.returns-in-BinarySearch
unfolding answered
returns-in-BinarySearch c =
    rw c.in-BinarySearch.is (told_by spot_of spot (λ x y h. search rules) _ _ _
    c.map-in-BinarySearch.ensures.cases c.binary_search.ensures)

pub returns-in-PartitionPoint : goal.returns-in-PartitionPoint
unfolding answered
returns-in-PartitionPoint c =
    rw c.in-PartitionPoint.is (told_by (λ n. n) count (λ x y h. search rules) _ _ _
    c.map-in-PartitionPoint.ensures.cases c.partition_point.ensures)
