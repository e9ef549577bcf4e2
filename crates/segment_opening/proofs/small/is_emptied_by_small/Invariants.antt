use Rattle.outside.specs.Seen.{seen}
use Rattle.segment_head.specs.Heads.{IsPartOf, OfWhole}
use Rattle.segment_opening.proofs.LoadLemmas.{Loaded}
use Rattle.segment_opening.proofs.small.is_emptied_by_small.Given as goal

-- what was loaded for the conjuncts so far
abbrev pub invariant-conjuncts : goal.invariant-conjuncts
invariant-conjuncts g l = record {
  loaded : Loaded l.table l.fn.head l.head (seen g.S.Shelf l.fn.shelf) (seen g.S.Shelf l.shelf);
  part : OfWhole l.table (g.S.Shelf.held l.fn.shelf) l.fn.head (λ whole. IsPartOf whole l.head);
}
