use Rattle.std.proofs.Common.{◌≡◌, map, get_or, take}
use Rattle.star_rows.specs.Words.{row_in}
use Rattle.star_records.proofs.blocks.column_at.Given as goal

abbrev pub invariant-loop-word : goal.invariant-loop-word
invariant-loop-word g l = (d : g.row.T.Denot) → l.items.items
    ≡ map (λ word. get_or l.column (row_in word) d) (take l.word-index l.words)
