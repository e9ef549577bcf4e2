-- The least that a scan reads of the forward section of a column.
use Rattle.std.specs.Prelude.{◌≡◌, ◌+◌, ℕ, List, [], ◌∷◌}
use Rattle.std.specs.Option.{option_map_or}
use Rattle.outside.specs.Reads.{Entry, read_in}
use Rattle.values.specs.declared.test.Test.{Test}
use Rattle.table_schema.specs.declared.query.BoundQuery.{BoundQuery}
use Rattle.table_schema.specs.declared.query.Conjunct.TheVariants.{One}
use Rattle.table_schema.specs.declared.table.Table.{Table}
use Rattle.segment_head.specs.Heads.{Seen, place_in}
use Rattle.segment_file.specs.declared.part.Part.TheVariants.{Forward}
use Rattle.segment_plan.specs.Choices.{choice_of}
use Rattle.segment_plan.specs.declared.plans.IndexChoice.TheVariants.{Unindexed}

-- the query has exactly one conjunct, which names this column alone and has no index
pub record IsLookedThrough (query : BoundQuery) (table : Table) (head : Seen) (column : ℕ)
    : Type 0 where
  pub test : Test
  pub only : query.conjuncts ≡ One column test ∷ []
  pub unindexed : choice_of table.settings head (One column test) ≡ Unindexed

-- how many bytes the forward section of a column has
abbrev pub forward_length : Seen → ℕ → ℕ
forward_length head column = option_map_or (λ place. place.length)
    (place_in head.sections (Forward column)) 0

-- how many bytes of it reads gave
abbrev pub forward_bytes : Seen → ℕ → List Entry → ℕ
forward_bytes head column entries = option_map_or (λ place. read_in entries place.file place.offset
    (place.offset + place.length)) (place_in head.sections (Forward column)) 0
