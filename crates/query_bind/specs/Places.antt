-- What the places in a bound query say: laws of the definition.
use Rattle.std.specs.Prelude.{◌≡◌, Bool, List, [], ◌∷◌, map, Option, Some, Ok, option_map}
use Rattle.std.specs.List.{slice_get}
use Rattle.values.specs.declared.value.Value.{Value}
use Rattle.values.specs.declared.value.Value.TheVariants as value
use Rattle.values.specs.declared.test.CompareOp.{CompareOp}
use Rattle.table_schema.specs.declared.field.Field.{Field}
use Rattle.table_schema.specs.declared.table.Table.{Table}
use Rattle.table_schema.specs.declared.query.Item.{Item}
use Rattle.table_schema.specs.declared.query.Item.TheVariants as item
use Rattle.table_schema.specs.declared.query.Having.{Having}
use Rattle.table_schema.specs.declared.query.Having.TheOpen.{Having-F}
use Rattle.table_schema.specs.declared.query.Having.TheFolds.{fold-Having}
use Rattle.query_tokens.specs.declared.tree.HavingCond.{HavingCond}
use Rattle.query_tokens.specs.declared.tree.HavingCond.TheOpen.{HavingCond-F}
use Rattle.query_tokens.specs.declared.tree.HavingCond.TheFolds.{fold-HavingCond}
use Rattle.query_tokens.specs.declared.tree.Query.{Query}
use Rattle.query_bind.specs.declared.terms.Meaning.{Meaning}
use Rattle.query_bind.specs.declared.terms.Meaning.TheVariants as meaning
use Rattle.query_bind.specs.Names.{term_of}
use Rattle.query_bind.specs.Terms.{meaning_of}
use Rattle.query_bind.specs.Bound.{Bound, bound}

-- the column or the aggregate at a place, if there is one
abbrev pub at_place : Bound → Item → Option Meaning
at_place b (item.Group place) = option_map meaning.Column (slice_get b.groups place)
at_place b (item.Agg place) = option_map meaning.Agg (slice_get b.aggs place)

-- what every bound query has
abbrev pub OfBound : (Table → Query → Bound → Type 0) → Type 0
OfBound Has = (table : Table) (any_table : Bool) (q : Query) (b : Bound)
    → bound table any_table q ≡ Ok b → Has table q b

-- at the place of each item is what its term is
abbrev pub ItemsAreTerms : Type 0
ItemsAreTerms = OfBound (λ table q b. map (at_place b) b.items
    ≡ map (λ i. Some (meaning_of table.schema.fields i.term)) q.items)

-- and at the place of each key what the key stands for
abbrev pub KeysAreTerms : Type 0
KeysAreTerms = OfBound (λ table q b. map (λ k. at_place b k.item) b.order
    ≡ map (λ k. Some (meaning_of table.schema.fields (term_of q.items k.term))) q.order)

-- ---- HAVING

-- A condition on a group by what it tests: a column or an aggregate, `None` where a place has none.
mutual
  pub data Asks : Type 0 where
    Test : Option Meaning → CompareOp → Value → Asks
    Not : Asks → Asks
    All : AsksEach → Asks
    Any : AsksEach → Asks

  -- the members of one AND or OR
  pub data AsksEach : Type 0 where
    no_more : AsksEach
    more : Asks → AsksEach → AsksEach

-- a list of conditions as the members of one AND or OR
abbrev pub each_of : List Asks → AsksEach
each_of [] = no_more
each_of (a ∷ rest) = more a (each_of rest)

-- one condition as it is written, with numbers of fields in place of names
abbrev pub written_step : List Field → HavingCond-F Asks → Asks
written_step fields (HavingCond-F.Compare tested op literal) = Test
    (Some (meaning_of fields tested)) op literal.value
written_step fields (HavingCond-F.Not inner) = Not inner
written_step fields (HavingCond-F.All inner) = All (each_of inner)
written_step fields (HavingCond-F.Any inner) = Any (each_of inner)

-- what a written condition asks of a group
abbrev pub asks_written : List Field → HavingCond → Asks
asks_written fields = fold-HavingCond Asks (written_step fields)

-- one bound condition, with what stands at each place
abbrev pub placed_step : Bound → Having-F Asks → Asks
placed_step b (Having-F.Group place op v) = Test (at_place b (item.Group place)) op v
placed_step b (Having-F.Agg place op number) = Test
    (at_place b (item.Agg place)) op (value.Whole number)
placed_step b (Having-F.Not inner) = Not inner
placed_step b (Having-F.All inner) = All (each_of inner)
placed_step b (Having-F.Any inner) = Any (each_of inner)

-- what a bound condition asks of a group
abbrev pub asks_at : Bound → Having → Asks
asks_at b = fold-Having Asks (placed_step b)

-- HAVING asks what is written: each test is of the term that is written, by that comparison and
-- with that literal, and the tests are joined as they are written
abbrev pub HavingAsksWritten : Type 0
HavingAsksWritten = OfBound (λ table q b. option_map (asks_at b) b.having
    ≡ option_map (asks_written table.schema.fields) q.having)
