-- Segments with a column of which no value satisfies the conjuncts on it.
use Rattle.std.specs.Prelude.{◌≡◌, true, [], Option}
use Rattle.outside.specs.Files.{Files}
use Rattle.table_schema.specs.declared.query.BoundQuery.{BoundQuery}
use Rattle.table_schema.specs.declared.query.Conjunct.{Conjunct}
use Rattle.table_schema.specs.declared.query.Conjunct.TheVariants.{One, Many}
use Rattle.table_schema.specs.declared.table.Table.{Table}
use Rattle.value_ids.specs.Ids.{matching}
use Rattle.segment_head.specs.Heads.{OfWhole, Seen}
use Rattle.segment_head.specs.Lookups.{OfColumn}
use Rattle.segment_plan.specs.Matched.{AreLoaded}
use Rattle.segment_plan.specs.Plan.{is_emptied}

-- the conjunct names one column alone, and none of its values satisfies it
abbrev pub MatchesNone : Conjunct → Seen → Type 0
MatchesNone (One column test) whole = OfColumn column (λ d. matching test d.values ≡ []) whole
MatchesNone (Many condition) whole = ⊥

-- by a head that has their dictionaries, a column that conjuncts name alone is left without a value
pub record LeavesNone (query : BoundQuery) (table : Table) (whole : Seen) : Type 0 where
  pub loaded : AreLoaded query.conjuncts whole
  pub emptied : is_emptied query.conjuncts table whole ≡ true

-- where files are told, the whole head is one of these
abbrev pub IsEmptied : BoundQuery → Table → Option Files → Seen → Type 0
IsEmptied query table held head = OfWhole table held head (LeavesNone query table)
