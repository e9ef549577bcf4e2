-- A store is made, or opened.
use Rattle.std.specs.Prelude.{◌≡◌, ℕ, List, Ok, Err}
use Rattle.std.specs.FinMap as map
use Rattle.outside.specs.Seen.{OnlyReads, Seen}
use Rattle.json_keys.specs.declared.fault.TextFault.TheVariants.{At}
use Rattle.schema_json.specs.Schemas.{schema_read}
use Rattle.settings_json.specs.TableTexts.{settings_read}
use Rattle.table_schema.specs.declared.field.Schema.{Schema}
use Rattle.table_store.specs.Accepted.{IsAccepted}
use Rattle.table_store.specs.Calls.{OnlyPublishes}
use Rattle.table_store.specs.State.{HasTable, NoTable, Segments, Texts}
use Rattle.table_store.specs.TableFile.{FitsTable}
use Rattle.table_store.specs.declared.fault.StoreFault.TheVariants as store
use Rattle.embedded.specs.Faults.{IsOutside}
use Rattle.embedded.specs.Stores.{IsState, Keeps, SeenStore}
use Rattle.embedded.specs.declared.fault.Fault.{Fault}
use Rattle.embedded.specs.declared.fault.Fault.TheVariants.{BadSchema, BadSettings, Store, TooLong}

-- the texts of a table
abbrev pub texts_of : List ℕ → List ℕ → Texts
texts_of schema settings = record { schema = schema; settings = settings }

-- why texts make no table
abbrev pub WhyNoTable : Texts → Fault → Type 0
WhyNoTable texts (BadSchema kind path) = schema_read texts.schema ≡ Err (At kind path)
WhyNoTable texts (BadSettings kind path) = (schema : Schema)
    × (schema_read texts.schema ≡ Ok schema)
    × (settings_read schema.fields texts.settings ≡ Err (At kind path))
WhyNoTable texts (TooLong most) = ¬ FitsTable texts
WhyNoTable texts (Store store.NoMemory) = Unit {0}
WhyNoTable texts other = ⊥

-- why a store is not made of texts in a depot
abbrev pub WhyNotMade : Texts → Seen → Fault → Type 0
WhyNotMade texts depot (Store store.TableExists) = ¬ IsState depot NoTable
WhyNotMade texts depot (Store store.ReadFault) = Unit {0}
WhyNotMade texts depot (Store store.WriteFault) = Unit {0}
WhyNotMade texts depot other = WhyNoTable texts other

-- a store of these texts was made in a depot: where that had no table, it has no segment
pub record IsMade (texts : Texts) (old : Seen) (new : SeenStore) : Type 0 where
  pub table : IsAccepted texts new.table
  pub keeps : IsState old NoTable → Keeps new map.empty
  pub leaves : OnlyPublishes ⊥ ⊥ old new.depot

-- none was made, and the files are as they were
pub record IsNotMade (texts : Texts) (old new : Seen) (why : Fault) : Type 0 where
  pub cause : WhyNotMade texts old why
  pub kept : new.held ≡ old.held
  pub leaves : OnlyPublishes (why ≡ Store store.ReadFault) (why ≡ Store store.WriteFault) old new

-- a depot has no table, as far as it tells
abbrev pub LacksTable : Seen → Type 0
LacksTable depot = (texts : Texts) (segments : Segments) → ¬ IsState depot (HasTable texts segments)

-- why a store is not opened
abbrev pub WhyNotOpened : Seen → Fault → Type 0
WhyNotOpened depot (Store store.NoTable) = LacksTable depot
WhyNotOpened depot (Store (store.NotASegment part)) = LacksTable depot
WhyNotOpened depot (Store store.ReadFault) = Unit {0}
WhyNotOpened depot (Store store.NoMemory) = Unit {0}
WhyNotOpened depot other = ⊥

-- a store was opened: it has the segments that its depot has
pub record IsOpened (old : Seen) (new : SeenStore) : Type 0 where
  pub keeps : (texts : Texts) (segments : Segments) → IsState old (HasTable texts segments)
      → Keeps new segments
  pub leaves : OnlyReads ⊥ old new.depot

-- none was opened
pub record IsNotOpened (old new : Seen) (why : Fault) : Type 0 where
  pub cause : WhyNotOpened old why
  pub leaves : OnlyReads (why ≡ Store store.ReadFault) old new
