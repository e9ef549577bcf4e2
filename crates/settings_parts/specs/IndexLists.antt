-- The lists under `tableIndexConfig`, as its keys have them.
use Rattle.std.specs.Prelude.{◌≡◌, List, map}
use Rattle.serde_json.specs.Data.{Data}
use Rattle.serde_json.specs.View.{view}
use Rattle.table_schema.specs.declared.field.Field.{Field}
use Rattle.json_keys.specs.Keys.{items_at}
use Rattle.settings_parts.specs.Indexes.{INVERTED_KEY, RANGE_KEY, RAW_KEY}
use Rattle.settings_parts.specs.Trees.{trees_of}
use Rattle.settings_parts.specs.declared.index_text.IndexKeys.{IndexKeys}

-- these are the columns and the trees that the keys of an object list
pub record AreIndexLists (fields : List Field) (object : Data) (keys : IndexKeys) : Type 0 where
  pub inverted : map view keys.inverted.now ≡ items_at INVERTED_KEY object
  pub ranged : map view keys.ranged.now ≡ items_at RANGE_KEY object
  pub raw : map view keys.raw.now ≡ items_at RAW_KEY object
  pub trees : keys.trees ≡ trees_of fields object
