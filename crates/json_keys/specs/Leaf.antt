-- The leaf size of a star-tree.
use Rattle.std.specs.Prelude.{ℕ, Bool, false, ◌==◌, nat_le, codes, Option, Some, None, option_and_then, unwrap_or, if◌then◌else◌}
use Rattle.serde_json.specs.Data.{Data}
use Rattle.serde_json.specs.Find.{as_number, as_u64}
use Rattle.json_keys.specs.declared.fault.KeyKind.TheVariants.{WrongKind}
use Rattle.table_schema.specs.Names.{Text}
use Rattle.json_keys.specs.Json.{key_of}
use Rattle.json_keys.specs.Faults.{Finding, below, fault_unless}
use Rattle.json_keys.specs.Keys.{optional}

-- there is a number, and it is at most the greatest INT
abbrev pub leaf_in_range : Option ℕ → Bool
leaf_in_range None = false
leaf_in_range (Some n) = nat_le n 2147483647

-- the whole number from 0 on that a JSON value is, if it is one
abbrev pub count_of : Data → Option ℕ
count_of d = option_and_then as_u64 (as_number d)

-- the key of the most documents that a leaf of the tree has
abbrev pub LEAF_KEY : Text
LEAF_KEY = codes "maxLeafRecords"

-- where the key is there, it has a number in that range
abbrev pub leaf_finding : Text → Data → Finding
leaf_finding base d = optional (λ v. fault_unless (leaf_in_range (count_of v)) WrongKind
    (below base LEAF_KEY)) (key_of LEAF_KEY d)

-- 0 means the usual size
abbrev pub leaf_size : ℕ → ℕ
leaf_size n = if n == 0 then 10000 else n

-- the leaf size of a tree, the usual one where the key is absent
abbrev pub leaf_of : Data → ℕ
leaf_of d = leaf_size (unwrap_or (option_and_then count_of (key_of LEAF_KEY d)) 0)
