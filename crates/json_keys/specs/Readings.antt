-- What a text in JSON is read as, or the first check that it fails.
use Rattle.std.specs.Prelude.{[], Option, Some, None, Result, Ok, Err}
use Rattle.serde_json.specs.Data.{Data}
use Rattle.json_keys.specs.declared.fault.KeyKind.TheVariants.{NotJson}
use Rattle.json_keys.specs.declared.fault.TextFault.{TextFault}
use Rattle.json_keys.specs.declared.fault.TextFault.TheVariants.{At}
use Rattle.json_keys.specs.Faults.{Finding}

-- the value where the checks find no fault, and else the fault
abbrev pub answer : {A : Type 0} → Finding → A → Result A TextFault
answer None value = Ok value
answer (Some fault) value = Err fault

-- what a text is read as, where its value in JSON passes the checks
abbrev pub read_by : {A : Type 0} → (Data → Finding) → (Data → A) → Option Data → Result A TextFault
read_by check value None = Err (At NotJson [])
read_by check value (Some d) = answer (check d) (value d)
