-- Checks in order, of which the first that fails is the fault, and the paths at which they fail.
use Rattle.std.specs.Prelude.{◌≡◌, ◌≢◌, Bool, if◌then◌else◌, ◌==◌, ℕ, ◌++◌, length, codes, decimal, Option, Some, None, Result, Ok, Err}
use Rattle.json_keys.specs.declared.fault.KeyKind.{KeyKind}
use Rattle.json_keys.specs.declared.fault.TextFault.{TextFault}
use Rattle.json_keys.specs.declared.fault.TextFault.TheVariants.{At, NoMemory}
use Rattle.table_schema.specs.Names.{Text}

-- what a check finds: no fault, or what is wrong and where
abbrev pub Finding : Type 0
Finding = Option TextFault

-- a key of the object that stands at `base`
abbrev pub below : Text → Text → Text
below base key = if length base == 0 then key else base ++ codes "." ++ key

-- a place, from 0, of the array that stands at `base`
abbrev pub at_place : Text → ℕ → Text
at_place base place = base ++ codes "[" ++ decimal place ++ codes "]"

-- a fault with its kind and path, where a test fails
abbrev pub fault_unless : Bool → KeyKind → Text → Finding
fault_unless passes kind path = if passes then None else Some (At kind path)

-- a fault with its kind and path, where something is so
abbrev pub fault_if : Bool → KeyKind → Text → Finding
fault_if fails kind path = if fails then Some (At kind path) else None

-- A call that was refused says what the checks found, unless memory ran out.
abbrev pub Refuses : Finding → TextFault → Type 0
Refuses finding fault = fault ≢ NoMemory → finding ≡ Some fault

-- what a call answers: the value where the checks find no fault, and else what they found
abbrev pub Gives : {A : Type 0} → Finding → A → Result A TextFault → Type 0
Gives finding value (Ok answer) = (finding ≡ None) × (answer ≡ value)
Gives finding value (Err fault) = Refuses finding fault

-- a check passes exactly where nothing was found, and fails with what was
abbrev pub Passes : Finding → Result (Unit {0}) TextFault → Type 0
Passes finding (Ok answer) = finding ≡ None
Passes finding (Err fault) = Refuses finding fault
