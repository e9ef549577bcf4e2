-- Checks in order, of which the first that fails is the fault, and the places of a query's text at
-- which they fail.
use Rattle.std.specs.Prelude.{◌≡◌, ◌≢◌, ℕ, Bool, if◌then◌else◌, Option, Some, None, Result, Ok, Err}
use Rattle.query_bind.specs.declared.fault.BindReason.{BindReason}
use Rattle.query_bind.specs.declared.fault.BindFault.{BindFault}
use Rattle.query_bind.specs.declared.fault.BindFault.TheVariants.{At, NoMemory}

-- what a check finds: no fault, or which and where
abbrev pub Finding : Type 0
Finding = Option BindFault

-- a fault with its reason and place, where a test fails
abbrev pub fault_unless : Bool → BindReason → ℕ → Finding
fault_unless passes reason place = if passes then None else Some (At reason place)

-- a fault with its reason and place, where something is so
abbrev pub fault_if : Bool → BindReason → ℕ → Finding
fault_if fails reason place = if fails then Some (At reason place) else None

-- what a check answers that takes no memory
abbrev pub Passes : Finding → Result (Unit {0}) BindFault → Type 0
Passes finding (Ok answer) = finding ≡ None
Passes finding (Err fault) = finding ≡ Some fault

-- what a call answers that takes no memory: the value where the check finds no fault
abbrev pub Resolves : {A : Type 0} → Finding → A → Result A BindFault → Type 0
Resolves finding value (Ok answer) = (finding ≡ None) × (answer ≡ value)
Resolves finding value (Err fault) = finding ≡ Some fault

-- what a call answers: the value where the checks find no fault, else what they found, unless
-- memory ran out
abbrev pub Gives : {A : Type 0} → Finding → A → Result A BindFault → Type 0
Gives finding value (Ok answer) = (finding ≡ None) × (answer ≡ value)
Gives finding value (Err fault) = fault ≢ NoMemory → finding ≡ Some fault
