-- The devices that a command can reach, as what they tell of themselves.
use Rattle.std.specs.Prelude.{◌≡◌, ◌≢◌, ℕ, List, [], ◌∷◌, Option, None, IsSomeAnd, MatchOption}
use Rattle.std.specs.FinMap as map
use Rattle.outside.specs.Files.{Files}
use Rattle.outside.specs.Seen.{Heard, Seen, heard, seen}
use Rattle.outside.specs.declared.shelf.Shelf as shelf
use Rattle.outside.specs.declared.sink.Sink as sink

-- the input files and the store
pub record Devices : Type 0 where
  pub inputs : Seen
  pub depot : Seen

-- all that a command can reach, and what is kept beside it from one command to the next
pub record Stage (K : Type 0) : Type 0 where
  pub devices : Devices
  pub out : Heard
  pub notes : Heard
  pub kept : K

-- where nothing is kept beside the store
abbrev pub World : Type 0
World = Stage (Unit {0})

-- the same with this kept beside it
abbrev pub beside : {A B : Type 0} → B → Stage A → Stage B
beside kept stage = record {
  devices = stage.devices;
  out = stage.out;
  notes = stage.notes;
  kept = kept;
}

-- the devices, through the members of their traits
abbrev pub devices : {A B : Type 0} → shelf.Ghosts A → shelf.Ghosts B → A → B → Devices
devices I D inputs depot = record { inputs = seen I inputs; depot = seen D depot }

-- and the streams too
abbrev pub world : {A B C E : Type 0} → shelf.Ghosts A → shelf.Ghosts B → sink.Ghosts C
    → sink.Ghosts E → A → B → C → E → World
world I D O N inputs depot out notes = record {
  devices = devices I D inputs depot;
  out = heard O out;
  notes = heard N notes;
  kept = tt;
}

-- a name is none of these
abbrev pub IsOther : List (List ℕ) → List ℕ → Type 0
IsOther [] name = Unit {0}
IsOther (x ∷ xs) name = (name ≢ x) × IsOther xs name

-- the told files are as they were but for what is under these names
abbrev pub SameButThese : List (List ℕ) → Option Files → Option Files → Type 0
SameButThese names before now =
    MatchOption before (now ≡ None) (λ old. IsSomeAnd now (λ new. (other : List ℕ)
    → IsOther names other → map.get new other ≡ map.get old other))
