-- The states of documents, kept pair by pair: a column for each pair.
use Rattle.std.specs.Prelude.{◌≡◌, ℕ, ℤ, ◌-◌, ◌≤◌, max, List, [], ◌∷◌, ◌++◌, length, map, drop, get_or}
use Rattle.std.specs.Prelude.{set}
use Rattle.agg_laws.specs.declared.aggregate_kind.AggKind.{AggKind}
use Rattle.agg_laws.specs.declared.states.AggState.{AggState}
use Rattle.agg_laws.specs.States.{unit_of, state_of, merged}

-- states of one kind, and how many more there is room for
pub record Column : Type 0 where
  pub kind : AggKind
  pub states : List AggState
  pub spare : ℕ

-- the state in a place of a column
abbrev pub state_at : Column → ℕ → AggState
state_at c i = get_or c.states i (unit_of c.kind)

-- the column with one more state at its end
abbrev pub pushed : Column → AggState → Column
pushed c s = record { kind = c.kind; states = c.states ++ s ∷ []; spare = c.spare - 1 }

-- the column with another state in a place
abbrev pub replaced : ℕ → Column → AggState → Column
replaced i c s = record { kind = c.kind; states = set c.states i s; spare = c.spare }

-- states to which values are added one after another, each to the state in its place
abbrev pub all_added : {S : Type 0} → (S → ℤ → S) → S → List ℕ → List ℤ → List S → List S
all_added add unit [] values states = states
all_added add unit (p ∷ places) [] states = states
all_added add unit (p ∷ places) (v ∷ values) states = all_added add unit places values
    (set states p (add (get_or states p unit) v))

-- the column with values added to the states in their places
abbrev pub with_values : List ℕ → List ℤ → Column → Column
with_values places values c = record {
  kind = c.kind;
  states = all_added (λ s v. merged s (state_of c.kind (v ∷ []))) (unit_of c.kind) places values
      c.states;
  spare = c.spare;
}

-- the column with room for so many more states
abbrev pub widened : ℕ → Column → Column
widened more c = record { kind = c.kind; states = c.states; spare = max c.spare more }

-- the states from a place on, with no room for more
abbrev pub column_tail : ℕ → Column → Column
column_tail from c = record { kind = c.kind; states = drop from c.states; spare = 0 }

-- no states of a kind
abbrev pub column_of : AggKind → Column
column_of k = record { kind = k; states = []; spare = 0 }

-- the kinds of some columns
abbrev pub kinds_in : List Column → List AggKind
kinds_in cs = map (λ c. c.kind) cs

-- what some columns have in a place
abbrev pub row_at : List Column → ℕ → List AggState
row_at cs i = map (λ c. state_at c i) cs

-- columns changed one by one, each with the state in its place
abbrev pub each : (Column → AggState → Column) → List Column → List AggState → List Column
each f [] vs = []
each f (c ∷ cs) [] = c ∷ cs
each f (c ∷ cs) (v ∷ vs) = f c v ∷ each f cs vs

-- each column with one more state at its end
abbrev pub row_pushed : List Column → List AggState → List Column
row_pushed cs vs = each pushed cs vs

-- each column with another state in a place
abbrev pub row_replaced : ℕ → List Column → List AggState → List Column
row_replaced i cs vs = each (replaced i) cs vs

-- the columns have n states each, and room for as many more as `spare`
abbrev pub AreColumns : ℕ → ℕ → List Column → Type 0
AreColumns n spare [] = Unit {0}
AreColumns n spare (c ∷ cs) = (length c.states ≡ n) × (spare ≤ c.spare) × AreColumns n spare cs

-- the same states, with no less room
abbrev pub AreWider : List Column → List Column → Type 0
AreWider [] [] = Unit {0}
AreWider [] (d ∷ ds) = ⊥
AreWider (c ∷ cs) [] = ⊥
AreWider (c ∷ cs) (d ∷ ds) = (d.kind ≡ c.kind) × (d.states ≡ c.states) × (c.spare ≤ d.spare)
    × AreWider cs ds
