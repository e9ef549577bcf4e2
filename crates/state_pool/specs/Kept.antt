-- What is kept of a pool.
use Rattle.std.specs.Prelude.{◌≡◌, ◌≢◌, ℕ, ◌+◌, ◌-◌, ◌*◌, ◌<◌, ◌≤◌, ◌^◌, List, length, map, slice_index_or}
use Rattle.std.specs.Prelude.{Option, Some, None, take, drop, ◌++◌}
use Rattle.std.specs.List.{sum_by}
use Rattle.agg_laws.specs.declared.aggregate_kind.AggKind.{AggKind}
use Rattle.agg_laws.specs.declared.states.AggState.{AggState}
use Rattle.agg_laws.specs.Rows.{units_of}
use Rattle.state_pool.specs.declared.pool.Owner.{Owner}
use Rattle.state_pool.specs.Pool.{Pool, held, kinds_at}

-- how many slots owners may hold, and how many they hold
abbrev pub most_of : List Owner → ℕ
most_of owners = sum_by (λ owner. owner.quota) owners

-- how many slots are out
abbrev pub out_of : List Owner → ℕ
out_of owners = sum_by (λ owner. owner.held) owners

-- so many cells from a place on
abbrev pub part_of : List AggState → ℕ → ℕ → List AggState
part_of cells from count = take count (drop from cells)

-- the cells with others in the place of these
abbrev pub with_part : List AggState → ℕ → ℕ → List AggState → List AggState
with_part cells from count states = take from cells ++ (states ++ drop (from + count) cells)

-- the pool that is kept
abbrev pub pool_in : List Owner → List (Option ℕ) → ℕ → ℕ → List AggState → Pool
pool_in owners holders width stride cells = record {
  quotas = map (λ owner. owner.quota) owners;
  kinds = map (λ owner. owner.kinds) owners;
  holders = holders;
  width = width;
  stride = stride;
  cells = cells;
}

-- what is kept of an owner of a pool
pub record IsOwner (pool : Pool) (at : ℕ) (owner : Owner) : Type 0 where
  pub counted : owner.held ≡ held pool at
  pub within : owner.held ≤ owner.quota
  pub fits : length owner.kinds ≤ pool.width

-- these numbers are those of slots that nobody holds, each once
pub record AreFree (holders : List (Option ℕ)) (numbers : List ℕ) : Type 0 where
  pub there : (k : ℕ) → k < length numbers → slice_index_or numbers k 0 < length holders
  pub unheld : (k : ℕ) → k < length numbers
      → slice_index_or holders (slice_index_or numbers k 0) None ≡ None
  pub apart : (j k : ℕ) → j < k → k < length numbers
      → slice_index_or numbers j 0 ≢ slice_index_or numbers k 0

-- there is room for so many slots
pub record HasRoom (slots width holders_room cells_room free_room : ℕ) : Type 0 where
  pub small : slots < 2 ^ 32
  pub holders_fit : slots ≤ holders_room
  pub cells_fit : slots * width ≤ cells_room
  pub free_fit : slots ≤ free_room

-- so many rows have as many cells each as is wanted, or as they had where these are more, and each
-- has its cells in the first places
pub record Widens (count width wanted new_width : ℕ) (cells new_cells : List AggState) : Type 0
  where
    pub enough : wanted ≤ new_width
    pub grows : width ≤ new_width
    pub least : (most : ℕ) → width ≤ most → wanted ≤ most → new_width ≤ most
    pub rows : (number few : ℕ) → number < count → few ≤ width
        → part_of new_cells (number * new_width) few ≡ part_of cells (number * width) few
    pub all_cells : length new_cells ≡ count * new_width

-- an owner has a number more, which nobody had, with the states of no value in its first cells
pub record TakesCells (owner width : ℕ) (kinds : List AggKind) (number : ℕ)
    (holders new_holders : List (Option ℕ)) (cells new_cells : List AggState) : Type 0 where
  pub unheld : slice_index_or holders number None ≡ None
  pub own : slice_index_or new_holders number None ≡ Some owner
  pub others : (other : ℕ) → other ≢ number
      → slice_index_or new_holders other None ≡ slice_index_or holders other None
  pub units : take (length kinds) (drop (number * width) new_cells) ≡ units_of kinds
  pub rows : (other few : ℕ) → other ≢ number → other < length holders → few ≤ width
      → take few (drop (other * width) new_cells) ≡ take few (drop (other * width) cells)
  pub all_cells : length new_cells ≡ length new_holders * width

-- one number more is out: one that was free, or a new one where none was
pub record TakesNumber (holders new_holders : List (Option ℕ)) (free new_free : List ℕ) : Type 0
  where
    pub frees : AreFree new_holders new_free
    pub count : length new_holders + length free ≡ length holders + length new_free + 1
    pub few : length new_holders ≤ length holders + (1 - length free)

-- what holds of each pool
pub record IsKept (owners : List Owner) (pool : Pool) (free : List ℕ) : Type 0 where
  pub each : (at : ℕ) (default : Owner) → at < length owners
      → IsOwner pool at (slice_index_or owners at default)
  pub known : (number owner : ℕ) → slice_index_or pool.holders number None ≡ Some owner
      → owner < length owners
  pub narrow : (number owner : ℕ) → slice_index_or pool.holders number None ≡ Some owner
      → length (kinds_at pool owner) ≤ pool.stride
  pub within : pool.stride ≤ pool.width
  pub free_are : AreFree pool.holders free
  pub all_cells : length pool.cells ≡ length pool.holders * pool.stride
  pub all_numbers : length pool.holders ≡ out_of owners + length free
  pub few_numbers : length pool.holders ≤ most_of owners
