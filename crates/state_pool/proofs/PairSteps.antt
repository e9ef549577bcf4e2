-- The rows of two slots of different owners, whose states are of the same kinds.
use Rattle.std.proofs.Common.{◌≡◌, ◌≢◌, ◌∙◌, ℕ, ◌+◌, ◌*◌, ◌<◌, ◌≤◌, ◌⊎◌, inl, inr, List, length, Option, Some, None, get_or, sym, ap, subst, arith}
use Rattle.agg_laws.specs.declared.states.AggState.{AggState}
use Rattle.agg_laws.specs.Rows.{kinds_of}
use Rattle.state_columns.proofs.RowPlaces.{same_length}
use Rattle.state_pool.specs.declared.pool.Owner.{Owner}
use Rattle.state_pool.specs.Pool.{Pool, Place, Writes, IsOut, kinds_at, states_at}
use Rattle.state_pool.specs.Kept.{IsKept, pool_in, part_of, with_part}
use Rattle.state_pool.proofs.CellLemmas.{other_row, row_before}
use Rattle.state_pool.proofs.OwnerLemmas.{own_kinds}
use Rattle.state_pool.proofs.PoolSteps.{known_owner, seen_holder, seen_row, seen_long, seen_states, seen_rewrites, seen_row_kept}

-- as many kinds as the owner of a slot is kept with
module _ (owners : List Owner) (holders : List (Option ℕ)) (limit width : ℕ) (cells : List AggState) (free : List ℕ)
    (kept : IsKept owners (pool_in owners holders limit width cells) free) (pool : Pool) (pool_is : pool_in owners holders limit width cells ≡ pool)
    (owner number : ℕ) (slot : Place) (slot_is : ◌≡◌ {A = Place} (record { owner = owner; number = number }) slot) (out : IsOut pool slot)
    (own : Owner) (is : own ≡ get_or owners owner own) (n : ℕ) (count : n ≡ length own.kinds) where
  pub counted : n ≡ length (kinds_at pool slot.owner)
  counted = count
      ∙ ap length (sym (own_kinds owners holders limit width cells free kept owner own (known_owner owners holders limit width cells free kept pool pool_is owner number slot slot_is out) is))
      ∙ (λ i. length (kinds_at (pool_is i) (ap (λ (p : Place). p.owner) slot_is i)))

module _ (owners : List Owner) (holders : List (Option ℕ)) (limit width : ℕ) (cells : List AggState) (free : List ℕ)
    (kept : IsKept owners (pool_in owners holders limit width cells) free) (pool : Pool) (pool_is : pool_in owners holders limit width cells ≡ pool)
    (owner number : ℕ) (slot : Place) (slot_is : ◌≡◌ {A = Place} (record { owner = owner; number = number }) slot) (out : IsOut pool slot)
    (other with_number : ℕ) (from : Place) (from_is : ◌≡◌ {A = Place} (record { owner = other; number = with_number }) from) (from_out : IsOut pool from)
    (apart : from.owner ≢ slot.owner) (kinds : kinds_of (states_at pool slot) ≡ kinds_of (states_at pool from))
    (own : Owner) (is : own ≡ get_or owners owner own) (n : ℕ) (count : n ≡ length own.kinds) where
  few : n ≡ length (kinds_at pool slot.owner)
  few = counted owners holders limit width cells free kept pool pool_is owner number slot slot_is out own is n count

  few_from : n ≡ length (kinds_at pool from.owner)
  few_from = few ∙ sym (seen_long owners holders limit width cells free kept pool pool_is owner number slot slot_is out)
      ∙ same_length (states_at pool slot) (states_at pool from) kinds
      ∙ seen_long owners holders limit width cells free kept pool pool_is other with_number from from_is from_out

  pub long_into : length (states_at pool slot) ≡ n
  long_into = seen_long owners holders limit width cells free kept pool pool_is owner number slot slot_is out ∙ sym few

  pub row_into : number * width + n ≤ length cells
  row_into = omega (arith, seen_row owners holders limit width cells free kept pool pool_is owner number slot slot_is out, few)

  pub row_from : with_number * width + n ≤ length cells
  row_from = omega (arith, seen_row owners holders limit width cells free kept pool pool_is other with_number from from_is from_out, few_from)

  pub states_into : part_of cells (number * width) n ≡ states_at pool slot
  states_into = seen_states owners holders limit width cells free kept pool pool_is owner number slot slot_is out n few

  pub states_from : part_of cells (with_number * width) n ≡ states_at pool from
  states_from = seen_states owners holders limit width cells free kept pool pool_is other with_number from from_is from_out n few_from

  other_numbers : number ≢ with_number
  other_numbers is =
      let here : get_or holders number None ≡ Some owner = seen_holder owners holders limit width cells free kept pool pool_is owner number slot slot_is out in
      let there : get_or holders with_number None ≡ Some other = seen_holder owners holders limit width cells free kept pool pool_is other with_number from from_is from_out in
      let both : Some other ≡ Some owner = sym there ∙ sym (ap (λ q. get_or holders q None) is) ∙ here in
      let same : other ≡ owner = cc in
      apart (sym (ap (λ (p : Place). p.owner) from_is) ∙ same ∙ ap (λ (p : Place). p.owner) slot_is)

  narrow : n ≤ width
  narrow = let w = kept.narrow number slot.owner (seen_holder owners holders limit width cells free kept pool pool_is owner number slot slot_is out ∙ ap (λ (s : Place). Some s.owner) slot_is) in
      let same : length (kinds_at (pool_in owners holders limit width cells) slot.owner) ≡ length (kinds_at pool slot.owner) = ap (λ (p : Pool). length (kinds_at p slot.owner)) pool_is in
      omega (arith, w, same, few)

  pub rows_apart : (number * width + n ≤ with_number * width) ⊎ (with_number * width + n ≤ number * width)
  rows_apart = by (other_row number with_number other_numbers)
    where
      by : (number < with_number) ⊎ (with_number < number) → (number * width + n ≤ with_number * width) ⊎ (with_number * width + n ≤ number * width)
      by (inl lt) = inl (row_before number with_number width n lt narrow)
      by (inr lt) = inr (row_before with_number number width n lt narrow)

  -- the cells with other states in the first row
  module _ (states lent new_cells : List AggState) (len : length states ≡ n) (lent_is : lent ≡ cells)
      (new_is : new_cells ≡ with_part lent (number * width) n states) where
    cells_are : with_part cells (number * width) n states ≡ new_cells
    cells_are = sym (new_is ∙ ap (λ cs. with_part cs (number * width) n states) lent_is)

    pub pair_writes : Writes slot states pool (pool_in owners holders limit width new_cells)
    pair_writes = subst (λ (cs : List AggState). Writes slot states pool (pool_in owners holders limit width cs)) cells_are
        (seen_rewrites owners holders limit width cells free kept pool pool_is owner number slot slot_is out states n few len)

    pub pair_kept : IsKept owners (pool_in owners holders limit width new_cells) free
    pair_kept = subst (λ (cs : List AggState). IsKept owners (pool_in owners holders limit width cs) free) cells_are
        (seen_row_kept owners holders limit width cells free kept pool pool_is owner number slot slot_is out states n few len)
