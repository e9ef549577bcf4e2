-- Weights and numbers of documents, one after the other.
use Rattle.std.proofs.Common.{◌≡◌, ℕ, zero, suc, ◌+◌, ◌-◌, ◌<◌, ◌≤◌, max, List, [], ◌∷◌, length}
use Rattle.std.proofs.Common.{drop, get_or, arith}
use Rattle.std.proofs.lemmas.List.{at_drop_more, at_drop_all}
use Rattle.agg_laws.specs.declared.states.AggState.{AggState}
use Rattle.agg_laws.specs.Rows.{RowStored, row_weight, weight_of}
use Rattle.agg_laws.specs.States.{IsStored}
use Rattle.star_walk.specs.declared.pick.Pick.{Pick}
use Rattle.star_walk.specs.Images.{read_of}

-- a state of a row that can be stored
pub stored_in : (vs : List AggState) (i : ℕ) (d : AggState) → RowStored vs → i < length vs
    → IsStored (get_or vs i d)
stored_in [] i d h lt = absurd (omega arith)
stored_in (v ∷ vs) zero d h lt = h.0
stored_in (v ∷ vs) (suc i) d h lt = stored_in vs i d h.1 (omega arith)

-- the weight of the states from one on
pub weight_more : (vs : List AggState) (i : ℕ) (d : AggState) → i < length vs
    → row_weight (drop i vs) ≡ max (weight_of (get_or vs i d)) (row_weight (drop (i + 1) vs))
weight_more vs i d lt = at_drop_more row_weight vs i d lt

pub weight_all : (vs : List AggState) (i : ℕ) → length vs ≤ i → row_weight (drop i vs) ≡ 0
weight_all vs i le = at_drop_all row_weight vs i le

-- how many documents the picks from one on have
pub read_more : (ps : List Pick) (i : ℕ) (d : Pick) → i < length ps
    → read_of (drop i ps) ≡ (get_or ps i d).end - (get_or ps i d).start + read_of (drop (i + 1) ps)
read_more ps i d lt = at_drop_more read_of ps i d lt

pub read_all : (ps : List Pick) (i : ℕ) → length ps ≤ i → read_of (drop i ps) ≡ 0
read_all ps i le = at_drop_all read_of ps i le
