-- The documents that bytes hold, by their places.
use Rattle.std.specs.Prelude.{◌≡◌, ℕ, zero, suc, ◌*◌, List, [], ◌∷◌, Some, length, take, drop}
use Rattle.std.specs.Int.{w64, w128, from_be_bytes, cast_signed}
use Rattle.agg_laws.specs.declared.aggregate_kind.AggKind.{AggKind}
use Rattle.agg_laws.specs.declared.aggregate_kind.AggKind.TheVariants as kinds
use Rattle.agg_laws.specs.declared.states.AggState.{AggState}
use Rattle.agg_laws.specs.declared.states.AggState.TheVariants.{Average, Count, Greatest, Least}
use Rattle.agg_laws.specs.declared.states.AggState.TheVariants.{Sum}
use Rattle.agg_laws.specs.declared.tree_shape.TreeShape.{TreeShape}
use Rattle.agg_laws.specs.Kind.{width_of}
use Rattle.agg_laws.specs.Rows.{kinds_of, RowStored}
use Rattle.state_columns.specs.Docs.{Doc}
use Rattle.star_file.specs.Bytes.{state_bytes, words}
use Rattle.star_file.specs.Reading.{AreIds, AreReadable, SpellDocs, doc_width}
use Rattle.star_file.specs.Rules.{number_at}

-- the state of a kind in its bytes
unfoldable pub state_in : AggKind → List ℕ → AggState
state_in kinds.Count bytes = Count (from_be_bytes w64 bytes)
state_in kinds.Sum bytes = Sum (cast_signed w128 (from_be_bytes w128 bytes))
state_in kinds.Least bytes = Least (Some (cast_signed w64 (from_be_bytes w64 bytes)))
state_in kinds.Greatest bytes = Greatest (Some (cast_signed w64 (from_be_bytes w64 bytes)))
state_in kinds.Average bytes = Average (record {
  sum = cast_signed w128 (from_be_bytes w128 (take 16 bytes));
  count = from_be_bytes w64 (drop 16 bytes);
})

-- so many numbers of four bytes
unfoldable pub ids_in : ℕ → List ℕ → List ℕ
ids_in zero bytes = []
ids_in (suc k) bytes = number_at 0 bytes ∷ ids_in k (drop 4 bytes)

-- a state of each kind
unfoldable pub states_in : List AggKind → List ℕ → List AggState
states_in [] bytes = []
states_in (k ∷ ks) bytes =
    state_in k (take (width_of k) bytes) ∷ states_in ks (drop (width_of k) bytes)

-- a document of a shape
unfoldable pub doc_in : TreeShape → List ℕ → Doc
doc_in shape bytes =
    (ids_in shape.dims bytes, states_in shape.kinds (drop (4 * shape.dims) bytes))

-- so many of them
unfoldable pub docs_in : TreeShape → ℕ → List ℕ → List Doc
docs_in shape zero bytes = []
docs_in shape (suc n) bytes = doc_in shape (take (doc_width shape) bytes)
    ∷ docs_in shape n (drop (doc_width shape) bytes)

-- bytes are those of ids
pub record SpellsIds (counts bytes : List ℕ) : Type 0 where
  pub ids : List ℕ
  pub are : AreIds counts ids
  pub bytes_are : bytes ≡ words ids

-- bytes are those of a state of each kind
pub record SpellsStates (ks : List AggKind) (bytes : List ℕ) : Type 0 where
  pub states : List AggState
  pub kinds_are : kinds_of states ≡ ks
  pub stored : RowStored states
  pub bytes_are : bytes ≡ state_bytes states

-- bytes are just those of so many documents, each of this width
pub record AreSpelled (shape : TreeShape) (counts : List ℕ) (count width : ℕ) (bytes : List ℕ)
    : Type 0 where
  pub readable : AreReadable shape counts
  pub width_is : width ≡ doc_width shape
  pub size : length bytes ≡ count * doc_width shape
  pub spelled : SpellDocs shape counts count bytes (docs_in shape count bytes)
