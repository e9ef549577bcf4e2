-- The documents that bytes hold are those that they spell.
use Rattle.std.proofs.Common.{◌≡◌, ℕ, zero, suc, ◌+◌, ◌-◌, ◌*◌, ◌<◌, ◌≤◌, List, [], ◌∷◌, ◌++◌, Some, None}
use Rattle.std.proofs.Common.{length, take, drop, get_or, slice_get, refl, sym, ap, subst, ◌∙◌, arith}
use Rattle.std.proofs.Common.{Bool, true, false, MatchBool, length-drop}
use Rattle.std.proofs.lemmas.List.{drop-drop, take-append-drop, take_all}
use Rattle.std.specs.Int.{w32, w64, w128, from_be_bytes, cast_signed}
use Rattle.agg_laws.specs.declared.aggregate_kind.AggKind.{AggKind}
use Rattle.agg_laws.specs.declared.aggregate_kind.AggKind.TheVariants as kinds
use Rattle.agg_laws.specs.declared.states.AggState.{AggState}
use Rattle.agg_laws.specs.declared.states.AggState.TheVariants.{Average, Count, Greatest, Least}
use Rattle.agg_laws.specs.declared.states.AggState.TheVariants.{Sum}
use Rattle.agg_laws.specs.declared.tree_shape.TreeShape.{TreeShape}
use Rattle.agg_laws.specs.Kind.{width_of}
use Rattle.agg_laws.specs.Numbers.{average_bytes, most_stored}
use Rattle.agg_laws.specs.Rows.{kinds_of, RowStored}
use Rattle.agg_laws.specs.States.{IsStored, kind_of, spelling}
use Rattle.agg_laws.specs.Tree.{dim}
use Rattle.agg_laws.specs.laws.Averages as averages
use Rattle.agg_laws.specs.laws.Counts as counts
use Rattle.agg_laws.specs.laws.NumberBytes as numbers
use Rattle.agg_laws.specs.laws.States.{spelled}
use Rattle.agg_laws.specs.laws.Sums as sums
use Rattle.state_columns.specs.Docs.{AreStored, Doc, Docs, HaveShape, doc_at}
use Rattle.state_columns.proofs.RegionLemmas.{room_in}
use Rattle.star_file.specs.Bytes.{state_bytes, words}
use Rattle.star_file.specs.Reading.{AreIds, SpellDocs, SpellsDoc, doc_width}
use Rattle.star_file.specs.Rules.{number_at, widths}
use Rattle.star_file.specs.Spelled.{AreSpelled, SpellsIds, SpellsStates, doc_in, docs_in, ids_in}
use Rattle.star_file.specs.Spelled.{state_in, states_in}
use Rattle.star_file.proofs.DocSteps.{StateThere, as_many, length_words, own_part, past, state_there}
use Rattle.star_file.proofs.DocSteps.{states_part, widths_take}
use Rattle.star_file.proofs.DocSteps.{doc_there as doc_at_place}
use Rattle.star_file.proofs.SectionLemmas.{word_back}

front : (a b : AggKind) (ks ls : List AggKind) → a ∷ ks ≡ b ∷ ls → a ≡ b
front a b ks ls e = cc

rest : (a b : AggKind) (ks ls : List AggKind) → a ∷ ks ≡ b ∷ ls → ks ≡ ls
rest a b ks ls e = cc

-- ---- states

own_state : (v : AggState) → IsStored v → state_in (kind_of v) (spelling v) ≡ v
unfolding state_in
own_state (Count c) h = ap Count (counts.read c (omega (arith, h.0, h.1)))
own_state (Sum s) h = ap Sum (sums.read s (sums.fits_128 s most_stored (omega arith) h))
own_state (Least None) h = absurd h
own_state (Least (Some m)) h = ap (λ n. Least (Some n)) (numbers.read m (numbers.fits_64 m h))
own_state (Greatest None) h = absurd h
own_state (Greatest (Some m)) h =
    ap (λ n. Greatest (Some n)) (numbers.read m (numbers.fits_64 m h))
own_state (Average a) h =
    ap Average (averages.read (average_bytes a)
    (cast_signed w128 (from_be_bytes w128 (take 16 (average_bytes a))))
    (from_be_bytes w64 (drop 16 (average_bytes a))) refl refl a h refl)

pub state_is : (k : AggKind) (v : AggState) (bytes : List ℕ) → kind_of v ≡ k → IsStored v
    → spelling v ≡ bytes → state_in k bytes ≡ v
state_is k v bytes kind stored is = (λ j. state_in (sym kind j) (sym is j)) ∙ own_state v stored

-- the states of kinds in bytes that spell them
own_states : (ks : List AggKind) (vs : List AggState) → kinds_of vs ≡ ks → RowStored vs
    → states_in ks (state_bytes vs) ≡ vs
unfolding states_in
own_states [] [] h s = refl
own_states [] (v ∷ vs) h s = cc
own_states (k ∷ ks) [] h s = cc
own_states (k ∷ ks) (v ∷ vs) h s =
    let own = front (kind_of v) k (kinds_of vs) ks h in
    let n = width_of k in
    let l : length (spelling v) ≡ n = spelled v s.0 ∙ ap width_of own in
    let z : n ≡ n + 0 = omega arith in
    let first : state_in k (take n (spelling v ++ state_bytes vs)) ≡ v =
    ap (state_in k) (own_part (spelling v) (state_bytes vs) n l)
    ∙ state_is k v (spelling v) own s.0 refl in
    let more : states_in ks (drop n (spelling v ++ state_bytes vs)) ≡ vs =
    ap (λ m. states_in ks (drop m (spelling v ++ state_bytes vs))) z
    ∙ ap (states_in ks) (past (spelling v) (state_bytes vs) n 0 l)
    ∙ own_states ks vs (rest (kind_of v) k (kinds_of vs) ks h) s.1 in
    λ j. first j ∷ more j

-- the state in a place
pub state_at : (ks : List AggKind) (bytes : List ℕ) (i : ℕ) → i < length ks
    → slice_get (states_in ks bytes) i ≡ Some (state_in (get_or ks i kinds.Count)
    (take (width_of (get_or ks i kinds.Count)) (drop (widths (take i ks)) bytes)))
unfolding states_in
state_at [] bytes i lt = absurd (omega arith)
state_at (k ∷ ks) bytes zero lt = refl
state_at (k ∷ ks) bytes (suc i) lt =
    let kind = get_or ks i kinds.Count in
    state_at ks (drop (width_of k) bytes) i (omega arith)
    ∙ ap (λ l. Some (state_in kind (take (width_of kind) l)))
    (drop-drop (widths (take i ks)) (width_of k) bytes)

-- ---- ids

own_ids : (ns xs more : List ℕ) → AreIds ns xs → ids_in (length ns) (words xs ++ more) ≡ xs
unfolding ids_in
own_ids [] [] more h = refl
own_ids [] (x ∷ xs) more h = absurd h
own_ids (n ∷ ns) [] more h = absurd h
own_ids (n ∷ ns) (x ∷ xs) more h = λ j. word_back x h.0.0 j ∷ own_ids ns xs more h.1 j

-- the id in a place
pub id_at : (k i : ℕ) (bytes : List ℕ) → i < k → dim i (ids_in k bytes) ≡ number_at (4 * i) bytes
unfolding ids_in
id_at zero i bytes lt = absurd (omega arith)
id_at (suc k) zero bytes lt = ap (λ n. number_at n bytes) (let z : 0 ≡ 4 * 0 = omega arith in z)
id_at (suc k) (suc i) bytes lt =
    let n : 4 + 4 * i ≡ 4 * suc i = omega arith in
    id_at k i (drop 4 bytes) (omega arith)
    ∙ ap (λ l. from_be_bytes w32 (take 4 l)) (drop-drop (4 * i) 4 bytes)
    ∙ ap (λ m. number_at m bytes) n

-- ---- documents

module _ (shape : TreeShape) (counts : List ℕ) (dims : length counts ≡ shape.dims) where
  own_doc : (bytes : List ℕ) (e : Doc) → SpellsDoc shape counts bytes e → doc_in shape bytes ≡ e
  unfolding doc_in
  own_doc bytes e s =
      let n = 4 * shape.dims in
      let z : n ≡ n + 0 = omega arith in
      let l : length (words e.0) ≡ n = length_words e.0
      ∙ ap (λ m. 4 * m) (as_many counts e.0 s.ids_are ∙ dims) in
      let all = words e.0 ++ state_bytes e.1 in
      let ids : ids_in shape.dims bytes ≡ e.0 = (λ j. ids_in (sym dims j) (s.bytes_are j))
      ∙ own_ids counts e.0 (state_bytes e.1) s.ids_are in
      let states : states_in shape.kinds (drop n bytes) ≡ e.1 =
      (λ j. states_in shape.kinds (drop (z j) (s.bytes_are j)))
      ∙ ap (states_in shape.kinds) (past (words e.0) (state_bytes e.1) n 0 l)
      ∙ own_states shape.kinds e.1 s.kinds_are s.stored in
      λ j. (ids j, states j)

  pub own_docs : (n : ℕ) (bytes : List ℕ) (docs : List Doc) → SpellDocs shape counts n bytes docs
      → docs_in shape n bytes ≡ docs
  unfolding docs_in
  own_docs zero bytes [] h = refl
  own_docs zero bytes (e ∷ es) h = absurd h
  own_docs (suc n) bytes [] h = absurd h
  own_docs (suc n) bytes (e ∷ es) h = λ j. own_doc (take (doc_width shape) bytes) e h.0 j
      ∷ own_docs n (drop (doc_width shape) bytes) es h.1 j

  pub spelled_shape : (n : ℕ) (bytes : List ℕ) (docs : List Doc)
      → SpellDocs shape counts n bytes docs → HaveShape shape.dims shape.kinds docs
  spelled_shape zero bytes [] h = tt
  spelled_shape zero bytes (e ∷ es) h = absurd h
  spelled_shape (suc n) bytes [] h = absurd h
  spelled_shape (suc n) bytes (e ∷ es) h = (
    as_many counts e.0 h.0.ids_are ∙ dims,
    h.0.kinds_are,
    spelled_shape n (drop (doc_width shape) bytes) es h.1,
  )

  pub spelled_stored : (n : ℕ) (bytes : List ℕ) (docs : List Doc)
      → SpellDocs shape counts n bytes docs → AreStored docs
  spelled_stored zero bytes [] h = tt
  spelled_stored zero bytes (e ∷ es) h = absurd h
  spelled_stored (suc n) bytes [] h = absurd h
  spelled_stored (suc n) bytes (e ∷ es) h =
      (h.0.stored, spelled_stored n (drop (doc_width shape) bytes) es h.1)

-- the document in a place
pub doc_there : (shape : TreeShape) (n i : ℕ) (bytes : List ℕ) → i < n
    → doc_at (docs_in shape n bytes) i
    ≡ doc_in shape (take (doc_width shape) (drop (i * doc_width shape) bytes))
unfolding docs_in
doc_there shape zero i bytes lt = absurd (omega arith)
doc_there shape (suc n) zero bytes lt =
    let z : 0 ≡ 0 * doc_width shape = omega arith in
    ap (λ m. doc_in shape (take (doc_width shape) (drop m bytes))) z
doc_there shape (suc n) (suc i) bytes lt =
    let w = doc_width shape in
    let e : w + i * w ≡ suc i * w = omega arith in
    doc_there shape n i (drop w bytes) (omega arith)
    ∙ ap (λ l. doc_in shape (take w l)) (drop-drop (i * w) w bytes ∙ ap (λ m. drop m bytes) e)

pub docs_count : (shape : TreeShape) (n : ℕ) (bytes : List ℕ) → length (docs_in shape n bytes) ≡ n
unfolding docs_in
docs_count shape zero bytes = refl
docs_count shape (suc n) bytes = ap suc (docs_count shape n (drop (doc_width shape) bytes))

-- ---- a document in its place

-- a number of a document is below the count
abbrev pub view : TreeShape → ℕ → List ℕ → Docs
view shape n bytes = record {
  dims = shape.dims;
  kinds = shape.kinds;
  docs = docs_in shape n bytes;
  spare = 0;
}

pub is_there : (shape : TreeShape) (n : ℕ) (bytes : List ℕ) (table : Docs)
    → view shape n bytes ≡ table → (at : ℕ) → at < length table.docs → at < n
is_there shape n bytes table is at lt =
    omega (arith, lt, docs_count shape n bytes, ap (λ (v : Docs). length v.docs) is)

-- its bytes are among all
pub room : (shape : TreeShape) (counts : List ℕ) (n width : ℕ) (bytes : List ℕ)
    → AreSpelled shape counts n width bytes → (at : ℕ) → at < n
    → at * width + width ≤ length bytes
room shape counts n width bytes h at lt =
    subst (λ (w : ℕ). at * w + w ≤ length bytes) (sym h.width_is)
    (room_in n at (doc_width shape) (length bytes) h.size lt)

pub own_part_is : (at width : ℕ) (bytes all part : List ℕ) → all ≡ bytes
    → part ≡ take width (drop (at * width) all) → part ≡ take width (drop (at * width) bytes)
own_part_is at width bytes all part same is = is ∙ ap (λ l. take width (drop (at * width) l)) same

pub own_bytes : (shape : TreeShape) (at width : ℕ) (bytes part : List ℕ) → width ≡ doc_width shape
    → part ≡ take width (drop (at * width) bytes)
    → part ≡ take (doc_width shape) (drop (at * doc_width shape) bytes)
own_bytes shape at width bytes part e is = is ∙ (λ j. take (e j) (drop (at * e j) bytes))

-- the id of a dimension
pub id_is : (shape : TreeShape) (n at level width : ℕ) (bytes part : List ℕ) → at < n
    → level < shape.dims → width ≡ doc_width shape → part ≡ take width (drop (at * width) bytes)
    → number_at (4 * level) part ≡ dim level (doc_at (docs_in shape n bytes) at).0
unfolding doc_in
id_is shape n at level width bytes part lt low e is =
    sym (id_at shape.dims level part low)
    ∙ ap (λ l. dim level (ids_in shape.dims l)) (own_bytes shape at width bytes part e is)
    ∙ ap (λ (d : Doc). dim level d.0) (sym (doc_there shape n at bytes lt))

-- the states of a document are what follows its ids
module _ (shape : TreeShape) (counts : List ℕ) (n width : ℕ) (bytes : List ℕ)
    (h : AreSpelled shape counts n width bytes) (at pair : ℕ) (lt : at < n)
    (some : pair < length shape.kinds) (part states : List ℕ)
    (part_is : part ≡ take width (drop (at * width) bytes))
    (states_are : states ≡ take (length part - 4 * shape.dims) (drop (4 * shape.dims) part)) where
  abbrev kind : AggKind
  kind = get_or shape.kinds pair kinds.Count

  after : states ≡ drop (4 * shape.dims) part
  after = states_are ∙ take_all (length part - 4 * shape.dims) (drop (4 * shape.dims) part)
      (omega (arith, length-drop (4 * shape.dims) part))

  pub pair_within : length part ≡ width
      → widths (take pair shape.kinds) + width_of kind ≤ length states
  pair_within long =
      let w = widths_take shape.kinds pair some in
      let l = ap length after in
      omega (arith, w, l, length-drop (4 * shape.dims) part, long, h.width_is)

  pub pair_there :
      StateThere kind (take (width_of kind) (drop (widths (take pair shape.kinds)) states))
  pair_there =
      let found = doc_at_place shape counts n at bytes (docs_in shape n bytes) h.spelled lt in
      let e = found.0 in
      let own : SpellsDoc shape counts part e =
      subst (λ (l : List ℕ). SpellsDoc shape counts l e)
      (sym (own_bytes shape at width bytes part h.width_is part_is)) found.1 in
      let dims = h.readable.counts_are in
      let spelled_by : states ≡ state_bytes e.1 = states_part shape counts part e own states
      (subst (λ (k : ℕ). states ≡ take (length part - 4 * k) (drop (4 * k) part)) (sym dims)
      states_are) in
      state_there shape.kinds e.1 states pair (widths (take pair shape.kinds)) kinds.Count
      own.kinds_are own.stored spelled_by some refl

  pub own_pair_is : (ks : List AggKind) (start w : ℕ) (own : List ℕ) → ks ≡ shape.kinds
      → start ≡ widths (take pair ks) → w ≡ width_of (get_or ks pair kinds.Count)
      → own ≡ take (start + w - start) (drop start states)
      → own ≡ take (width_of kind) (drop (widths (take pair shape.kinds)) states)
  own_pair_is ks start w own same start_is w_is is =
      let n : start + w - start ≡ w = omega arith in
      is ∙ (λ j. take (n j) (drop start states))
      ∙ (λ j. take (w_is j) (drop (start_is j) states))
      ∙ (λ j. take (width_of (get_or (same j) pair kinds.Count))
      (drop (widths (take pair (same j))) states))

  pub pair_is : (own : List ℕ) (v : AggState)
      → own ≡ take (width_of kind) (drop (widths (take pair shape.kinds)) states)
      → kind_of v ≡ kind → IsStored v → spelling v ≡ own
      → slice_get (doc_at (docs_in shape n bytes) at).1 pair ≡ Some v
  unfolding doc_in
  pair_is own v own_is kind_is stored spells =
      let k = width_of kind in
      let start = widths (take pair shape.kinds) in
      ap (λ (d : Doc). slice_get d.1 pair) (doc_there shape n at bytes lt)
      ∙ ap (λ l. slice_get (states_in shape.kinds (drop (4 * shape.dims) l)) pair)
      (sym (own_bytes shape at width bytes part h.width_is part_is))
      ∙ state_at shape.kinds (drop (4 * shape.dims) part) pair some
      ∙ ap (λ l. Some (state_in kind (take k (drop start l)))) (sym after)
      ∙ ap (λ l. Some (state_in kind l)) (sym own_is)
      ∙ ap Some (state_is kind v own kind_is stored spells)

-- ---- all that was looked at

pub all_ids : (counts bytes : List ℕ) (i : ℕ) → length counts ≤ i
    → length bytes ≡ 4 * length counts → SpellsIds (take i counts) (take (4 * i) bytes)
    → SpellsIds counts bytes
all_ids counts bytes i le l s =
    let own : take i counts ≡ counts = take_all i counts le in
    let whole : take (4 * i) bytes ≡ bytes = take_all (4 * i) bytes (omega arith) in
    subst (λ (b : List ℕ). SpellsIds counts b) whole
    (subst (λ (ns : List ℕ). SpellsIds ns (take (4 * i) bytes)) own s)

pub all_states : (ks : List AggKind) (bytes : List ℕ) (i at : ℕ) → length ks ≤ i
    → length bytes ≡ widths ks → at ≡ widths (take i ks)
    → SpellsStates (take i ks) (take at bytes) → SpellsStates ks bytes
all_states ks bytes i at le l at_is s =
    let own : take i ks ≡ ks = take_all i ks le in
    let n : at ≡ widths ks = at_is ∙ ap widths own in
    let whole : take at bytes ≡ bytes = take_all at bytes (omega (arith, n, l)) in
    subst (λ (b : List ℕ). SpellsStates ks b) whole
    (subst (λ (l : List AggKind). SpellsStates l (take at bytes)) own s)

-- a document is its ids and its states
module _ (shape : TreeShape) (counts bytes part rest_part : List ℕ) (ks : List AggKind)
    (same : ks ≡ shape.kinds)
    (part_is : part ≡ take (4 * length counts - 0) (drop 0 bytes))
    (rest_is : rest_part
    ≡ take (length bytes - 4 * length counts) (drop (4 * length counts) bytes)) where
  doc_found : SpellsIds counts part → SpellsStates ks rest_part
      → (e : Doc) × SpellsDoc shape counts bytes e
  doc_found ids states =
      let n = 4 * length counts in
      let z : n - 0 ≡ n = omega arith in
      let first : take n bytes ≡ words ids.ids = ap (λ m. take m bytes) (sym z) ∙ sym part_is
      ∙ ids.bytes_are in
      let more : drop n bytes ≡ state_bytes states.states =
      sym (take_all (length bytes - n) (drop n bytes) (omega (arith, length-drop n bytes)))
      ∙ sym rest_is ∙ states.bytes_are in
      let e : Doc = (ids.ids, states.states) in (
        e,
        record {
          ids_are = ids.are;
          kinds_are = states.kinds_are ∙ same;
          stored = states.stored;
          bytes_are = sym (take-append-drop n bytes) ∙ (λ j. first j ++ more j);
        },
      )

  pub doc_told : SpellsIds counts part → (b : Bool)
      → MatchBool b (SpellsStates ks rest_part) (¬ SpellsStates ks rest_part)
      → MatchBool b ((e : Doc) × SpellsDoc shape counts bytes e)
      ((e : Doc) → SpellsDoc shape counts bytes e → ⊥)
  doc_told ids true h = doc_found ids h
  doc_told ids false h = λ e s. h (record {
    states = e.1;
    kinds_are = s.kinds_are ∙ sym same;
    stored = s.stored;
    bytes_are = states_part shape counts bytes e s rest_part rest_is;
  })
