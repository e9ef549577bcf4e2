-- Words of documents by combination: the first of each combination, ascending, and the others.
use Rattle.std.specs.Prelude.{◌≡◌, ℕ, zero, suc, ◌+◌, ◌-◌, ◌*◌, ◌/◌, ◌^◌, ◌<◌, ◌≤◌, List, [], ◌∷◌}
use Rattle.std.specs.Prelude.{◌++◌, length, map, All, true, slice_index_or, slice_set}
use Rattle.std.specs.List.Sorted.{IsPermutation}
use Rattle.std.specs.FinMap.{is_sorted}
use Rattle.agg_laws.specs.declared.states.AggState.{AggState}
use Rattle.agg_laws.specs.Tree.{dims_order, set_star}
use Rattle.state_columns.specs.Docs.{Doc, doc_at}
use Rattle.state_columns.specs.Region.{numbers}
use Rattle.state_columns.specs.Packing.{place}

-- the combination of a word
abbrev pub key_of : ℕ → ℕ
key_of word = word / 2 ^ 20

-- what a table has for the combination of a word
abbrev pub entry_of : List ℕ → ℕ → ℕ
entry_of table word = slice_index_or table (key_of word) 0

-- the words of a table that has, for each combination from one on, one more than the place of its
-- first document, or 0
abbrev pub first_words : ℕ → List ℕ → List ℕ
first_words key [] = []
first_words key (zero ∷ rest) = first_words (suc key) rest
first_words key (suc at ∷ rest) = (key * 2 ^ 20 + at) ∷ first_words (suc key) rest

-- such a table with one more than the number of each first document among them, from a number on
abbrev pub numbered : ℕ → List ℕ → List ℕ
numbered n [] = []
numbered n (zero ∷ rest) = 0 ∷ numbered n rest
numbered n (suc at ∷ rest) = suc n ∷ numbered (suc n) rest

-- words split into the first of each combination, as a table, and the others
pub record IsSplit (words table others : List ℕ) : Type 0 where
  pub same : IsPermutation words (first_words 0 table ++ others)
  pub at_most : length table < 2 ^ 32
  pub places : All (λ at. at ≤ 2 ^ 20) table
  pub found : All (λ word. 0 < entry_of table word) others

-- the documents with these numbers, with a dimension starred
abbrev pub starred_docs : ℕ → List Doc → List ℕ → List Doc
starred_docs level docs is = map (λ i. (set_star level (doc_at docs i).0, (doc_at docs i).1)) is

-- the documents, of which one has other states
abbrev pub with_states : ℕ → List AggState → List Doc → List Doc
with_states i states docs = slice_set docs i ((doc_at docs i).0, states)

-- a word has a slot, of which the first document has the word's combination
pub record HasSlot (start level : ℕ) (docs : List Doc) (firsts slots : List ℕ) (word : ℕ)
    : Type 0 where
  pub some : 0 < entry_of slots word
  pub there : entry_of slots word ≤ length firsts
  pub same : set_star level (doc_at docs (slice_index_or firsts (entry_of slots word - 1) 0)).0
      ≡ set_star level (doc_at docs (place start word)).0

-- the documents of a range: the first of each combination, ascending once a dimension is starred,
-- and the others as words with the slots of their combinations
pub record AreGroups (start end level : ℕ) (docs : List Doc) (firsts slots others : List ℕ)
    : Type 0 where
  pub all : IsPermutation (numbers start end) (firsts ++ map (place start) others)
  pub ascending : is_sorted dims_order (starred_docs level docs firsts) ≡ true
  pub slotted : All (HasSlot start level docs firsts slots) others
