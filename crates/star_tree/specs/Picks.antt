-- What a walk reads of a nested tree.
use Rattle.std.specs.Prelude.{◌≡◌, ◌≢◌, ℕ, zero, suc, ◌+◌, ◌-◌, ◌<◌, ◌≤◌, MatchBool, Bool, true}
use Rattle.std.specs.Prelude.{if◌then◌else◌, ◌==◌, not, ◌&&◌, List, [], ◌∷◌, ◌++◌, length, take}
use Rattle.std.specs.Prelude.{◌⊎◌}
use Rattle.agg_laws.specs.Merged.{total}
use Rattle.agg_laws.specs.Tree.{star, dim, Nodes, none, node, has_star, agrees, rows_at, CoversRows}
use Rattle.state_columns.specs.Documents.{total_doc, one_document}

-- what a query asks of each dimension: whether ids are tested, which pass, and whether it is
-- grouped
pub record Task : Type 0 where
  pub filtered : ℕ → Bool
  pub passes : ℕ → ℕ → Bool
  pub grouped : ℕ → Bool

-- a pick: the path of its node, the level from which on its documents are still to be tested, and
-- these documents
pub record Pick (S : Type 0) : Type 0 where
  pub path : List ℕ
  pub level : ℕ
  pub docs : List (List ℕ × S)

-- no dimension of the next ones is tested or grouped
abbrev pub are_unconstrained : Task → ℕ → ℕ → Bool
are_unconstrained t zero d = true
are_unconstrained t (suc more) d =
    not (t.filtered d) && not (t.grouped d) && are_unconstrained t more (suc d)

-- the tests of the next dimensions
abbrev pub holds_from : Task → ℕ → ℕ → List ℕ → Bool
holds_from t zero d x = true
holds_from t (suc more) d x = (if t.filtered d then t.passes d (dim d x) else true)
    && holds_from t more (suc d) x

-- whether a child is taken: by its id where ids are tested, each ordinary one where the dimension
-- is grouped, and else the star child, or all where there is none
abbrev pub is_selected : Task → Bool → ℕ → ℕ → Bool
is_selected t starred d id =
    if t.filtered d then not (id == star) && t.passes d id
    else (if t.grouped d then not (id == star) else (if starred then id == star else true))

module _ {S : Type 0} (join : S → S → S) where
  -- the picks at a node of level d with this path and these documents, of those below it where it
  -- is split and read: the one document that stands for all of them where no dimension is tested or
  -- grouped any more, and all of them at a leaf
  abbrev pub picks_here : Task → ℕ → ℕ → List ℕ → List (List ℕ × S) → Nodes S → List (Pick S)
      → List (Pick S)
  picks_here t k d path docs none below =
      if are_unconstrained t (k - d) d
      then record { path = path; level = k; docs = total_doc join d docs none } ∷ []
      else record { path = path; level = d; docs = docs } ∷ []
  picks_here t k d path docs (node id own subtrees rest) below =
      let whole = total_doc join d docs (node id own subtrees rest) in
      if are_unconstrained t (k - d) d
      then record { path = path; level = k; docs = whole } ∷ []
      else below

  -- the picks of the children of a node of level d with this path
  abbrev pub picks_of : Task → ℕ → Bool → ℕ → List ℕ → Nodes S → List (Pick S)
  picks_of t k starred d path none = []
  picks_of t k starred d path (node id docs subtrees rest) =
      (if is_selected t starred d id
      then picks_here t k (suc d) (path ++ (id ∷ [])) docs subtrees
      (picks_of t k (has_star subtrees) (suc d) (path ++ (id ∷ [])) subtrees)
      else [])
      ++ picks_of t k starred d path rest

  -- the picks of a tree
  abbrev pub picks : Task → ℕ → Nodes S → List (Pick S)
  picks t k none = []
  picks t k (node id docs subtrees rest) =
      picks_here t k 0 [] docs subtrees (picks_of t k (has_star subtrees) 0 [] subtrees)

-- how many documents are read of some picks
abbrev pub read_of : {S : Type 0} → List (Pick S) → ℕ
read_of [] = 0
read_of (p ∷ ps) = length p.docs + read_of ps

-- how many picks have a path that a row agrees with, and a level that passes a test
abbrev pub times : {S : Type 0} → (ℕ → Bool) → List ℕ → List (Pick S) → ℕ
times left x [] = 0
times left x (p ∷ ps) = (if agrees p.path x && left p.level then 1 else 0) + times left x ps

-- how many picks cover a row, and how many of these have remaining tests that it passes
abbrev pub times_covered : {S : Type 0} → List ℕ → List (Pick S) → ℕ
times_covered x ps = times (λ _. true) x ps

-- how many picks count a row: those that cover it and whose remaining tests it passes
abbrev pub times_counted : {S : Type 0} → Task → ℕ → List ℕ → List (Pick S) → ℕ
times_counted t k x ps = times (λ level. holds_from t (k - level) level x) x ps

-- a row that holds is covered by just one pick, whose remaining tests it passes; any other by none,
-- or by one whose remaining tests it fails
abbrev pub IsPartedBy : {S : Type 0} → Task → ℕ → List (Pick S) → List ℕ → Type 0
IsPartedBy t k ps x =
    MatchBool (holds_from t k 0 x)
    ((times_covered x ps ≡ 1) × (times_counted t k x ps ≡ 1))
    ((times_covered x ps ≤ 1) × (times_counted t k x ps ≡ 0))

-- each row is
abbrev pub ArePartedBy : {S : Type 0} → Task → ℕ → List (Pick S) → List (List ℕ × S) → Type 0
ArePartedBy t k ps [] = Unit {0}
ArePartedBy t k ps (e ∷ es) = IsPartedBy t k ps e.0 × ArePartedBy t k ps es

-- on each grouped dimension the documents of a pick have an id of their own: the path has one
-- there, or the dimension is still to be read
abbrev pub KeepGroups : {S : Type 0} → Task → ℕ → List (Pick S) → Type 0
KeepGroups t k [] = Unit {0}
KeepGroups t k (p ∷ ps) = ((d : ℕ) → d < k → t.grouped d ≡ true → d < p.level → dim d p.path ≢ star)
    × KeepGroups t k ps

-- the one document that stands for just the rows that agree with a path: it has the path's ids, and
-- their states
pub record IsTotal {S : Type 0} (join : S → S → S) (rows : List (List ℕ × S)) (path : List ℕ)
    (docs : List (List ℕ × S)) : Type 0 where
  pub ids : List ℕ
  pub path_is : take (length path) ids ≡ path
  pub docs_are : docs ≡ one_document ids (total join (λ _. true) (rows_at path rows))

-- the documents of a pick cover the rows of its path, and are tested from there on; or they are the
-- one that stands for these rows, and no test is left
abbrev pub HasDocs : {S : Type 0} → (S → S → S) → ℕ → List (List ℕ × S) → Pick S → Type 0
HasDocs join k rows p =
    ((p.level ≡ length p.path) × CoversRows join rows p.path p.docs)
    ⊎ ((p.level ≡ k) × IsTotal join rows p.path p.docs)

-- each pick has
abbrev pub HaveDocs : {S : Type 0} → (S → S → S) → ℕ → List (List ℕ × S) → List (Pick S) → Type 0
HaveDocs join k rows [] = Unit {0}
HaveDocs join k rows (p ∷ ps) = HasDocs join k rows p × HaveDocs join k rows ps
