-- A table of seven page views by country, browser and locale, and trees of it, worked by hand.
use Rattle.std.specs.Prelude.{ℕ, ℤ, pos, List, [], ◌∷◌}
use Rattle.agg_laws.specs.declared.aggregate_kind.AggKind.TheVariants as kinds
use Rattle.star_tree.specs.declared.node.Node.{Node}
use Rattle.agg_laws.specs.declared.states.AggState.{AggState}
use Rattle.agg_laws.specs.declared.states.AggState.TheVariants.{Sum, Count}
use Rattle.agg_laws.specs.declared.tree_shape.TreeShape.{TreeShape}
use Rattle.agg_laws.specs.Tree.{star}
use Rattle.state_columns.specs.Docs.{Doc}
use Rattle.star_tree.specs.Flat.{Flat}

-- CA, MX and USA are 0 to 2; Chrome, Firefox and Safari; en, es and fr
abbrev pub view : ℕ → ℕ → ℕ → ℕ → List ℕ × List ℤ
view country browser locale impressions =
    (country ∷ browser ∷ locale ∷ [], pos impressions ∷ pos 0 ∷ [])

-- the page views: country, browser and locale, and impressions
abbrev pub views : List (List ℕ × List ℤ)
views =
    view 0 0 0 400 ∷ view 0 1 2 200 ∷ view 1 2 1 300 ∷ view 1 2 0 100
    ∷ view 2 0 0 600 ∷ view 2 1 1 200 ∷ view 2 1 0 400 ∷ []

-- sums of impressions and counts, with leaves of one document
abbrev pub views_shape : TreeShape
views_shape = record { dims = 3; skipped = 0; leaf = 1; kinds = kinds.Sum ∷ kinds.Count ∷ [] }

-- a document of three ids, with a sum and a count
abbrev pub doc : ℕ → ℕ → ℕ → ℕ → ℕ → Doc
doc country browser locale sum count =
    (country ∷ browser ∷ locale ∷ [], Sum (pos sum) ∷ Count count ∷ [])

-- the documents of the tree over the page views
abbrev pub views_documents : List Doc
views_documents =
    -- one for each combination
    doc 0 0 0 400 1 ∷ doc 0 1 2 200 1 ∷ doc 1 2 0 100 1 ∷ doc 1 2 1 300 1 ∷ doc 2 0 0 600 1
    ∷ doc 2 1 0 400 1 ∷ doc 2 1 1 200 1
    -- those of any country
    ∷ doc star 0 0 1000 2 ∷ doc star 1 0 400 1 ∷ doc star 1 1 200 1 ∷ doc star 1 2 200 1
    ∷ doc star 2 0 100 1 ∷ doc star 2 1 300 1
    -- below CA, MX and USA
    ∷ doc 0 star 0 400 1 ∷ doc 0 star 2 200 1 ∷ doc 0 star star 600 2
    ∷ doc 1 2 star 400 2 ∷ doc 1 star star 400 2
    ∷ doc 2 star 0 1000 2 ∷ doc 2 star 1 200 1 ∷ doc 2 1 star 600 2 ∷ doc 2 star star 1200 3
    -- below any country
    ∷ doc star star 0 1500 4 ∷ doc star star 1 500 2 ∷ doc star star 2 200 1 ∷ doc star 1 star 800 3
    ∷ doc star 2 star 400 2 ∷ doc star star star 2200 7 ∷ []

-- level, id, start, end, total, first child and number of children
abbrev pub at : ℕ → ℕ → ℕ → ℕ → ℕ → ℕ → ℕ → Node
at level id start end total first children = record {
  level = level;
  id = id;
  start = start;
  end = end;
  total = total;
  first = first;
  children = children;
}

-- its nodes
abbrev pub views_nodes : List Node
views_nodes =
    at 0 star 0 7 27 1 4 ∷ at 1 0 0 2 15 5 3 ∷ at 1 1 2 4 17 11 1 ∷ at 1 2 4 7 21 15 3 ∷
    at 1 star 7 13 27 24 4 ∷ at 2 0 0 1 0 0 0 ∷ at 2 1 1 2 1 0 0 ∷ at 2 star 13 15 15 8 3 ∷
    at 3 0 13 14 13 0 0 ∷ at 3 2 14 15 14 0 0 ∷ at 3 star 15 16 15 0 0 ∷ at 2 2 2 4 16 12 3 ∷
    at 3 0 2 3 2 0 0 ∷ at 3 1 3 4 3 0 0 ∷ at 3 star 16 17 16 0 0 ∷ at 2 0 4 5 4 0 0 ∷
    at 2 1 5 7 20 18 3 ∷ at 2 star 18 20 21 21 3 ∷ at 3 0 5 6 5 0 0 ∷ at 3 1 6 7 6 0 0 ∷
    at 3 star 20 21 20 0 0 ∷ at 3 0 18 19 18 0 0 ∷ at 3 1 19 20 19 0 0 ∷ at 3 star 21 22 21 0 0 ∷
    at 2 0 7 8 7 0 0 ∷ at 2 1 8 11 25 28 4 ∷ at 2 2 11 13 26 32 3 ∷ at 2 star 22 25 27 35 4 ∷
    at 3 0 8 9 8 0 0 ∷ at 3 1 9 10 9 0 0 ∷ at 3 2 10 11 10 0 0 ∷ at 3 star 25 26 25 0 0 ∷
    at 3 0 11 12 11 0 0 ∷ at 3 1 12 13 12 0 0 ∷ at 3 star 26 27 26 0 0 ∷ at 3 0 22 23 22 0 0 ∷
    at 3 1 23 24 23 0 0 ∷ at 3 2 24 25 24 0 0 ∷ at 3 star 27 28 27 0 0 ∷ []

-- the same table with other leaf sizes
abbrev pub with_leaf : ℕ → TreeShape
with_leaf leaf = record { dims = 3; skipped = 0; leaf = leaf; kinds = kinds.Sum ∷ kinds.Count ∷ [] }

-- leaves of seven documents, and of ten: the root is a leaf
abbrev pub leaf_of_seven : Flat (List AggState)
leaf_of_seven = (
  at 0 star 0 7 7 0 0 ∷ [],
  doc 0 0 0 400 1 ∷ doc 0 1 2 200 1 ∷ doc 1 2 0 100 1 ∷ doc 1 2 1 300 1 ∷ doc 2 0 0 600 1 ∷
      doc 2 1 0 400 1 ∷ doc 2 1 1 200 1 ∷ doc star star star 2200 7 ∷ [],
)

-- leaves of six: the root is split, and each of its children is a leaf
abbrev pub leaves_of_six : Flat (List AggState)
leaves_of_six = (
  at 0 star 0 7 16 1 4 ∷ at 1 0 0 2 13 0 0 ∷ at 1 1 2 4 14 0 0 ∷ at 1 2 4 7 15 0 0 ∷
      at 1 star 7 13 16 0 0 ∷ [],
  doc 0 0 0 400 1 ∷ doc 0 1 2 200 1 ∷ doc 1 2 0 100 1 ∷ doc 1 2 1 300 1 ∷ doc 2 0 0 600 1 ∷
      doc 2 1 0 400 1 ∷ doc 2 1 1 200 1 ∷ doc star 0 0 1000 2 ∷ doc star 1 0 400 1 ∷
      doc star 1 1 200 1 ∷ doc star 1 2 200 1 ∷ doc star 2 0 100 1 ∷ doc star 2 1 300 1 ∷
      doc 0 star star 600 2 ∷ doc 1 star star 400 2 ∷ doc 2 star star 1200 3 ∷
      doc star star star 2200 7 ∷ [],
)

-- leaves of two
abbrev pub leaves_of_two : Flat (List AggState)
leaves_of_two = (
  at 0 star 0 7 24 1 4 ∷ at 1 0 0 2 13 0 0 ∷ at 1 1 2 4 14 0 0 ∷ at 1 2 4 7 18 5 3 ∷
      at 1 star 7 13 24 8 4 ∷ at 2 0 4 5 4 0 0 ∷ at 2 1 5 7 17 0 0 ∷ at 2 star 15 17 18 0 0 ∷
      at 2 0 7 8 7 0 0 ∷ at 2 1 8 11 22 12 4 ∷ at 2 2 11 13 23 0 0 ∷ at 2 star 19 22 24 16 4 ∷
      at 3 0 8 9 8 0 0 ∷ at 3 1 9 10 9 0 0 ∷ at 3 2 10 11 10 0 0 ∷ at 3 star 22 23 22 0 0 ∷
      at 3 0 19 20 19 0 0 ∷ at 3 1 20 21 20 0 0 ∷ at 3 2 21 22 21 0 0 ∷ at 3 star 24 25 24 0 0 ∷ [],
  doc 0 0 0 400 1 ∷ doc 0 1 2 200 1 ∷ doc 1 2 0 100 1 ∷ doc 1 2 1 300 1 ∷ doc 2 0 0 600 1 ∷
      doc 2 1 0 400 1 ∷ doc 2 1 1 200 1 ∷ doc star 0 0 1000 2 ∷ doc star 1 0 400 1 ∷
      doc star 1 1 200 1 ∷ doc star 1 2 200 1 ∷ doc star 2 0 100 1 ∷ doc star 2 1 300 1 ∷
      doc 0 star star 600 2 ∷ doc 1 star star 400 2 ∷ doc 2 star 0 1000 2 ∷ doc 2 star 1 200 1 ∷
      doc 2 1 star 600 2 ∷ doc 2 star star 1200 3 ∷ doc star star 0 1500 4 ∷ doc star star 1 500 2 ∷
      doc star star 2 200 1 ∷ doc star 1 star 800 3 ∷ doc star 2 star 400 2 ∷
      doc star star star 2200 7 ∷ [],
)

-- the same, and no star child is made for countries
abbrev pub skips_countries : TreeShape
skips_countries = record { dims = 3; skipped = 1; leaf = 2; kinds = kinds.Sum ∷ kinds.Count ∷ [] }

-- the tree over the page views that makes no star node for the country
abbrev pub country_skipped : Flat (List AggState)
country_skipped = (
  at 0 star 0 7 13 1 3 ∷ at 1 0 0 2 7 0 0 ∷ at 1 1 2 4 8 0 0 ∷ at 1 2 4 7 12 4 3 ∷
      at 2 0 4 5 4 0 0 ∷ at 2 1 5 7 11 0 0 ∷ at 2 star 9 11 12 0 0 ∷ [],
  doc 0 0 0 400 1 ∷ doc 0 1 2 200 1 ∷ doc 1 2 0 100 1 ∷ doc 1 2 1 300 1 ∷ doc 2 0 0 600 1 ∷
      doc 2 1 0 400 1 ∷ doc 2 1 1 200 1 ∷ doc 0 star star 600 2 ∷ doc 1 star star 400 2 ∷
      doc 2 star 0 1000 2 ∷ doc 2 star 1 200 1 ∷ doc 2 1 star 600 2 ∷ doc 2 star star 1200 3 ∷
      doc star star star 2200 7 ∷ [],
)

-- rows of one country
abbrev pub views_of_the_usa : List (List ℕ × List ℤ)
views_of_the_usa = view 2 0 0 600 ∷ view 2 1 1 200 ∷ view 2 1 0 400 ∷ []

-- their tree, with leaves of one: the only child of the root has no star child beside it
abbrev pub one_country : Flat (List AggState)
one_country = (
  at 0 star 0 3 7 1 1 ∷ at 1 2 0 3 6 2 3 ∷ at 2 0 0 1 0 0 0 ∷ at 2 1 1 3 5 5 3 ∷
      at 2 star 3 5 6 8 3 ∷ at 3 0 1 2 1 0 0 ∷ at 3 1 2 3 2 0 0 ∷ at 3 star 5 6 5 0 0 ∷
      at 3 0 3 4 3 0 0 ∷ at 3 1 4 5 4 0 0 ∷ at 3 star 6 7 6 0 0 ∷ [],
  doc 2 0 0 600 1 ∷ doc 2 1 0 400 1 ∷ doc 2 1 1 200 1 ∷ doc 2 star 0 1000 2 ∷
      doc 2 star 1 200 1 ∷ doc 2 1 star 600 2 ∷ doc 2 star star 1200 3 ∷ doc star star star 1200 3
      ∷ [],
)
