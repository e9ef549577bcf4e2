-- The nodes of the flat tree of some rows keep all rules, and each of their numbers has four bytes.
use Rattle.std.proofs.Common.{◌≡◌, ◌<◌, ◌≤◌, ◌+◌, ◌-◌, ◌*◌, ◌^◌, ℕ, zero, suc, Bool, true, false, cond, ◌&&◌, ◌||◌, ◌==◌, ◌⊎◌, List, [], ◌∷◌, length, drop, inl, inr, refl, ap, arith, length-drop, mul-le-mul_left}
use Rattle.std.proofs.lemmas.Bool.Decides.{nat_tests}
use Rattle.std.proofs.lemmas.List.{length-take-le}
use Rattle.std.proofs.Math.Nat.{mul_comm}
use Rattle.std.specs.Prelude.{◌↔◌}
use Rattle.star_tree.specs.declared.node.Node.{Node}
use Rattle.agg_laws.specs.declared.states.AggState.{AggState}
use Rattle.agg_laws.specs.declared.tree_shape.TreeShape.{TreeShape}
use Rattle.agg_laws.specs.Rows.{merged_rows}
use Rattle.agg_laws.specs.Merged.{rekey}
use Rattle.agg_laws.specs.Tree.{star, agrees, dim, merged_docs, root_of, rows_at, starred, tree_of}
use Rattle.agg_laws.specs.Tree.{under, HaveNoStar}
use Rattle.state_columns.specs.Docs.{Doc, HaveIds}
use Rattle.star_tree.specs.Flat.{Flat, blank, flat, node_at, tree_bytes}
use Rattle.state_columns.specs.Region.{range}
use Rattle.star_tree.specs.FlatNodes.{IsOfTree}
use Rattle.star_tree.specs.NodeRules.{AreCounted, IsRoot, count_at}
use Rattle.state_columns.proofs.DocLemmas.{rows_join}
use Rattle.star_tree.proofs.FlatLemmas.{Outside, same_unvisited, more_docs, visit_grows}
use Rattle.star_tree.proofs.FlatTrees.{nodes_of_tree}
use Rattle.star_tree.proofs.RuleLemmas.{rules_kept}
use Rattle.star_tree.proofs.TreeLemmas.{none_merged}
use Rattle.star_file.specs.Rules.{AreWords, KeepAll, most_bytes, widths}

-- ---- the root, and where there are no rows

root_is : (shape : TreeShape) (k : ℕ) (docs : List Doc) → 0 < length (flat merged_rows (root_of merged_rows shape k docs)).0 → IsRoot (node_at (flat merged_rows (root_of merged_rows shape k docs)).0 0)
root_is shape k [] some = absurd (omega (arith, some))
root_is shape k (e ∷ es) some =
    let docs : List Doc = e ∷ es in
    let first : Flat (List AggState) = (blank 0 star 0 (length docs) ∷ [], docs) in
    let whole = flat merged_rows (root_of merged_rows shape k docs) in
    let same = same_unvisited (Outside 0 1) first whole (visit_grows merged_rows 0 0 docs (under merged_rows shape k 0 docs) first (omega arith)) 0 (omega arith) in
    record { level = ap (λ n. n.level) same; id = ap (λ n. n.id) same; start = ap (λ n. n.start) same }

-- neither nodes nor documents, or some of both
record Alike (shape : TreeShape) (k : ℕ) (docs : List Doc) : Type 0 where
  nodes : length docs ≡ 0 → length (flat merged_rows (root_of merged_rows shape k docs)).0 ≡ 0
  documents : length docs ≡ 0 → length (flat merged_rows (root_of merged_rows shape k docs)).1 ≡ 0
  some_nodes : 0 < length docs → 0 < length (flat merged_rows (root_of merged_rows shape k docs)).0
  some_documents : 0 < length docs → 0 < length (flat merged_rows (root_of merged_rows shape k docs)).1

alike : (shape : TreeShape) (k : ℕ) (docs : List Doc) → Alike shape k docs
alike shape k [] = record { nodes = λ n. refl; documents = λ n. refl; some_nodes = λ some. absurd (omega (arith, some)); some_documents = λ some. absurd (omega (arith, some)) }
alike shape k (e ∷ es) =
    let docs : List Doc = e ∷ es in
    let first : Flat (List AggState) = (blank 0 star 0 (length docs) ∷ [], docs) in
    let whole = flat merged_rows (root_of merged_rows shape k docs) in
    let grows = visit_grows merged_rows 0 0 docs (under merged_rows shape k 0 docs) first (omega arith) in
    let more = more_docs (Outside 0 1) first whole grows in
    record {
      nodes = λ n. absurd (omega (arith, n));
      documents = λ n. absurd (omega (arith, n));
      some_nodes = λ some. omega (arith, grows.longer);
      some_documents = λ some. omega (arith, more);
    }

empty : {X : Type 0} (xs : List X) → length xs ≡ 0 → xs ≡ []
empty [] n = refl
empty (x ∷ xs) n = absurd (omega (arith, n))

zero_or : (n : ℕ) → (n ≡ 0) ⊎ (0 < n)
zero_or zero = inl refl
zero_or (suc n) = inr (omega arith)

-- the nodes keep all rules, where the tree takes no more bytes than one may
pub tree_keeps : (shape : TreeShape) (docs : List Doc) (counts : List ℕ) → HaveIds shape.dims docs → HaveNoStar shape.dims docs → ((d : ℕ) → count_at counts d ≤ star) → AreCounted shape.dims counts docs
    → tree_bytes merged_rows (4 * shape.dims + widths shape.kinds) (tree_of merged_rows shape shape.dims docs) ≤ most_bytes
    → KeepAll shape counts (length (flat merged_rows (tree_of merged_rows shape shape.dims docs)).1) (flat merged_rows (tree_of merged_rows shape shape.dims docs)).0
tree_keeps shape docs counts ids no_star at_most counted small =
    let f = flat merged_rows (tree_of merged_rows shape shape.dims docs) in
    let merged : List Doc = merged_docs merged_rows docs in
    let both = alike shape shape.dims merged in
    let width : ℕ = 4 * shape.dims + widths shape.kinds in
    record {
      none = (
        λ nodes. elim (zero_or (length merged)) [ inl n ↦ both.documents n | inr some ↦ absurd (omega (arith, both.some_nodes some, ap length nodes)) ],
        λ documents. elim (zero_or (length merged)) [ inl n ↦ empty f.0 (both.nodes n) | inr some ↦ absurd (omega (arith, both.some_documents some, documents)) ],
      );
      bytes = let m = mul_comm width (length f.1) in omega (arith, m, small);
      root = λ some. root_is shape shape.dims merged some;
      each = λ at lt. rules_kept merged_rows rows_join shape shape.dims docs ids no_star counts at_most counted at lt;
    }

-- there are documents exactly where there are rows
pub no_documents : (shape : TreeShape) (k : ℕ) (docs : List Doc) → (length (flat merged_rows (tree_of merged_rows shape k docs)).1 ≡ 0) ↔ (length docs ≡ 0)
no_documents shape k docs =
    let merged : List Doc = merged_docs merged_rows docs in
    let both = alike shape k merged in (
      λ none. elim (zero_or (length merged)) [
        | inl n ↦ ap length (none_merged merged_rows rows_join docs (empty merged n))
        | inr some ↦ absurd (omega (arith, both.some_documents some, none))
      ],
      λ none. both.documents (ap (λ ds. length (merged_docs merged_rows ds)) (empty docs none)),
    )

-- ---- numbers of four bytes

second : (a b : Bool) → (a && b) ≡ true → b ≡ true
second true b h = h
second false b h = cc

-- an id of a path that agrees with ids is one of them, or the star
agreed : (path xs : List ℕ) (i : ℕ) → agrees path xs ≡ true → (dim i path ≡ star) ⊎ (dim i path ≡ dim i xs)
agreed [] xs i h = inl refl
agreed (p ∷ ps) [] zero h = inl (grind (arith, nat_tests, h))
agreed (p ∷ ps) [] (suc i) h = agreed ps [] i (second (p == star) (agrees ps []) h)
agreed (p ∷ ps) (x ∷ xs) zero h = grind (arith, nat_tests, h)
agreed (p ∷ ps) (x ∷ xs) (suc i) h = agreed ps xs i (second ((p == star) || (x == p)) (agrees ps xs) h)

-- where some rows agree with a path, its ids are below their counts, or the star
path_below : (k : ℕ) (counts path : List ℕ) (rows : List Doc) (i : ℕ) → AreCounted k counts rows → i < k → count_at counts i ≤ star → 0 < length (rows_at path rows) → dim i path ≤ star
path_below k counts path [] i counted lt at_most some = absurd (omega (arith, some))
path_below k counts path (e ∷ es) i counted lt at_most some =
    elim (agrees path e.0) as (λ b. agrees path e.0 ≡ b → 0 < length (cond b (e ∷ rows_at path es) (rows_at path es)) → dim i path ≤ star) [
      | true ↦ λ is more. elim (agreed path e.0 i is) [ inl starred ↦ omega (arith, starred) | inr same ↦ omega (arith, same, counted.0 i lt, at_most) ]
      | false ↦ λ is more. path_below k counts path es i counted.1 lt at_most more
    ] refl some

docs_some : (from to : ℕ) (docs all : List Doc) → from < to → to ≤ length all → range from to all ≡ docs → 0 < length docs
docs_some from to docs all lt within is = omega (arith, ap length is, length-take-le (to - from) (drop from all) (omega (arith, length-drop from all)), lt)

none_length : (path : List ℕ) (rows docs : List Doc) → docs ≡ merged_docs merged_rows (rekey (starred path) (rows_at path rows)) → 0 < length docs → 0 < length (rows_at path rows)
none_length path rows docs is some =
    elim (zero_or (length (rows_at path rows))) [
      | inl n ↦ absurd (omega (arith, some, ap length is, ap (λ l. length (merged_docs merged_rows (rekey (starred path) l))) (empty (rows_at path rows) n)))
      | inr more ↦ more
    ]

path_id : (k : ℕ) (counts path : List ℕ) (rows : List Doc) → AreCounted k counts rows → length path ≤ k → ((d : ℕ) → count_at counts d ≤ star) → 0 < length (rows_at path rows) → dim (length path - 1) path ≤ star
path_id k counts [] rows counted short at_most some = omega arith
path_id k counts (p ∷ ps) rows counted short at_most some = path_below k counts (p ∷ ps) rows (length (p ∷ ps) - 1) counted (omega arith) (at_most (length (p ∷ ps) - 1)) some

-- each number of a node has four bytes
record IsWords (n : Node) : Type 0 where
  level : n.level < 2 ^ 32
  id : n.id < 2 ^ 32
  start : n.start < 2 ^ 32
  end : n.end < 2 ^ 32
  total : n.total < 2 ^ 32
  first : n.first < 2 ^ 32
  children : n.children < 2 ^ 32

words_each : (ns : List Node) → ((at : ℕ) → at < length ns → IsWords (node_at ns at)) → AreWords ns
words_each [] each = tt
words_each (n ∷ ns) each =
    let w = each 0 (omega arith) in
    (w.level, w.id, w.start, w.end, w.total, w.first, w.children, words_each ns (λ at lt. each (suc at) (omega arith)))

pub tree_words : (shape : TreeShape) (docs : List Doc) (counts : List ℕ) → 1 ≤ shape.dims → shape.dims ≤ 16 → HaveIds shape.dims docs → HaveNoStar shape.dims docs → ((d : ℕ) → count_at counts d ≤ star) → AreCounted shape.dims counts docs
    → (keep : KeepAll shape counts (length (flat merged_rows (tree_of merged_rows shape shape.dims docs)).1) (flat merged_rows (tree_of merged_rows shape shape.dims docs)).0)
    → AreWords (flat merged_rows (tree_of merged_rows shape shape.dims docs)).0
tree_words shape docs counts some narrow ids no_star at_most counted keep =
    let k : ℕ = shape.dims in
    let f = flat merged_rows (tree_of merged_rows shape k docs) in
    let width : ℕ = 4 * k + widths shape.kinds in
    let number : length f.1 ≤ most_bytes = (let wide : 1 ≤ width = omega (arith, some) in let m = mul-le-mul_left (length f.1) wide in omega (arith, m, keep.bytes)) in
    words_each f.0 (λ at lt.
    let r = keep.each at lt in
    let t : IsOfTree merged_rows shape k docs at f = nodes_of_tree merged_rows rows_join shape k docs ids no_star at lt in
    let there = docs_some (node_at f.0 at).start (node_at f.0 at).end t.docs f.1 t.is.docs_are.order t.is.docs_are.inside t.is.docs_are.docs_are in
    let id : dim (length t.path - 1) t.path ≤ star = path_id k counts t.path docs counted (omega (arith, t.levels_are)) at_most (none_length t.path docs t.docs t.covers.docs_are there) in
    let subtrees : ((node_at f.0 at).first < 2 ^ 32) × ((node_at f.0 at).children < 2 ^ 32) =
    elim (zero_or (node_at f.0 at).children) [
      | inl n ↦ (omega (arith, r.leaf_first n), omega (arith, n))
      | inr more ↦ (omega (arith, r.split_last more, keep.bytes), omega (arith, r.split_last more, keep.bytes))
    ] in
    record {
      level = omega (arith, r.level, narrow);
      id = omega (arith, t.is.docs_are.id_is, id);
      start = omega (arith, r.order, r.inside, number);
      end = omega (arith, r.inside, number);
      total = omega (arith, r.total, number);
      first = subtrees.0;
      children = subtrees.1;
    })
