-- Nodes are read back from their bytes.
use Rattle.std.proofs.Common.{◌≡◌, ℕ, ◌+◌, ◌-◌, ◌*◌, ◌/◌, ◌^◌, ◌<◌, List, [], ◌∷◌, ◌++◌}
use Rattle.std.proofs.Common.{length, take, drop, refl, sym, ap, subst, ◌∙◌, arith}
use Rattle.std.specs.Int.{w32, to_be_bytes, from_be_bytes}
use Rattle.std.proofs.lemmas.Nat.{from_be_bytes-to_be_bytes_4}
use Rattle.star_tree.specs.declared.node.Node.{Node}
use Rattle.agg_laws.specs.declared.tree_shape.TreeShape.{TreeShape}
use Rattle.star_file.specs.Bytes.{words, node_words, node_bytes, nodes_section}
use Rattle.star_file.specs.Rules.{AreWords, KeepAll, KeepsSection, number_at, node_in, nodes_in, count_in}

pub word_back : (x : ℕ) → x < 2 ^ 32 → from_be_bytes w32 (to_be_bytes w32 x) ≡ x
word_back x lt = from_be_bytes-to_be_bytes_4 x lt

node_back : (n : Node) (ns : List Node) (rest : List ℕ) → AreWords (n ∷ ns)
    → node_in (take 28 (words (node_words n) ++ rest)) ≡ n
node_back n ns rest h = λ i. record {
  level = word_back n.level h.0 i;
  id = word_back n.id h.1 i;
  start = word_back n.start h.2 i;
  end = word_back n.end h.3 i;
  total = word_back n.total h.4 i;
  first = word_back n.first h.5 i;
  children = word_back n.children h.6 i;
}

nodes_back : (ns : List Node) → AreWords ns → nodes_in (length ns) (node_bytes ns) ≡ ns
nodes_back [] h = refl
nodes_back (n ∷ ns) h =
    (λ i. node_back n ns (node_bytes ns) h i ∷ nodes_back ns h.7 i)

length_nodes : (ns : List Node) → length (node_bytes ns) ≡ 28 * length ns
length_nodes [] = refl
length_nodes (n ∷ ns) = let l = length_nodes ns in omega (arith, l)

counted : (m : ℕ) → (4 + 28 * m - 4) / 28 ≡ m
counted m = omega arith

pub section_count : (documents : ℕ) (ns : List Node) → length (nodes_section documents ns) ≡ 4 + 28 * length ns
section_count documents ns = let l = length_nodes ns in omega (arith, l)

nodes_count : (documents : ℕ) (ns : List Node) → count_in (nodes_section documents ns) ≡ length ns
nodes_count documents ns = ap (λ m. (m - 4) / 28) (section_count documents ns) ∙ counted (length ns)

-- the nodes of a section are read back
pub section_nodes : (documents : ℕ) (ns : List Node) → AreWords ns → nodes_in (count_in (nodes_section documents ns)) (drop 4 (nodes_section documents ns)) ≡ ns
section_nodes documents ns small = ap (λ m. nodes_in m (node_bytes ns)) (nodes_count documents ns) ∙ nodes_back ns small

pub section_back : (shape : TreeShape) (counts : List ℕ) (documents : ℕ) (ns : List Node)
    → documents < 2 ^ 32 → AreWords ns → KeepAll shape counts documents ns
    → KeepsSection shape counts (nodes_section documents ns)
section_back shape counts documents ns lt small keeps =
    let count = nodes_count documents ns in
    record {
      lengths = section_count documents ns ∙ ap (λ m. 4 + 28 * m) (sym count);
      keeps = subst (λ m. KeepAll shape counts (number_at 0 (nodes_section documents ns))
          (nodes_in m (node_bytes ns))) (sym count)
          (subst (λ (l : List Node). KeepAll shape counts (number_at 0 (nodes_section documents ns)) l)
          (sym (nodes_back ns small))
          (subst (λ (d : ℕ). KeepAll shape counts d ns) (sym (word_back documents lt)) keeps));
    }
