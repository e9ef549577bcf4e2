-- Bytes that are added piece by piece.
use Rattle.std.proofs.Common.{◌≡◌, ℕ, zero, suc, ◌+◌, ◌<◌, ◌≤◌, List, [], ◌∷◌, ◌++◌, length, take}
use Rattle.std.proofs.Common.{get_or, slice_get, Some, refl, sym, ap, subst, ◌∙◌, arith, append_assoc}
use Rattle.std.proofs.Math.Seq.{take-suc, take-length}
use Rattle.std.specs.Int.{w32, to_be_bytes}
use Rattle.agg_laws.specs.declared.aggregate_kind.AggKind.{AggKind}
use Rattle.agg_laws.specs.declared.aggregate_kind.AggKind.TheVariants as kinds
use Rattle.agg_laws.specs.declared.states.AggState.{AggState}
use Rattle.star_tree.specs.declared.node.Node.{Node}
use Rattle.agg_laws.specs.Kind.{width_of}
use Rattle.agg_laws.specs.States.{spelling, IsStored}
use Rattle.agg_laws.specs.Rows.{RowStored}
use Rattle.state_columns.specs.Docs.{Doc}
use Rattle.std.proofs.Common.{◌-◌, ◌*◌, ◌%◌, drop, length-drop}
use Rattle.std.proofs.lemmas.List.{drop-drop}
use Rattle.std.proofs.Math.Nat.{mod-add-div}
use Rattle.star_file.specs.Rules.{node_in, nodes_in, count_in}
use Rattle.star_file.specs.Bytes.{words, node_words, node_bytes, state_bytes, doc_bytes, IsExtended}

pub widest : (k : AggKind) → width_of k ≤ 24
widest kinds.Count = omega arith
widest kinds.Sum = omega arith
widest kinds.Least = omega arith
widest kinds.Greatest = omega arith
widest kinds.Average = omega arith

append_none : {X : Type 0} (xs : List X) → xs ++ [] ≡ xs
append_none [] = refl
append_none (x ∷ xs) = ap (λ t. x ∷ t) (append_none xs)

-- what is spelled of items, of which each has a spelling
module _ {X : Type 0} (f : List X → List ℕ) (g : X → List ℕ) (none : f [] ≡ [])
    (first : (x : X) (xs : List X) → f (x ∷ xs) ≡ g x ++ f xs) where
  at_end : (xs : List X) (x : X) → f (xs ++ (x ∷ [])) ≡ f xs ++ g x
  at_end [] x = first x [] ∙ ap (λ t. g x ++ t) none ∙ append_none (g x) ∙ ap (λ t. t ++ g x) (sym none)
  at_end (y ∷ ys) x = first y (ys ++ (x ∷ [])) ∙ ap (λ t. g y ++ t) (at_end ys x)
      ∙ sym (append_assoc (g y) (f ys) (g x)) ∙ ap (λ t. t ++ g x) (sym (first y ys))

  pub more : (xs : List X) (i : ℕ) (x : X) (old mid new : List ℕ) → i < length xs
      → x ≡ get_or xs i x → mid ≡ old ++ f (take i xs) → new ≡ mid ++ g x
      → new ≡ old ++ f (take (i + 1) xs)
  more xs i x old mid new lt is p q =
      let n : suc i ≡ i + 1 = omega arith in
      q ∙ ap (λ t. t ++ g x) p ∙ append_assoc old (f (take i xs)) (g x)
      ∙ ap (λ t. old ++ t) (sym (at_end (take i xs) x)
      ∙ ap f (ap (λ y. take i xs ++ (y ∷ [])) is ∙ sym (take-suc xs i x lt)
      ∙ ap (λ m. take m xs) n))

  pub all : (xs : List X) (i : ℕ) (old new : List ℕ) → i ≡ length xs → new ≡ old ++ f (take i xs)
      → new ≡ old ++ f xs
  all xs i old new is p = p ∙ ap (λ m. old ++ f (take m xs)) is ∙ ap (λ l. old ++ f l) (take-length xs)

pub kept_more : (old part mid new : List ℕ) → mid ≡ old ++ part → IsExtended mid new
    → IsExtended old new
kept_more old part mid new is h =
    (part ++ h.0, h.1 ∙ ap (λ t. t ++ h.0) is ∙ append_assoc old part h.0)

pub itself : (old : List ℕ) → IsExtended old old
itself old = ([], sym (append_none old))

pub word_none : words [] ≡ []
word_none = refl

pub word_first : (x : ℕ) (xs : List ℕ) → words (x ∷ xs) ≡ words (x ∷ []) ++ words xs
word_first x xs = ap (λ t. t ++ words xs) (sym (append_none (to_be_bytes w32 x)))

pub node_first : (n : Node) (ns : List Node) → node_bytes (n ∷ ns)
    ≡ words (node_words n) ++ node_bytes ns
node_first n ns = refl

pub state_first : (v : AggState) (vs : List AggState) → state_bytes (v ∷ vs)
    ≡ spelling v ++ state_bytes vs
state_first v vs = refl

pub doc_first : (e : Doc) (es : List Doc) → doc_bytes (e ∷ es)
    ≡ (words e.0 ++ state_bytes e.1) ++ doc_bytes es
doc_first e es = refl

-- a stored state of a row
pub stored_there : (vs : List AggState) (i : ℕ) (v : AggState) → RowStored vs
    → slice_get vs i ≡ Some v → IsStored v
stored_there [] i v h is = cc
stored_there (w ∷ ws) zero v h is = subst IsStored (same w v is) h.0
  where
    same : (w v : AggState) → Some w ≡ Some v → w ≡ v
    same w v e = cc
stored_there (w ∷ ws) (suc i) v h is = stored_there ws i v h.1 is

-- one more node is read
pub nodes_step : (count i : ℕ) (bytes : List ℕ) (n : Node) (mid new all : List Node) → i < count
    → n ≡ node_in (take (28 * i + 28 - 28 * i) (drop (28 * i) bytes))
    → mid ++ nodes_in (count - i) (drop (28 * i) bytes) ≡ all → new ≡ mid ++ (n ∷ [])
    → new ++ nodes_in (count - (i + 1)) (drop (28 * (i + 1)) bytes) ≡ all
nodes_step count i bytes n mid new all lt is h more =
    let w : 28 * i + 28 - 28 * i ≡ 28 = omega arith in
    let m : count - i ≡ suc (count - (i + 1)) = omega (arith, lt) in
    let d : 28 * i + 28 ≡ 28 * (i + 1) = omega arith in
    let rest = nodes_in (count - (i + 1)) (drop (28 * (i + 1)) bytes) in
    ap (λ l. l ++ rest) more ∙ append_assoc mid (n ∷ []) rest
    ∙ (λ j. mid ++ ((is ∙ ap (λ k. node_in (take k (drop (28 * i) bytes))) w) j
    ∷ nodes_in (count - (i + 1)) ((sym (drop-drop 28 (28 * i) bytes ∙ ap (λ k. drop k bytes) d)) j)))
    ∙ ap (λ k. mid ++ nodes_in k (drop (28 * i) bytes)) (sym m) ∙ h

pub section_long : (bytes : List ℕ) → 4 ≤ length bytes → (length bytes - 4) % 28 ≡ 0
    → length bytes ≡ 4 + 28 * count_in bytes
section_long bytes le even = let h = mod-add-div (length bytes - 4) 28
    in omega (arith, h, even, le)

pub after_number : (bytes : List ℕ) → take (length bytes - 4) (drop 4 bytes) ≡ drop 4 bytes
after_number bytes = ap (λ n. take n (drop 4 bytes)) (sym (length-drop 4 bytes))
    ∙ take-length (drop 4 bytes)
