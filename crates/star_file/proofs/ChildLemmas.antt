-- The children of a node, looked at one by one.
use Rattle.std.proofs.Common.{◌≡◌, ◌≢◌, ℕ, zero, suc, ◌+◌, ◌-◌, ◌<◌, ◌≤◌, Bool, true, false}
use Rattle.std.proofs.Common.{◌==◌, if◌then◌else◌, MatchBool, List, [], ◌∷◌, length, drop, get_or}
use Rattle.std.proofs.Common.{inl, inr, ◌⊎◌, refl, sym, ap, subst, ◌∙◌, arith, length-drop}
use Rattle.std.proofs.Math.Seq.{drop-cons}
use Rattle.std.proofs.lemmas.Bool.{eqb-true, eq-eqb}
use Rattle.star_tree.specs.declared.node.Node.{Node}
use Rattle.agg_laws.specs.declared.tree_shape.TreeShape.{TreeShape}
use Rattle.agg_laws.specs.Tree.{star, skips}
use Rattle.star_tree.specs.NodeRules.{count_at, HaveLevel, AreAbove, Ascend, AreKnown, StarIsLast}
use Rattle.star_tree.specs.NodeRules.{Cover, KeepChildrenRules}
use Rattle.star_file.specs.declared.children.ChildRules.{ChildRules}
use Rattle.star_file.specs.Children.{ChildKeeps}

-- the ids are at least this
abbrev pub AreFrom : ℕ → List Node → Type 0
AreFrom m [] = Unit {0}
AreFrom m (n ∷ ns) = (m ≤ n.id) × AreFrom m ns

-- the rules on what is left of the children
pub record Left (r : ChildRules) (before from least to : ℕ) (ns : List Node) : Type 0 where
  pub levels : HaveLevel (suc r.level) ns
  pub above : AreFrom least ns
  pub ascend : Ascend ns
  pub known : AreKnown r.count ns
  pub star_last : StarIsLast r.skipped r.most before ns
  pub cover : Cover from to ns

abbrev pub next : Node → ℕ → ℕ
next n from = if n.id == star then from else n.end

from_above : (v : ℕ) (ns : List Node) → AreAbove v ns → AreFrom (suc v) ns
from_above v [] h = tt
from_above v (n ∷ ns) h = (h.0, from_above v ns h.1)

to_above : (v : ℕ) (ns : List Node) → AreFrom (suc v) ns → AreAbove v ns
to_above v [] h = tt
to_above v (n ∷ ns) h = (h.0, to_above v ns h.1)

fewer : (m v : ℕ) (ns : List Node) → m ≤ v → AreFrom (suc v) ns → AreFrom m ns
fewer m v [] le h = tt
fewer m v (n ∷ ns) le h = (omega (arith, le, h.0), fewer m v ns le h.1)

nothing_left : (ns : List Node) → length ns ≡ 0 → ns ≡ []
nothing_left [] h = refl
nothing_left (n ∷ ns) h = absurd (omega (arith, h))

not_star : (v : ℕ) → v ≢ star → (v == star) ≡ false
not_star v ne = elim (v == star) as (λ b. (v == star) ≡ b → (v == star) ≡ false) [
  | true ↦ λ e. absurd (ne (eqb-true v star e))
  | false ↦ λ e. e
] refl

either_star : (v : ℕ) → (v ≡ star) ⊎ (v ≢ star)
either_star v = elim (v == star) as (λ b. (v == star) ≡ b → (v ≡ star) ⊎ (v ≢ star)) [
  | true ↦ λ e. inl (eqb-true v star e)
  | false ↦ λ e. inr (λ is. apart (sym e ∙ eq-eqb v star is))
] refl
  where
    apart : false ≡ true → ⊥
    apart e = cc

module _ (r : ChildRules) (before from least to : ℕ) (n : Node) (ns : List Node) where
  pub head : Left r before from least to (n ∷ ns)
      → ChildKeeps r before (length ns) from least n
  head h = record {
    level_is = h.levels.0;
    above = h.above.0;
    star_last = λ e. let s = h.star_last.0 e in (ap length s.0, s.1, s.2, s.3);
    other = λ ne. (
      known_one h.known.0 ne,
      (subst (λ b. MatchBool b (Cover from to ns) ((n.start ≡ from) × Cover n.end to ns))
          (not_star n.id ne) h.cover).0,
    );
  }
    where
      known_one : (n.id ≡ star) ⊎ (n.id < r.count) → n.id ≢ star → n.id < r.count
      known_one (inl e) ne = absurd (ne e)
      known_one (inr lt) ne = lt

  cover_rest : (b : Bool) → MatchBool b (Cover from to ns) ((n.start ≡ from) × Cover n.end to ns)
      → Cover (if b then from else n.end) to ns
  cover_rest true h = h
  cover_rest false h = h.1

  pub rest : Left r before from least to (n ∷ ns)
      → Left r (suc before) (next n from) (suc n.id) to ns
  rest h = record {
    levels = h.levels.1;
    above = from_above n.id ns h.ascend.0;
    ascend = h.ascend.1;
    known = h.known.1;
    star_last = h.star_last.1;
    cover = cover_rest (n.id == star) h.cover;
  }

  cover_join : (b : Bool) → (b ≡ false → n.start ≡ from)
      → Cover (if b then from else n.end) to ns
      → MatchBool b (Cover from to ns) ((n.start ≡ from) × Cover n.end to ns)
  cover_join true s h = h
  cover_join false s h = (s refl, h)

  pub join : ChildKeeps r before (length ns) from least n
      → Left r (suc before) (next n from) (suc n.id) to ns → Left r before from least to (n ∷ ns)
  join k h = record {
    levels = (k.level_is, h.levels);
    above = (k.above, fewer least n.id ns k.above h.above);
    ascend = (to_above n.id ns h.above, h.ascend);
    known = (known_one (either_star n.id), h.known);
    star_last = (
      λ e. let s = k.star_last e in (nothing_left ns s.0, s.1, s.2, s.3),
      h.star_last,
    );
    cover = cover_join (n.id == star) (λ e. (k.other (λ is. apart (sym e ∙ eq-eqb n.id star is))).1)
        h.cover;
  }
    where
      known_one : (n.id ≡ star) ⊎ (n.id ≢ star) → (n.id ≡ star) ⊎ (n.id < r.count)
      known_one (inl e) = inl e
      known_one (inr ne) = inr (k.other ne).0

      apart : false ≡ true → ⊥
      apart e = cc

-- all rules are those on what is left at first
all_from : (ns : List Node) → AreFrom 0 ns
all_from [] = tt
all_from (n ∷ ns) = (omega arith, all_from ns)

pub start : (shape : TreeShape) (counts : List ℕ) (r : ChildRules) (from to : ℕ) (ns : List Node)
    → r.count ≡ count_at counts r.level → r.skipped ≡ skips shape r.level → r.most ≡ to - from
    → KeepChildrenRules shape counts r.level from to ns → Left r 0 from 0 to ns
start shape counts r from to ns c s m h = record {
  levels = h.levels;
  above = all_from ns;
  ascend = h.ids_ascend;
  known = subst (λ n. AreKnown n ns) (sym c) h.ids_known;
  star_last = subst (λ n. StarIsLast r.skipped n 0 ns) (sym m)
      (subst (λ b. StarIsLast b (to - from) 0 ns) (sym s) h.star_last);
  cover = h.ranges_cover;
}

pub done : (shape : TreeShape) (counts : List ℕ) (r : ChildRules) (from to : ℕ) (ns : List Node)
    → r.count ≡ count_at counts r.level → r.skipped ≡ skips shape r.level → r.most ≡ to - from
    → Left r 0 from 0 to ns → KeepChildrenRules shape counts r.level from to ns
done shape counts r from to ns c s m h = record {
  levels = h.levels;
  ids_ascend = h.ascend;
  ids_known = subst (λ n. AreKnown n ns) c h.known;
  star_last = subst (λ n. StarIsLast (skips shape r.level) n 0 ns) m
      (subst (λ b. StarIsLast b r.most 0 ns) s h.star_last);
  ranges_cover = h.cover;
}

-- one more child is looked at
module _ (r : ChildRules) (to i from least : ℕ) (subtrees : List Node) (d : Node) (lt : i < length subtrees)
  where
    cut : drop i subtrees ≡ get_or subtrees i d ∷ drop (suc i) subtrees
    cut = drop-cons subtrees i d lt

    after : length (drop (suc i) subtrees) ≡ length subtrees - 1 - i
    after = let l = length-drop (suc i) subtrees in omega (arith, l, lt)

    same_i : suc i ≡ i + 1
    same_i = omega arith

    pub turn_on : (from' : ℕ) → from' ≡ next (get_or subtrees i d) from
        → Left r i from least to (drop i subtrees)
        → Left r (i + 1) from' ((get_or subtrees i d).id + 1) to (drop (i + 1) subtrees)
    turn_on from' is h =
        let n = get_or subtrees i d in
        let s : suc n.id ≡ n.id + 1 = omega arith in
        subst (λ m. Left r m from' (n.id + 1) to (drop m subtrees)) same_i
        (subst (λ m. Left r (suc i) from' m to (drop (suc i) subtrees)) s
        (subst (λ m. Left r (suc i) m (suc n.id) to (drop (suc i) subtrees)) (sym is)
        (rest r i from least to n (drop (suc i) subtrees)
        (subst (λ l. Left r i from least to l) cut h))))

    pub turn_back : (from' : ℕ) → from' ≡ next (get_or subtrees i d) from
        → ChildKeeps r i (length subtrees - 1 - i) from least (get_or subtrees i d)
        → Left r (i + 1) from' ((get_or subtrees i d).id + 1) to (drop (i + 1) subtrees)
        → Left r i from least to (drop i subtrees)
    turn_back from' is k h =
        let n = get_or subtrees i d in
        let s : suc n.id ≡ n.id + 1 = omega arith in
        subst (λ l. Left r i from least to l) (sym cut)
        (join r i from least to n (drop (suc i) subtrees)
        (subst (λ m. ChildKeeps r i m from least n) (sym after) k)
        (subst (λ m. Left r (suc i) m (suc n.id) to (drop (suc i) subtrees)) is
        (subst (λ m. Left r (suc i) from' m to (drop (suc i) subtrees)) (sym s)
        (subst (λ m. Left r m from' (n.id + 1) to (drop m subtrees)) (sym same_i) h))))

    pub turn_bad : (ChildKeeps r i (length subtrees - 1 - i) from least (get_or subtrees i d) → ⊥)
        → Left r i from least to (drop i subtrees) → ⊥
    turn_bad refused h =
        let n = get_or subtrees i d in
        refused (subst (λ m. ChildKeeps r i m from least n) after
        (head r i from least to n (drop (suc i) subtrees)
        (subst (λ l. Left r i from least to l) cut h)))

-- none is left
gone : (i : ℕ) (subtrees : List Node) → length subtrees ≤ i → drop i subtrees ≡ []
gone zero [] h = refl
gone zero (x ∷ xs) h = absurd (omega arith)
gone (suc n) [] h = refl
gone (suc n) (x ∷ xs) h = gone n xs (omega arith)

pub end_on : (r : ChildRules) (to i from least : ℕ) (subtrees : List Node) → length subtrees ≤ i
    → Left r i from least to (drop i subtrees) → from ≡ to
end_on r to i from least subtrees le h =
    (subst (λ l. Left r i from least to l) (gone i subtrees le) h).cover

pub end_back : (r : ChildRules) (to i from least : ℕ) (subtrees : List Node) → length subtrees ≤ i
    → from ≡ to → Left r i from least to (drop i subtrees)
end_back r to i from least subtrees le is = subst (λ l. Left r i from least to l) (sym (gone i subtrees le))
    (record { levels = tt; above = tt; ascend = tt; known = tt; star_last = tt; cover = is })
