-- The numbers of texts and of numbers.
use Rattle.std.proofs.Common.{◌≡◌, ◌∙◌, ◌<◌, ◌+◌, ◌==◌, ◌⊎◌, inl, inr, ℕ, zero, suc, ℤ, true, false, List, [], ◌∷◌, length, map, get_or, replicate, take, Vec, Global, ◌++◌, Option, Some, None, refl, sym, ap, subst}
use Rattle.std.specs.Prelude.{pos}
use Rattle.std.specs.List.{All}
use Rattle.std.proofs.Math.ListN.{set}
use Rattle.std.proofs.lemmas.Bool.{eqb-false, eqb-true}
use Rattle.std.proofs.lemmas.List.{get_or-set_other, get_or-set_same, length-map, length-replicate, length-set, map-append, replicate_more, take_more}
use Rattle.std.proofs.lemmas.List.Elements.{All-push, All-weaker}
use Rattle.values.specs.Columns.{ListedColumns}
use Rattle.table_schema.specs.declared.query.Agg.{Agg}
use Rattle.segment_build.specs.declared.coded.CodedColumns.{CodedColumns}
use Rattle.segment_build.specs.Coded.{AreThere, GainsNumbers, HaveNumbers, columns_in, decoded, no_values}
use Rattle.segment_build.specs.Numbers.{numbers_in}
use Rattle.values.specs.declared.value.Value.TheVariants.{Text, Whole}
use Rattle.segment_file.specs.Trees.{number_of}

pub text_numbers : (texts : List (List ℕ)) → map number_of (map Text texts) ≡ replicate (length texts) (pos 0)
text_numbers [] = refl
text_numbers (t ∷ ts) = ap (λ xs. pos 0 ∷ xs) (text_numbers ts)

pub whole_numbers : (numbers : List ℤ) → map number_of (map Whole numbers) ≡ numbers
whole_numbers [] = refl
whole_numbers (n ∷ ns) = ap (λ xs. n ∷ xs) (whole_numbers ns)

-- ---- lists that are made one after the other

pub map_set : {A B : Type 0} (f : A → B) (xs : List A) (i : ℕ) (y : A) → map f (set xs i y) ≡ set (map f xs) i (f y)
map_set f [] i y = refl
map_set f (x ∷ xs) zero y = refl
map_set f (x ∷ xs) (suc i) y = ap (λ ys. f x ∷ ys) (map_set f xs i y)

pub none_there : {A : Type 0} (n at : ℕ) → get_or (replicate {A = List A} n []) at [] ≡ []
none_there zero at = refl
none_there (suc n) zero = refl
none_there (suc n) (suc at) = none_there n at

pub lists_more : (n : ℕ) (old new : List (Vec ℤ Global)) (v : Vec ℤ Global) → map (λ w. w.items) old ≡ replicate n [] → new ≡ old ++ v ∷ [] → v.items ≡ [] → map (λ w. w.items) new ≡ replicate (n + 1) []
lists_more n old new v so more none =
    ap (map (λ w. w.items)) more ∙ map-append (λ (w : Vec ℤ Global). w.items) old (v ∷ [])
    ∙ (λ i. so i ++ none i ∷ []) ∙ replicate_more n []

pub empty_lists : (coded : CodedColumns) (n : ℕ) (lists : List (List ℤ)) → lists ≡ replicate n [] → n ≡ length coded.columns.items → HaveNumbers (columns_in coded) lists
empty_lists coded n lists are count = record {
  many = ap length are ∙ length-replicate n [] ∙ count ∙ sym (length-map coded.columns.items decoded);
  each = λ at. inl (ap (λ ls. get_or ls at []) are ∙ none_there n at);
}

module _ (t : ListedColumns) (lists : List (List ℤ)) (have : HaveNumbers t lists) (at : ℕ) where
  -- a list that is there stays
  pub gains_same : (get_or lists at [] ≡ [] → ⊥) → GainsNumbers t at lists lists
  gains_same some = record {
    have = have;
    there = elim (have.each at) [
      | inl none ↦ absurd (some none)
      | inr is ↦ is
    ];
    kept = λ other is. is;
  }

  -- one that is not is made
  pub gains_set : (numbers : List ℤ) → at < length lists → numbers ≡ numbers_in (get_or t.columns at no_values) → GainsNumbers t at lists (set lists at numbers)
  gains_set numbers lt are =
      let new : List (List ℤ) = set lists at numbers in
      let own : get_or new at [] ≡ numbers_in (get_or t.columns at no_values) = get_or-set_same lists at numbers [] lt ∙ are in
      record {
        have = record {
          many = length-set lists at numbers ∙ have.many;
          each = λ k. elim (k == at) as (λ b. (k == at) ≡ b → (get_or new k [] ≡ []) ⊎ (get_or new k [] ≡ numbers_in (get_or t.columns k no_values))) [
            | true ↦ λ e. inr (subst (λ j. get_or new j [] ≡ numbers_in (get_or t.columns j no_values)) (sym (eqb-true k at e)) own)
            | false ↦ λ e.
                let other : get_or new k [] ≡ get_or lists k [] = get_or-set_other lists at k numbers [] (eqb-false k at e) in
                elim (have.each k) [
                  | inl none ↦ inl (other ∙ none)
                  | inr is ↦ inr (other ∙ is)
                ]
          ] refl;
        };
        there = own;
        kept = λ k is. elim (k == at) as (λ b. (k == at) ≡ b → get_or new k [] ≡ numbers_in (get_or t.columns k no_values)) [
          | true ↦ λ e. subst (λ j. get_or new j [] ≡ numbers_in (get_or t.columns j no_values)) (sym (eqb-true k at e)) own
          | false ↦ λ e. get_or-set_other lists at k numbers [] (eqb-false k at e) ∙ is
        ] refl;
      }

-- what was there still is, for each of some pairs
pub still_there : (t : ListedColumns) (old new : List (List ℤ)) (pairs : List Agg) → ((other : ℕ) → AreThere t old (Some other) → AreThere t new (Some other)) → All (λ p. AreThere t old p.column) pairs → All (λ p. AreThere t new p.column) pairs
still_there t old new pairs kept all = All-weaker (λ p. AreThere t old p.column) (λ p. AreThere t new p.column) (λ p. each p.column) pairs all
  where
    each : (column : Option ℕ) → AreThere t old column → AreThere t new column
    each None is = tt
    each (Some c) is = kept c is

-- one more pair
pub there_more : (t : ListedColumns) (lists : List (List ℤ)) (pairs : List Agg) (i : ℕ) (d : Agg) → i < length pairs → All (λ q. AreThere t lists q.column) (take i pairs) → AreThere t lists (get_or pairs i d).column → All (λ q. AreThere t lists q.column) (take (i + 1) pairs)
there_more t lists pairs i d lt so one =
    let P : Agg → Type 0 = λ q. AreThere t lists q.column in
    subst (All P) (sym (take_more pairs i d lt)) (All-push P (take i pairs) (get_or pairs i d) so one)
