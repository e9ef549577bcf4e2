-- The numbers below a count are a dictionary.
use Rattle.std.proofs.Common.{◌≡◌, ◌≤◌, ◌<◌, ◌+◌, ℕ, zero, suc, pos, All, List, [], ◌∷◌, length, map, get_or, refl, sym, ap, subst, arith, lt-ltb}
use Rattle.std.specs.List.{AllByRecursion, range_with_len}
use Rattle.std.specs.List.Sorted.{IsStrictlySortedBy}
use Rattle.std.specs.Ordering.{int_cmp}
use Rattle.std.specs.declared.cmp.Ordering.TheVariants.{Less}
use Rattle.std.proofs.lemmas.List.FromFn.{get_or-map-range_with_len, length-map-range_with_len}
use Rattle.data_types.specs.declared.kind.FieldKind.TheVariants.{Long}
use Rattle.values.specs.declared.value.Value.{Value}
use Rattle.values.specs.declared.value.Value.TheVariants.{Whole}
use Rattle.values.specs.Order.{value_order}
use Rattle.value_ids.specs.Dictionary.{Fits, IsDictionary, IsUnicode, most_values}
use Rattle.segment_head.specs.ColumnIds.{ids_below, numbers_below}

pub as_values : (ns : List ℕ) → map Whole (map pos ns) ≡ map (λ n. Whole (pos n)) ns
as_values [] = refl
as_values (n ∷ ns) = let more = as_values ns in (λ i. Whole (pos n) ∷ more i)

id_at : (count k : ℕ) (d : Value) → k < length (numbers_below count) → get_or (numbers_below count) k d ≡ Whole (pos k)
id_at count k d lt =
    let long = length-map-range_with_len (λ n. Whole (pos n)) 0 count in
    get_or-map-range_with_len (λ n. Whole (pos n)) 0 count k k d (omega (arith, lt, long)) (omega arith)

above : (x from n : ℕ) → x < from → AllByRecursion (λ y. value_order (Whole (pos x)) y ≡ Less) (map (λ n. Whole (pos n)) (range_with_len from n))
above x from zero lt = tt
above x from (suc n) lt =
    let here : int_cmp (pos x) (pos from) ≡ Less = rw (lt-ltb x from lt) in
    (here, above x (from + 1) n (omega (arith, lt)))

rising : (from n : ℕ) → IsStrictlySortedBy value_order (map (λ n. Whole (pos n)) (range_with_len from n))
unfolding IsStrictlySortedBy
rising from zero = tt
rising from (suc n) = (above from (from + 1) n (omega arith), rising (from + 1) n)

pub ids_stand : (count : ℕ) → count ≤ most_values → IsDictionary (ids_below count)
ids_stand count few =
    let long = length-map-range_with_len (λ n. Whole (pos n)) 0 count in
    record {
      at_most = omega (arith, few, long);
      fit = λ k d lt. subst (Fits Long) (sym (id_at count k d lt)) (lt-ltb k 9223372036854775808 (omega (arith, lt, few, long)));
      unicode = λ k d lt. subst IsUnicode (sym (id_at count k d lt)) tt;
      ascends = rising 0 count;
    }
