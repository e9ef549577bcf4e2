-- The names of the segments that have files.
use Rattle.std.proofs.Common.{◌-◌, ◌⊎◌, ◌≡◌, ◌≢◌, ◌∙◌, ◌<◌, ◌≤◌, ◌+◌, ℕ, Bool, true, false, ◌&&◌, ◌||◌, T, List, [], ◌∷◌, ◌++◌, length, map, get_or, take, drop, append_assoc, length-take, Option, Some, None, IfSome, cond, inl, inr, refl, sym, ap, subst, arith}
use Rattle.std.specs.Prelude.{codes, nat_le, nat_lt}
use Rattle.std.specs.Str.Pattern.{FindsTextSuffix, StripsSuffix}
use Rattle.std.proofs.lemmas.List.{drop_more, length-append}
use Rattle.std.proofs.Math.Seq.{take-append_seam}
use Rattle.std.specs.FinMap as tree
use Rattle.std.specs.FinMap.Entries.{below_all, is_sorted}
use Rattle.std.specs.Cmp.{eq_by_cmp_equiv}
use Rattle.std.specs.List.{All, AllByRecursion, IsDistinct, list_all, list_any}
use Rattle.std.specs.List.Sorted.{IsPermutation, IsSorted, IsStrictlySortedBy}
use Rattle.std.specs.Ordering.{eq_by_cmp, is_eq, is_lt, ordering_reverse}
use Rattle.std.specs.declared.cmp.Ordering.{Ordering}
use Rattle.std.specs.declared.cmp.Ordering.TheVariants as order
use Rattle.std.proofs.lemmas.Bool.{false≢true}
use Rattle.std.proofs.lemmas.Cmp.{nat_list_cmp_total}
use Rattle.std.proofs.lemmas.List.Folds.{list_any-append}
use Rattle.std.proofs.lemmas.List.Sorted.{list_any-IsPermutation, All-permutation}
use Rattle.std.proofs.lemmas.Map.Keys.{IsDistinct-IsPermutation, IsDistinct-cons, apart_from_distinct, sorted_from_all_adjacent}
use Rattle.outside.specs.Files.{Files, IsNames, name_order}
use Rattle.segment_file.specs.Names.{IsSegmentName, file_of, is_segment_name, is_name_byte}
use Rattle.table_store.specs.Segments.{AreFirstNames, HasRoom, IsFull, is_segment_file, most_segments, name_in, names_among, stem}
use Rattle.std.proofs.lemmas.List.Elements.{All-append, All-cons, All-nil, All-take}
use Rattle.table_store.proofs.FilesLemmas.{other_name, same_name}

-- ---- a name and its file

pub stem_back : (name : List ℕ) → stem (file_of name) ≡ name
stem_back name =
    let count : length (name ++ codes ".seg") - 4 ≡ length name = omega (arith, length-append name (codes ".seg")) in
    ap (λ n. take n (name ++ codes ".seg")) count ∙ take-append_seam name (codes ".seg")

pub tied_name : (q name : List ℕ) → eq_by_cmp name_order q name ≡ true → q ≡ name
tied_name q name = elim (name_order q name) as (λ r. name_order q name ≡ r → is_eq r ≡ true → q ≡ name) [ order.Less ↦ λ o e. absurd (false≢true e) | order.Equal ↦ λ o e. same_name q name o | order.Greater ↦ λ o e. absurd (false≢true e) ] refl

pub is_name : (q name : List ℕ) → (q ≡ name) ⊎ (q ≢ name)
is_name q name =
    elim (eq_by_cmp name_order q name) as (λ b. eq_by_cmp name_order q name ≡ b → (q ≡ name) ⊎ (q ≢ name)) [
      | true ↦ λ e. inl (tied_name q name e)
      | false ↦ λ e. inr (λ same. false≢true (sym e ∙ ap (eq_by_cmp name_order q) (sym same) ∙ (eq_by_cmp_equiv nat_list_cmp_total).refl q))
    ] refl

abbrev pub same : List ℕ → List ℕ → Bool
same = eq_by_cmp name_order

itself : (name : List ℕ) → same name name ≡ true
itself name = (eq_by_cmp_equiv nat_list_cmp_total).refl name

file_tells : (a b : List ℕ) → file_of a ≡ file_of b → a ≡ b
file_tells a b e = sym (stem_back a) ∙ ap stem e ∙ stem_back b

-- ---- tests

pub and_false : (a : Bool) → (a && false) ≡ false
and_false true = refl
and_false false = refl

and_first : (a b : Bool) → (a && b) ≡ true → a ≡ true
and_first true b e = refl
and_first false b e = absurd (false≢true e)

and_second : (a b : Bool) → (a && b) ≡ true → b ≡ true
and_second true b e = e
and_second false b e = absurd (false≢true e)

and_either : (v x y : Bool) → ((v && x) || (v && y)) ≡ (v && (x || y))
and_either true x y = refl
and_either false x y = refl

-- ---- the names in the name of a file

not_named : (name file : List ℕ) (v : Bool) → is_segment_name name ≡ v → is_segment_file file ≡ false → (v && same (file_of name) file) ≡ false
not_named name file false valid e = refl
not_named name file true valid e =
    elim (is_name (file_of name) file) [
      | inl is ↦
          let back : stem file ≡ name = ap stem (sym is) ∙ stem_back name in
          let here : same file (file_of (stem file)) ≡ true = ap (λ n. same file (file_of n)) back ∙ ap (same file) is ∙ itself file in
          let named : is_segment_name (stem file) ≡ true = ap is_segment_name back ∙ valid in
          absurd (false≢true (sym e ∙ (λ i. here i && named i)))
      | inr other ↦ other_name (file_of name) file other
    ]

-- the name of a segment is that of its file alone
named_by : (name file : List ℕ) (b : Bool) → is_segment_file file ≡ b → list_any (same name) (cond b (stem file ∷ []) []) ≡ (is_segment_name name && same (file_of name) file)
named_by name file true e =
    let f : file ≡ file_of (stem file) = tied_name file (file_of (stem file)) (and_first (same file (file_of (stem file))) (is_segment_name (stem file)) e) in
    let v : is_segment_name (stem file) ≡ true = and_second (same file (file_of (stem file))) (is_segment_name (stem file)) e in
    elim (is_name name (stem file)) [
      | inl is ↦
          let left : (same name (stem file) || false) ≡ true = ap (λ n. same n (stem file) || false) is ∙ ap (λ b. b || false) (itself (stem file)) in
          let first : is_segment_name name ≡ true = ap is_segment_name is ∙ v in
          let second : same (file_of name) file ≡ true = ap (λ n. same (file_of n) file) is ∙ ap (same (file_of (stem file))) f ∙ itself (file_of (stem file)) in
          left ∙ sym ((λ i. first i && second i))
      | inr other ↦
          let left : (same name (stem file) || false) ≡ false = ap (λ b. b || false) (other_name name (stem file) other) in
          let right : same (file_of name) file ≡ false = other_name (file_of name) file (λ x. other (file_tells name (stem file) (x ∙ f))) in
          left ∙ sym (ap (λ b. is_segment_name name && b) right ∙ and_false (is_segment_name name))
    ]
named_by name file false e = sym (not_named name file (is_segment_name name) refl e)

names_members : (name : List ℕ) (files : List (List ℕ)) → list_any (same name) (names_among files) ≡ (is_segment_name name && list_any (same (file_of name)) files)
names_members name [] = sym (and_false (is_segment_name name))
names_members name (file ∷ files) =
    list_any-append (same name) (name_in file) (names_among files)
    ∙ (λ i. named_by name file (is_segment_file file) refl i || names_members name files i)
    ∙ and_either (is_segment_name name) (same (file_of name) file) (list_any (same (file_of name)) files)

-- ---- no name twice

all_false_by : (p : List ℕ → Bool) (x : List ℕ) (xs : List (List ℕ)) → (list_any p xs ≡ false → AllByRecursion (λ y. p y ≡ false) xs) → (b : Bool) → p x ≡ b → (b || list_any p xs) ≡ false → AllByRecursion (λ y. p y ≡ false) (x ∷ xs)
all_false_by p x xs rest true is e = absurd (false≢true (sym e))
all_false_by p x xs rest false is e = (is, rest e)

all_false : (p : List ℕ → Bool) (xs : List (List ℕ)) → list_any p xs ≡ false → AllByRecursion (λ y. p y ≡ false) xs
all_false p [] e = tt
all_false p (x ∷ xs) e = all_false_by p x xs (all_false p xs) (p x) refl e

any_false : (p : List ℕ → Bool) (xs : List (List ℕ)) → AllByRecursion (λ y. p y ≡ false) xs → list_any p xs ≡ false
any_false p [] all = refl
any_false p (x ∷ xs) all = ap (λ b. b || list_any p xs) all.0 ∙ any_false p xs all.1

apart_by : (file : List ℕ) (files : List (List ℕ)) (b : Bool) → is_segment_file file ≡ b → AllByRecursion (λ y. same file y ≡ false) files → IsDistinct same (names_among files) → IsDistinct same (cond b (stem file ∷ []) [] ++ names_among files)
apart_by file files false e none apart = apart
apart_by file files true e none apart =
    let f : file ≡ file_of (stem file) = tied_name file (file_of (stem file)) (and_first (same file (file_of (stem file))) (is_segment_name (stem file)) e) in
    let gone : list_any (same (file_of (stem file))) files ≡ false = ap (λ n. list_any (same n) files) (sym f) ∙ any_false (same file) files none in
    let out : list_any (same (stem file)) (names_among files) ≡ false = names_members (stem file) files ∙ ap (λ b. is_segment_name (stem file) && b) gone ∙ and_false (is_segment_name (stem file)) in
    IsDistinct-cons same (stem file) (names_among files) (all_false (same (stem file)) (names_among files) out) apart

names_apart : (files : List (List ℕ)) → IsDistinct same files → IsDistinct same (names_among files)
unfolding IsDistinct
names_apart [] apart = tt
names_apart (file ∷ files) apart = apart_by file files (is_segment_file file) refl apart.0 (names_apart files apart.1)

-- the names of files differ
less_differ : (r : Ordering) → T (is_lt r) → is_eq r ≡ false
less_differ order.Less h = refl
less_differ order.Equal h = absurd h
less_differ order.Greater h = absurd h

both_true : (a b : Bool) → T (a && b) → T a × T b
both_true true b h = (tt, h)
both_true false b h = absurd h

below_differ : {X : Type 0} (name : List ℕ) (es : List (List ℕ × X)) → T (below_all name_order name es) → AllByRecursion (λ y. same name y ≡ false) (map (λ e. e.0) es)
below_differ name [] h = tt
below_differ name (e ∷ es) h =
    let parts = both_true (is_lt (name_order name e.0)) (below_all name_order name es) h in
    (less_differ (name_order name e.0) parts.0, below_differ name es parts.1)

pub entries_apart : {X : Type 0} (es : List (List ℕ × X)) → T (is_sorted name_order es) → IsDistinct same (map (λ e. e.0) es)
unfolding IsDistinct
entries_apart [] h = tt
entries_apart (e ∷ es) h =
    let parts = both_true (below_all name_order e.0 es) (is_sorted name_order es) h in
    (below_differ e.0 es parts.0, entries_apart es parts.1)

-- ---- sorted

not_less_differ : (o : Ordering) → is_lt (ordering_reverse o) ≡ false → is_eq o ≡ false → o ≡ order.Less
not_less_differ order.Less l e = refl
not_less_differ order.Equal l e = absurd (false≢true (sym e))
not_less_differ order.Greater l e = absurd (false≢true (sym l))

next_less : (a b : List ℕ) → is_lt (name_order b a) ≡ false → same a b ≡ false → name_order a b ≡ order.Less
next_less a b sorted apart = not_less_differ (name_order a b) (ap is_lt (sym (nat_list_cmp_total.antisymm b a)) ∙ sorted) apart

sorted_names : (names : List (List ℕ)) → IsSorted name_order names → IsDistinct same names → IsStrictlySortedBy name_order names
sorted_names names sorted apart =
    sorted_from_all_adjacent nat_list_cmp_total names [] (λ k below.
    next_less (get_or names k []) (get_or names (k + 1) []) (sorted k [] (omega arith) below) (apart_from_distinct same names k (k + 1) [] apart (omega arith) below))

-- ---- the first names of told files

pub first_told : (held : Option Files) (files names : List (List ℕ)) → IsNames held files → ((all : List (List ℕ)) × IsPermutation (names_among files) all × IsSorted name_order all × (names ≡ take most_segments all)) → IfSome held (λ told. AreFirstNames told names)
first_told None files names is found = tt
first_told (Some told) files names is (all, moved, sorted, first) =
    let keys : IsDistinct same files = subst (IsDistinct same) (sym is) (entries_apart (tree.entries told) (tree.entries_sorted told)) in
    let apart : IsDistinct same all = IsDistinct-IsPermutation same (eq_by_cmp_equiv nat_list_cmp_total).symm (names_among files) all moved (names_apart files keys) in (
      all,
      record {
        ascend = sorted_names all sorted apart;
        those = λ name.
            sym (list_any-IsPermutation (same name) (names_among files) all moved)
            ∙ names_members name files
            ∙ ap (λ b. is_segment_name name && b) (ap (list_any (same (file_of name))) is ∙ sym (tree.contains_key-keys told (file_of name)));
      },
      first,
    )

-- ---- names are taken from files

pub no_ending : (file : List ℕ) → ((front : List ℕ) → file ≢ front ++ codes ".seg") → name_in file ≡ []
no_ending file none = ap (λ b. cond (b && is_segment_name (stem file)) (stem file ∷ []) []) (other_name file (file_of (stem file)) (none (stem file)))

pub no_name : (file name : List ℕ) → file ≡ file_of name → is_segment_name name ≡ false → name_in file ≡ []
no_name file name is other =
    let back : stem file ≡ name = ap stem is ∙ stem_back name in
    ap (λ b. cond (same file (file_of (stem file)) && b) (stem file ∷ []) []) (ap is_segment_name back ∙ other) ∙ ap (λ b. cond b (stem file ∷ []) []) (and_false (same file (file_of (stem file))))

pub name_of : (file name : List ℕ) → file ≡ file_of name → is_segment_name name ≡ true → name_in file ≡ name ∷ []
name_of file name is named =
    let back : stem file ≡ name = ap stem is ∙ stem_back name in
    let here : same file (file_of (stem file)) ≡ true = ap (λ n. same file (file_of n)) back ∙ ap (same file) (sym is) ∙ itself file in
    let valid : is_segment_name (stem file) ≡ true = ap is_segment_name back ∙ named in
    (λ i. cond (here i && valid i) (back i ∷ []) [])

pub ending_cut : (file name : List ℕ) → StripsSuffix (FindsTextSuffix (codes ".seg")) file name → file ≡ file_of name
ending_cut file name (n, found, cut, lengths) = found.1 ∙ ap (λ front. front ++ codes ".seg") (sym cut)

pub names_more : (files old new : List (List ℕ)) (i : ℕ) (file d : List ℕ) → i < length files → file ≡ get_or files i d → new ≡ old ++ name_in file → old ++ names_among (drop i files) ≡ names_among files → new ++ names_among (drop (i + 1) files) ≡ names_among files
names_more files old new i file d lt is pushed so_far =
    let rest : List (List ℕ) = names_among (drop (i + 1) files) in
    ap (λ xs. xs ++ rest) pushed
    ∙ append_assoc old (name_in file) rest
    ∙ ap (λ f. old ++ (name_in f ++ rest)) is
    ∙ ap (λ fs. old ++ names_among fs) (sym (drop_more files i d lt))
    ∙ so_far

-- ---- how many there are

pub first_few : (files names : List (List ℕ)) → ((all : List (List ℕ)) × IsPermutation (names_among files) all × IsSorted name_order all × (names ≡ take most_segments all)) → length names ≤ most_segments
first_few files names (all, moved, sorted, is) = omega (arith, ap length is, length-take most_segments all)

pub first_room : (held : Option Files) (names : List (List ℕ)) → IfSome held (λ told. AreFirstNames told names) → length names < most_segments → IfSome held HasRoom
first_room None names first at_most = tt
first_room (Some told) names (all, are, is) at_most = (all, are, omega (arith, at_most, ap length is, length-take most_segments all))

pub first_full : (held : Option Files) (names : List (List ℕ)) → IfSome held (λ told. AreFirstNames told names) → most_segments ≤ length names → IfSome held IsFull
first_full None names first many = tt
first_full (Some told) names (all, are, is) many = (all, are, omega (arith, many, ap length is, length-take most_segments all))

-- ---- all of them are names of segments

is_named : (name : List ℕ) → is_segment_name name ≡ true → IsSegmentName name
is_named name e =
    let some : Bool = nat_lt 0 (length name) in
    let at_most : Bool = nat_le (length name) 64 in
    let each : Bool = list_all is_name_byte name in
    let front : (some && at_most) ≡ true = and_first (some && at_most) each e in
    record { some = and_first some at_most front; at_most = and_second some at_most front; each = and_second (some && at_most) each e }

one_named : (file : List ℕ) (b : Bool) → is_segment_file file ≡ b → All IsSegmentName (cond b (stem file ∷ []) [])
one_named file true e = All-cons IsSegmentName (stem file) [] (is_named (stem file) (and_second (same file (file_of (stem file))) (is_segment_name (stem file)) e)) (All-nil IsSegmentName)
one_named file false e = All-nil IsSegmentName

all_named : (files : List (List ℕ)) → All IsSegmentName (names_among files)
all_named [] = All-nil IsSegmentName
all_named (file ∷ files) = All-append IsSegmentName (name_in file) (names_among files) (one_named file (is_segment_file file) refl) (all_named files)

pub first_named : (files names : List (List ℕ)) → ((all : List (List ℕ)) × IsPermutation (names_among files) all × IsSorted name_order all × (names ≡ take most_segments all)) → All IsSegmentName names
first_named files names (all, moved, sorted, first) =
    subst (All IsSegmentName) (sym first) (All-take IsSegmentName most_segments all (All-permutation IsSegmentName (names_among files) all moved (all_named files)))
