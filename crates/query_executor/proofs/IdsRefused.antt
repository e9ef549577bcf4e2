-- Why a scan by ids of columns is refused is why one by their values is.
use Rattle.std.proofs.Common.{◌≡◌, ◌≢◌, ◌∙◌, ◌<◌, ◌⊎◌, ◌+◌, ◌==◌, ◌||◌, ◌&&◌, ℕ, zero, suc, pos, Bool, true, false, cond, Option, Some, None, IfSome, List, [], ◌∷◌, length, map, replicate, get_or, slice_get, inl, inr, refl, sym, ap, subst, eq-eqb, arith}
use Rattle.std.specs.Prelude.{set}
use Rattle.std.specs.List.{AllZip, list_any}
use Rattle.std.proofs.lemmas.Bool.{eqb-true, false≢true}
use Rattle.std.proofs.lemmas.List.{length-replicate, length-set}
use Rattle.std.proofs.lemmas.List.Elements.{All-head}
use Rattle.outside.specs.Files.{Files}
use Rattle.data_types.specs.declared.kind.FieldKind.{FieldKind}
use Rattle.data_types.specs.declared.kind.FieldKind.TheVariants as kind
use Rattle.values.specs.declared.value.Value.{Value}
use Rattle.values.specs.declared.value.Value.TheVariants.{Text, Whole}
use Rattle.values.specs.declared.test.Test.{Test}
use Rattle.values.specs.Kinds.{fits}
use Rattle.values.specs.Tests.{holds}
use Rattle.value_ids.specs.Dictionary.{Distinct, Fits, IsDictionary}
use Rattle.value_ids.specs.Ids.{matching, matching_from}
use Rattle.table_schema.specs.NeedIds.{is_set}
use Rattle.table_schema.specs.declared.query.BoundQuery.{BoundQuery}
use Rattle.table_schema.specs.declared.query.Conjunct.{Conjunct}
use Rattle.table_schema.specs.declared.query.Conjunct.TheVariants.{Many, One}
use Rattle.table_schema.specs.declared.table.Table.{Table}
use Rattle.segment_file.specs.Image.{image}
use Rattle.segment_file.specs.Parts.{columns_of}
use Rattle.segment_file.specs.Rules.{AreSpelled, heads_in}
use Rattle.segment_file.specs.declared.part.Part.{Part}
use Rattle.segment_file.specs.declared.part.Part.TheVariants as parts
use Rattle.segment_head.specs.ColumnIds.{numbers_below}
use Rattle.segment_head.specs.Heads.{IsHeadOf, IsSlotOf, Seen, bytes_in, place_in}
use Rattle.segment_head.specs.Stored.{IsNoImage, IsOfImage}
use Rattle.segment_plan.specs.Choices.{are_consecutive, choice_of, follow, is_sorted_on}
use Rattle.segment_plan.specs.Matched.{values_of}
use Rattle.segment_plan.specs.Named.{agg_names, conjunct_names, is_in, query_names}
use Rattle.segment_plan.specs.Served.{choice_at, is_served, rest_of, unserved}
use Rattle.segment_plan.specs.declared.plans.IndexChoice.{IndexChoice}
use Rattle.segment_plan.specs.declared.plans.IndexChoice.TheVariants.{Unindexed, Sorted, Inverted, Range}
use Rattle.index_reader.specs.Documents.{Tells, TellsRanged}
use Rattle.index_reader.specs.declared.kind.ListKind.TheVariants as kinds
use Rattle.index_filter.specs.Indexes.{IsBadAny, IsBadIndex, part_of}
use Rattle.segment_scan.specs.Images.{IsBadIn, choices_for, rest_for}
use Rattle.segment_opening.specs.Found.{IsAskable, IsAskedBy, IsKeptOrMet, IsMet, count_of, ids_in, keeping, values_from}
use Rattle.segment_opening.proofs.IdsIn.{counted_within, given_values, ids_long, numbers_long}
use Rattle.query_executor.specs.ByIds.{AsksBy}
use Rattle.query_executor.proofs.IdsConjuncts.{choice_by, zip_at}
use Rattle.query_executor.proofs.IdsGiven.{asked_names}

-- ---- copies of a value, which no whole head has

abbrev pub misfit : Value → FieldKind
misfit (Whole number) = kind.Text
misfit (Text text) = kind.Long

-- so many copies of a value, of a kind that has no such value
abbrev pub copies : ℕ → Value → Distinct
copies count v = record { kind = misfit v; values = replicate count v }

never_fits : (v : Value) → fits (misfit v) v ≡ true → ⊥
never_fits (Whole number) e = false≢true e
never_fits (Text text) e = false≢true e

no_copies : (count : ℕ) (v : Value) → 0 < count → IsDictionary (copies count v) → ⊥
no_copies zero v lt is = absurd (omega (arith, lt))
no_copies (suc n) v lt is = never_fits v (All-head (Fits (misfit v)) v (replicate n v) is.fit)

slot_at : (whole loaded : List (Option Distinct)) (k : ℕ) (d : Distinct) → AllZip IsSlotOf whole loaded → slice_get loaded k ≡ Some (Some d) → slice_get whole k ≡ Some (Some d)
slot_at [] [] k d zip at = absurd cc
slot_at [] (l ∷ ls) k d zip at = absurd zip
slot_at (w ∷ ws) [] k d zip at = absurd cc
slot_at (w ∷ ws) (l ∷ ls) zero d zip at = let is : l ≡ Some d = cc in ap Some (subst (IsSlotOf w) is zip.0)
slot_at (w ∷ ws) (l ∷ ls) (suc k) d zip at = slot_at ws ls k d zip.1 at

stands_there : (table : Table) (rows : ℕ) (heads : List (List ℕ)) (columns : List ℕ) (ds : List Distinct) (k : ℕ) (d : Distinct) → AreSpelled table rows heads columns ds → slice_get (map Some ds) k ≡ Some (Some d) → IsDictionary d
stands_there table rows heads [] [] k d all at = absurd cc
stands_there table rows heads [] (e ∷ es) k d all at = absurd all
stands_there table rows heads (c ∷ cs) [] k d all at = absurd all
stands_there table rows heads (c ∷ cs) (e ∷ es) zero d all at = let same : e ≡ d = cc in subst IsDictionary same all.0.stands
stands_there table rows heads (c ∷ cs) (e ∷ es) (suc k) d all at = stands_there table rows heads cs es k d all.1 at

pub never_copies : (table : Table) (files : Files) (rows : List (List Value)) (head : Seen) (column count : ℕ) (v : Value) → slice_get head.dictionaries column ≡ Some (Some (copies count v)) → 0 < count → IsOfImage table files rows head → ⊥
never_copies table files rows head column count v there lt i =
    let at : slice_get i.whole.dictionaries column ≡ Some (Some (copies count v)) = slot_at i.whole.dictionaries head.dictionaries column (copies count v) i.part.slots there in
    no_copies count v lt
    (stands_there table i.is_head.front.rows (heads_in table i.name i.is_head.front (image 1 table i.name rows)) (columns_of table) i.is_head.dictionaries column (copies count v) i.is_head.keeps.heads.spelled
    (ap (λ l. slice_get l column) (sym i.is_head.dictionaries_are) ∙ at))

-- ---- the choice of a conjunct, by whether the ids follow one another

pub range_follows : (a b r d : Bool) → choice_by a b r d ≡ Range → d ≡ true
range_follows true b r d e = absurd cc
range_follows false true r d e = absurd cc
range_follows false false true true e = refl
range_follows false false true false e = absurd cc
range_follows false false false d e = absurd cc

pub range_still : (a b r d : Bool) → choice_by a b r d ≡ Range → choice_by a b r true ≡ Range
range_still true b r d e = absurd cc
range_still false true r d e = absurd cc
range_still false false true d e = refl
range_still false false false d e = absurd cc

-- ---- ids that follow one another

module _ (test : Test) (v : Value) (is : holds v test ≡ true) where
  copies_follow : (n from : ℕ) → follow from (matching_from (from + 1) test (replicate n v)) ≡ true
  copies_follow zero from = refl
  copies_follow (suc n) from =
      (λ i. follow from (cond (is i) ((from + 1) ∷ matching_from (from + 1 + 1) test (replicate n v)) (matching_from (from + 1 + 1) test (replicate n v))))
      ∙ (λ i. eq-eqb (from + 1) (from + 1) refl i && follow (from + 1) (matching_from (from + 1 + 1) test (replicate n v)))
      ∙ copies_follow n (from + 1)

  pub copies_consecutive : (n : ℕ) → 0 < n → are_consecutive (matching test (replicate n v)) ≡ true
  copies_consecutive zero lt = absurd (omega (arith, lt))
  copies_consecutive (suc n) lt =
      (λ i. are_consecutive (cond (is i) (0 ∷ matching_from (0 + 1) test (replicate n v)) (matching_from (0 + 1) test (replicate n v)))) ∙ copies_follow n 0

-- where some ids follow one another there are some
pub some_follow : (test : Test) (count : ℕ) → are_consecutive (matching test (numbers_below count)) ≡ true → 0 < count
some_follow test zero follows = absurd (false≢true follows)
some_follow test (suc n) follows = omega arith

-- ---- one dictionary of some, set

slice_get-set : {X : Type 0} (xs : List X) (i : ℕ) (x : X) → i < length xs → slice_get (set xs i x) i ≡ Some x
slice_get-set [] i x lt = absurd (omega (arith, lt))
slice_get-set (y ∷ ys) zero x lt = refl
slice_get-set (y ∷ ys) (suc i) x lt = slice_get-set ys i x (omega (arith, lt))

slice_get-set_other : {X : Type 0} (xs : List X) (i j : ℕ) (x : X) → j ≢ i → slice_get (set xs i x) j ≡ slice_get xs j
slice_get-set_other [] i j x other = refl
slice_get-set_other (y ∷ ys) zero zero x other = absurd (other refl)
slice_get-set_other (y ∷ ys) zero (suc j) x other = refl
slice_get-set_other (y ∷ ys) (suc i) zero x other = refl
slice_get-set_other (y ∷ ys) (suc i) (suc j) x other = slice_get-set_other ys i j x (λ e. other (ap suc e))

-- ---- the choice at a place

choice_there : (f : Conjunct → IndexChoice) (xs : List Conjunct) (at : ℕ) (x : Conjunct) → slice_get xs at ≡ Some x → choice_at (map f xs) at ≡ f x
choice_there f [] at x there = absurd cc
choice_there f (y ∷ ys) zero x there = let same : y ≡ x = cc in ap f same
choice_there f (y ∷ ys) (suc at) x there = choice_there f ys at x there

-- ---- which conjuncts are served goes by what indexes their columns have

module _ (table : Table) where
  abbrev is_kept_for : Conjunct → Bool
  is_kept_for (One column test) = is_sorted_on table.settings.sorted column || is_set (slice_get table.settings.inverted column)
  is_kept_for (Many wide) = false

  served_by : (h : Seen) (x : Conjunct) → is_served (choice_of table.settings h x) x ≡ is_kept_for x
  served_by h (Many wide) = refl
  served_by h (One column test) = go (is_sorted_on table.settings.sorted column) (is_set (slice_get table.settings.inverted column)) (is_set (slice_get table.settings.ranged column)) (are_consecutive (matching test (values_from h.dictionaries column)))
    where
      go : (a b r d : Bool) → is_served (choice_by a b r d) (One column test) ≡ a || b
      go true b r d = refl
      go false true r d = refl
      go false false true true = refl
      go false false true false = refl
      go false false false d = refl

  module _ (counts : List (Option ℕ)) where
    kept_same : (x y : Conjunct) → IsAskedBy counts x y → is_kept_for y ≡ is_kept_for x
    kept_same (One column test) (One named by) is = ap (λ k. is_sorted_on table.settings.sorted k || is_set (slice_get table.settings.inverted k)) is.0
    kept_same (Many wide) (Many by) is = refl
    kept_same (One column test) (Many by) is = absurd is
    kept_same (Many wide) (One named by) is = absurd is

    -- so the conjuncts that are left name the same columns
    rest_names : (g h : Seen) (xs ys : List Conjunct) → AllZip (IsAskedBy counts) xs ys → (k : ℕ)
        → list_any (conjunct_names k) (unserved (map (choice_of table.settings g) ys) ys) ≡ list_any (conjunct_names k) (unserved (map (choice_of table.settings h) xs) xs)
    rest_names g h [] [] all k = refl
    rest_names g h [] (y ∷ ys) all k = absurd all
    rest_names g h (x ∷ xs) [] all k = absurd all
    rest_names g h (x ∷ xs) (y ∷ ys) all k =
        go (rest_names g h xs ys all.1 k) (is_served (choice_of table.settings h x) x) (is_served (choice_of table.settings g y) y) (served_by g y ∙ kept_same x y all.0 ∙ sym (served_by h x))
      where
        go : list_any (conjunct_names k) (unserved (map (choice_of table.settings g) ys) ys) ≡ list_any (conjunct_names k) (unserved (map (choice_of table.settings h) xs) xs) → (p q : Bool) → q ≡ p
            → list_any (conjunct_names k) (cond q (unserved (map (choice_of table.settings g) ys) ys) (y ∷ unserved (map (choice_of table.settings g) ys) ys))
            ≡ list_any (conjunct_names k) (cond p (unserved (map (choice_of table.settings h) xs) xs) (x ∷ unserved (map (choice_of table.settings h) xs) xs))
        go later true true e = later
        go later true false e = absurd cc
        go later false true e = absurd cc
        go later false false e = let here = asked_names counts x y all.0 k in (λ i. here i || later i)

-- why an index is no index does not go by the test, nor by dictionaries of as many values
index_fails : (head : Seen) (ds es : List (Option Distinct)) (column : ℕ) → length (values_from ds column) ≡ length (values_from es column) → (held : Option Files) (part : Part) (x : IndexChoice) (s t : Test)
    → IsBadIndex held (keeping ds head) part x (One column s) → IsBadIndex held (keeping es head) part x (One column t)
index_fails head ds es column many held part Unindexed s t bad = bad
index_fails head ds es column many None part Sorted s t bad = (bad.0, tt)
index_fails head ds es column many (Some files) part Sorted s t bad =
    (bad.0, λ ids tells. bad.1 ids (subst (λ n. Tells kinds.Sorted n head.rows (bytes_in files (place_in head.sections (part_of kinds.Sorted column))) ids) (sym many) tells))
index_fails head ds es column many None part Inverted s t bad = (bad.0, tt)
index_fails head ds es column many (Some files) part Inverted s t bad =
    (bad.0, λ ids tells. bad.1 ids (subst (λ n. Tells kinds.Inverted n head.rows (bytes_in files (place_in head.sections (part_of kinds.Inverted column))) ids) (sym many) tells))
index_fails head ds es column many None part Range s t bad = (bad.0, tt)
index_fails head ds es column many (Some files) part Range s t bad =
    (bad.0, λ ids tells. bad.1 ids (subst (λ n. TellsRanged n head.rows (bytes_in files (place_in head.sections (parts.Range column))) ids) (sym many) tells))

module _ (query asked : BoundQuery) (table : Table) (head : Seen) (conjuncts : List Conjunct) (counts : List (Option ℕ)) (by : AsksBy query asked conjuncts) (of_head : IsHeadOf table head) (held : Option Files) (can : IsAskable query table head conjuncts counts) where
  abbrev gs : List (Option Distinct)
  gs = ids_in counts head.dictionaries

  abbrev given : Seen
  given = keeping gs head

  -- a head with as many dictionaries for which the query is refused
  pub record IsRefused (part : Part) : Type 0 where
    pub ds : List (Option Distinct)
    pub long : length ds ≡ length head.dictionaries
    pub bad : IsBadIn query table held (keeping ds head) part

  -- the head with ids is
  of_given : (part : Part) → IsBadIn query table held given part → IsRefused part
  of_given part bad = record { ds = gs; long = ids_long counts head.dictionaries; bad = bad }

  left_names : (k : ℕ) → query_names (rest_for asked table given) k ≡ query_names (rest_for query table given) k
  left_names k =
      let named = ap (λ ys. list_any (conjunct_names k) (unserved (map (choice_of table.settings given) ys) ys)) by.conjuncts_are ∙ rest_names table counts given given query.conjuncts conjuncts can.asked k in
      (λ i. named i || is_in (by.groups_same i) k || list_any (agg_names k) (by.aggs_same i))

  -- of one conjunct, with ids alone or with a test that is left
  index_given : (part : Part) (at column : ℕ) (test asking : Test) → slice_get query.conjuncts at ≡ Some (One column test) → IsNoImage table held given → choice_of table.settings given (One column test) ≡ choice_of table.settings given (One column asking)
      → IsBadIndex held given part (choice_of table.settings given (One column asking)) (One column asking) → IsRefused part
  index_given part at column test asking there none same bad =
      let own = index_fails head gs gs column refl held part (choice_of table.settings given (One column asking)) asking test bad in
      let chosen = choice_there (choice_of table.settings given) query.conjuncts at (One column test) there ∙ same in
      of_given part (inr (at, One column test, there, subst (λ x. IsBadIndex held given part x (One column test)) (sym chosen) own), none)

  -- a range index, of which ids that follow one another are asked
  module _ (part : Part) (at column n : ℕ) (test asking : Test) (there : slice_get query.conjuncts at ≡ Some (One column test)) (counted : count_of counts column ≡ Some n) (met : IsMet test) (ranged : choice_of table.settings given (One column asking) ≡ Range)
      (bad : IsBadIndex held given part Range (One column asking)) where
    abbrev v : Value
    v = met.0

    abbrev es : List (Option Distinct)
    es = set gs column (Some (copies n v))

    abbrev copied : Seen
    copied = keeping es head

    in_gs : column < length gs
    in_gs =
        let lt = counted_within counts column n counted in
        let each = can.each in
        let slots = of_head.has.slots in
        let long = ids_long counts head.dictionaries in
        omega (arith, lt, each, slots, long)

    in_head : column < length head.dictionaries
    in_head = let lt = in_gs in let long = ids_long counts head.dictionaries in omega (arith, lt, long)

    copied_there : slice_get es column ≡ Some (Some (copies n v))
    copied_there = slice_get-set gs column (Some (copies n v)) in_gs

    copied_values : values_from es column ≡ replicate n v
    copied_values = ap values_of copied_there

    as_many : length (values_from gs column) ≡ length (values_from es column)
    as_many = ap length (given_values counts head.dictionaries column n counted in_head) ∙ numbers_long n ∙ sym (length-replicate n v) ∙ sym (ap length copied_values)

    abbrev is_sorted : Bool
    is_sorted = is_sorted_on table.settings.sorted column

    abbrev is_inverted : Bool
    is_inverted = is_set (slice_get table.settings.inverted column)

    abbrev is_ranged : Bool
    is_ranged = is_set (slice_get table.settings.ranged column)

    abbrev follows : Bool
    follows = are_consecutive (matching asking (values_from gs column))

    some : 0 < n
    some = some_follow asking n (ap (λ vs. are_consecutive (matching asking vs)) (sym (given_values counts head.dictionaries column n counted in_head)) ∙ range_follows is_sorted is_inverted is_ranged follows ranged)

    all_follow : are_consecutive (matching test (values_from es column)) ≡ true
    all_follow = ap (λ vs. are_consecutive (matching test vs)) copied_values ∙ copies_consecutive test v met.1 n some

    own_ranged : choice_of table.settings copied (One column test) ≡ Range
    own_ranged = (λ i. choice_by is_sorted is_inverted is_ranged (all_follow i)) ∙ range_still is_sorted is_inverted is_ranged follows ranged

    never : (h : Option Files) → IsNoImage table h copied
    never None = tt
    never (Some files) = λ rows. never_copies table files rows copied column n v copied_there some

    of_copied : IsRefused part
    of_copied = record {
      ds = es;
      long = length-set gs column (Some (copies n v)) ∙ ids_long counts head.dictionaries;
      bad = (
        inr (
          at,
          One column test,
          there,
          subst (λ x. IsBadIndex held copied part x (One column test)) (sym (choice_there (choice_of table.settings copied) query.conjuncts at (One column test) there ∙ own_ranged))
              (index_fails head gs es column as_many held part Range asking test bad),
        ),
        never held,
      );
    }

  index_refused : (part : Part) (at : ℕ) (x y : Conjunct) → IsAskedBy counts x y → slice_get query.conjuncts at ≡ Some x → IsNoImage table held given → IsBadIndex held given part (choice_of table.settings given y) y → IsRefused part
  index_refused part at (Many wide) (Many by) is there none bad = absurd bad
  index_refused part at (One column test) (Many by) is there none bad = absurd is
  index_refused part at (Many wide) (One named by) is there none bad = absurd is
  index_refused part at (One column test) (One named asking) is there none bad =
      go (choice_of table.settings given (One column asking)) refl (count_of counts column) refl (subst (λ k. IsBadIndex held given part (choice_of table.settings given (One k asking)) (One k asking)) is.0 bad)
    where
      static : choice_of table.settings given (One column asking) ≢ Range → choice_of table.settings given (One column asking) ≢ Unindexed → choice_of table.settings given (One column test) ≡ choice_of table.settings given (One column asking)
      static ranged none =
          by_static (is_sorted_on table.settings.sorted column) (is_set (slice_get table.settings.inverted column)) (is_set (slice_get table.settings.ranged column)) (are_consecutive (matching test (values_from gs column))) (are_consecutive (matching asking (values_from gs column))) ranged none
        where
          by_static : (a b r d e : Bool) → choice_by a b r e ≢ Range → choice_by a b r e ≢ Unindexed → choice_by a b r d ≡ choice_by a b r e
          by_static true b r d e ranged none = refl
          by_static false true r d e ranged none = refl
          by_static false false true d true ranged none = absurd (ranged refl)
          by_static false false true d false ranged none = absurd (none refl)
          by_static false false false d e ranged none = absurd (none refl)

      go : (c : IndexChoice) → choice_of table.settings given (One column asking) ≡ c → (o : Option ℕ) → count_of counts column ≡ o → IsBadIndex held given part (choice_of table.settings given (One column asking)) (One column asking) → IsRefused part
      go Unindexed e o counted bad = absurd (subst (λ c. IsBadIndex held given part c (One column asking)) e bad)
      go Sorted e o counted bad = index_given part at column test asking there none (static (λ other. never_sorted (sym e ∙ other)) (λ other. never_none (sym e ∙ other))) bad
        where
          never_sorted : Sorted ≡ Range → ⊥
          never_sorted is = absurd cc

          never_none : Sorted ≡ Unindexed → ⊥
          never_none is = absurd cc
      go Inverted e o counted bad = index_given part at column test asking there none (static (λ other. never_inverted (sym e ∙ other)) (λ other. never_none (sym e ∙ other))) bad
        where
          never_inverted : Inverted ≡ Range → ⊥
          never_inverted is = absurd cc

          never_none : Inverted ≡ Unindexed → ⊥
          never_none is = absurd cc
      go Range e None counted bad = index_given part at column test asking there none (ap (λ t. choice_of table.settings given (One column t)) (sym (subst (λ o. IsKeptOrMet o test asking) counted is.1))) bad
      go Range e (Some n) counted bad =
          of_copied part at column n test asking there counted (subst (λ o. IsKeptOrMet o test asking) counted is.1) e (subst (λ c. IsBadIndex held given part c (One column asking)) e bad)

  pub refused : (part : Part) → IsBadIn asked table held given part → IsRefused part
  refused part (inl (k, named, is, fails), none) = of_given part (inl (k, sym (left_names k) ∙ named, is, fails), none)
  refused part (inr (at, y, there, bad), none) =
      let at_y = ap (λ ys. slice_get ys at) (sym by.conjuncts_are) ∙ there in
      let (x, at_x, is) = zip_at (IsAskedBy counts) query.conjuncts conjuncts can.asked at y at_y in
      index_refused part at x y is at_x none (subst (λ c. IsBadIndex held given part c y) (choice_there (choice_of table.settings given) asked.conjuncts at y there) bad)
