-- A query that is asked by ids, over a head with ids in place of values.
use Rattle.std.proofs.Common.{◌≡◌, ◌≢◌, ◌∙◌, ◌<◌, ◌+◌, ◌==◌, ◌||◌, ◌&&◌, ℕ, zero, suc, pos, Bool, true, false, cond, List, [], ◌∷◌, Option, Some, None, length, map, get_or, slice_get, refl, sym, ap, subst, arith}
use Rattle.std.specs.List.{AllZip, list_any}
use Rattle.std.proofs.lemmas.Bool.{or_left, or_right}
use Rattle.outside.specs.Files.{Files}
use Rattle.values.specs.declared.value.Value.{Value}
use Rattle.values.specs.declared.value.Value.TheVariants.{Whole}
use Rattle.value_ids.specs.Dictionary.{Distinct}
use Rattle.value_ids.specs.Ids.{matching}
use Rattle.table_schema.specs.ValidTable.{IsValidTable}
use Rattle.table_schema.specs.declared.query.BoundQuery.{BoundQuery}
use Rattle.table_schema.specs.declared.query.Conjunct.{Conjunct}
use Rattle.table_schema.specs.declared.query.Conjunct.TheVariants.{Many, One}
use Rattle.table_schema.specs.declared.table.Table.{Table}
use Rattle.segment_file.specs.Image.{dictionary_of}
use Rattle.segment_file.specs.Ordered.{ordered}
use Rattle.segment_file.specs.Parts.{columns_of}
use Rattle.segment_head.specs.ColumnIds.{ids_below}
use Rattle.segment_head.specs.Heads.{IsHeadOf, IsLoaded, IsPartOf, Seen}
use Rattle.segment_head.specs.Stored.{IsOfImage}
use Rattle.segment_plan.specs.Laws.{HeadTells, TellsOf}
use Rattle.segment_plan.specs.Matched.{is_filtered, is_on, matched, values_of}
use Rattle.segment_plan.specs.Named.{AreNamedLoaded, agg_names, conjunct_names, is_in, query_names}
use Rattle.segment_plan.specs.Plan.{is_emptied, leaves_none}
use Rattle.segment_plan.specs.Planned.{told_head}
use Rattle.segment_scan.proofs.ImageLemmas.{columns_few}
use Rattle.segment_opening.specs.Found.{IsAskable, IsAskedBy, SaysAlike, TellsAsked, count_of, ids_in, keeping, unfiltered, values_from}
use Rattle.segment_opening.proofs.FoundLemmas.{unfiltered_names}
use Rattle.segment_opening.proofs.IdsIn.{counted_within, given_values, ids_kept, ids_long, ids_there, kept_values, numbers_long}
use Rattle.segment_opening.proofs.NamedLemmas.{filtered_names}
use Rattle.query_executor.specs.Alike.{AreAlike}
use Rattle.query_executor.specs.ByIds.{AsksBy}
use Rattle.query_executor.proofs.IdsFound.{told_at, told_long, whole_told}
use Rattle.query_executor.proofs.IdsHeads.{kept_head, own_in, own_kept, own_long, own_part, own_there}

-- ---- conjuncts that are asked by ids name the same columns

module _ (counts : List (Option ℕ)) where
  pub asked_names : (x y : Conjunct) → IsAskedBy counts x y → (c : ℕ) → conjunct_names c y ≡ conjunct_names c x
  asked_names (One column test) (One named by) is c = ap (λ k. k == c) is.0
  asked_names (Many wide) (Many by) is c = is c
  asked_names (One column test) (Many by) is c = absurd is
  asked_names (Many wide) (One named by) is c = absurd is

  pub all_asked_names : (xs ys : List Conjunct) → AllZip (IsAskedBy counts) xs ys → (c : ℕ) → list_any (conjunct_names c) ys ≡ list_any (conjunct_names c) xs
  all_asked_names [] [] all c = refl
  all_asked_names [] (y ∷ ys) all c = absurd all
  all_asked_names (x ∷ xs) [] all c = absurd all
  all_asked_names (x ∷ xs) (y ∷ ys) all c = let here = asked_names x y all.0 c in let more = all_asked_names xs ys all.1 c in (λ i. here i || more i)

-- ---- what is said of other dictionaries with the same values

module _ (full given own by : List (Option Distinct)) where
  -- in a column the others have the same values
  pub record IsSame (c : ℕ) : Type 0 where
    pub own_same : values_from own c ≡ values_from full c
    pub by_same : values_from by c ≡ values_from given c

  says_same : (x y : Conjunct) → ((c : ℕ) → conjunct_names c x ≡ true → IsSame c) → SaysAlike full given x y → SaysAlike own by x y
  says_same (One column test) (One named asked) same says =
      let here = same column (own_name column) in
      (says.0, ap (matching asked) here.by_same ∙ says.1 ∙ sym (ap (matching test) here.own_same))
    where
      own_name : (c : ℕ) → c == c ≡ true
      own_name c = grind arith
  says_same (Many wide) (Many asked) same says = (
    says.0,
    λ row other one. says.1 row other (λ c named.
        let s = same c named in
        let o = one c named in
        record {
          id = o.id;
          below = subst (λ (vs : List Value). o.id < length vs) s.own_same o.below;
          value_is = o.value_is ∙ ap (λ (vs : List Value). get_or vs o.id (Whole (pos 0))) s.own_same;
          other_is = o.other_is ∙ ap (λ (vs : List Value). get_or vs o.id (Whole (pos 0))) s.by_same;
        }),
  )
  says_same (One column test) (Many asked) same says = absurd says
  says_same (Many wide) (One named asked) same says = absurd says

  pub all_say_same : (xs ys : List Conjunct) → ((c : ℕ) → list_any (conjunct_names c) xs ≡ true → IsSame c) → AllZip (SaysAlike full given) xs ys → AllZip (SaysAlike own by) xs ys
  all_say_same [] [] same all = tt
  all_say_same [] (y ∷ ys) same all = absurd all
  all_say_same (x ∷ xs) [] same all = absurd all
  all_say_same (x ∷ xs) (y ∷ ys) same all = (
    says_same x y (λ c named. same c (or_left (conjunct_names c x) (list_any (conjunct_names c) xs) named)) all.0,
    all_say_same xs ys (λ c named. same c (or_right (conjunct_names c x) (list_any (conjunct_names c) xs) named)) all.1,
  )

-- ---- a column is left without a value alike, where the values are the same

left_same : (conjuncts : List Conjunct) (a b : Seen) → ((c : ℕ) → is_filtered conjuncts c ≡ true → values_from a.dictionaries c ≡ values_from b.dictionaries c) → (columns : List ℕ) → list_any (leaves_none conjuncts a) columns ≡ list_any (leaves_none conjuncts b) columns
left_same conjuncts a b same [] = refl
left_same conjuncts a b same (c ∷ cs) = let here = one (is_filtered conjuncts c) refl in let more = left_same conjuncts a b same cs in (λ i. here i || more i)
  where
    one : (p : Bool) → is_filtered conjuncts c ≡ p → leaves_none conjuncts a c ≡ leaves_none conjuncts b c
    one true is = let values = same c is in (λ i. is_filtered conjuncts c && matched conjuncts c (values i) == 0)
    one false is = (λ i. is i && matched conjuncts c (values_from a.dictionaries c) == 0) ∙ sym (λ i. is i && matched conjuncts c (values_from b.dictionaries c) == 0)

module _ (query asked : BoundQuery) (table : Table) (head : Seen) (conjuncts : List Conjunct) (counts : List (Option ℕ)) (by : AsksBy query asked conjuncts) (of_head : IsHeadOf table head) (can : IsAskable query table head conjuncts counts) where
  -- the head with ids
  abbrev pub given : Seen
  given = keeping (ids_in counts head.dictionaries) head

  pub given_head : IsHeadOf table given
  given_head = kept_head table head (ids_in counts head.dictionaries) (ids_long counts head.dictionaries) of_head

  pub names_same : (c : ℕ) → query_names asked c ≡ query_names query c
  names_same c =
      let named = ap (list_any (conjunct_names c)) by.conjuncts_are ∙ all_asked_names counts query.conjuncts conjuncts can.asked c in
      (λ i. named i || is_in (by.groups_same i) c || list_any (agg_names c) (by.aggs_same i))

  in_head : (c n : ℕ) → count_of counts c ≡ Some n → c < length head.dictionaries
  in_head c n is = let lt = counted_within counts c n is in let each = can.each in let slots = of_head.has.slots in omega (arith, lt, each, slots)

  in_table : (c n : ℕ) → count_of counts c ≡ Some n → c < length table.schema.fields
  in_table c n is = let lt = counted_within counts c n is in let each = can.each in omega (arith, lt, each)

  pub given_loaded : AreNamedLoaded asked given
  given_loaded c named = go (count_of counts c) refl
    where
      go : (o : Option ℕ) → count_of counts c ≡ o → IsLoaded given c
      go None is = let (d, at) = can.loaded c (sym (names_same c) ∙ named) is in (d, ids_kept counts head.dictionaries c is ∙ at)
      go (Some n) is = (ids_below n, ids_there counts head.dictionaries c n is (in_head c n is))

  -- ---- on the image of rows

  module _ (tells_law : HeadTells) (valid : IsValidTable table) (files : Files) (rows : List (List Value)) (i : IsOfImage table files rows head) (tells : TellsAsked query table conjuncts counts (told_head table (ordered table.settings.sorted rows))) where
    abbrev os : List (List Value)
    os = ordered table.settings.sorted rows

    abbrev told : List (Option Distinct)
    told = (told_head table os).dictionaries

    -- the dictionaries with those of the rows for each column of which ids are tested
    abbrev pub full : List (Option Distinct)
    full = own_in counts told head.dictionaries

    in_told : (c n : ℕ) → count_of counts c ≡ Some n → c < length told
    in_told c n is = let lt = in_table c n is in let long = told_long table os in omega (arith, lt, long)

    full_there : (c n : ℕ) → count_of counts c ≡ Some n → slice_get full c ≡ Some (Some (dictionary_of table os c))
    full_there c n is = own_there counts told head.dictionaries c n is (in_told c n is) (in_head c n is) ∙ told_at table os c (in_table c n is)

    pub full_head : IsHeadOf table (keeping full head)
    full_head = kept_head table head full (own_long counts told head.dictionaries) of_head

    pub full_loaded : AreNamedLoaded query (keeping full head)
    full_loaded c named = go (count_of counts c) refl
      where
        go : (o : Option ℕ) → count_of counts c ≡ o → IsLoaded (keeping full head) c
        go None is = let (d, at) = can.loaded c named is in (d, own_kept counts told head.dictionaries c is ∙ at)
        go (Some n) is = (dictionary_of table os c, full_there c n is)

    pub full_image : IsOfImage table files rows (keeping full head)
    full_image = record {
      name = i.name;
      file = i.file;
      whole = i.whole;
      named = i.named;
      can = i.can;
      stored = i.stored;
      is_head = i.is_head;
      part = subst (λ ws. IsPartOf i.whole (keeping (own_in counts ws head.dictionaries) head)) (whole_told table tells_law valid files rows head i of_head) (own_part i.whole head counts i.part);
    }

    head_tells : TellsOf table os head
    head_tells = tells_law table i.name i.file rows i.whole head valid i.named i.can i.is_head i.part

    -- of each column that is named the values are those of the rows, and the ids as many
    same_named : (c : ℕ) → query_names query c ≡ true → IsSame told (ids_in counts told) full (ids_in counts head.dictionaries) c
    same_named c named = go (count_of counts c) refl
      where
        go : (o : Option ℕ) → count_of counts c ≡ o → IsSame told (ids_in counts told) full (ids_in counts head.dictionaries) c
        go None is =
            let (d, at) = can.loaded c named is in
            let lt : c < length table.schema.fields = columns_few table head c of_head (d, at) in
            let same : slice_get head.dictionaries c ≡ slice_get told c = at ∙ ap (λ (x : Distinct). Some (Some x)) (head_tells.dictionaries_are c d at) ∙ sym (told_at table os c lt) in
            record {
              own_same = ap values_of (own_kept counts told head.dictionaries c is ∙ same);
              by_same = kept_values counts head.dictionaries c is ∙ ap values_of same ∙ sym (kept_values counts told c is);
            }
        go (Some n) is = record {
          own_same = ap values_of (own_there counts told head.dictionaries c n is (in_told c n is) (in_head c n is));
          by_same = given_values counts head.dictionaries c n is (in_head c n is) ∙ sym (given_values counts told c n is (in_told c n is));
        }

    pub are_alike : AreAlike query asked full (ids_in counts head.dictionaries)
    are_alike = record {
      counts_same = λ c. counted c (count_of counts c) refl;
      values_same = λ c named. let none = can.apart c named in kept_values counts head.dictionaries c none ∙ sym (ap values_of (own_kept counts told head.dictionaries c none));
      says = subst (AllZip (SaysAlike full (ids_in counts head.dictionaries)) query.conjuncts) (sym by.conjuncts_are)
          (all_say_same told (ids_in counts told) full (ids_in counts head.dictionaries) query.conjuncts conjuncts
          (λ c named. same_named c (or_left (list_any (conjunct_names c) query.conjuncts || is_in query.groups c) (list_any (agg_names c) query.aggs) (or_left (list_any (conjunct_names c) query.conjuncts) (is_in query.groups c) named))) tells.says);
      groups_same = by.groups_same;
      aggs_same = by.aggs_same;
    }
      where
        counted : (c : ℕ) (o : Option ℕ) → count_of counts c ≡ o → length (values_from (ids_in counts head.dictionaries) c) ≡ length (values_from full c)
        counted c None is = ap length (kept_values counts head.dictionaries c is) ∙ sym (ap length (ap values_of (own_kept counts told head.dictionaries c is)))
        counted c (Some n) is =
            ap length (given_values counts head.dictionaries c n is (in_head c n is))
            ∙ numbers_long n
            ∙ sym (tells.counts_are c n is)
            ∙ sym (ap length (ap values_of (own_there counts told head.dictionaries c n is (in_told c n is) (in_head c n is))))

    -- no column is left without a value
    pub full_some : is_emptied query.conjuncts table (keeping full head) ≡ false
    full_some =
        left_same query.conjuncts (keeping full head) (told_head table os) (λ c on. (same_named c (filtered_names query c on)).own_same) (columns_of table) ∙ tells.some
