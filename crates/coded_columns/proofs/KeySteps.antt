-- Keys of rows, one group column after another, and a row for each key.
use Rattle.std.proofs.Common.{◌≡◌, ◌∙◌, ◌<◌, ◌≤◌, ◌+◌, ◌*◌, ◌++◌, ◌∷◌, [], ℕ, pos, zero, suc, Some, None, List, length, get_or, set, take, refl, ap, sym, subst, arith, inl, inr}
use Rattle.std.proofs.lemmas.Bool.{cases_eq, cases_lt}
use Rattle.std.proofs.lemmas.List.{get_or-set_other, get_or-set_same, length_push, take-append-le, take_all, take_more}
use Rattle.std.proofs.lemmas.Nat.{row_fits}
use Rattle.values.specs.declared.value.Value.TheVariants.{Whole}
use Rattle.values.specs.Columns.{row_of}
use Rattle.coded_columns.specs.declared.coded.Coded.{Coded}
use Rattle.coded_columns.specs.declared.coded.SegmentColumns.{SegmentColumns}
use Rattle.value_ids.specs.Coding.{AreBelow}
use Rattle.coded_columns.specs.Coded.{IsOfField, IsUnread, column_of, most_rows, table_of}
use Rattle.coded_columns.specs.Keyed.{IsSetBy, MeetsRow, SetsFirst}
use Rattle.coded_columns.specs.Keys.{AreKeys, key_at, packed_after, packed_with}
use Rattle.coded_columns.proofs.SlotLemmas.{key-more, unpacked}

module _ (segment : SegmentColumns) where
  packed-both : (key : ℕ) (xs ys : List ℕ) (at : ℕ) → packed_after segment key (xs ++ ys) at ≡ packed_after segment (packed_after segment key xs at) ys at
  packed-both key [] ys at = refl
  packed-both key (x ∷ xs) ys at = packed-both (packed_with (column_of segment x) key at) xs ys at

  -- the key with one column more
  pub key-push : (groups : List ℕ) (group at : ℕ) → key_at segment (groups ++ group ∷ []) at ≡ packed_with (column_of segment group) (key_at segment groups at) at
  key-push groups group at = packed-both 0 groups (group ∷ []) at

  pub key-next : (groups : List ℕ) (i at : ℕ) → i < length groups → key_at segment (take (i + 1) groups) at ≡ packed_with (column_of segment (get_or groups i 0)) (key_at segment (take i groups) at) at
  key-next groups i at lt = ap (λ (l : List ℕ). key_at segment l at) (take_more groups i 0 lt) ∙ key-push (take i groups) (get_or groups i 0) at

  none-taken : (i : ℕ) → take {A = ℕ} i [] ≡ []
  none-taken zero = refl
  none-taken (suc i) = refl

  -- without a group column there is one key
  pub keys-none : AreKeys segment [] 1
  keys-none = record {
    at_most = omega arith;
    below = λ at lt. omega arith;
    parts = λ i at lt. subst (λ (l : List ℕ). key_at segment l at < most_rows) (sym (none-taken i)) (omega arith);
    same = λ at other at_lt other_lt e. refl;
  }

  within : (k id size width : ℕ) → k < size → id < width → k * width + id < size * width
  within k id size width k_lt id_lt =
      let row : k * width + width ≤ size * width = row_fits k width size width k_lt (omega arith) in
      omega (arith, row, id_lt)

  parts-more : (groups : List ℕ) (group size more : ℕ) → AreKeys segment groups size → ((at : ℕ) → at < segment.count → key_at segment (groups ++ group ∷ []) at < more) → more ≤ most_rows
      → (i at : ℕ) → at < segment.count → key_at segment (take i (groups ++ group ∷ [])) at < most_rows
  parts-more groups group size more keys all le i at lt =
      elim (cases_lt i (length groups + 1)) [
        | inl before ↦ subst (λ (l : List ℕ). key_at segment l at < most_rows) (sym (take-append-le i groups (group ∷ []) (omega (arith, before)))) (keys.parts i at lt)
        | inr after ↦
            subst (λ (l : List ℕ). key_at segment l at < most_rows) (sym (take_all i (groups ++ group ∷ []) (omega (arith, after, length_push groups group)))) (omega (arith, all at lt, le))
      ]

  pub keys-more : (groups : List ℕ) (group : ℕ) (column : Coded) (size more : ℕ) → AreKeys segment groups size → column_of segment group ≡ Some column → IsOfField segment group column
      → more ≡ size * length column.dictionary.now.values → more ≤ most_rows → AreKeys segment (groups ++ group ∷ []) more
  keys-more groups group column size more keys found of is le =
      let width : ℕ = length column.dictionary.now.values in
      let id = λ (at : ℕ). get_or column.ids.now at 0 in
      let id_lt : (at : ℕ) → at < segment.count → id at < width = λ at lt. of.ids.below at 0 (omega (arith, lt, of.ids.count)) in
      let key_is : (at : ℕ) → key_at segment (groups ++ group ∷ []) at ≡ key_at segment groups at * width + id at =
      λ at. key-push groups group at ∙ ap (λ o. packed_with o (key_at segment groups at) at) found in
      let all : (at : ℕ) → at < segment.count → key_at segment (groups ++ group ∷ []) at < more =
      λ at lt. omega (arith, key_is at, within (key_at segment groups at) (id at) size width (keys.below at lt) (id_lt at lt), is) in
      record {
        at_most = le;
        below = all;
        parts = parts-more groups group size more keys all le;
        same = λ at other at_lt other_lt e.
            let p : key_at segment groups at * width + id at ≡ key_at segment groups other * width + id other = sym (key_is at) ∙ e ∙ key_is other in
            let parts = unpacked (key_at segment groups at) (key_at segment groups other) width (id at) (id other) (id_lt at at_lt) (id_lt other other_lt) p in
            key-more groups group (row_of (table_of segment).columns at) (row_of (table_of segment).columns other) (keys.same at other at_lt other_lt parts.0)
            (of.each at at_lt ∙ ap (λ i. get_or column.dictionary.now.values i (Whole (pos 0))) parts.1 ∙ sym (of.each other other_lt));
      }

  pub keys-unread : (groups : List ℕ) (group size : ℕ) → AreKeys segment groups size → column_of segment group ≡ None → IsUnread segment group → AreKeys segment (groups ++ group ∷ []) size
  keys-unread groups group size keys found none =
      let key_is : (at : ℕ) → key_at segment (groups ++ group ∷ []) at ≡ key_at segment groups at =
      λ at. key-push groups group at ∙ ap (λ o. packed_with o (key_at segment groups at) at) found in
      let all : (at : ℕ) → at < segment.count → key_at segment (groups ++ group ∷ []) at < size = λ at lt. omega (arith, key_is at, keys.below at lt) in
      record {
        at_most = keys.at_most;
        below = all;
        parts = parts-more groups group size size keys all keys.at_most;
        same = λ at other at_lt other_lt e.
            key-more groups group (row_of (table_of segment).columns at) (row_of (table_of segment).columns other)
            (keys.same at other at_lt other_lt (sym (key_is at) ∙ e ∙ key_is other)) (none at ∙ sym (none other));
      }

-- one row more
pub first-next : (n : ℕ) (keys places old new next : List ℕ) → n < length keys → get_or keys n 0 < length new → ((k : ℕ) → SetsFirst n keys places k (get_or old k 0) (get_or new k 0))
    → MeetsRow (get_or keys n 0) (get_or places n 0) new next → (k : ℕ) → SetsFirst (n + 1) keys places k (get_or old k 0) (get_or next k 0)
first-next n keys places old new next lt in_new so meets k =
    let own : ℕ = get_or keys n 0 in
    let entry : ℕ = get_or places n 0 + 1 in
    let longer : IsSetBy n keys places k (get_or new k 0) → get_or next k 0 ≡ get_or new k 0 → IsSetBy (n + 1) keys places k (get_or next k 0) = λ by same. record {
      at = by.at;
      within = omega (arith, by.within);
      has = by.has;
      first = by.first;
      is = same ∙ by.is;
    } in
    elim (cases_lt 0 (get_or new own 0)) [
      | inl some ↦
          let same : get_or next k 0 ≡ get_or new k 0 = ap (λ (l : List ℕ). get_or l k 0) (meets.kept some) in
          elim (so k) [
            | inl kept ↦ inl (
              same ∙ kept.0,
              λ none j j_lt. elim (cases_eq j n) [
                | inl e ↦ λ has.
                    let at_own : get_or new own 0 ≡ get_or new k 0 = ap (λ i. get_or new i 0) (sym (ap (λ i. get_or keys i 0) e) ∙ has) in
                    absurd (omega (arith, some, at_own, kept.0, none))
                | inr apart ↦ kept.1 none j (omega (arith, j_lt, apart))
              ],
            )
            | inr by ↦ inr (by.0, longer by.1 same)
          ]
      | inr le ↦
          let set_here : next ≡ set new own entry = meets.taken (omega (arith, le)) in
          elim (cases_eq k own) [
            | inl e ↦
                let zero_here : get_or new k 0 ≡ 0 = ap (λ i. get_or new i 0) e ∙ omega (arith, le) in
                elim (so k) [
                  | inl kept ↦
                      let none : get_or old k 0 ≡ 0 = sym kept.0 ∙ zero_here in
                      inr (
                        none,
                        record {
                          at = n;
                          within = omega arith;
                          has = sym e;
                          first = kept.1 none;
                          is = ap (λ (l : List ℕ). get_or l k 0) set_here ∙ ap (λ i. get_or (set new own entry) i 0) e ∙ get_or-set_same new own entry 0 in_new;
                        },
                      )
                  | inr by ↦ absurd (omega (arith, zero_here, by.1.is))
                ]
            | inr ne ↦
                let other : get_or next k 0 ≡ get_or new k 0 = ap (λ (l : List ℕ). get_or l k 0) set_here ∙ get_or-set_other new own k entry 0 ne in
                elim (so k) [
                  | inl kept ↦ inl (
                    other ∙ kept.0,
                    λ none j j_lt. elim (cases_eq j n) [
                      | inl e ↦ λ has. ne (sym has ∙ ap (λ i. get_or keys i 0) e)
                      | inr apart ↦ kept.1 none j (omega (arith, j_lt, apart))
                    ],
                  )
                  | inr by ↦ inr (by.0, longer by.1 other)
                ]
          ]
    ]

-- there is a row for each key already
pub first-kept : (n : ℕ) (keys places firsts : List ℕ) → n ≡ length keys → AreBelow (length firsts) keys → ((k : ℕ) → k < length firsts → 0 < get_or firsts k 0) → (k : ℕ) → SetsFirst n keys places k (get_or firsts k 0) (get_or firsts k 0)
first-kept n keys places firsts many below all k = inl (
  refl,
  λ none j lt has. elim (cases_lt k (length firsts)) [
    | inl k_lt ↦ absurd (omega (arith, all k k_lt, none))
    | inr le ↦ absurd (omega (arith, below j 0 (omega (arith, lt, many)), has, le))
  ],
)
