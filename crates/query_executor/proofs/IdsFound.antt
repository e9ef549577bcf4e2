-- What is found in columns that a query tests, where the segment's file is the image of rows.
use Rattle.std.proofs.Common.{◌≡◌, ◌∙◌, ◌<◌, ◌+◌, ◌==◌, ◌||◌, ◌&&◌, ℕ, zero, suc, Bool, true, false, List, [], ◌∷◌, Option, Some, None, IfSome, is_some, length, map, slice_get, refl, sym, ap, subst, arith}
use Rattle.std.specs.List.{AllZip, list_any, range_with_len}
use Rattle.std.proofs.lemmas.List.{length-map}
use Rattle.std.proofs.lemmas.List.FromFn.{length-range_with_len}
use Rattle.outside.specs.Files.{Files}
use Rattle.values.specs.declared.value.Value.{Value}
use Rattle.value_ids.specs.Dictionary.{Distinct}
use Rattle.table_schema.specs.ValidQuery.{IsValidQuery}
use Rattle.table_schema.specs.ValidTable.{IsValidTable}
use Rattle.table_schema.specs.declared.query.BoundQuery.{BoundQuery}
use Rattle.table_schema.specs.declared.query.Conjunct.{Conjunct}
use Rattle.table_schema.specs.declared.table.Table.{Table}
use Rattle.eligibility.specs.Rule.{picked}
use Rattle.segment_file.specs.Image.{dictionary_of}
use Rattle.segment_file.specs.Ordered.{ordered}
use Rattle.segment_file.specs.Parts.{columns_of}
use Rattle.segment_head.specs.Heads.{IsHead, IsHeadOf, OfWhole, Seen}
use Rattle.segment_head.specs.Stored.{HasImage, IsOfImage}
use Rattle.segment_head.specs.declared.stored.Stored.{Stored}
use Rattle.segment_plan.specs.Laws.{HeadTells, TellsOf}
use Rattle.segment_plan.specs.Matched.{is_filtered, matched, values_of}
use Rattle.segment_plan.specs.Plan.{is_emptied}
use Rattle.segment_plan.specs.Planned.{dictionaries_over, told_head}
use Rattle.segment_plan.specs.Pruning.{is_excluded, is_pruned}
use Rattle.segment_opening.specs.Calls.{IsOpened}
use Rattle.segment_opening.specs.Found.{IsAskable, SaysAlike, TellsAsked, ids_in}
use Rattle.segment_opening.specs.Opened.{Grows, IsHeadIn}
use Rattle.segment_opening.proofs.EmptyLemmas.{part_self, whole_loaded}
use Rattle.segment_opening.proofs.HeadLemmas.{opened_later}
use Rattle.query_executor.specs.ByIds.{CanAskByIds}
use Rattle.query_executor.proofs.IdsHeads.{lists_same, whole_long}

-- no star-tree is picked
pub unpicked_so : (picked : Option ℕ) → is_some picked ≡ false → picked ≡ None
unpicked_so None is = refl
unpicked_so (Some tree) is = absurd cc

-- ---- the dictionaries that are told of rows

slot_of : (table : Table) (rows : List (List Value)) (from count k : ℕ) → k < count → slice_get (map Some (map (dictionary_of table rows) (range_with_len from count))) k ≡ Some (Some (dictionary_of table rows (from + k)))
slot_of table rows from zero k lt = absurd (omega (arith, lt))
slot_of table rows from (suc count) zero lt =
    let same : from ≡ from + 0 = omega arith in
    ap (λ n. Some (Some (dictionary_of table rows n))) same
slot_of table rows from (suc count) (suc k) lt =
    let same : from + 1 + k ≡ from + suc k = omega arith in
    slot_of table rows (from + 1) count k (omega (arith, lt)) ∙ ap (λ n. Some (Some (dictionary_of table rows n))) same

pub told_at : (table : Table) (os : List (List Value)) (c : ℕ) → c < length table.schema.fields → slice_get (told_head table os).dictionaries c ≡ Some (Some (dictionary_of table os c))
told_at table os c lt =
    let plain : 0 + c ≡ c = omega arith in
    slot_of table os 0 (length table.schema.fields) c lt ∙ ap (λ n. Some (Some (dictionary_of table os n))) plain

pub told_long : (table : Table) (os : List (List Value)) → length (told_head table os).dictionaries ≡ length table.schema.fields
told_long table os = length-map (dictionaries_over table os) Some ∙ length-map (columns_of table) (dictionary_of table os) ∙ length-range_with_len 0 (length table.schema.fields)

-- heads with the same dictionaries leave columns without a value alike
emptied_same : (conjuncts : List Conjunct) (table : Table) (a b : Seen) → a.dictionaries ≡ b.dictionaries → is_emptied conjuncts table b ≡ is_emptied conjuncts table a
emptied_same conjuncts table a b same = (λ i. list_any (λ c. is_filtered conjuncts c && matched conjuncts c (values_of (slice_get (sym same i) c)) == 0) (columns_of table))

module _ (table : Table) (tells_law : HeadTells) (valid : IsValidTable table) where
  -- the whole head has the dictionaries of the rows
  pub whole_told : (files : Files) (rows : List (List Value)) (head : Seen) (i : IsOfImage table files rows head) → IsHeadOf table head → i.whole.dictionaries ≡ (told_head table (ordered table.settings.sorted rows)).dictionaries
  whole_told files rows head i of_head =
      let os : List (List Value) = ordered table.settings.sorted rows in
      let long = whole_long table i.whole head i.part of_head in
      let tells : TellsOf table os i.whole = tells_law table i.name i.file rows i.whole i.whole valid i.named i.can i.is_head (part_self i.whole) in
      lists_same i.whole.dictionaries (told_head table os).dictionaries (long ∙ sym (told_long table os))
      (λ c lt.
      let within : c < length table.schema.fields = omega (arith, lt, long) in
      let (d, at) = whole_loaded table i.name i.file _ i.whole i.is_head c within in
      at ∙ ap (λ (x : Distinct). Some (Some x)) (tells.dictionaries_are c d at) ∙ sym (told_at table os c within))

  module _ (query : BoundQuery) (conjuncts : List Conjunct) (counts : List (Option ℕ)) where
    asked_same : (a b : Seen) → a.dictionaries ≡ b.dictionaries → TellsAsked query table conjuncts counts a → TellsAsked query table conjuncts counts b
    asked_same a b same tells = record {
      counts_are = λ c n is. (λ i. length (values_of (slice_get (sym same i) c))) ∙ tells.counts_are c n is;
      says = subst (λ ds. AllZip (SaysAlike ds (ids_in counts ds)) query.conjuncts conjuncts) same tells.says;
      some = emptied_same query.conjuncts table a b same ∙ tells.some;
    }

    told_of : (segment : Stored) (head : Seen) → IsHeadOf table head → (held : Option Files) → OfWhole table held head (TellsAsked query table conjuncts counts) → IsHeadIn table held segment head
        → IfSome held (λ files. (rows : List (List Value)) → HasImage table files segment rows → TellsAsked query table conjuncts counts (told_head table (ordered table.settings.sorted rows)))
    told_of segment head of_head None whole image = tt
    told_of segment head of_head (Some files) whole image = λ rows has.
        let i = image rows has in
        let is_head : IsHead table i.name i.file _ i.whole = subst (λ bytes. IsHead table i.name i.file bytes i.whole) (sym i.stored) i.is_head in
        asked_same i.whole (told_head table (ordered table.settings.sorted rows)) (whole_told files rows head i of_head) (whole i.name i.file i.whole is_head i.part)

    pub can_ask : IsValidQuery table query → (held : Option Files) (segment : Stored) (head grown : Seen) → IsOpened table held segment head → Grows table held head grown → is_pruned query head ≡ false → picked query table.settings.trees ≡ None
        → IsAskable query table grown conjuncts counts → OfWhole table held head (TellsAsked query table conjuncts counts) → CanAskByIds query table held segment grown conjuncts counts
    can_ask query_valid held segment head grown opened grows kept unpicked askable whole =
        let rows_same = grows.rows_same in
        let bounds_same = grows.bounds_same in
        record {
          valid = valid;
          query_valid = query_valid;
          opened = opened_later table held segment head grown grows opened;
          kept = (λ j. rows_same j == 0 || list_any (is_excluded (bounds_same j)) query.conjuncts) ∙ kept;
          unpicked = unpicked;
          askable = askable;
          tells = told_of segment head opened.of held whole opened.image;
        }
