-- No part of an image is wrong.
use Rattle.std.proofs.Common.{◌≡◌, ◌∙◌, ℕ, List, length, map, slice_get, Option, Some, All, refl, sym, ap, subst, inl, inr}
use Rattle.std.proofs.lemmas.List.Elements.{All-get_or}
use Rattle.std.proofs.lemmas.Option.{get_or_from_slice_get, slice_get_within}
use Rattle.values.specs.declared.value.Value.{Value}
use Rattle.table_schema.specs.declared.settings.TreeSetting.{TreeSetting}
use Rattle.table_schema.specs.declared.table.Table.{Table}
use Rattle.table_schema.specs.ValidTable.{IsValidTable}
use Rattle.value_ids.specs.Dictionary.{Distinct}
use Rattle.segment_file.specs.declared.part.Part.{Part}
use Rattle.segment_file.specs.Front.{Front}
use Rattle.segment_file.specs.Image.{CanHold, dictionary_of, file_of_rows, front_of, image}
use Rattle.segment_file.specs.Names.{IsSegmentName}
use Rattle.segment_file.specs.Ordered.{ordered}
use Rattle.segment_file.specs.Parts.{columns_of}
use Rattle.segment_file.specs.Rules.{KeepsAll}
use Rattle.segment_file.specs.Spelled.{HasIds, SpellsRows}
use Rattle.segment_file.specs.Trees.{TreeFits}
use Rattle.segment_file.proofs.Counts.{all_at}
use Rattle.segment_file.proofs.ImageKeeps.{image_keeps}
use Rattle.segment_file.proofs.ImageSpells.{image_spells}
use Rattle.segment_file.proofs.RuleLaws.{fails_not_all}
use Rattle.segment_check.specs.Checked.{FailsBytes, FailsIds, FailsImageAt, FailsTree, IsNoImage}
use Rattle.segment_check.specs.Laws.{ImagesPass}
use Rattle.segment_check.proofs.Again.{ordered_again}

-- what holds of each holds of one
one_of : {X : Type 0} (P : X → Type 0) (xs : List X) (i : ℕ) (x : X) → All P xs → slice_get xs i ≡ Some x → P x
one_of P xs i x all at = subst P (get_or_from_slice_get xs i x x at) (All-get_or P xs i x (slice_get_within xs i x at) all)

module _ (table : Table) (name : List ℕ) (rows : List (List Value)) (valid : IsValidTable table) (named : IsSegmentName name) (can : CanHold table rows) where
  abbrev os : List (List Value)
  os = ordered table.settings.sorted rows

  abbrev I : List ℕ
  I = image 1 table name rows

  -- what the image spells are the rows in their order
  spelled-rows : (front : Front) (others : List (List Value)) → SpellsRows table name I front others → others ≡ os
  spelled-rows front others spells = spells.rows_are ∙ (image_spells table name rows front spells.dictionaries valid named can spells.keeps).1

  same-order : (front : Front) (others : List (List Value)) → SpellsRows table name I front others → ordered table.settings.sorted others ≡ os
  same-order front others spells = ap (ordered table.settings.sorted) (spelled-rows front others spells) ∙ ordered_again table.settings.sorted rows

  ids-pass : (column : ℕ) → FailsIds table name I column → ⊥
  ids-pass column fails =
      fails.none (all_at (HasIds table name I fails.front fails.dictionaries) (length table.schema.fields) column (image_spells table name rows fails.front fails.dictionaries valid named can fails.keeps).0 fails.field)

  tree-passes : (t : ℕ) → FailsTree table name I t → ⊥
  tree-passes t fails =
      let large = fails.too_large in
      large.over (subst (λ (r : List (List Value)). TreeFits r large.tree) (sym (same-order fails.front fails.rows fails.spells)) (one_of (TreeFits os) table.settings.trees t large.tree can.trees large.at))

  bytes-pass : (part : Part) → FailsBytes table name I part → ⊥
  bytes-pass part fails =
      let same : image 1 table name fails.rows ≡ I =
      ap (λ (r : List (List Value)). file_of_rows 1 table name r) (same-order fails.front fails.rows fails.spells) in
      fails.differ.other (ap (λ (b : List ℕ). slice_get b fails.at) same)

  none-wrong : (part : Part) → IsNoImage table name I part → ⊥
  none-wrong part wrong = elim wrong as (λ w. ⊥) [
    | inl fails ↦ fails_not_all table name I part (front_of 1 table os, map (dictionary_of table os) (columns_of table), image_keeps table name rows valid named can) fails
    | inr fails ↦ elim fails as (λ w. ⊥) [
      | inl ids ↦ ids-pass ids.0 ids.2
      | inr others ↦ elim others as (λ w. ⊥) [ inl tree ↦ tree-passes tree.0 tree.2 | inr bytes ↦ bytes-pass part bytes ]
    ]
  ]

pub images_pass : ImagesPass
images_pass table name rows part valid named can wrong = none-wrong table name rows valid named can part wrong
