-- The image of rows is that of these rows alone, and no part of it is wrong.
use Rattle.std.proofs.Common.{◌≡◌, ◌∙◌, inl, inr, ℕ, List, Option, None, Some, IfSome, sym, ap, subst, lit<}
use Rattle.outside.specs.Files.{Files, bytes_of}
use Rattle.values.specs.declared.value.Value.{Value}
use Rattle.table_schema.specs.declared.table.Table.{Table}
use Rattle.table_schema.specs.ValidTable.{IsValidTable}
use Rattle.segment_file.specs.Image.{CanHold, image}
use Rattle.segment_file.specs.Names.{IsSegmentName, file_of}
use Rattle.segment_file.specs.Ordered.{ordered}
use Rattle.segment_file.specs.declared.part.Part.{Part}
use Rattle.segment_file.specs.Rules.{KeepsAll}
use Rattle.segment_file.specs.Spelled.{rows_said}
use Rattle.segment_file.proofs.ImageSpells.{image_spells}
use Rattle.segment_file.proofs.ImageTells.{images_tell}
use Rattle.segment_check.specs.Checked.{IsNoImage}
use Rattle.segment_check.proofs.ImagesPass.{images_pass}
use Rattle.table_store.specs.Images.{IsNoStoredImage, IsStoredImage, SpellsNoStored, SpellsStored}
use Rattle.table_store.specs.Segments.{HasSegment, LacksSegment}

module _ (table : Table) (files : Files) (name : List ℕ) (rows : List (List Value)) (valid : IsValidTable table) (named : IsSegmentName name) (can : CanHold table rows) (stored : bytes_of (Some files) (file_of name) ≡ image 1 table name rows) where
  pub none_wrong : (part : Part) → ¬ IsNoStoredImage table files name part
  none_wrong part wrong = images_pass table name rows part valid named can (subst (λ bytes. IsNoImage table name bytes part) stored wrong)

  pub one_image : (others : List (List Value)) → IsStoredImage table files name others → others ≡ ordered table.settings.sorted rows
  one_image others is = sym is.in_order ∙ sym (images_tell table name rows others 1 1 valid named can is.can (lit< tt) (lit< tt) (sym stored ∙ is.image_is)).1

  -- nor does it spell other rows, or none
  pub one_spelled : (others : List (List Value)) → SpellsStored table files name others → others ≡ ordered table.settings.sorted rows
  one_spelled others (front, is) =
      let kept : KeepsAll table name (image 1 table name rows) front is.dictionaries = subst (λ bytes. KeepsAll table name bytes front is.dictionaries) stored is.keeps in
      is.rows_are ∙ ap (λ bytes. rows_said table name bytes front is.dictionaries) stored ∙ (image_spells table name rows front is.dictionaries valid named can kept).1

  pub none_unspelled : (part : Part) → ¬ SpellsNoStored table files name part
  none_unspelled part (inl fails) = none_wrong part (inl fails)
  none_unspelled part (inr ids) = none_wrong part (inr (inl ids))

-- a segment that is there is not lacking
pub there_not_lacking : (held : Option Files) (name : List ℕ) (Q : Type 0) → HasSegment held name → IfSome held (λ files. LacksSegment (Some files) name → Q)
there_not_lacking None name Q has = tt
there_not_lacking (Some files) name Q (bytes, got) = λ lacks.
    let no : ◌≡◌ {A = Option (List ℕ)} None (Some bytes) = sym lacks ∙ got in
    absurd cc

-- what follows where files are told
pub told_so : (held : Option Files) (P Q : Files → Type 0) → ((files : Files) → P files → Q files) → IfSome held P → IfSome held Q
told_so None P Q f is = tt
told_so (Some files) P Q f is = f files is
