-- The check of a file finds one thing, and no other.
use Rattle.std.proofs.Common.{◌≡◌, ◌∙◌, ℕ, List, Result, Ok, Err, sym, subst, ap, lit<}
use Rattle.values.specs.declared.value.Value.{Value}
use Rattle.table_schema.specs.declared.table.Table.{Table}
use Rattle.table_schema.specs.ValidTable.{IsValidTable}
use Rattle.segment_file.specs.Image.{image}
use Rattle.segment_file.specs.Names.{IsSegmentName}
use Rattle.segment_file.specs.declared.part.Part.{Part}
use Rattle.segment_file.proofs.ImageTells.{images_tell}
use Rattle.segment_check.specs.Checked.{IsImageOf, IsNoImage}
use Rattle.segment_check.specs.Found.{Found, IsFound}
use Rattle.segment_check.specs.Laws.{FindsOne, FindsSome}
use Rattle.segment_check.proofs.ImageOrPart.{image_or_part}
use Rattle.segment_check.proofs.ImagesPass.{images_pass}
use Rattle.segment_check.proofs.OnePart.{one_part}

module _ (table : Table) (name bytes : List ℕ) (valid : IsValidTable table) (named : IsSegmentName name) where
  -- bytes are the image of one list of rows
  one_rows : (rows others : List (List Value)) → IsImageOf table name bytes rows → IsImageOf table name bytes others → rows ≡ others
  one_rows rows others is also = sym is.in_order ∙ (images_tell table name rows others 1 1 valid named is.can also.can (lit< tt) (lit< tt) (sym is.image_is ∙ also.image_is)).1 ∙ also.in_order

  -- no part of an image is wrong
  pub image_right : {A : Type 0} (rows : List (List Value)) (part : Part) → IsImageOf table name bytes rows → IsNoImage table name bytes part → A
  image_right rows part is wrong = absurd (images_pass table name rows part valid named is.can (subst (λ b. IsNoImage table name b part) is.image_is wrong))

pub finds_one : FindsOne
finds_one table name bytes (Ok rows) (Ok others) valid named is also = ap Ok (one_rows table name bytes valid named rows others is also)
finds_one table name bytes (Ok rows) (Err part) valid named is wrong = image_right table name bytes valid named rows part is wrong
finds_one table name bytes (Err part) (Ok rows) valid named wrong is = image_right table name bytes valid named rows part is wrong
finds_one table name bytes (Err p) (Err q) valid named wrong also = ap Err (one_part table name bytes p q wrong also)

pub finds_some : FindsSome
finds_some table name bytes valid named none = image_or_part table name bytes valid named (λ rows is. none (Ok rows) is) (λ part wrong. none (Err part) wrong)
