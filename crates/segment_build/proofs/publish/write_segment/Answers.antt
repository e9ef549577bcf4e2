use Rattle.std.proofs.Common.{◌≡◌, ◌∙◌, ℕ, IfErr, ap, subst}
use Rattle.outside.specs.Files.{with_file}
use Rattle.segment_file.specs.Image.{image}
use Rattle.segment_file.specs.Names.{file_of}
use Rattle.segment_build.specs.Growing.{IsTooLarge}
use Rattle.segment_build.specs.declared.fault.BuildFault.TheVariants.{TooLarge}
use Rattle.segment_build.specs.FileLaws.{on_ok_then}
use Rattle.segment_build.proofs.publish.write_segment.Goals as goal

pub returns-clause-published : goal.returns-clause-published
returns-clause-published g c =
    on_ok_then c.write_columns.result
    (λ e. e ∙ ap (λ rows. with_file (file_of c.args.name.now) (image 1 c.args.table.now c.args.name.now rows) (g.D.Shelf.held c.args.depot.now)) c.in_ok-columns.ensures.rows)
    c.write_columns.ensures.published

pub returns-clause-too_large : goal.returns-clause-too_large
returns-clause-too_large g c =
    subst (λ rows. IfErr c.write_columns.result (λ reason. (t : ℕ) → reason ≡ TooLarge t → IsTooLarge c.args.table.now rows t)) c.in_ok-columns.ensures.rows c.write_columns.ensures.too_large
