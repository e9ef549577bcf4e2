use Rattle.std.proofs.Common.{◌≡◌, ◌∙◌, ◌++◌, ℕ, List, map, length, ap}
use Rattle.std.proofs.lemmas.List.{length-map}
use Rattle.std.specs.List.{concat}
use Rattle.values.specs.Columns.{ListedColumns, rows_of}
use Rattle.segment_file.specs.Front.{front_bytes}
use Rattle.segment_file.specs.Image.{section_of, sections_of_rows}
use Rattle.segment_file.specs.Parts.{sections_of}
use Rattle.segment_build.specs.Made.{each_bytes}
use Rattle.segment_build.specs.Sections.{in_order}
use Rattle.segment_build.proofs.Built.{built_image, built_short}
use Rattle.segment_build.proofs.ColumnCodes.{in_rows}
use Rattle.segment_build.proofs.MadeLemmas.{each_count}
use Rattle.segment_build.proofs.MergeLemmas.{built_err}
use Rattle.segment_build.proofs.SectionLemmas.{made_all}
use Rattle.segment_build.proofs.build.make_kept.Goals as goal

pub grow_trees-requires : goal.grow_trees-requires
grow_trees-requires c = (c.requires.kept.0, c.requires.kept.1.merged)

pub front_of-requires-clause-valid : goal.front_of-requires-clause-valid
front_of-requires-clause-valid c = c.requires.kept.1.merged.of_table.valid

pub front_of-requires-clause-each : goal.front_of-requires-clause-each
front_of-requires-clause-each c =
    let table = c.args.table.now in
    let t : ListedColumns = c.requires.kept.0 in
    let k = c.requires.kept.1 in
    let g = c.in-Ok.ensures t k.merged in
    each_count c.deref.result.now _
    (ap length (ap each_bytes c.deref.ensures.value ∙ c.in_ok-sections.ensures
    ∙ (λ i. in_order (k.sections i) (g.nodes i) (g.stars i)) ∙ made_all table (in_rows table t) k.merged.of_table.valid)
    ∙ length-map (sections_of table) (section_of table (in_rows table t)))

pub front_of-requires-clause-short : goal.front_of-requires-clause-short
front_of-requires-clause-short c =
    let table = c.args.table.now in
    let t : ListedColumns = c.requires.kept.0 in
    let k = c.requires.kept.1 in
    let g = c.in-Ok.ensures t k.merged in
    built_short table c.args.name.now t c.args.kept.rows (each_bytes c.deref.result.now) k.merged.of_table.valid c.requires.name k.merged.of_table.columns g.built.fits k.rows
    (ap each_bytes c.deref.ensures.value ∙ c.in_ok-sections.ensures
    ∙ (λ i. in_order (k.sections i) (g.nodes i) (g.stars i)) ∙ made_all table (in_rows table t) k.merged.of_table.valid)

pub returns-in-Err : goal.returns-in-Err
returns-in-Err c = λ t k.
    let g = c.in-Err.ensures t k.merged in
    record { image = tt; sections = tt; built = built_err c.args.table.now (rows_of t) c.in-Err.fault g.built }

pub returns : goal.returns
returns c = λ t k.
    let table = c.args.table.now in
    let g = c.in-Ok.ensures t k.merged in
    let sections : List (List ℕ) = each_bytes c.in_ok-sections.sections.items in
    let front : List ℕ = c.in_ok-front.front.items in
    let are : sections ≡ sections_of_rows table (in_rows table t) = c.in_ok-sections.ensures
    ∙ (λ i. in_order (k.sections i) (g.nodes i) (g.stars i)) ∙ made_all table (in_rows table t) k.merged.of_table.valid in
    record {
      image = built_image table c.args.name.now t c.args.kept.rows sections (front ++ concat sections) k.merged.of_table.columns.counts k.rows are
          (ap (λ f. f ++ concat sections) (c.in_ok-front.ensures ∙ ap (λ (ss : List (List ℕ)). front_bytes table c.args.name.now (record { format = 1; rows = c.args.kept.rows; sizes = map length ss })) (ap each_bytes c.deref.ensures.value)));
      sections = are;
      built = record { fits = g.built.fits; too_large = tt; only = tt };
    }
