use Rattle.std.proofs.Common.{◌∙◌, Err, subst}
use Rattle.segment_build.specs.declared.made.MadeFile.{MadeFile}
use Rattle.segment_build.specs.Growing.{IsBuilt}
use Rattle.segment_build.proofs.MergeLemmas.{built_err}
use Rattle.segment_build.proofs.lengths.section_lengths.Goals as goal

pub returns-in-Err-clause-built : goal.returns-in-Err-clause-built
returns-in-Err-clause-built c =
    let table = c.args.table.now in
    let same = c.in_ok-coded.ensures.rows ∙ c.in_ok-columns.ensures.rows in
    built_err table c.args.rows.now c.in-Err.fault (subst (λ rows. IsBuilt {A = MadeFile} table rows (Err c.in-Err.fault)) same c.in-Err.ensures.built)
