use Rattle.std.proofs.Common.{ap, subst}
use Rattle.segment_file.specs.Image.{image}
use Rattle.segment_build.specs.Growing.{IsBuilt}
use Rattle.segment_build.proofs.SectionLemmas.{if_ok_same}
use Rattle.segment_build.proofs.build.build_image.Goals as goal

pub returns-clause-image : goal.returns-clause-image
returns-clause-image c = if_ok_same c.build_columns.result _ _ (ap (image 1 c.args.table.now c.args.name.now) c.in_ok-columns.ensures.rows) c.build_columns.ensures.image

pub returns-clause-built : goal.returns-clause-built
returns-clause-built c =
    subst (λ rows. IsBuilt c.args.table.now rows c.build_columns.result) c.in_ok-columns.ensures.rows c.build_columns.ensures.built
