use Rattle.std.proofs.Common.{◌≡◌, IfOk, subst}
use Rattle.segment_file.specs.Image.{image}
use Rattle.segment_build.specs.Growing.{IsBuilt}
use Rattle.segment_build.specs.Made.{file_bytes}
use Rattle.segment_build.proofs.build.make_file.Goals as goal

pub returns-clause-image : goal.returns-clause-image
returns-clause-image c =
    subst (λ rows. IfOk c.make_of_codes.result (λ made. file_bytes made ≡ image 1 c.args.table.now c.args.name.now rows)) c.in_ok-coded.ensures.rows c.make_of_codes.ensures.image

pub returns-clause-built : goal.returns-clause-built
returns-clause-built c = subst (λ rows. IsBuilt c.args.table.now rows c.make_of_codes.result) c.in_ok-coded.ensures.rows c.make_of_codes.ensures.built
