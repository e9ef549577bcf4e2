use Rattle.segment_build.specs.Coded.{columns_in}
use Rattle.segment_build.proofs.build.make_of_codes.Goals as goal

pub make_kept-requires-clause-kept : goal.make_kept-requires-clause-kept
make_kept-requires-clause-kept c = (columns_in c.args.coded, c.in_ok-kept.ensures)

pub returns : goal.returns
returns c = c.make_kept.ensures (columns_in c.args.coded) c.in_ok-kept.ensures
