use Rattle.std.proofs.Common.{refl, arith}
use Rattle.std.proofs.lemmas.Simd.{zip2_splat, length-chunk}
use lib.Lanes.{chunk}
use Rattle.csv_ingest.specs.Places.{is_separator}
use Rattle.csv_ingest.proofs.PlaceLemmas.{joined, mask_is}
use Rattle.csv_ingest.proofs.marks.mask_at.Goals as goal

pub returns : goal.returns
returns c =
    let v = chunk c.args.at 64 c.args.text.now in
    let long = length-chunk c.args.at 64 c.args.text.now c.requires in
    mask_is is_separator c.args.text.now c.args.at 64 _ c.requires (omega arith) c.type_inv.text _ (joined _ _ _ v (joined _ _ _ v (joined _ _ _ v (zip2_splat _ v 64 44 long) (zip2_splat _ v 64 10 long)) (zip2_splat _ v 64 13 long)) (zip2_splat _ v 64 34 long)) refl
