use Rattle.std.proofs.Common.{◌≡◌, ◌<◌, All, map, arith, subst, sym}
use Rattle.bit_column.specs.Postings.{bucket_of, buckets_for}
use Rattle.bit_column.proofs.PostingLaws.{buckets_in}
use Rattle.inverted_lists.proofs.ranged.write_ranged.Goals as goal

pub write_postings-requires : goal.write_postings-requires
write_postings-requires c =
    let same : c.div_ceil.result ≡ buckets_for c.args.count = omega (arith, c.div_ceil.ensures) in
    record {
      at_most = c.requires.at_most;
      below = subst (λ n. All (λ bucket. bucket < n) (map bucket_of c.args.ids.now)) (sym same) (buckets_in c.args.count c.args.ids.now c.requires.below);
    }
