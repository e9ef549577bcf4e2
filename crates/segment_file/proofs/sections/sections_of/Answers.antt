use Rattle.std.proofs.Common.{length, ap, arith}
use Rattle.segment_file.proofs.sections.sections_of.Goals as goal

pub overflow_mul-trees : goal.overflow_mul-trees
overflow_mul-trees c = omega (arith, c.len-trees.ensures, c.requires.settings.few_trees)

pub push_dictionaries-requires : goal.push_dictionaries-requires
push_dictionaries-requires c = omega (arith, c.len-columns.ensures, c.requires.schema.at_most)

pub push_nodes-requires : goal.push_nodes-requires
push_nodes-requires c = omega (arith, c.len-trees.ensures, c.requires.settings.few_trees)

pub push_forwards-requires : goal.push_forwards-requires
push_forwards-requires c = omega (arith, c.len-columns.ensures, c.requires.schema.at_most)

pub push_inverted-requires : goal.push_inverted-requires
push_inverted-requires c = omega (arith, ap length c.as_slice.ensures, c.requires.settings.each_inverted, c.requires.schema.at_most)

pub push_ranges-requires : goal.push_ranges-requires
push_ranges-requires c = omega (arith, ap length c.as_slice-2.ensures, c.requires.settings.each_ranged, c.requires.schema.at_most)

pub push_stars-requires : goal.push_stars-requires
push_stars-requires c = omega (arith, c.len-trees.ensures, c.requires.settings.few_trees)
