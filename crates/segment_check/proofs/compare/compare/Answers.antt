use Rattle.std.proofs.Common.{◌≡◌, ◌≤◌, length, ap, arith, inl, refl}
use Rattle.outside.specs.Seen.{Seen, seen}
use Rattle.outside.proofs.SeenLemmas.{reads_none}
use Rattle.segment_file.proofs.Faults.{reads_other}
use Rattle.segment_file.specs.declared.part.Part.TheVariants as parts
use Rattle.segment_file.proofs.Counts.{few_sections}
use Rattle.segment_build.specs.Coded.{columns_in}
use Rattle.segment_build.specs.FileReads.{file_unread, once_none}
use Rattle.segment_build.specs.Made.{file_bytes}
use Rattle.segment_check.proofs.Sameness.{image_small}
use Rattle.segment_check.proofs.compare.compare.Goals as goal

pub first_difference-requires : goal.first_difference-requires
first_difference-requires g c =
    image_small c.args.table.now c.args.name.now (columns_in c.args.coded) (file_bytes c.in-Ok.made) c.requires.asked.valid c.requires.asked.name c.requires.fields c.in-Ok.ensures.built.fits c.in-Ok.ensures.image

pub returns-in-Err-TooLarge : goal.returns-in-Err-TooLarge
returns-in-Err-TooLarge g c =
    let fails = c.in-Err-TooLarge in
    let old : Seen = seen g.S.Shelf c.args.shelf.now in
    let own = rw fails.field-0-is at fails.ensures in
    record {
      fits = tt;
      same = tt;
      refused = λ p is.
          let named : p ≡ parts.Nodes fails.tree = cc (is, fails.tree-is) in
          inl (fails.tree, named, own.built.too_large fails.tree refl);
      only_reads = reads_other _ old old (λ e. cc) (reads_none old);
      log = file_unread c.args.file.now old.log old.log refl;
      once = (0, once_none c.args.file.now 0 0 old.log old.log refl);
    }

pub front_size-start-requires-clause-sections : goal.front_size-start-requires-clause-sections
front_size-start-requires-clause-sections g c =
    let few = few_sections c.args.table.now c.requires.asked.valid in
    omega (arith, few, ap length c.deref.ensures.value, ap length c.requires.read.is.parts_are)
