use Rattle.std.proofs.Common.{◌≡◌, ◌∙◌, None, sym, ap, subst}
use Rattle.std.specs.Option.{IsSome, option_copied}
use Rattle.std.proofs.lemmas.Bool.{false≢true}
use Rattle.segment_file.specs.declared.part.Part.TheVariants.{Star}
use Rattle.segment_head.specs.Heads.{place_in}
use Rattle.segment_head.proofs.SectionBytes.{star_placed}
use Rattle.star_answer.proofs.segment.documents_of.Goals as goal

pub unreachable-requires : goal.unreachable-requires
unreachable-requires c =
    let head = c.args.head.now in
    let none : place_in head.sections (Star c.args.tree) ≡ None =
    sym c.place.ensures ∙ ap option_copied c.in-None.is in
    false≢true (subst IsSome none
    (star_placed c.args.table.now head c.args.tree c.requires.of_table c.requires.tree))
