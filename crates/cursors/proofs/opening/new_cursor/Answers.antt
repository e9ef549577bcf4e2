use Rattle.std.proofs.Common.{◌≡◌, ◌∙◌, Some, ap, map, refl}
use Rattle.segment_file.specs.Names.{file_of}
use Rattle.cursors.proofs.NewLemmas.{made_new}
use Rattle.cursors.proofs.opening.new_cursor.Goals as goal

pub returns-clause-made : goal.returns-clause-made
returns-clause-made c =
    let made = c.in_ok-groups.ensures.ok in
    let files : c.in_ok-files.files.items ≡ map (λ name. Some (file_of name)) c.args.segments = c.in_ok-files.ensures ∙ ap (map (λ name. Some (file_of name))) c.as_slice.ensures in
    record {
      name_is = c.in_ok-name.ensures;
      query_is = refl;
      segments_are = refl;
      none = refl;
      files_are = files;
      owner_is = made.owner_is;
      groups_are = made.is_new.groups_are;
      kept = made_new c.args.owner c.args.query c.args.segments _ c.new.new.pool c.in_ok-groups.groups c.in_ok-files.files.items made c.requires.owner c.requires.few.1 files _ refl refl refl refl refl refl;
    }
