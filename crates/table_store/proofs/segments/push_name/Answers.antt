use Rattle.std.proofs.Common.{◌∙◌, ◌++◌, ◌∷◌, [], append-nil, sym, ap}
use Rattle.table_store.proofs.NameLemmas.{ending_cut, name_of, no_ending}
use Rattle.table_store.proofs.segments.push_name.Goals as goal

pub returns-in_default : goal.returns-in_default
returns-in_default c =
    let old = c.args.names.now.items in
    sym (ap (λ xs. old ++ xs) (no_ending c.args.file.now c.in_default.ensures.cases) ∙ append-nil old)

pub returns : goal.returns
returns c =
    let old = c.args.names.now.items in
    let file = c.args.file.now in
    let name = c.in-Some.name.now in
    c.in_ok-push.ensures.items
    ∙ ap (λ n. old ++ n ∷ []) c.in_ok-from_text.ensures
    ∙ ap (λ xs. old ++ xs) (sym (name_of file name (ending_cut file name c.in-Some.ensures.cases) (sym c.is_segment_name.ensures.is ∙ c.if-not-is_segment_name.false)))
