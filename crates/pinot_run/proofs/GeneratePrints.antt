-- The numbers that `generate` prints are those of the documents that it read.
use Rattle.std.proofs.Common.{◌≡◌, ◌∙◌, ◌+◌, ◌-◌, ◌*◌, ◌≤◌, ◌++◌, ℕ, zero, suc, true, List, [], length, Option, Some, None, refl, sym, ap, arith}
use Rattle.std.specs.Prelude.{codes, get_or, is_some, slice_get}
use Rattle.std.specs.Fmt.{decimal}
use Rattle.std.proofs.lemmas.Bool.{false≢true}
use Rattle.outside.specs.Reads.{Entry}
use Rattle.outside.specs.Sink.{appended}
use Rattle.table_schema.specs.declared.settings.TreeSetting.{TreeSetting}
use Rattle.segment_file.specs.Image.{section_of}
use Rattle.segment_file.specs.declared.part.Part.TheVariants.{Forward}
use Rattle.segment_head.specs.Stored.{live}
use Rattle.segment_plan.specs.Laws.{EmptyHasNone, PrunedHasNone}
use Rattle.segment_plan.specs.Planned.{plan_over}
use Rattle.segment_reads.specs.Looked.{docs_over}
use Rattle.segment_reads.specs.Reads.{bytes_read, column_span}
use Rattle.star_file.specs.Reading.{doc_width}
use Rattle.command_words.specs.declared.note.Note.{Note}
use Rattle.command_words.specs.declared.status.Status.TheVariants as status
use Rattle.command_model.specs.Generated.{generate_commands, generated_name, generated_rows, generated_text, last_cell, line_ends, scan_query, tree_query}
use Rattle.command_model.specs.Step.{status_after, text_of}
use Rattle.command_model.specs.Through.{Chain, chain_answer, through}
use Rattle.pinot_run.specs.GenerateReads.{GeneratePrints, numbers_line, own_texts, tree_bytes}
use Rattle.pinot_run.specs.ScriptReads.{of_text, plan_docs}
use Rattle.pinot_run.proofs.GenerateReads.{all_reads}
use Rattle.pinot_run.proofs.GenerateSteps.{generate_steps}
use Rattle.pinot_run.proofs.GeneratedPlan.{names_c, no_forward, none_indexed, own_scan, scan_docs, scan_looks, scan_plan, tree_docs}
use Rattle.pinot_run.proofs.GeneratedState.{CountedFor, left_so, own_segments, own_there}
use Rattle.pinot_run.proofs.GeneratedTable.{one_tree, own, own_query}
use Rattle.pinot_run.proofs.ScriptLemmas.{line_not_done}

-- where all was done no command was refused
none_refused : (rows : ℕ) (texts : List (List ℕ)) (refusal : Option Note) → status.Done ≡ status_after (chain_answer rows texts refusal) → refusal ≡ None
none_refused rows texts None done = refl
none_refused rows texts (Some line) done = absurd (line_not_done line (sym done))

some_of : (o : Option TreeSetting) → is_some o ≡ true → (setting : TreeSetting) × (o ≡ Some setting)
some_of None is = absurd (false≢true is)
some_of (Some setting) is = (setting, refl)

-- how many documents of the star-tree are counted for a text that asks a query
docs_for : (n : ℕ) (sql text : List ℕ) (setting : TreeSetting) → CountedFor n sql text
    → tree_bytes own (generated_rows n) 0 setting sql ≡ plan_docs own (generated_rows n) 0 (own_query sql) (plan_over (own_query sql) own (generated_rows n)) * doc_width setting.shape
docs_for n sql text setting c = ap (λ a. of_text 0 (plan_docs own (generated_rows n) 0) own (generated_rows n) a * doc_width setting.shape) c.asks

pub generate_prints : PrunedHasNone → EmptyHasNone → GeneratePrints
generate_prints pruned empty rows files kept state old new inputs stored stands g =
    let follows = generate_steps rows files kept state old new status.Done inputs stored stands g refl in
    let chain : Chain = through state (generate_commands rows) files in
    let none : chain.refusal ≡ None = none_refused rows chain.texts chain.refusal follows.ended_so in
    let left = left_so rows files state none in
    let groups : ℕ = line_ends (get_or chain.texts 2 []) - 3 in
    let docs : ℕ = docs_over (own_query tree_query) own (generated_rows rows) in
    let scanned : last_cell [] (get_or chain.texts 3 []) ≡ decimal rows = left.scan.last ∙ ap decimal (scan_looks pruned empty rows) in
    let line : generated_text rows chain.texts ≡ numbers_line rows groups docs rows =
    (λ i. codes "rows " ++ decimal rows ++ codes ", groups " ++ decimal groups ++ codes ", tree " ++ left.tree.last i ++ codes ", scan " ++ scanned i ++ codes "\n") in
    let (setting, first) = some_of (slice_get own.settings.trees 0) one_tree in (
      own,
      left.accepted,
      record {
        groups = groups;
        docs = docs;
        printed = follows.out ∙ ap (λ t. appended t old.out.written) (ap text_of (ap (chain_answer rows chain.texts) none) ∙ line);
        read = λ before entries is now.
            let all = all_reads rows files kept state own_texts (own_segments rows) own (record { format = 1; rows = generated_rows rows }) old new inputs stored stands g left.state_is left.accepted (own_there rows) before entries is now in
            record {
              setting = setting;
              first = first;
              tree = all.0 0 setting first ∙ both setting (get_or chain.texts 2 []) (get_or chain.texts 3 []) left.tree left.scan;
              scan = column entries (λ n is_n. all.1 (own_query scan_query) own_scan left.scan.asks (ap (λ k. plan_over (own_query scan_query) own (generated_rows k)) is_n ∙ scan_plan pruned empty n) none_indexed 2 names_c);
            };
      },
    )
  where
    both : (setting : TreeSetting) (tree scan : List ℕ) → CountedFor rows tree_query tree → CountedFor rows scan_query scan
        → tree_bytes own (generated_rows rows) 0 setting tree_query + tree_bytes own (generated_rows rows) 0 setting scan_query ≡ docs_over (own_query tree_query) own (generated_rows rows) * doc_width setting.shape
    both setting tree scan t s =
        let one : tree_bytes own (generated_rows rows) 0 setting tree_query ≡ docs_over (own_query tree_query) own (generated_rows rows) * doc_width setting.shape = docs_for rows tree_query tree setting t ∙ ap (λ d. d * doc_width setting.shape) (sym (tree_docs (generated_rows rows))) in
        let nothing : 0 * doc_width setting.shape ≡ 0 = omega arith in
        let other : tree_bytes own (generated_rows rows) 0 setting scan_query ≡ 0 = docs_for rows scan_query scan setting s ∙ ap (λ d. d * doc_width setting.shape) (scan_docs (generated_rows rows)) ∙ nothing in
        omega (arith, one, other)

    column : (entries : List Entry)
        → ((n : ℕ) → rows ≡ suc n → length (section_of own (generated_rows rows) (Forward 2)) ≤ bytes_read entries (live generated_name) (column_span own generated_name (generated_rows rows) 2))
        → length (section_of own (generated_rows rows) (Forward 2)) ≤ bytes_read entries (live generated_name) (column_span own generated_name (generated_rows rows) 2)
    column entries some = by rows refl
      where
        by : (k : ℕ) → rows ≡ k → length (section_of own (generated_rows rows) (Forward 2)) ≤ bytes_read entries (live generated_name) (column_span own generated_name (generated_rows rows) 2)
        by zero is =
            let none : length (section_of own (generated_rows rows) (Forward 2)) ≡ 0 = ap (λ k. length (section_of own (generated_rows k) (Forward 2))) is ∙ no_forward own in
            omega (arith, none)
        by (suc n) is = some n is
