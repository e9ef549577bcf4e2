-- What the commands of `generate` leave and reply where each has a reply: the table of its own texts with its rows, and for a query its groups and the line of the segment.
use Rattle.std.proofs.Common.{◌≡◌, ◌∙◌, ◌++◌, ℕ, Bool, true, false, List, [], ◌∷◌, map as each, Some, None, Result, Ok, Err, is_some, nat_lt, length, refl, sym, ap, subst, arith, append_assoc, append-nil}
use Rattle.std.specs.Prelude.{if◌then◌else◌, nat_le, get_or, flat_map}
use Rattle.std.specs.FinMap as map
use Rattle.std.specs.Fmt.{decimal}
use Rattle.std.proofs.lemmas.Cmp.{nat_list_cmp_total}
use Rattle.outside.specs.Files.{Files, name_order}
use Rattle.values.specs.declared.value.Value.{Value}
use Rattle.table_schema.specs.declared.field.Schema.{Schema}
use Rattle.table_schema.specs.declared.query.BoundQuery.{BoundQuery}
use Rattle.table_schema.specs.declared.settings.Settings.{Settings}
use Rattle.table_schema.specs.declared.table.Table.{Table}
use Rattle.json_keys.specs.declared.fault.TextFault.{TextFault}
use Rattle.json_keys.specs.declared.fault.TextFault.TheVariants as fault
use Rattle.schema_json.specs.Schemas.{schema_read}
use Rattle.settings_json.specs.TableTexts.{settings_read}
use Rattle.segment_file.specs.Ordered.{ordered}
use Rattle.segment_plan.specs.Explained.{plan_word}
use Rattle.segment_plan.specs.Planned.{plan_over}
use Rattle.segment_reads.specs.Looked.{docs_over}
use Rattle.sql_reply.specs.Asked.{Asked, asked, normal_asked, parsed_asked}
use Rattle.sql_reply.specs.SqlReply.{SqlReply, bound_reply, parsed_reply, sql_limit}
use Rattle.sql_reply.specs.declared.fault.SqlFault.{SqlFault}
use Rattle.sql_reply.specs.declared.fault.SqlFault.TheVariants.{LongQuery}
use Rattle.query_tokens.specs.declared.fault.QueryFault.{QueryFault}
use Rattle.query_tokens.specs.declared.tree.Query.{Query}
use Rattle.query_parser.specs.Query.{parsed}
use Rattle.query_bind.specs.Bound.{Bound, bound, in_normal_form}
use Rattle.query_bind.specs.declared.fault.BindFault.{BindFault}
use Rattle.query_executor.specs.Lines.{lines_of, stats_line}
use Rattle.query_executor.specs.Stated.{stated, stated_by, with_lines}
use Rattle.table_store.specs.Accepted.{IsAccepted}
use Rattle.table_store.specs.Segments.{most_segments}
use Rattle.table_store.specs.Stands.{segment_of}
use Rattle.table_store.specs.State.{HasTable, NoTable, Segment, Segments, State, Texts}
use Rattle.command_words.specs.Command.{Ask, Build, Create, GeneratedRows, GeneratedTexts}
use Rattle.command_words.specs.declared.about.About.TheVariants.{RowsAndPlans}
use Rattle.command_words.specs.declared.note.Note.{Note}
use Rattle.command_words.specs.declared.note.Note.TheVariants.{BadSchema, BadSettings}
use Rattle.command_model.specs.Build.{fitting, new_rows, table_of as table_in}
use Rattle.command_model.specs.Create.{Made, beside, own_table, table_of, with_own_settings}
use Rattle.command_model.specs.Generated.{are_generated, generated_name, generated_rows, generated_schema, generated_settings, last_cell, most_generated, rows_generated, scan_query, tree_query}
use Rattle.command_model.specs.Queried.{each_rows, rows_in}
use Rattle.command_model.specs.Step.{After, Answer, Refuses, Replies, create_answer, created, has_table, query_answer, rows_answer, sql_answered, step_of, with_rows, with_table}
use Rattle.command_model.specs.Through.{Chain, after_answer, no_finding}
use Rattle.command_model.proofs.MachineLemmas.{read_as, schema_short, settings_short}
use Rattle.pinot_run.specs.GenerateReads.{own_texts}
use Rattle.pinot_run.proofs.CellLemmas.{last_number}
use Rattle.pinot_run.proofs.GeneratedTable.{own, none_sorted, own_is, own_query, query_is}

-- ---- each command has a reply

replied : (answer : Answer) (state : State) (rest : Chain) → (after_answer answer state rest).refusal ≡ None → (text : List ℕ) × (answer ≡ Replies text) × (rest.refusal ≡ None)
replied (Replies text) state rest none = (text, refl, none)
replied (Refuses line) state rest none = absurd cc

-- ---- the table

-- the table of the texts, and what they are read as
record OwnSo (p : Texts × Table) : Type 0 where
  texts_are : own_texts ≡ p.0
  schema : schema_read generated_schema ≡ Ok p.1.schema
  settings : settings_read p.1.schema.fields generated_settings ≡ Ok p.1.settings

settings_so : (schema : Schema) (r : Result Settings TextFault) (p : Texts × Table) → settings_read schema.fields generated_settings ≡ r → schema_read generated_schema ≡ Ok schema → table_of generated_schema schema (beside BadSettings generated_settings r) ≡ Ok p → OwnSo p
settings_so schema (Ok set) p is read e =
    let both : ◌≡◌ {A = Texts × Table} (own_texts, record { schema = schema; settings = set }) p = cc in
    subst OwnSo both (record { texts_are = refl; schema = read; settings = is })
settings_so schema (Err (fault.At wrong path)) p is read e = absurd cc
settings_so schema (Err fault.NoMemory) p is read e = absurd cc

schema_so : (r : Result Schema TextFault) (p : Texts × Table) → schema_read generated_schema ≡ r → with_own_settings (beside BadSchema generated_schema r) ≡ Ok p → OwnSo p
schema_so (Ok schema) p is e = settings_so schema (settings_read schema.fields generated_settings) p refl is e
schema_so (Err (fault.At wrong path)) p is e = absurd cc
schema_so (Err fault.NoMemory) p is e = absurd cc

unless_first : {A B : Type 0} (b : Bool) (wrong : B) (rest : Result A B) (a : A) → (if b then Err wrong else rest) ≡ Ok a → rest ≡ Ok a
unless_first true wrong rest a is = absurd cc
unless_first false wrong rest a is = is

own_so : (rows : ℕ) (p : Texts × Table) → own_table rows ≡ Ok p → OwnSo p
unfolding own_table
own_so rows p e = schema_so (schema_read generated_schema) p refl (unless_first (nat_lt most_generated rows) _ _ p e)

-- where a table was made there was none
created_so : (state : State) (made : Made) (text : List ℕ) → create_answer (has_table state) made ≡ Replies text → (p : Texts × Table) × (made ≡ Ok p) × (created state made ≡ HasTable p.0 map.empty)
created_so (HasTable texts segments) made text is = absurd cc
created_so NoTable (Err line) text is = absurd cc
created_so NoTable (Ok (texts, table)) text is = ((texts, table), refl, refl)

-- ---- the segment

rows_so : (texts : Texts) (segments : Segments) (name : List ℕ) (table : Table) (r : Result (List (List Value)) Note) (text : List ℕ) → (with_rows texts segments name table r).answer ≡ Replies text
    → (rows : List (List Value)) × (r ≡ Ok rows) × ((with_rows texts segments name table r).state ≡ HasTable texts (map.insert segments name (segment_of table rows)))
rows_so texts segments name table (Ok rows) text is = (rows, refl, refl)
rows_so texts segments name table (Err line) text is = absurd cc

unless_second : (b : Bool) (wrong : Note) (rest : Result (List (List Value)) Note) (rows : List (List Value)) → (if b then rest else Err wrong) ≡ Ok rows → rest ≡ Ok rows
unless_second true wrong rest rows is = is
unless_second false wrong rest rows is = absurd cc

fitting_so : (table : Table) (r : Result (List (List Value)) Note) (rows : List (List Value)) → fitting table r ≡ Ok rows → r ≡ Ok rows
unfolding fitting
fitting_so table (Ok all) rows is = unless_second _ _ (Ok all) rows is
fitting_so table (Err line) rows is = absurd cc

generated_so : (a b : Bool) (few many : Note) (n : ℕ) (rows : List (List Value)) → (if a then (if b then Err many else Ok (generated_rows n)) else Err few) ≡ Ok rows → generated_rows n ≡ rows
generated_so true true few many n rows is = absurd cc
generated_so true false few many n rows is = cc
generated_so false b few many n rows is = absurd cc

-- ---- what a query answers

lined_so : (lines : List ℕ) (r : SqlReply) (text : List ℕ) → with_lines lines r ≡ Ok text → (reply : List ℕ) × (text ≡ reply ++ (10 ∷ lines))
lined_so lines (Ok reply) text is = (reply, cc)
lined_so lines (Err wrong) text is = absurd cc

answered_so : (r : SqlReply) (text : List ℕ) → sql_answered r ≡ Replies text → r ≡ Ok text
answered_so (Ok reply) text is = cc
answered_so (Err wrong) text is = absurd cc

-- a text that asks a query, and what it is answered
record AnsweredAs (table : Table) (names : List (List ℕ)) (segments : List (List (List Value))) (a : Asked) (text : List ℕ) : Type 0 where
  query : BoundQuery
  asks : a ≡ Ok query
  reply : List ℕ
  text_is : text ≡ reply ++ (10 ∷ lines_of (stats_line query table) names segments)

bound_as : (table : Table) (names : List (List ℕ)) (segments : List (List (List Value))) (rows : List (List Value)) (b : Result Bound BindFault) (text : List ℕ) → stated_by table names segments (bound_reply rows b) (normal_asked b) ≡ Ok text
    → AnsweredAs table names segments (normal_asked b) text
bound_as table names segments rows (Ok b) text is =
    let (reply, text_is) = lined_so (lines_of (stats_line (in_normal_form b) table) names segments) (bound_reply rows (Ok b)) text is in
    record { query = in_normal_form b; asks = refl; reply = reply; text_is = text_is }
bound_as table names segments rows (Err wrong) text is = absurd cc

asked_as : (table : Table) (names : List (List ℕ)) (segments : List (List (List Value))) (rows : List (List Value)) (long : Bool) (wrong : SqlFault) (r : Result Query QueryFault) (text : List ℕ)
    → stated_by table names segments (if long then Err wrong else parsed_reply table false rows r) (if long then Err wrong else parsed_asked table false r) ≡ Ok text → AnsweredAs table names segments (if long then Err wrong else parsed_asked table false r) text
asked_as table names segments rows true wrong r text is = absurd cc
asked_as table names segments rows false wrong (Ok q) text is = bound_as table names segments rows (bound table false q) text is
asked_as table names segments rows false wrong (Err fault) text is = absurd cc

stated_as : (table : Table) (sql : List ℕ) (names : List (List ℕ)) (segments : List (List (List Value))) (text : List ℕ) → stated table sql names segments ≡ Ok text → AnsweredAs table names segments (asked table false sql) text
stated_as table sql names segments text is = asked_as table names segments (flat_map (λ rows. rows) segments) (nat_lt sql_limit (length sql)) (LongQuery sql_limit) (parsed sql) text is

-- ---- what is left

-- the segments: that of the generated rows
abbrev pub own_segments : ℕ → Segments
own_segments n = map.insert map.empty generated_name (record { format = 1; rows = generated_rows n })

no_items : {A : Type 0} (xs : List A) → length xs ≡ 0 → xs ≡ []
no_items [] is = refl
no_items (x ∷ xs) is = absurd (omega (arith, is))

own_entries : (n : ℕ) → map.entries (own_segments n) ≡ (generated_name, record { format = 1; rows = generated_rows n }) ∷ []
own_entries n =
    map.entries-insert nat_list_cmp_total map.empty generated_name (record { format = 1; rows = generated_rows n })
    ∙ ap (map.put name_order generated_name (record { format = 1; rows = generated_rows n })) (no_items (map.entries (map.empty {X = Segment} {R = name_order})) (sym (map.len-entries map.empty) ∙ map.len-empty name_order Segment))

own_keys : (n : ℕ) → map.keys (own_segments n) ≡ generated_name ∷ []
own_keys n = ap (each (λ e. e.0)) (own_entries n)

pub own_there : (n : ℕ) → map.get (own_segments n) generated_name ≡ Some (record { format = 1; rows = generated_rows n })
own_there n = map.get-insert nat_list_cmp_total map.empty generated_name (record { format = 1; rows = generated_rows n }) generated_name

own_rows : (n : ℕ) → each_rows (own_segments n) ≡ generated_rows n ∷ []
own_rows n = ap (each (λ name. rows_in (map.get (own_segments n) name))) (own_keys n) ∙ ap (λ o. rows_in o ∷ []) (own_there n)

-- a text was answered over the segments, and the last cell is the number of documents that were looked at for it
pub record CountedFor (n : ℕ) (sql text : List ℕ) : Type 0 where
  pub asks : asked own false sql ≡ Ok (own_query sql)
  pub last : last_cell [] text ≡ decimal (docs_over (own_query sql) own (generated_rows n))

counted_for : (n : ℕ) (sql text : List ℕ) → IsAccepted own_texts own → rows_answer RowsAndPlans (own_segments n) sql (table_in own_texts) ≡ Replies text → CountedFor n sql text
counted_for n sql text accepted is =
    let read : sql_answered (stated own sql (map.keys (own_segments n)) (each_rows (own_segments n))) ≡ Replies text = subst (λ o. rows_answer RowsAndPlans (own_segments n) sql o ≡ Replies text) (read_as own_texts own accepted) is in
    let whole : stated own sql (map.keys (own_segments n)) (each_rows (own_segments n)) ≡ Ok text = answered_so (stated own sql (map.keys (own_segments n)) (each_rows (own_segments n))) text read in
    let one : stated own sql (generated_name ∷ []) (generated_rows n ∷ []) ≡ Ok text = (λ i. stated own sql (sym (own_keys n) i) (sym (own_rows n) i)) ∙ whole in
    let a = stated_as own sql (generated_name ∷ []) (generated_rows n ∷ []) text one in
    let same : own_query sql ≡ a.query = query_is own sql a.query refl a.asks in
    let docs : ℕ = docs_over a.query own (generated_rows n) in
    let word : List ℕ = plan_word (plan_over a.query own (generated_rows n)) in
    let cells : a.reply ++ (10 ∷ lines_of (stats_line a.query own) (generated_name ∷ []) (generated_rows n ∷ [])) ≡ ((a.reply ++ 10 ∷ (generated_name ++ (44 ∷ word))) ++ (44 ∷ (decimal docs ++ (10 ∷ [])))) =
    split a.reply generated_name word (decimal docs) in
    record {
      asks = a.asks ∙ ap Ok (sym same);
      last = ap (last_cell []) (a.text_is ∙ cells) ∙ last_number (a.reply ++ 10 ∷ (generated_name ++ (44 ∷ word))) docs ∙ ap (λ q. decimal (docs_over q own (generated_rows n))) (sym same);
    }
  where
    split : (reply name word digits : List ℕ) → reply ++ (10 ∷ ((name ++ (44 ∷ ((word ++ (44 ∷ digits)) ++ (10 ∷ [])))) ++ [])) ≡ (reply ++ 10 ∷ (name ++ (44 ∷ word))) ++ (44 ∷ (digits ++ (10 ∷ [])))
    split reply name word digits = simp (append_assoc, append-nil)

-- what the commands leave where each has a reply
pub record LeftSo (n : ℕ) (chain : Chain) : Type 0 where
  pub accepted : IsAccepted own_texts own
  pub state_is : chain.state ≡ HasTable own_texts (own_segments n)
  pub tree : CountedFor n tree_query (get_or chain.texts 2 [])
  pub scan : CountedFor n scan_query (get_or chain.texts 3 [])

module _ (n : ℕ) (files : Files) (state : State) where
  abbrev create : After
  create = step_of state (Some (Create (GeneratedTexts n))) files no_finding

  abbrev built_on : State → After
  built_on s = step_of s (Some (Build generated_name (GeneratedRows n))) files no_finding

  abbrev build : After
  build = built_on create.state

  abbrev tree_asked : After
  tree_asked = step_of build.state (Some (Ask RowsAndPlans tree_query)) files no_finding

  abbrev scan_asked : After
  scan_asked = step_of tree_asked.state (Some (Ask RowsAndPlans scan_query)) files no_finding

  abbrev last_chain : Chain
  last_chain = record { texts = []; refusal = None; state = scan_asked.state }

  abbrev asked_chain : Chain
  asked_chain = after_answer tree_asked.answer tree_asked.state (after_answer scan_asked.answer scan_asked.state last_chain)

  abbrev built_chain : Chain
  built_chain = after_answer build.answer build.state asked_chain

  abbrev whole_chain : Chain
  whole_chain = after_answer create.answer create.state built_chain

  rows_are : (rs : List (List Value)) → new_rows own map.empty generated_name (GeneratedRows n) files ≡ Ok rs → generated_rows n ≡ rs
  rows_are rs is =
      generated_so (are_generated own.schema.fields) (nat_lt most_generated n) _ _ n rs
      (fitting_so own (rows_generated own.schema.fields n) rs
      (unless_first (nat_le most_segments (map.len (map.empty {X = Segment} {R = name_order}))) _ _ rs (unless_first (is_some (map.get (map.empty {X = Segment} {R = name_order}) generated_name)) _ _ rs is)))

  pub left_so : whole_chain.refusal ≡ None → LeftSo n whole_chain
  left_so none =
      let (t1, a1, n1) = replied create.answer create.state built_chain none in
      let (t2, a2, n2) = replied build.answer build.state asked_chain n1 in
      let (t3, a3, n3) = replied tree_asked.answer tree_asked.state (after_answer scan_asked.answer scan_asked.state last_chain) n2 in
      let (t4, a4, n4) = replied scan_asked.answer scan_asked.state last_chain n3 in
      let (p, made, first) = created_so state (own_table n) t1 a1 in
      let o = own_so n p made in
      let same : own ≡ p.1 = own_is p.1 o.schema o.settings in
      let accepted : IsAccepted own_texts own =
      subst (IsAccepted own_texts) (sym same) (record { fits = record { schema = schema_short; settings = settings_short }; schema = o.schema; settings = o.settings }) in
      let read : table_in own_texts ≡ Some own = read_as own_texts own accepted in
      let made_state : create.state ≡ HasTable own_texts map.empty = first ∙ ap (λ t. HasTable t map.empty) (sym o.texts_are) in
      let on_table : (with_rows own_texts map.empty generated_name own (new_rows own map.empty generated_name (GeneratedRows n) files)).answer ≡ Replies t2 =
      subst (λ t. (with_table own_texts map.empty generated_name (GeneratedRows n) files t).answer ≡ Replies t2) read (subst (λ s. (built_on s).answer ≡ Replies t2) made_state a2) in
      let (rs, new, kept) = rows_so own_texts map.empty generated_name own (new_rows own map.empty generated_name (GeneratedRows n) files) t2 on_table in
      let in_order : ordered own.settings.sorted rs ≡ generated_rows n = ap (λ s. ordered s rs) none_sorted ∙ sym (rows_are rs new) in
      let left : build.state ≡ HasTable own_texts (own_segments n) =
      ap (λ s. (built_on s).state) made_state ∙ ap (λ t. (with_table own_texts map.empty generated_name (GeneratedRows n) files t).state) read ∙ kept
      ∙ ap (λ (r : List (List Value)). HasTable own_texts (map.insert map.empty generated_name (record { format = 1; rows = r }))) in_order in
      let texts_are : whole_chain.texts ≡ t1 ∷ t2 ∷ t3 ∷ t4 ∷ [] =
      ap (λ a. (after_answer a create.state built_chain).texts) a1
      ∙ ap (λ l. t1 ∷ l)
      (ap (λ a. (after_answer a build.state asked_chain).texts) a2
      ∙ ap (λ l. t2 ∷ l)
      (ap (λ a. (after_answer a tree_asked.state (after_answer scan_asked.answer scan_asked.state last_chain)).texts) a3
      ∙ ap (λ l. t3 ∷ l) (ap (λ a. (after_answer a scan_asked.state last_chain).texts) a4))) in
      let state_is : whole_chain.state ≡ build.state =
      ap (λ a. (after_answer a create.state built_chain).state) a1 ∙ ap (λ a. (after_answer a build.state asked_chain).state) a2
      ∙ ap (λ a. (after_answer a tree_asked.state (after_answer scan_asked.answer scan_asked.state last_chain)).state) a3 ∙ ap (λ a. (after_answer a scan_asked.state last_chain).state) a4 in
      record {
        accepted = accepted;
        state_is = state_is ∙ left;
        tree = subst (CountedFor n tree_query) (ap (λ l. get_or l 2 []) (sym texts_are)) (counted_for n tree_query t3 accepted (subst (λ s. query_answer RowsAndPlans s tree_query ≡ Replies t3) left a3));
        scan = subst (CountedFor n scan_query) (ap (λ l. get_or l 3 []) (sym texts_are)) (counted_for n scan_query t4 accepted (subst (λ s. query_answer RowsAndPlans s scan_query ≡ Replies t4) left a4));
      }
