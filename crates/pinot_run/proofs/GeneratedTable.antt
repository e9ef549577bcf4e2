-- The table and the queries of `generate`, as its own texts are read.
use Rattle.std.proofs.Common.{◌≡◌, ◌∙◌, ℕ, Bool, true, false, List, [], ◌∷◌, map, Some, None, Result, Ok, Err, refl, sym, ap}
use Rattle.std.specs.Prelude.{if◌then◌else◌, nat_lt, is_some, length, slice_get, pos}
use Rattle.std.specs.Str.{is_utf8, chars}
use Rattle.std.specs.Float.Numeral.{scan_numeral}
use lib.Utf8.{encode}
use Rattle.json.specs.Json.{items, members, value as json_value}
use Rattle.json.specs.Lex.{lex, punctuate}
use Rattle.json.specs.Text.{content}
use Rattle.json.specs.Word.{word as json_word, after_number}
use Rattle.serde_json.specs.Read.{number_of}
use Rattle.values.specs.declared.test.CompareOp.{CompareOp}
use Rattle.values.specs.declared.test.CompareOp.TheVariants.{Less}
use Rattle.values.specs.declared.test.Test.TheVariants as test
use Rattle.values.specs.declared.value.Value.{Value}
use Rattle.values.specs.declared.value.Value.TheVariants.{Whole}
use Rattle.table_schema.specs.NeedIds.{is_set}
use Rattle.table_schema.specs.declared.field.Field.{Field}
use Rattle.table_schema.specs.declared.field.Schema.{Schema}
use Rattle.table_schema.specs.declared.query.BoundQuery.{BoundQuery}
use Rattle.table_schema.specs.declared.query.Conjunct.{Conjunct}
use Rattle.table_schema.specs.declared.query.Conjunct.TheVariants.{One}
use Rattle.table_schema.specs.declared.query.Wide.TheVariants as wide
use Rattle.table_schema.specs.declared.settings.Settings.{Settings}
use Rattle.table_schema.specs.declared.table.Table.{Table}
use Rattle.json_keys.specs.declared.fault.TextFault.{TextFault}
use Rattle.schema_json.specs.Schemas.{schema_read}
use Rattle.settings_json.specs.TableTexts.{settings_read}
use Rattle.query_tokens.specs.Lex.{same_kind, is_last, keyword, word, number, quoted, in_quotes, token, value}
use Rattle.query_tokens.specs.Stream.{lexemes}
use Rattle.query_tokens.specs.Stream.{kind as next_kind, place as next_place, number as next_number, word as next_word, next as next_tokens}
use Rattle.query_tokens.specs.declared.fault.QueryFault.{QueryFault}
use Rattle.query_tokens.specs.declared.tree.Cond.TheFolds.{fold-roll-Cond}
use Rattle.query_tokens.specs.declared.tree.Cond.TheOpen.{Cond-F}
use Rattle.query_tokens.specs.declared.tree.Cond.TheVariants as cond
use Rattle.query_tokens.specs.declared.tree.Cond.TheVariants.{rolls-Compare}
use Rattle.query_tokens.specs.declared.tree.LiteralAt.{LiteralAt}
use Rattle.query_tokens.specs.declared.tree.NameAt.{NameAt}
use Rattle.query_tokens.specs.declared.tree.Query.{Query}
use Rattle.query_parser.specs.Cond.{one_of, between, predicate, conjunction, cond as any_cond, factor, condition}
use Rattle.query_parser.specs.Operators.{operator}
use Rattle.query_parser.specs.Reading.{reason_of, refusal, sees, after, expect, name, literal, separated_from}
use Rattle.query_parser.specs.Query.{func_of, argument_of, term_of, label, item, direction, key, set_option, option_value, option, options_from, count, groups, order, condition_if, having_if, limits, ending, closing, query, parsed}
use Rattle.query_bind.specs.Bound.{Bound, answer, bound_of, in_normal_form, query_finding}
use Rattle.query_bind.specs.Conjuncts.{conjunct, conjunct_by, conjuncts, only_field, where_conjuncts}
use Rattle.query_bind.specs.Faults.{Finding}
use Rattle.query_bind.specs.Written.{Written, field_number, where_written, written, written_step}
use Rattle.query_bind.proofs.WideLemmas.{conjoined-Leaf, fields_of-Leaf, test_of-Leaf}
use Rattle.sql_reply.specs.Asked.{Asked, asked, normal_asked, parsed_asked}
use Rattle.sql_reply.specs.SqlReply.{sql_limit}
use Rattle.sql_reply.specs.declared.fault.SqlFault.{SqlFault}
use Rattle.eligibility.specs.Rule.{picked}
use Rattle.command_model.specs.Generated.{generated_schema, generated_settings, scan_query, tree_query}

-- ---- the table

abbrev schema_in : Result Schema TextFault → Schema
schema_in (Ok schema) = schema
schema_in (Err wrong) = record { fields = [] }

abbrev settings_in : Result Settings TextFault → Settings
settings_in (Ok settings) = settings
settings_in (Err wrong) = record { table = []; sorted = None; inverted = []; ranged = []; raw = []; trees = [] }

abbrev own_schema : Schema
own_schema = schema_in (schema_read generated_schema)

-- the table that the texts make
abbrev pub own : Table
own = record { schema = own_schema; settings = settings_in (settings_read own_schema.fields generated_settings) }

-- a table that they make is that one
pub own_is : (table : Table) → schema_read generated_schema ≡ Ok table.schema → settings_read table.schema.fields generated_settings ≡ Ok table.settings → own ≡ table
own_is table schema settings =
    let first : own_schema ≡ table.schema = ap schema_in schema in
    let second : settings_in (settings_read own_schema.fields generated_settings) ≡ table.settings = ap (λ (s : Schema). settings_in (settings_read s.fields generated_settings)) first ∙ ap settings_in settings in
    (λ i. record { schema = first i; settings = second i })

-- no index of a column is named
pub none_sorted : own.settings.sorted ≡ None
unfolding generated_schema generated_settings is_utf8 chars encode json_value items members lex punctuate content json_word after_number number_of scan_numeral
none_sorted = refl

pub none_inverted : is_set (slice_get own.settings.inverted 2) ≡ false
unfolding generated_schema generated_settings is_utf8 chars encode json_value items members lex punctuate content json_word after_number number_of scan_numeral
none_inverted = refl

pub none_ranged : is_set (slice_get own.settings.ranged 2) ≡ false
unfolding generated_schema generated_settings is_utf8 chars encode json_value items members lex punctuate content json_word after_number number_of scan_numeral
none_ranged = refl

pub one_tree : is_some (slice_get own.settings.trees 0) ≡ true
unfolding generated_schema generated_settings is_utf8 chars encode json_value items members lex punctuate content json_word after_number number_of scan_numeral
one_tree = refl

pub four_fields : length own.schema.fields ≡ 4
unfolding generated_schema generated_settings is_utf8 chars encode json_value items members lex punctuate content json_word after_number number_of scan_numeral
four_fields = refl

-- ---- a query that a text asks

abbrev read_in : Result Query QueryFault → Query
read_in (Ok query) = query
read_in (Err wrong) = record { use_tree = false; select = 0; items = []; table = record { name = []; offset = 0 }; condition = None; groups = []; having = None; order = []; limit = None; offset = None }

abbrev read_query : List ℕ → Query
read_query sql = read_in (parsed sql)

-- what a text asks of the table, where it asks something
abbrev pub own_query : List ℕ → BoundQuery
own_query sql = in_normal_form (bound_of own.schema.fields (read_query sql))

bound_so : (wrong : Finding) (b : Bound) (asks : BoundQuery) → normal_asked (answer wrong b) ≡ Ok asks → in_normal_form b ≡ asks
bound_so None b asks is = cc
bound_so (Some wrong) b asks is = absurd cc

read_so : (table : Table) (r : Result Query QueryFault) (asks : BoundQuery) → parsed_asked table false r ≡ Ok asks → in_normal_form (bound_of table.schema.fields (read_in r)) ≡ asks
read_so table (Ok q) asks is = bound_so (query_finding table false q) (bound_of table.schema.fields q) asks is
read_so table (Err wrong) asks is = absurd cc

unless_long : (long : Bool) (wrong : SqlFault) (rest : Asked) (asks : BoundQuery) → (if long then Err wrong else rest) ≡ Ok asks → rest ≡ Ok asks
unless_long true wrong rest asks is = absurd cc
unless_long false wrong rest asks is = is

pub query_is : (table : Table) (sql : List ℕ) (asks : BoundQuery) → own ≡ table → asked table false sql ≡ Ok asks → own_query sql ≡ asks
query_is table sql asks same is =
    ap (λ (t : Table). in_normal_form (bound_of t.schema.fields (read_query sql))) same
    ∙ read_so table (parsed sql) asks (unless_long (nat_lt sql_limit (length sql)) _ (parsed_asked table false (parsed sql)) asks is)

-- ---- its filter

-- the filter of both: column c is less than 10
abbrev pub own_filter : List Conjunct
own_filter = One 2 (test.Compare Less (Whole (pos 10))) ∷ []

written_is : (fields : List Field) (n : NameAt) (op : CompareOp) (l : LiteralAt) → written fields (cond.Compare n op l) ≡ Written.Compare (field_number fields n) op l.value
written_is fields n op l = ap (written fields) (sym (rolls-Compare n op l)) ∙ fold-roll-Cond Written (written_step fields) (Cond-F.Compare n op l)

conjuncts_are : (field : ℕ) (op : CompareOp) (bound : Value) → conjuncts (Written.Compare field op bound) ≡ One field (test.Compare op bound) ∷ []
conjuncts_are field op bound =
    ap (map conjunct) (conjoined-Leaf field (test.Compare op bound))
    ∙ ap (λ fs. conjunct_by (wide.Leaf field (test.Compare op bound)) (only_field fs) ∷ []) (fields_of-Leaf field (test.Compare op bound))
    ∙ ap (λ t. One field t ∷ []) (test_of-Leaf field (test.Compare op bound))

abbrev column_c : ℕ → NameAt
column_c at = record { name = 99 ∷ []; offset = at }

abbrev ten : ℕ → LiteralAt
ten at = record { value = Whole (pos 10); offset = at }

c_is : field_number own.schema.fields (column_c 0) ≡ 2
unfolding generated_schema generated_settings is_utf8 chars encode json_value items members lex punctuate content json_word after_number number_of scan_numeral
c_is = refl

filter_is : (sql : List ℕ) (at there : ℕ) → (read_query sql).condition ≡ Some (cond.Compare (column_c at) Less (ten there)) → (own_query sql).conjuncts ≡ own_filter
filter_is sql at there is =
    ap (λ c. where_conjuncts (where_written own.schema.fields c)) is
    ∙ ap (λ w. where_conjuncts (Some w)) (written_is own.schema.fields (column_c at) Less (ten there))
    ∙ conjuncts_are (field_number own.schema.fields (column_c at)) Less (Whole (pos 10))
    ∙ ap (λ field. One field (test.Compare Less (Whole (pos 10))) ∷ []) c_is

scan_condition : (read_query scan_query).condition ≡ Some (cond.Compare (column_c 67) Less (ten 71))
unfolding scan_query tree_query lexemes same_kind is_last keyword word number quoted in_quotes token value next_kind next_place next_number next_word next_tokens one_of between predicate conjunction any_cond factor condition operator reason_of refusal sees after expect name literal separated_from func_of argument_of term_of label item direction key set_option option_value option options_from count groups order condition_if having_if limits ending closing query parsed
scan_condition = refl

tree_condition : (read_query tree_query).condition ≡ Some (cond.Compare (column_c 42) Less (ten 46))
unfolding scan_query tree_query lexemes same_kind is_last keyword word number quoted in_quotes token value next_kind next_place next_number next_word next_tokens one_of between predicate conjunction any_cond factor condition operator reason_of refusal sees after expect name literal separated_from func_of argument_of term_of label item direction key set_option option_value option options_from count groups order condition_if having_if limits ending closing query parsed
tree_condition = refl

pub scan_filter : (own_query scan_query).conjuncts ≡ own_filter
scan_filter = filter_is scan_query 67 71 scan_condition

pub tree_filter : (own_query tree_query).conjuncts ≡ own_filter
tree_filter = filter_is tree_query 42 46 tree_condition

-- ---- no star-tree answers the one, and the first the other

pub scan_picks : picked (own_query scan_query) own.settings.trees ≡ None
unfolding generated_schema generated_settings is_utf8 chars encode json_value items members lex punctuate content json_word after_number number_of scan_numeral scan_query tree_query lexemes same_kind is_last keyword word number quoted in_quotes token value next_kind next_place next_number next_word next_tokens one_of between predicate conjunction any_cond factor condition operator reason_of refusal sees after expect name literal separated_from func_of argument_of term_of label item direction key set_option option_value option options_from count groups order condition_if having_if limits ending closing query parsed
scan_picks = refl

tree_picks_so : picked (record (own_query tree_query) { conjuncts = own_filter }) own.settings.trees ≡ Some 0
unfolding generated_schema generated_settings is_utf8 chars encode json_value items members lex punctuate content json_word after_number number_of scan_numeral scan_query tree_query lexemes same_kind is_last keyword word number quoted in_quotes token value next_kind next_place next_number next_word next_tokens one_of between predicate conjunction any_cond factor condition operator reason_of refusal sees after expect name literal separated_from func_of argument_of term_of label item direction key set_option option_value option options_from count groups order condition_if having_if limits ending closing query parsed
tree_picks_so = refl

pub tree_picks : picked (own_query tree_query) own.settings.trees ≡ Some 0
tree_picks = ap (λ cs. picked (record (own_query tree_query) { conjuncts = cs }) own.settings.trees) tree_filter ∙ tree_picks_so
