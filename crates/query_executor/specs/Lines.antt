-- The lines that are made of segments for a query.
use Rattle.std.specs.Prelude.{ℕ, List, [], ◌∷◌, ◌++◌, map}
use Rattle.values.specs.declared.value.Value.{Value}
use Rattle.table_schema.specs.declared.query.BoundQuery.{BoundQuery}
use Rattle.table_schema.specs.declared.table.Table.{Table}
use Rattle.segment_file.specs.Ordered.{ordered}
use Rattle.segment_plan.specs.Explained.{explained_over, plan_word}
use Rattle.std.specs.Fmt.{decimal}
use Rattle.segment_plan.specs.declared.plans.SegmentPlan.{SegmentPlan}
use Rattle.segment_plan.specs.Planned.{plan_over}
use Rattle.segment_reads.specs.Looked.{docs_over}

-- the line of a segment of this name: its name, and what is said of its plan
abbrev pub line_by : List ℕ → List ℕ → List ℕ
line_by name said = name ++ (44 ∷ (said ++ (10 ∷ [])))

-- the line of a segment that has these rows in this order
abbrev pub plan_line : BoundQuery → Table → List ℕ → List (List Value) → List ℕ
plan_line query table name rows = line_by name (explained_over query table rows)

-- a line for each segment, by its name and its rows
abbrev pub lines_of : (List ℕ → List (List Value) → List ℕ) → List (List ℕ)
    → List (List (List Value)) → List ℕ
lines_of line [] segments = []
lines_of line (name ∷ names) [] = []
lines_of line (name ∷ names) (rows ∷ segments) = line name rows ++ lines_of line names segments

-- the rows of segments, each in the order of its file
abbrev pub in_order : Table → List (List (List Value)) → List (List (List Value))
in_order table segments = map (ordered table.settings.sorted) segments

-- the word for a plan, and a number of documents
abbrev pub stats_text : SegmentPlan → ℕ → List ℕ
stats_text plan docs = plan_word plan ++ (44 ∷ decimal docs)

-- the line of a segment that has these rows in this order
abbrev pub stats_line : BoundQuery → Table → List ℕ → List (List Value) → List ℕ
stats_line query table name rows = line_by name (stats_text (plan_over query table rows)
    (docs_over query table rows))
