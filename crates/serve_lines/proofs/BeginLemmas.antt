-- The begin of lines over a store that stands for a state.
use Rattle.std.proofs.Common.{◌≡◌, ◌≢◌, ◌∙◌, ◌+◌, inl, ℕ, Bool, true, false, cond, List, [], ◌∷◌, Option, Some, None, IfSome, Result, Ok, Err, option_map, refl, sym, ap, subst, map}
use Rattle.std.specs.Prelude.{IsErrAnd, IsSomeAnd}
use Rattle.std.specs.Result.{result_map_both}
use Rattle.std.specs.FinMap as finite
use Rattle.std.specs.FinMap.Entries.{find}
use Rattle.std.specs.Cmp.{eq_by_cmp_equiv}
use Rattle.std.specs.List.{AllByRecursion}
use Rattle.std.specs.Ordering.{eq_by_cmp}
use Rattle.std.proofs.lemmas.Cmp.{nat_list_cmp_total}
use Rattle.outside.specs.Files.{Files, name_order}
use Rattle.outside.specs.Seen.{Seen}
use Rattle.values.specs.declared.value.Value.{Value}
use Rattle.segment_build.specs.FileLaws.{same_name}
use Rattle.table_store.specs.Kept.{IsKeptName}
use Rattle.table_store.specs.Stands.{IsSegment, KeptIdle, Stands, StandsFor}
use Rattle.table_store.specs.State as store
use Rattle.table_store.specs.State.{Segment, Segments, State, Texts}
use Rattle.cursor_serve.specs.Machine.{Version, numbered, started}
use Rattle.cursor_serve.specs.ServingStands.{segment_of, segments_of}
use Rattle.cursor_serve.proofs.ServingLemmas.{start_stands}
use Rattle.serving.specs.Closed.{without_files}
use Rattle.serving.proofs.GoneLemmas.{left_of, left_stands}
use Rattle.serving.proofs.OpenLemmas.{segments_got}
use Rattle.command_words.specs.declared.fault.Fault.{Fault}
use Rattle.command_words.specs.declared.fault.Fault.TheVariants as fault
use Rattle.serve_lines.specs.Calls.{Begins, HasFaultOf, IsBegun}
use Rattle.serve_lines.specs.Kept.{HasNoKept, Kept, StandsServed, kept_of, served_of}
use Rattle.serve_lines.specs.declared.session.Session.{Session}

-- ---- the lists of a state

abbrev Rows : Type 0
Rows = List ℕ × List (List Value)

abbrev listed : List (List ℕ × Segment) → List Rows
listed es = map (λ entry. (entry.0, entry.1.rows)) es

abbrev as_written : Segment → Segment
as_written segment = record { format = 1; rows = segment.rows }

found_by : (b : Bool) (n : ℕ) (segment : Segment) (o : Option Version) (p : Option Segment) → option_map segment_of o ≡ option_map as_written p → option_map segment_of (cond b (Some (record { number = n; rows = segment.rows })) o) ≡ option_map as_written (cond b (Some segment) p)
found_by true n segment o p is = refl
found_by false n segment o p is = is

found_listed : (n : ℕ) (es : List (List ℕ × Segment)) (q : List ℕ) → option_map segment_of (find name_order q (numbered n (listed es))) ≡ option_map as_written (find name_order q es)
found_listed n [] q = refl
found_listed n (e ∷ es) q = found_by (eq_by_cmp name_order q e.0) n e.1 (find name_order q (numbered (n + 1) (listed es))) (find name_order q es) (found_listed (n + 1) es q)

written_by : (o : Option Segment) → ((segment : Segment) → o ≡ Some segment → segment.format ≡ 1) → option_map as_written o ≡ o
written_by None all = refl
written_by (Some segment) all = ap (λ n. Some (record { format = n; rows = segment.rows })) (sym (all segment refl))

-- the segments of the lists at the start are those of the state
segments_started : (files : Files) (texts : Texts) (segments : Segments) → StandsFor files texts segments → segments_of (started (listed (finite.entries segments))).live ≡ segments
segments_started files texts segments stands =
    finite.same_map nat_list_cmp_total same_name (segments_of (started (listed (finite.entries segments))).live) segments (λ q.
    segments_got (started (listed (finite.entries segments))).live q
    ∙ ap (option_map segment_of) (finite.get-from_entries nat_list_cmp_total (numbered 0 (listed (finite.entries segments))) q)
    ∙ found_listed 0 (finite.entries segments) q
    ∙ ap (option_map as_written) (sym (finite.get-entries segments q))
    ∙ written_by (finite.get segments q) (λ segment got. (stands.valid.each q segment got).format_is))

-- ---- the begin

-- no cursor is kept, and the table is not looked for so far
abbrev pub at_start : Kept
at_start = record { table = None; cursors = [] }

-- a state that files without a kept one stand for is that of the start
pub begun_so : (files : Files) (state : State) → Stands files state → HasNoKept files → StandsServed 1 at_start files (served_of state)
begun_so files store.NoTable stands none = record { table_is = refl; cursors = refl; stands = stands }
begun_so files (store.HasTable texts segments) stands none = record {
  table = stands.table;
  table_is = inl refl;
  stands = start_stands files texts stands.table (listed (finite.entries segments)) stands.valid.accepted (subst (λ s. Stands files (store.HasTable texts s)) (sym (segments_started files texts segments stands)) stands) none;
  before = tt;
}

-- ---- kept files go

none_left : (name : List ℕ) (files : Files) → ((q : List ℕ) → finite.get files q ≡ None) → (q : List ℕ) → finite.get (finite.remove files name) q ≡ None
none_left name files none q = finite.get-remove nat_list_cmp_total files name q ∙ by (eq_by_cmp name_order q name) (finite.get files q) (none q)
  where
    by : (b : Bool) (o : Option (List ℕ)) → o ≡ None → cond b None o ≡ None
    by true o is = refl
    by false o is = is

pub left_state : KeptIdle → (state : State) (names : List (List ℕ)) (files : Files) → AllByRecursion IsKeptName names → Stands files state → Stands (left_of names files) state
left_state idle (store.HasTable texts segments) names files all stands = left_stands idle texts segments names files all stands
left_state idle store.NoTable [] files all stands = stands
left_state idle store.NoTable (name ∷ names) files all stands = left_state idle store.NoTable names (finite.remove files name) all.1 (none_left name files stands)

left_told : (names : List (List ℕ)) (held new : Option Files) (files : Files) → held ≡ Some files → new ≡ without_files names held → new ≡ Some (left_of names files)
left_told [] held new files told is = is ∙ told
left_told (name ∷ names) held new files told is = left_told names (Some (finite.remove files name)) new (finite.remove files name) refl (is ∙ ap (λ o. without_files (name ∷ names) o) told)

module _ (idle : KeptIdle) (d e : Seen) (names : List (List ℕ)) (all : AllByRecursion IsKeptName names) (lost : e.held ≡ without_files names d.held) where
  -- what is answered holds of what is left
  begins_by : (result : Result Kept Fault) → ((files : Files) (state : State) → e.held ≡ Some files → Stands files state → IsBegun state files result) → HasFaultOf d e result → Begins d e result
  begins_by result f faults = record { stands = told d.held refl; faults = faults }
    where
      told : (held : Option Files) → d.held ≡ held → IfSome held (λ stored. (state : State) → Stands stored state → IsSomeAnd e.held (λ files. IsBegun state files result))
      told None is = tt
      told (Some files) is = λ state stands.
          let here : e.held ≡ Some (left_of names files) = left_told names d.held e.held files is lost in
          subst (λ o. IsSomeAnd o (λ files. IsBegun state files result)) (sym here) (f (left_of names files) state here (left_state idle state names files all stands))

  pub begins_not : (why : Fault) → HasFaultOf {A = Kept} d e (Err why) → Begins d e (Err why)
  begins_not why faults = begins_by (Err why) (λ files state here stands. stands) faults

  pub begins_well : IfSome e.held HasNoKept → HasFaultOf d e (Ok at_start) → Begins d e (Ok at_start)
  begins_well none faults = begins_by (Ok at_start) (λ files state here stands. let free : HasNoKept files = subst (λ o. IfSome o HasNoKept) here none in (begun_so files state stands free, free, stands)) faults

-- ---- the result of the begin

-- a fault that ended a call before it ends it
pub begun_not : (d e : Seen) (result : Result Session Fault) (why : Fault) → IsErrAnd result (λ f. f ≡ why) → Begins d e (Err why) → Begins d e (result_map_both kept_of (λ why. why) result)
begun_not d e (Ok session) why is b = absurd is
begun_not d e (Err other) why is b = subst (λ f. Begins d e (Err f)) (sym is) b

abbrev Done : Type 0
Done = Result (Unit {0}) Fault

abbrev Begun : Type 0
Begun = Result Kept Fault

-- its counts are those of what ended it
pub faults_as : (d e : Seen) (why : Fault) → HasFaultOf {A = Unit {0}} d e (Err why) → HasFaultOf {A = Kept} d e (Err why)
faults_as d e fault.Read f = record { reads = λ other. absurd (other refl); writes = λ other. f.writes (λ e. cc); read_rose = λ is. f.read_rose refl; write_rose = λ is. cc }
faults_as d e fault.Write f = record { reads = λ other. f.reads (λ e. cc); writes = λ other. absurd (other refl); read_rose = λ is. cc; write_rose = λ is. f.write_rose refl }
faults_as d e fault.Memory f = record { reads = λ other. f.reads (λ e. cc); writes = λ other. f.writes (λ e. cc); read_rose = λ is. cc; write_rose = λ is. cc }

-- after calls without a fault memory ran out, or none did
pub memory_after : (d e : Seen) → e.read_faults ≡ d.read_faults → e.write_faults ≡ d.write_faults → HasFaultOf {A = Kept} d e (Err fault.Memory)
memory_after d e reads writes = record { reads = λ other. reads; writes = λ other. writes; read_rose = λ is. cc; write_rose = λ is. cc }

pub none_after : (d e : Seen) (kept : Kept) → e.read_faults ≡ d.read_faults → e.write_faults ≡ d.write_faults → HasFaultOf d e (Ok kept)
none_after d e kept reads writes = record { reads = λ other. reads; writes = λ other. writes; read_rose = λ is. cc; write_rose = λ is. cc }
