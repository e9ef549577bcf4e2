-- The columns that a query names beside its filter, and what is found of the one that it tests.
use Rattle.std.proofs.Common.{◌≡◌, ◌∙◌, ◌||◌, ◌<◌, ℕ, Bool, true, false, List, Option, Some, None, Result, Ok, Err, IfOk, IfSome, get_or, slice_get, refl, sym, ap, subst}
use Rattle.std.proofs.lemmas.Bool.{false≢true}
use Rattle.std.specs.List.{list_any}
use Rattle.outside.specs.Files.{Files}
use Rattle.outside.specs.Seen as outside
use Rattle.values.specs.declared.test.Test.{Test}
use Rattle.value_ids.specs.Dictionary.{Distinct}
use Rattle.value_ids.specs.Ids.{matching}
use Rattle.table_schema.specs.declared.query.BoundQuery.{BoundQuery}
use Rattle.table_schema.specs.declared.table.Table.{Table}
use Rattle.segment_head.specs.Heads.{OfWhole, Seen}
use Rattle.segment_head.specs.Lookups.{OfColumn}
use Rattle.segment_head.specs.declared.column_ids.Matched.{Matched}
use Rattle.segment_head.specs.declared.fault.EngineFault.{EngineFault}
use Rattle.segment_head.specs.declared.fault.EngineFault.TheVariants as engine
use Rattle.segment_plan.specs.Named.{MarksColumns, agg_names, conjunct_names, is_in, query_names}
use Rattle.segment_plan.specs.Served.{rest_of, unserved}
use Rattle.segment_plan.specs.declared.plans.IndexChoice.{IndexChoice}
use Rattle.segment_reads.proofs.LogLemmas.{reads_as}
use Rattle.segment_opening.specs.Calls.{LoadsMore, LooksUp}
use Rattle.segment_opening.specs.Found.{IsFoundIn, TellsOthers, unfiltered}

pub more_true : (a b c : Bool) → (false || b) || c ≡ true → (a || b) || c ≡ true
more_true true b c is = refl_true b c
  where
    refl_true : (b c : Bool) → (true || b) || c ≡ true
    refl_true b c = λ i. true
more_true false b c is = is

-- are named by it
pub unfiltered_names : (query : BoundQuery) (column : ℕ) → query_names (unfiltered query) column ≡ true → query_names query column ≡ true
unfiltered_names query column is = more_true (list_any (conjunct_names column) query.conjuncts) (is_in query.groups column) (list_any (agg_names column) query.aggs) is

-- the ids alone, of what was found
pub ids_found : (table : Table) (held : Option Files) (head : Seen) (column : ℕ) (test : Test) (matched : Matched) → OfWhole table held head (OfColumn column (IsFoundIn test matched))
    → OfWhole table held head (λ whole. (d : Distinct) → slice_get whole.dictionaries column ≡ Some (Some d) → matched.ids ≡ matching test d.values)
ids_found table None head column test matched found = tt
ids_found table (Some files) head column test matched found = λ name file whole full part d at. (found name file whole full part d at).1

-- ---- a look at dictionaries, and another answer

pub looks_else : {A B : Type 0} (table : Table) (x : A) (y : B) (head : Seen) (a b : outside.Seen) → LooksUp table (Ok x) head a b → LooksUp table (Ok y) head a b
looks_else table x y head a b l = record {
  never_bad = λ part e. absurd cc;
  never_full = λ e. absurd cc;
  only_reads = reads_as a b l.only_reads (λ e. absurd cc) (λ e. absurd cc);
  log = l.log;
}

pub looks_err : {A B : Type 0} (table : Table) (fault : EngineFault) (head : Seen) (a b : outside.Seen) → LooksUp {A = A} table (Err fault) head a b → LooksUp {A = B} table (Err fault) head a b
looks_err table fault head a b l = record {
  never_bad = λ part e. let own : fault ≡ engine.NotASegment part = cc in l.never_bad part (ap Err own);
  never_full = λ e. let own : fault ≡ engine.TooManyGroups = cc in l.never_full (ap Err own);
  only_reads = reads_as a b l.only_reads (λ e. let own : fault ≡ engine.ReadFault = cc in ap Err own) (λ e. let own : fault ≡ engine.ReadFault = cc in ap Err own);
  log = l.log;
}

-- nothing is loaded where a look fails
pub loads_looked : {A B : Type 0} (table : Table) (fault : EngineFault) (head : Seen) (a b : outside.Seen) → LooksUp {A = A} table (Err fault) head a b → LoadsMore {A = B} table (Err fault) head head a b
loads_looked table fault head a b l = record {
  grows = tt;
  bad = λ part e. let own : fault ≡ engine.NotASegment part = cc in absurd (l.never_bad part (ap Err own));
  named = λ part e. let own : fault ≡ engine.NotASegment part = cc in absurd (l.never_bad part (ap Err own));
  never_full = λ e. let own : fault ≡ engine.TooManyGroups = cc in l.never_full (ap Err own);
  only_reads = reads_as a b l.only_reads (λ e. let own : fault ≡ engine.ReadFault = cc in ap Err own) (λ e. let own : fault ≡ engine.ReadFault = cc in ap Err own);
  log = l.log;
}

-- ---- the columns that a query names beside its filter

less_false : (a b c : Bool) → (a || b) || c ≡ false → (false || b) || c ≡ false
less_false a b c none = go ((false || b) || c) refl
  where
    go : (d : Bool) → (false || b) || c ≡ d → (false || b) || c ≡ false
    go false is = is
    go true is = absurd (false≢true (sym none ∙ more_true a b c is))

pub others_so : {A E : Type 0} (query : BoundQuery) (choices : List IndexChoice) (columns : ℕ) (r : Result A E) (items : A → List Bool) → MarksColumns columns r items (query_names (rest_of query choices)) → IfOk r (λ marks. TellsOthers query columns (items marks))
others_so query choices columns (Ok marks) items m = record {
  count = m.count;
  apart = λ c lt none. less_false (list_any (conjunct_names c) (unserved choices query.conjuncts)) (is_in query.groups c) (list_any (agg_names c) query.aggs) (sym (m.each c lt) ∙ none);
}
others_so query choices columns (Err e) items m = tt

-- one that is named so is marked
pub marked_so : (query : BoundQuery) (columns : ℕ) (marks : List Bool) → TellsOthers query columns marks → (c : ℕ) → c < columns → query_names (unfiltered query) c ≡ true → get_or marks c false ≡ true
marked_so query columns marks tells c lt named = go (get_or marks c false) refl
  where
    go : (b : Bool) → get_or marks c false ≡ b → get_or marks c false ≡ true
    go true is = is
    go false is = absurd (false≢true (sym (tells.apart c lt is) ∙ named))

pub some_so : {A : Type 0} (o : Option A) (x : A) (P : Type 0) → o ≡ Some x → IfSome o (λ a. P) → P
some_so {A = A} o x P is held = subst (λ (o : Option A). IfSome o (λ a. P)) is held

pub found_at : {A : Type 0} (o : Option A) (x : A) (P : A → Type 0) → o ≡ Some x → IfSome o P → P x
found_at {A = A} o x P is held = subst (λ (o : Option A). IfSome o P) is held
