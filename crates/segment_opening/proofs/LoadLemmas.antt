-- Dictionaries that are loaded one after the other, and a small one of which no value satisfies a
-- conjunct.
use Rattle.std.proofs.Common.{◌≡◌, ◌∙◌, ℕ, zero, suc, List, [], ◌∷◌, slice_get, Option, Some, None, IfSome, Result, Ok, Err, sym, ap, subst}
use Rattle.std.specs.List.{AllZip}
use Rattle.outside.specs.Files.{Files}
use Rattle.outside.specs.Seen as outside
use Rattle.outside.specs.Seen.{OnlyReads}
use Rattle.values.specs.declared.test.Test.{Test}
use Rattle.value_ids.specs.Dictionary.{Distinct}
use Rattle.value_ids.specs.Ids.{matching}
use Rattle.table_schema.specs.declared.query.Conjunct.TheVariants.{One}
use Rattle.table_schema.specs.declared.table.Table.{Table}
use Rattle.segment_head.specs.Heads.{AreIn, IsHeadOf, IsPartOf, IsSlotOf, OfWhole, Seen}
use Rattle.segment_head.specs.Stored.{HasNoImage}
use Rattle.segment_head.specs.declared.fault.EngineFault.{EngineFault}
use Rattle.segment_head.specs.declared.fault.EngineFault.TheVariants as engine
use Rattle.segment_reads.specs.Logs.{DictionariesEnd, EndsBy, LogsThat}
use Rattle.segment_reads.proofs.LogLemmas.{ends_still, entries_none, entries_then, reads_as, reads_none, reads_then}
use Rattle.segment_opening.specs.Calls.{FailsColumn, LoadsMore, LooksUp}
use Rattle.segment_opening.specs.Emptied.{MatchesNone}
use Rattle.segment_opening.specs.Opened.{Grows, IsHeadIn}
use Rattle.segment_opening.proofs.HeadLemmas.{fails_before, grows_none, grows_then, ok_so}

-- ---- a head that more is loaded of is still a part of the whole one

pub part_same : (table : Table) (held : Option Files) (head : Seen) → OfWhole table held head (λ whole. IsPartOf whole head)
part_same table None head = tt
part_same table (Some files) head = λ name file whole full part. part

-- what a later head has of the whole one, it has where that of an earlier one is looked at
pub whole_before : (P : Seen → Type 0) (table : Table) (held : Option Files) (old mid : Seen) → OfWhole table held old (λ whole. IsPartOf whole mid) → OfWhole table held mid P → OfWhole table held old P
whole_before P table None old mid part has = tt
whole_before P table (Some files) old mid part has = λ name file whole full is_part. has name file whole full (part name file whole full is_part)

-- ---- what was loaded and read, while nothing failed

pub record Loaded (table : Table) (head mid : Seen) (a b : outside.Seen) : Type 0 where
  pub grows : Grows table a.held head mid
  pub reads : OnlyReads ⊥ a b
  pub log : (file : List ℕ) (end : ℕ) → AreIn file head.sections → DictionariesEnd table head end → LogsThat (EndsBy file end) a.log b.log

pub loaded_none : (table : Table) (head : Seen) (a : outside.Seen) → IsHeadOf table head → Loaded table head head a a
loaded_none table head a of = record {
  grows = grows_none table a.held head of;
  reads = reads_none a;
  log = λ file end within ends. entries_none (EndsBy file end) a.log;
}

pub loaded_then : (table : Table) (head mid grown : Seen) (a b d : outside.Seen) → Loaded table head mid a b → Loaded table mid grown b d → Loaded table head grown a d
loaded_then table head mid grown a b d m n =
    let same = m.grows.sections_same in
    record {
      grows = grows_then table a.held head mid grown m.grows (subst (λ h. Grows table h mid grown) m.reads.held n.grows);
      reads = reads_then a b d m.reads n.reads;
      log = λ file end within ends.
          entries_then (EndsBy file end) a.log b.log d.log (m.log file end within ends)
          (n.log file end (subst (AreIn file) (sym same) within) (ends_still table head mid end same ends));
    }

pub loaded_by : {A : Type 0} (table : Table) (x : A) (head mid : Seen) (a b : outside.Seen) → LoadsMore table (Ok x) head mid a b → Loaded table head mid a b
loaded_by table x head mid a b l = record {
  grows = l.grows;
  reads = reads_as a b l.only_reads (λ e. absurd e) (λ e. absurd cc);
  log = l.log;
}

-- a look at dictionaries loads none
pub looked_by : {A : Type 0} (table : Table) (x : A) (head : Seen) (a b : outside.Seen) → IsHeadOf table head → LooksUp table (Ok x) head a b → Loaded table head head a b
looked_by table x head a b of l = record {
  grows = grows_none table a.held head of;
  reads = reads_as a b l.only_reads (λ e. absurd e) (λ e. absurd cc);
  log = l.log;
}

pub loads_all : {A : Type 0} (table : Table) (x : A) (head mid : Seen) (a b : outside.Seen) → Loaded table head mid a b → LoadsMore table (Ok x) head mid a b
loads_all table x head mid a b l = record {
  grows = l.grows;
  bad = λ part is. absurd cc;
  named = λ part is. absurd cc;
  never_full = λ is. cc;
  only_reads = reads_as a b l.reads (λ e. absurd cc) (λ e. absurd e);
  log = l.log;
}

-- there was no room after all
pub loads_memory : {A : Type 0} (table : Table) (head mid : Seen) (a b : outside.Seen) → Loaded table head mid a b → LoadsMore {A = A} table (Err engine.NoMemory) head mid a b
loads_memory table head mid a b l = record {
  grows = tt;
  bad = λ part is. absurd cc;
  named = λ part is. absurd cc;
  never_full = λ is. cc;
  only_reads = reads_as a b l.reads (λ e. absurd cc) (λ e. absurd e);
  log = l.log;
}

-- a fault of one call is that of the next
pub loads_err : {A B : Type 0} (table : Table) (fault : EngineFault) (head mid : Seen) (a b : outside.Seen) → LoadsMore {A = A} table (Err fault) head mid a b → LoadsMore {A = B} table (Err fault) head mid a b
loads_err table fault head mid a b l = record {
  grows = tt;
  bad = λ part is. let own : fault ≡ engine.NotASegment part = cc in l.bad part (ap Err own);
  named = λ part is. let own : fault ≡ engine.NotASegment part = cc in l.named part (ap Err own);
  never_full = λ is. let own : fault ≡ engine.TooManyGroups = cc in l.never_full (ap Err own);
  only_reads = reads_as a b l.only_reads (λ e. let own : fault ≡ engine.ReadFault = cc in ap Err own) (λ e. let own : fault ≡ engine.ReadFault = cc in ap Err own);
  log = l.log;
}

-- more was loaded after that, or a file is refused
pub loads_on : {A : Type 0} (table : Table) (r : Result A EngineFault) (head mid grown : Seen) (a b d : outside.Seen) → Loaded table head mid a b → LoadsMore table r mid grown b d → LoadsMore table r head grown a d
loads_on table r head mid grown a b d m l =
    let same = m.grows.sections_same in
    let held = m.reads.held in
    record {
      grows = ok_so r (Grows table b.held mid grown) (Grows table a.held head grown) (λ g. grows_then table a.held head mid grown m.grows (subst (λ h. Grows table h mid grown) held g)) l.grows;
      bad = λ part is name in_file.
          subst (λ h. IfSome h (λ files. HasNoImage table files name)) held
          (l.bad part is name (subst (λ h. IsHeadIn table h name mid) (sym held) (m.grows.image name in_file)));
      named = λ part is.
          fails_before table a.held head mid part m.grows.rows_same same (subst (λ h. FailsColumn table h mid part) held (l.named part is));
      never_full = l.never_full;
      only_reads = reads_then a b d m.reads l.only_reads;
      log = λ file end within ends.
          entries_then (EndsBy file end) a.log b.log d.log (m.log file end within ends)
          (l.log file end (subst (AreIn file) (sym same) within) (ends_still table head mid end same ends));
    }

-- ---- a conjunct that matches no value of a dictionary that is loaded

-- what is loaded is of the whole head
slot_at : (whole loaded : List (Option Distinct)) (k : ℕ) (d : Distinct) → AllZip IsSlotOf whole loaded → slice_get loaded k ≡ Some (Some d) → slice_get whole k ≡ Some (Some d)
slot_at [] [] k d zip at = absurd cc
slot_at [] (l ∷ ls) k d zip at = absurd zip
slot_at (w ∷ ws) [] k d zip at = absurd cc
slot_at (w ∷ ws) (l ∷ ls) zero d zip at = let is : l ≡ Some d = cc in ap Some (subst (IsSlotOf w) is zip.0)
slot_at (w ∷ ws) (l ∷ ls) (suc k) d zip at = slot_at ws ls k d zip.1 at

pub none_loaded : (table : Table) (held : Option Files) (old mid : Seen) (column : ℕ) (test : Test) (d : Distinct) → OfWhole table held old (λ whole. IsPartOf whole mid) → slice_get mid.dictionaries column ≡ Some (Some d) → matching test d.values ≡ []
    → OfWhole table held old (MatchesNone (One column test))
none_loaded table None old mid column test d part at none = tt
none_loaded table (Some files) old mid column test d part at none = λ name file whole full is_part e there.
    let own : slice_get whole.dictionaries column ≡ Some (Some d) = slot_at whole.dictionaries mid.dictionaries column d (part name file whole full is_part).slots at in
    let same : e ≡ d = cc in
    ap (λ x. matching test x.values) same ∙ none
