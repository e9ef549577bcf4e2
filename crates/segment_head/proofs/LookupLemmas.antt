-- What a dictionary that is read where it lies tells of the whole head.
use Rattle.std.proofs.Common.{◌≡◌, ◌∙◌, ◌<◌, ◌≤◌, ◌+◌, ℕ, List, [], length, get_or, take, drop, Option, Some, None, IfSome, IsTrue, false, Ok, Err, IsErrOf, refl, sym, ap, subst, arith}
use Rattle.std.proofs.lemmas.Bool.{false≢true}
use Rattle.std.proofs.lemmas.List.{length-drop, length-take}
use Rattle.std.proofs.lemmas.Option.{slice_get-get_or}
use Rattle.outside.specs.Files.{Files, bytes_at, bytes_of}
use Rattle.outside.specs.Reads.{Entry, LogsUpTo}
use Rattle.outside.specs.Seen as outside
use Rattle.outside.specs.Seen.{OnlyReads}
use Rattle.outside.specs.declared.place.Place.{Place}
use Rattle.outside.proofs.SeenLemmas.{reads_after, reads_so}
use Rattle.table_schema.specs.declared.table.Table.{Table}
use Rattle.value_ids.specs.Coding.{AreBelow}
use Rattle.value_ids.specs.Dictionary.{Distinct}
use Rattle.bit_column.specs.Sections.{section}
use Rattle.dictionary_reading.specs.declared.in_file.FileDictionary.{FileDictionary}
use Rattle.dictionary_reading.specs.declared.fault.LookupFault.{LookupFault}
use Rattle.dictionary_reading.specs.declared.fault.LookupFault.TheVariants as lookup
use Rattle.dictionary_reading.specs.InFile.{IsSpelledAt, LogsInside, OfDictionary}
use Rattle.dictionary_reading.proofs.LogLemmas.{logs_more, logs_none, logs_then, logs_up_to}
use Rattle.segment_file.specs.declared.fault.HeadFault.{HeadFault}
use Rattle.segment_file.specs.declared.fault.HeadFault.TheVariants as fault
use Rattle.segment_file.specs.declared.part.Part.{Part}
use Rattle.segment_file.specs.declared.part.Part.TheVariants as parts
use Rattle.segment_file.specs.declared.section.Section.{Section}
use Rattle.segment_file.specs.Columns.{kind_at}
use Rattle.segment_head.specs.Heads.{HasCount, OfWhole, Seen, dictionary_section}
use Rattle.segment_head.specs.Calls.{IsColumnOf, ReadsPart}
use Rattle.segment_head.specs.Lookups.{LogsDictionary, OfColumn, ReadsWhere}
use Rattle.segment_head.proofs.Steps.{DictionaryThere, dictionary_slot, dictionary_there}
use Rattle.segment_file.proofs.Faults.{other_fault, reads_ended, reads_handed, reads_other, reads_well}

-- ---- the dictionary that is there

-- the place of a column's dictionary, its kind and how many values it has
pub record IsOfColumn (table : Table) (head : Seen) (column : ℕ) (l : FileDictionary) (s : Section) : Type 0 where
  pub field : column < length table.schema.fields
  pub at : dictionary_section head column ≡ Some s
  pub place_is : l.place ≡ s.place
  pub kind_is : l.kind ≡ kind_at table column

same_some : {A : Type 0} (a b : A) → Some (Some a) ≡ Some (Some b) → a ≡ b
same_some a b e = cc

spelled_here : (table : Table) (head : Seen) (column : ℕ) (l : FileDictionary) (s : Section) (name file : List ℕ) (files : Files) (whole : Seen) → IsOfColumn table head column l s → (t : DictionaryThere table head.rows column file (bytes_of (Some files) file) whole s) → IsSpelledAt l.kind files l.place t.d
spelled_here table head column l s name file files whole is t =
    let bytes : List ℕ = bytes_of (Some files) file in
    let within = t.within in
    let here : section files l.place ≡ take s.place.length (drop s.place.offset bytes) = ap (section files) is.place_is ∙ ap (λ f. bytes_at files f s.place.offset s.place.length) t.file_is in
    let long : length (take s.place.length (drop s.place.offset bytes)) ≡ s.place.length = omega (arith, within, length-take s.place.length (drop s.place.offset bytes), length-drop s.place.offset bytes) in
    record {
      stands = t.spelled.stands;
      kind_is = t.spelled.kind_is ∙ sym is.kind_is;
      spelled = here ∙ t.spelled.spelled;
      whole = ap (λ (p : Place). p.length) is.place_is ∙ sym long ∙ ap length t.spelled.spelled;
    }

-- what holds of a dictionary at the place holds of that of the whole head
pub of_column : (table : Table) (head : Seen) (column : ℕ) (l : FileDictionary) (s : Section) (held : Option Files) (P : Distinct → Type 0) → IsOfColumn table head column l s → OfWhole table held head (HasCount column l.count) → OfDictionary l held P → OfWhole table held head (OfColumn column P)
of_column table head column l s None P is count all = tt
of_column table head column l s (Some files) P is count all = λ name file whole full part d has.
    let t = dictionary_there table name file (bytes_of (Some files) file) whole head column s is.field is.at full part in
    let counted = count name file whole full part in
    let same : t.d ≡ d = same_some t.d d (sym t.at ∙ has) in
    let other : counted.d ≡ t.d = same_some counted.d t.d (sym counted.at ∙ t.at) in
    subst P same (all t.d (spelled_here table head column l s name file files whole is t) (counted.many ∙ ap (λ (x : Distinct). length x.values) other))

-- and where it cannot be, there is no whole head
pub of_none : (table : Table) (head : Seen) (column : ℕ) (l : FileDictionary) (s : Section) (held : Option Files) → IsOfColumn table head column l s → OfWhole table held head (HasCount column l.count) → OfDictionary l held (λ _. ⊥) → OfWhole table held head (λ _. ⊥)
of_none table head column l s None is count none = tt
of_none table head column l s (Some files) is count none = λ name file whole full part.
    let counted = count name file whole full part in
    of_column table head column l s (Some files) (λ _. ⊥) is count none name file whole full part counted.d counted.at

-- a refusal where the whole head may lack something
pub no_whole : (table : Table) (held : Option Files) (head : Seen) (Q : Seen → Type 0) → OfWhole table held head (λ _. ⊥) → OfWhole table held head (λ whole. ¬ Q whole)
no_whole table None head Q none = tt
no_whole table (Some files) head Q none = λ name file whole full part q. none name file whole full part

pub not_below : (table : Table) (held : Option Files) (head : Seen) (column count : ℕ) (ids : List ℕ) → ¬ AreBelow count ids → OfWhole table held head (HasCount column count) → OfWhole table held head (λ whole. ¬ OfColumn column (λ d. AreBelow (length d.values) ids) whole)
not_below table None head column count ids none has = tt
not_below table (Some files) head column count ids none has = λ name file whole full part below.
    let counted = has name file whole full part in
    none (subst (λ (n : ℕ). AreBelow n ids) (sym counted.many) (below counted.d counted.at))

-- ---- faults and reads

lookup_same : {T : Type 0} (a b : LookupFault) → IsErrOf {T = T} {E = LookupFault} (Err a) b → a ≡ b
lookup_same a b e = cc

head_same : {T : Type 0} (a b : HeadFault) → IsErrOf {T = T} {E = HeadFault} (Err a) b → a ≡ b
head_same a b e = cc

-- what was a fault of the device is one for the head
pub reads_lookup : {T U : Type 0} (a : LookupFault) (b : HeadFault) (old new : outside.Seen) → (a ≡ lookup.ReadFault → b ≡ fault.ReadFault) → (b ≡ fault.ReadFault → a ≡ lookup.ReadFault) → OnlyReads (IsErrOf {T = T} {E = LookupFault} (Err a) lookup.ReadFault) old new
    → OnlyReads (IsErrOf {T = U} {E = HeadFault} (Err b) fault.ReadFault) old new
reads_lookup {T} {U} a b old new to from reads =
    reads_so (IsErrOf {T = T} {E = LookupFault} (Err a) lookup.ReadFault) (IsErrOf {T = U} {E = HeadFault} (Err b) fault.ReadFault) old new (λ e. ap Err (from (head_same {T = U} b fault.ReadFault e))) (λ e. ap Err (to (lookup_same {T = T} a lookup.ReadFault e))) reads

-- a call that answered
pub reads_looked : {T : Type 0} (x : T) (old new : outside.Seen) → OnlyReads (IsErrOf {T = T} {E = LookupFault} (Ok x) lookup.ReadFault) old new → OnlyReads ⊥ old new
reads_looked {T} x old new reads = reads_so (IsErrOf {T = T} {E = LookupFault} (Ok x) lookup.ReadFault) ⊥ old new (λ e. absurd e) (λ e. absurd cc) reads

-- ---- the log

if_some : {A : Type 0} (o : Option A) (x : A) (P : A → Type 0) → o ≡ Some x → P x → IfSome o P
if_some o x P is p = subst (λ r. IfSome r P) (sym is) p

some_if : {A : Type 0} (o : Option A) (x : A) (P : A → Type 0) → o ≡ Some x → IfSome o P → P x
some_if o x P is p = subst (λ r. IfSome r P) is p

pub logs_count : (head : Seen) (column : ℕ) (s : Section) (old new : Option (List Entry)) → dictionary_section head column ≡ Some s → 4 ≤ s.place.length → IfSome (dictionary_section head column) (λ s. LogsUpTo s.place.file s.place.offset (s.place.offset + 4) old new) → LogsDictionary head column 4 old new
logs_count head column s old new at long logs =
    if_some (dictionary_section head column) s (λ s. LogsInside s.place 4 old new) at
    (logs_up_to s.place s.place.file s.place.offset (s.place.offset + 4) 4 old new refl (omega arith) (omega (arith, long)) (omega arith) (some_if (dictionary_section head column) s (λ s. LogsUpTo s.place.file s.place.offset (s.place.offset + 4) old new) at logs))

pub logs_still : (head : Seen) (column : ℕ) (s : Section) (most : ℕ) (log : Option (List Entry)) → dictionary_section head column ≡ Some s → LogsDictionary head column most log log
logs_still head column s most log at = if_some (dictionary_section head column) s (λ s. LogsInside s.place most log log) at (logs_none s.place most log)

-- the four bytes alone
pub logs_first : (head : Seen) (column : ℕ) (s : Section) (most : ℕ) (old new : Option (List Entry)) → dictionary_section head column ≡ Some s → 4 ≤ most → LogsDictionary head column 4 old new → LogsDictionary head column most old new
logs_first head column s most old new at le logs =
    if_some (dictionary_section head column) s (λ s. LogsInside s.place most old new) at (logs_more s.place 4 most old new le (some_if (dictionary_section head column) s (λ s. LogsInside s.place 4 old new) at logs))

-- and then others of the dictionary
pub logs_both : (head : Seen) (column : ℕ) (l : FileDictionary) (s : Section) (more most : ℕ) (old between new : Option (List Entry)) → dictionary_section head column ≡ Some s → l.place ≡ s.place → 4 + more ≤ most → LogsDictionary head column 4 old between → LogsInside l.place more between new → LogsDictionary head column most old new
logs_both head column l s more most old between new at same le first second =
    if_some (dictionary_section head column) s (λ s. LogsInside s.place most old new) at
    (logs_more s.place (4 + more) most old new le (logs_then s.place 4 more old between new (some_if (dictionary_section head column) s (λ s. LogsInside s.place 4 old between) at first) (subst (λ (p : Place). LogsInside p more between new) same second)))

-- ---- a call of a head, by that of the dictionary in the file

-- the section of a column's dictionary
pub section_of : (table : Table) (head : Seen) (column : ℕ) → IsColumnOf table head column → (s : Section) × (dictionary_section head column ≡ Some s)
section_of table head column is =
    let none : Section = record { part = parts.Head; place = record { file = []; offset = 0; length = 0 } } in
    (get_or head.sections (column + 1) none, slice_get-get_or head.sections (column + 1) none (dictionary_slot table head column is.opened is.column))

-- what is known of a dictionary in the file
pub record IsFound (table : Table) (head : Seen) (column : ℕ) (l : FileDictionary) (old mid : outside.Seen) : Type 0 where
  pub column_is : IsColumnOf table head column
  pub place : IfSome (dictionary_section head column) (λ s. l.place ≡ s.place)
  pub kind : l.kind ≡ kind_at table column
  pub reads : ReadsPart (λ (d : FileDictionary). HasCount column d.count) table head old mid (Ok l)

found_there : (table : Table) (head : Seen) (column : ℕ) (l : FileDictionary) (old mid : outside.Seen) → IsFound table head column l old mid → (s : Section) × IsOfColumn table head column l s
found_there table head column l old mid is =
    let (s, at) = section_of table head column is.column_is in
    (s, record { field = is.column_is.column; at = at; place_is = some_if (dictionary_section head column) s (λ s. l.place ≡ s.place) at is.place; kind_is = is.kind })

found_reads : (table : Table) (head : Seen) (column : ℕ) (l : FileDictionary) (old mid : outside.Seen) → IsFound table head column l old mid → OnlyReads ⊥ old mid
found_reads table head column l old mid is = reads_well l old mid is.reads.only_reads

earlier : (l : FileDictionary) (old mid : outside.Seen) (P : Distinct → Type 0) → OnlyReads ⊥ old mid → OfDictionary l mid.held P → OfDictionary l old.held P
earlier l old mid P reads = subst (λ held. OfDictionary l held P) reads.held

pub lookup_ok : {A : Type 0} (table : Table) (head : Seen) (column : ℕ) (l : FileDictionary) (old mid new : outside.Seen) (P : A → Distinct → Type 0) (x : A) → IsFound table head column l old mid → OfDictionary l mid.held (P x) → OnlyReads (IsErrOf {T = A} {E = LookupFault} (Ok x) lookup.ReadFault) mid new
    → ReadsPart (λ a. OfColumn column (P a)) table head old new (Ok x)
lookup_ok {A} table head column l old mid new P x is told reads =
    let first : OnlyReads ⊥ old mid = found_reads table head column l old mid is in
    let (s, of) = found_there table head column l old mid is in
    record {
      told = of_column table head column l s old.held (P x) of is.reads.told (earlier l old mid (P x) first told);
      refused = tt;
      only_reads = reads_ended x old new (reads_after ⊥ old mid new first (reads_looked x mid new reads));
    }

-- what a fault is for the head
pub record IsFaultOf (column : ℕ) (a : LookupFault) (b : HeadFault) : Type 0 where
  pub bad : a ≡ lookup.NoDictionary → b ≡ fault.NotASegment (parts.Dictionary column)
  pub memory : a ≡ lookup.NoMemory → b ≡ fault.NoMemory
  pub read : a ≡ lookup.ReadFault → b ≡ fault.ReadFault

bad_back : (column : ℕ) (a : LookupFault) (b : HeadFault) (p : Part) → IsFaultOf column a b → b ≡ fault.NotASegment p → a ≡ lookup.NoDictionary
bad_back column lookup.NoDictionary b p is e = refl
bad_back column lookup.ReadFault b p is e = absurd (let same : b ≡ fault.ReadFault = is.read refl in cc)
bad_back column lookup.NoMemory b p is e = absurd (let same : b ≡ fault.NoMemory = is.memory refl in cc)

read_back : (column : ℕ) (a : LookupFault) (b : HeadFault) → IsFaultOf column a b → b ≡ fault.ReadFault → a ≡ lookup.ReadFault
read_back column lookup.NoDictionary b is e = absurd (let same : b ≡ fault.NotASegment (parts.Dictionary column) = is.bad refl in cc)
read_back column lookup.ReadFault b is e = refl
read_back column lookup.NoMemory b is e = absurd (let same : b ≡ fault.NoMemory = is.memory refl in cc)

pub lookup_err : {A B : Type 0} (table : Table) (head : Seen) (column : ℕ) (l : FileDictionary) (old mid new : outside.Seen) (P : B → Seen → Type 0) (a : LookupFault) (b : HeadFault) → IsFound table head column l old mid → IsFaultOf column a b
    → (IsErrOf {T = A} {E = LookupFault} (Err a) lookup.NoDictionary → OfDictionary l mid.held (λ _. ⊥)) → OnlyReads (IsErrOf {T = A} {E = LookupFault} (Err a) lookup.ReadFault) mid new → ReadsPart P table head old new (Err b)
lookup_err {A} {B} table head column l old mid new P a b is of_fault bad reads =
    let first : OnlyReads ⊥ old mid = found_reads table head column l old mid is in
    let (s, of) = found_there table head column l old mid is in
    record {
      told = tt;
      refused = λ p e. of_none table head column l s old.held of is.reads.told (earlier l old mid (λ _. ⊥) first (bad (ap Err (bad_back column a b p of_fault e))));
      only_reads = reads_after (IsErrOf {T = B} {E = HeadFault} (Err b) fault.ReadFault) old mid new first (reads_lookup {T = A} {U = B} a b mid new of_fault.read (read_back column a b of_fault) reads);
    }

pub lookup_logs : (table : Table) (head : Seen) (column : ℕ) (l : FileDictionary) (old mid new : outside.Seen) (more most : ℕ) → IsFound table head column l old mid → LogsDictionary head column 4 old.log mid.log → LogsInside l.place more mid.log new.log → 4 + more ≤ most → LogsDictionary head column most old.log new.log
lookup_logs table head column l old mid new more most is first second le =
    let (s, of) = found_there table head column l old mid is in
    logs_both head column l s more most old.log mid.log new.log of.at of.place_is le first second

-- the four bytes of its count alone were read
pub count_logs : (table : Table) (head : Seen) (column : ℕ) (most : ℕ) (old new : outside.Seen) → IsColumnOf table head column → 4 ≤ most → LogsDictionary head column 4 old.log new.log → LogsDictionary head column most old.log new.log
count_logs table head column most old new is le logs =
    let (s, at) = section_of table head column is in
    logs_first head column s most old.log new.log at le logs

-- where the head may lack something
pub where_of : {A : Type 0} (P : A → Seen → Type 0) (Q : Seen → Type 0) (table : Table) (head : Seen) (old new : outside.Seen) (x : A) → ReadsPart P table head old new (Ok x) → ReadsWhere P Q table head old new (Ok x)
where_of P Q table head old new x reads = record { told = reads.told; refused = tt; only_reads = reads.only_reads }

pub where_err : {A B : Type 0} (P : A → Seen → Type 0) (R : B → Seen → Type 0) (Q : Seen → Type 0) (table : Table) (head : Seen) (old new : outside.Seen) (b : HeadFault) → ReadsPart P table head old new (Err b) → ReadsWhere R Q table head old new (Err b)
where_err {A} {B} P R Q table head old new b reads = record {
  told = tt;
  refused = λ p e. no_whole table old.held head Q (reads.refused p e);
  only_reads = reads_handed {T = A} {U = B} b old new reads.only_reads;
}

pub where_over : {B : Type 0} (R : B → Seen → Type 0) (table : Table) (head : Seen) (column : ℕ) (ids : List ℕ) (l : FileDictionary) (old new : outside.Seen) → IsFound table head column l old new → ¬ AreBelow l.count ids
    → ReadsWhere R (OfColumn column (λ d. AreBelow (length d.values) ids)) table head old new (Err (fault.NotASegment (parts.Dictionary column)))
where_over R table head column ids l old new is over = record {
  told = tt;
  refused = λ p e. not_below table old.held head column l.count ids over is.reads.told;
  only_reads = reads_other (fault.NotASegment (parts.Dictionary column)) old new (other_fault (parts.Dictionary column)) (found_reads table head column l old new is);
}

-- ---- a dictionary that the place has no room for

pub none_held : (l : FileDictionary) (held : Option Files) → ((files : Files) → OfDictionary l (Some files) (λ _. ⊥)) → OfDictionary l held (λ _. ⊥)
none_held l None none = tt
none_held l (Some files) none = none files

pub not_true : IsTrue false → ⊥
not_true t = false≢true t
