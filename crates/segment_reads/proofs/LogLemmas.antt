-- Reads of files, one after another.
use Rattle.std.proofs.Common.{◌≡◌, ◌∙◌, ◌+◌, ◌≤◌, ◌<◌, ◌++◌, ◌∷◌, [], ℕ, zero, suc, List, All, Option, Some, None, IfSome, inl, inr, length, map, sum, take, option_map, get_or, slice_get, refl, sym, ap, subst, arith, append_assoc, append-nil}
use Rattle.std.proofs.lemmas.List.Elements.{All-append, All-cons, All-nil}
use Rattle.std.proofs.lemmas.List.Sums.{sum_by-cons}
use Rattle.outside.specs.Counts.{Rose}
use Rattle.outside.specs.Files.{Files, bytes_of}
use Rattle.outside.specs.Reads.{AllGive, Consecutive, Entry, LogsOn, LogsThrough}
use Rattle.outside.specs.Seen as outside
use Rattle.outside.specs.Seen.{OnlyReads}
use Rattle.table_schema.specs.declared.table.Table.{Table}
use Rattle.segment_file.specs.declared.part.Part.{Part}
use Rattle.segment_file.specs.Front.{Front, bounds_end, extents_from, extents_of, front_size, head_end}
use Rattle.segment_head.specs.Heads.{AreIn, IsHeadOf, IsOpened, IsWithin, LogsOpened, Seen, placed}
use Rattle.segment_file.specs.Parts.{head_sections, sections_of}
use Rattle.segment_file.specs.Rules.{HasFront}
use Rattle.segment_file.proofs.Counts.{head_count}
use Rattle.std.specs.List.{Contains}
use Rattle.segment_head.specs.Stored.{segment_at}
use Rattle.segment_head.specs.declared.stored.Stored.{Stored}
use Rattle.segment_reads.proofs.NameLemmas.{among}
use Rattle.segment_reads.specs.Logs.{DictionariesEnd, EndsBy, EndsInHead, IsHeadRead, LogsHeadOf, LogsHeadsOf, LogsIn, LogsThat, LogsWhere}

-- ---- what a call leaves of a shelf

pub reads_as : {F G : Type 0} (a b : outside.Seen) → OnlyReads F a b → (G → F) → (F → G) → OnlyReads G a b
reads_as a b o from to = record { held = o.held; parts = o.parts; writes = o.writes; later = o.later; rose = λ g. o.rose (from g); unchanged = λ none. o.unchanged (λ f. none (to f)) }

pub reads_none : (a : outside.Seen) → OnlyReads ⊥ a a
reads_none a = record { held = refl; parts = refl; writes = refl; later = omega arith; rose = λ e. absurd e; unchanged = λ none. refl }

pub reads_then : {G : Type 0} (a b c : outside.Seen) → OnlyReads ⊥ a b → OnlyReads G b c → OnlyReads G a c
reads_then a b c m n =
    let same : b.read_faults ≡ a.read_faults = m.unchanged (λ e. e) in
    record {
      held = n.held ∙ m.held;
      parts = n.parts ∙ m.parts;
      writes = n.writes ∙ m.writes;
      later = omega (arith, m.later, n.later);
      rose = λ g. subst (λ k. Rose k c.read_faults) same (n.rose g);
      unchanged = λ none. n.unchanged none ∙ same;
    }

-- ---- the log

pub join_logs : (a : Option (List Entry)) (x y : List Entry) → option_map (λ before. before ++ y) (option_map (λ before. before ++ x) a) ≡ option_map (λ before. before ++ (x ++ y)) a
join_logs None x y = refl
join_logs (Some entries) x y = ap Some (append_assoc entries x y)

pub same_log : (a : Option (List Entry)) → a ≡ option_map (λ before. before ++ []) a
same_log None = refl
same_log (Some entries) = ap Some (sym (append-nil entries))

pub entries_none : (P : Entry → Type 0) (a : Option (List Entry)) → LogsThat P a a
entries_none P a = ([], same_log a, All-nil P)

pub entries_then : (P : Entry → Type 0) (a b c : Option (List Entry)) → LogsThat P a b → LogsThat P b c → LogsThat P a c
entries_then P a b c (x, is_x, each_x) (y, is_y, each_y) =
    (x ++ y, is_y ∙ ap (option_map (λ before. before ++ y)) is_x ∙ join_logs a x y, All-append P x y each_x each_y)

weaker : {A : Type 0} (P Q : A → Type 0) (xs : List A) → ((x : A) → P x → Q x) → All P xs → All Q xs
weaker P Q xs f h = λ k d lt. f (get_or xs k d) (h k d lt)

pub entries_as : (P Q : Entry → Type 0) (a b : Option (List Entry)) → ((entry : Entry) → P entry → Q entry) → LogsThat P a b → LogsThat Q a b
entries_as P Q a b f (x, is, each) = (x, is, weaker P Q x f each)

-- the same by the files alone
pub logs_none : (P : List ℕ → Type 0) (a : Option (List Entry)) → LogsWhere P a a
logs_none P a = entries_none (λ entry. P entry.file) a

pub logs_then : (P : List ℕ → Type 0) (a b c : Option (List Entry)) → LogsWhere P a b → LogsWhere P b c → LogsWhere P a c
logs_then P a b c first second = entries_then (λ entry. P entry.file) a b c first second

pub logs_as : (P Q : List ℕ → Type 0) (a b : Option (List Entry)) → ((file : List ℕ) → P file → Q file) → LogsWhere P a b → LogsWhere Q a b
logs_as P Q a b f logs = entries_as (λ entry. P entry.file) (λ entry. Q entry.file) a b (λ entry h. f entry.file h) logs

pub of_file : (file : List ℕ) (from to : ℕ) (entries : List Entry) → Consecutive file from to entries → All (λ entry. entry.file ≡ file) entries
of_file file from to [] h = All-nil (λ entry. entry.file ≡ file)
of_file file from to (entry ∷ entries) h = All-cons (λ entry. entry.file ≡ file) entry entries h.0 (of_file file (from + entry.count) to entries h.2)

of_given : (file : List ℕ) (from to : ℕ) (entries : List Entry) → AllGive file from to entries → All (λ entry. entry.file ≡ file) entries
of_given file from to [] h = All-nil (λ entry. entry.file ≡ file)
of_given file from to (entry ∷ entries) h = All-cons (λ entry. entry.file ≡ file) entry entries h.0 (of_given file (from + entry.count) to entries h.3)

pub logs_through : (file : List ℕ) (from to : ℕ) (a b : Option (List Entry)) → LogsThrough file from to a b → LogsIn file a b
logs_through file from to a b (entries, is, each) = (entries, is, of_file file from to entries each)

pub logs_on : (file : List ℕ) (from to : ℕ) (a b : Option (List Entry)) → LogsOn file from to a b → LogsIn file a b
logs_on file from to a b (entries, is, each) = (entries, is, of_given file from to entries each)

-- ---- reads of heads

-- reads that go back to back end where the last one does
some_further : (file : List ℕ) (from to : ℕ) (entries : List Entry) → Consecutive file from to entries → from ≤ to
some_further file from to [] h = omega (arith, h)
some_further file from to (entry ∷ entries) h = omega (arith, some_further file (from + entry.count) to entries h.2)

all_end : (file : List ℕ) (from to end : ℕ) (entries : List Entry) → to ≤ end → Consecutive file from to entries → All (EndsBy file end) entries
all_end file from to end [] le h = All-nil (EndsBy file end)
all_end file from to end (entry ∷ entries) le h =
    let further = some_further file (from + entry.count) to entries h.2 in
    let here = h.1 in
    All-cons (EndsBy file end) entry entries (record { file_is = h.0; ends = omega (arith, further, here, le) }) (all_end file (from + entry.count) to end entries le h.2)

pub through_ends : (file : List ℕ) (from to end : ℕ) (a b : Option (List Entry)) → to ≤ end → LogsThrough file from to a b → LogsThat (EndsBy file end) a b
through_ends file from to end a b le (entries, is, each) = (entries, is, all_end file from to end entries le each)

-- the bounds end before the head does
pub fewer_summed : (xs : List ℕ) (m n : ℕ) → m ≤ n → sum (take m xs) ≤ sum (take n xs)
fewer_summed [] zero n le = omega arith
fewer_summed [] (suc m) zero le = absurd (omega (arith, le))
fewer_summed [] (suc m) (suc n) le = omega arith
fewer_summed (x ∷ xs) zero n le = omega arith
fewer_summed (x ∷ xs) (suc m) zero le = absurd (omega (arith, le))
fewer_summed (x ∷ xs) (suc m) (suc n) le =
    let at_most : sum (take (suc m) (x ∷ xs)) ≡ x + sum (take m xs) = sum_by-cons (λ n. n) x (take m xs) in
    let more : sum (take (suc n) (x ∷ xs)) ≡ x + sum (take n xs) = sum_by-cons (λ n. n) x (take n xs) in
    omega (arith, at_most, more, fewer_summed xs m n (omega (arith, le)))

bounds_before : (table : Table) (name : List ℕ) (front : Front) → bounds_end table name front ≤ head_end table name front
bounds_before table name front =
    let more : 1 ≤ length (head_sections table) = omega (arith, head_count table) in
    omega (arith, fewer_summed front.sizes 1 (length (head_sections table)) more)

-- ---- where the dictionaries end

if_more : {X : Type 0} (P Q : X → Type 0) (o : Option X) → ((x : X) → P x → Q x) → IfSome o P → IfSome o Q
if_more P Q None f h = tt
if_more P Q (Some x) f h = f x h

first_ends : (offset size rest total : ℕ) → total ≡ size + rest → offset + size ≤ offset + total
first_ends offset size rest total is = omega (arith, is)

section_ends : (file : List ℕ) (offset : ℕ) (parts : List Part) (sizes : List ℕ) (k n : ℕ) → k < n → IfSome (slice_get (map (placed file) (extents_from offset parts sizes)) k) (λ s. s.place.offset + s.place.length ≤ offset + sum (take n sizes))
section_ends file offset [] sizes k n lt = tt
section_ends file offset (part ∷ parts) [] k n lt = tt
section_ends file offset (part ∷ parts) (size ∷ sizes) k zero lt = absurd (omega (arith, lt))
section_ends file offset (part ∷ parts) (size ∷ sizes) zero (suc n) lt = first_ends offset size (sum (take n sizes)) (sum (take (suc n) (size ∷ sizes))) (sum_by-cons (λ n. n) size (take n sizes))
section_ends file offset (part ∷ parts) (size ∷ sizes) (suc k) (suc n) lt =
    let both : sum (take (suc n) (size ∷ sizes)) ≡ size + sum (take n sizes) = sum_by-cons (λ n. n) size (take n sizes) in
    if_more (λ s. s.place.offset + s.place.length ≤ offset + size + sum (take n sizes)) (λ s. s.place.offset + s.place.length ≤ offset + sum (take (suc n) (size ∷ sizes)))
    (slice_get (map (placed file) (extents_from (offset + size) parts sizes)) k) (λ s le. omega (arith, le, both)) (section_ends file (offset + size) parts sizes k n (omega (arith, lt)))

pub all_within : (table : Table) (name file : List ℕ) (front : Front) (head : Seen) → length front.sizes ≡ length (sections_of table) → head.sections ≡ map (placed file) (extents_of table name front) → DictionariesEnd table head (head_end table name front)
all_within table name file front head each sections = λ column lt.
    let before : column + 1 < length (head_sections table) = omega (arith, lt, head_count table) in
    subst (λ l. IfSome (slice_get l (column + 1)) (λ s. s.place.offset + s.place.length ≤ head_end table name front)) (sym sections)
    (section_ends file (front_size table name) (sections_of table) front.sizes (column + 1) (length (head_sections table)) before)

-- they end there still where more of the head is loaded
pub ends_still : (table : Table) (old new : Seen) (end : ℕ) → new.sections ≡ old.sections → DictionariesEnd table old end → DictionariesEnd table new end
ends_still table old new end same ends = λ column lt.
    subst (λ l. IfSome (slice_get l (column + 1)) (λ s. s.place.offset + s.place.length ≤ end)) (sym same) (ends column lt)

-- a head that is opened has its dictionaries within the head of its file
pub opened_ends : (table : Table) (segment : Stored) (held : Option Files) (head : Seen) → IfSome held (λ files. IsOpened table segment.name segment.file (bytes_of (Some files) segment.file) head) → IfSome held (λ files. EndsInHead table files segment head)
opened_ends table segment None head opened = tt
opened_ends table segment (Some files) head opened = record {
  front = opened.front;
  has = opened.has;
  end = all_within table segment.name segment.file opened.front head opened.has.each opened.sections_are;
}

module _ (table : Table) (segment : Stored) where
  -- a read that is within the front and the bounds, or within the head
  opened_within : (bytes : List ℕ) (to at : ℕ) → at ≤ to → IsWithin bounds_end table segment.name bytes to → IsWithin head_end table segment.name bytes at
  opened_within bytes to at le (inl before) = inl (omega (arith, le, before))
  opened_within bytes to at le (inr (front, has, before)) = inr (front, has, omega (arith, le, before, bounds_before table segment.name front))

  opened_read : (held : Option Files) (to : ℕ) → IfSome held (λ files. IsWithin bounds_end table segment.name (bytes_of (Some files) segment.file) to) → (entry : Entry) → EndsBy segment.file to entry → IsHeadRead table held segment entry
  opened_read None to within entry read = record { file_is = read.file_is; within = tt }
  opened_read (Some files) to within entry read = record {
    file_is = read.file_is;
    within = opened_within (bytes_of (Some files) segment.file) to (entry.offset + entry.count) read.ends within;
  }

  -- the file of a segment was opened
  pub opened_log : (held : Option Files) (a b : Option (List Entry)) → LogsOpened table segment.name segment.file held a b → LogsHeadOf table held segment a b
  opened_log held a b (to, through, within) =
      entries_as (EndsBy segment.file to) (IsHeadRead table held segment) a b (opened_read held to within) (through_ends segment.file 0 to to a b (omega arith) through)

  loaded_read : (files : Files) (front : Front) → HasFront table segment.name (bytes_of (Some files) segment.file) front → (entry : Entry) → EndsBy segment.file (head_end table segment.name front) entry → IsHeadRead table (Some files) segment entry
  loaded_read files front has entry read = record { file_is = read.file_is; within = inr (front, has, read.ends) }

  -- dictionaries of its head were read
  pub loaded_log : (held : Option Files) (head : Seen) (a b : Option (List Entry)) → IsHeadOf table head → AreIn segment.file head.sections → IfSome held (λ files. EndsInHead table files segment head)
      → ((file : List ℕ) (end : ℕ) → AreIn file head.sections → DictionariesEnd table head end → LogsThat (EndsBy file end) a b) → LogsHeadOf table held segment a b
  loaded_log None head a b of within ends logs =
      let end : ℕ = head_end table of.name of.front in
      entries_as (EndsBy segment.file end) (IsHeadRead table None segment) a b (λ entry read. record { file_is = read.file_is; within = tt })
      (logs segment.file end within (all_within table of.name of.file of.front head of.each of.has.sections_are))
  loaded_log (Some files) head a b of within ends logs =
      entries_as (EndsBy segment.file (head_end table segment.name ends.front)) (IsHeadRead table (Some files) segment) a b (loaded_read files ends.front ends.has)
      (logs segment.file (head_end table segment.name ends.front) within ends.end)

  -- they are reads of the file of the segment
  pub head_in : (held : Option Files) (a b : Option (List Entry)) → LogsHeadOf table held segment a b → LogsIn segment.file a b
  head_in held a b logs = entries_as (IsHeadRead table held segment) (λ entry. entry.file ≡ segment.file) a b (λ entry read. read.file_is) logs

  pub loaded_in : (head : Seen) (a b : Option (List Entry)) → IsHeadOf table head → AreIn segment.file head.sections
      → ((file : List ℕ) (end : ℕ) → AreIn file head.sections → DictionariesEnd table head end → LogsThat (EndsBy file end) a b) → LogsIn segment.file a b
  loaded_in head a b of within logs = head_in None a b (loaded_log None head a b of within tt logs)

-- the head of one segment more was read
pub heads_more : (table : Table) (stored : List Stored) (k : ℕ) (segment : Stored) (held now : Option Files) (a b c : Option (List Entry)) → k < length stored → segment ≡ segment_at stored k → now ≡ held → LogsHeadsOf table held stored a b → LogsHeadOf table now segment b c
    → LogsHeadsOf table held stored a c
heads_more table stored k segment held now a b c lt is same before here =
    let P : Entry → Type 0 = λ entry. (segment : Stored) × Contains stored segment × IsHeadRead table held segment entry in
    let own : LogsHeadOf table held (segment_at stored k) b c = subst (λ one. LogsHeadOf table held one b c) is (subst (λ h. LogsHeadOf table h segment b c) same here) in
    entries_then P a b c before (entries_as (IsHeadRead table held (segment_at stored k)) P b c (λ entry read. (segment_at stored k, among stored k lt, read)) own)
