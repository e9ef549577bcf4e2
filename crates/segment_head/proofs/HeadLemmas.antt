-- The sections of a head, its dictionaries and how many values they have, one after the other.
use Rattle.std.proofs.Common.{◌≡◌, ◌∙◌, ◌<◌, ◌≤◌, ◌+◌, ℕ, zero, suc, List, [], ◌∷◌, ◌++◌, length, map, get_or, take, refl, sym, ap, subst, arith, length-take}
use Rattle.std.proofs.lemmas.List.{get_or-map, get_or-take, map-append, take_more}
use Rattle.std.proofs.lemmas.Option.{slice_get-get_or}
use Rattle.std.specs.List.{AllZip, range_with_len}
use Rattle.table_schema.specs.declared.field.Field.{Field}
use Rattle.table_schema.specs.declared.table.Table.{Table}
use Rattle.value_ids.specs.Dictionary.{Distinct}
use Rattle.dictionary.specs.declared.fault.DictFault.{DictFault}
use Rattle.dictionary.specs.declared.fault.DictFault.TheVariants as reasons
use Rattle.segment_file.specs.declared.fault.HeadFault.{HeadFault}
use Rattle.segment_file.specs.declared.fault.HeadFault.TheVariants as fault
use Rattle.segment_file.specs.declared.part.Part.{Part}
use Rattle.segment_file.specs.declared.section.Section.{Section}
use Rattle.segment_file.specs.Image.{kind_at, kind_or}
use Rattle.segment_file.specs.Reading.{count_at}
use Rattle.segment_head.specs.Reading.{StopsAt, bytes_of_section, heads_of, heads_read}
use Rattle.segment_file.specs.Rules.{AreSpelled, IsSpelled, dictionary_in}
use Rattle.segment_file.proofs.BoundReads.{zip_push}

pub heads_at : (bytes : List ℕ) (sections : List Section) (count i : ℕ) (s : Section) → i < count → i < length sections → s ≡ get_or sections i s → get_or (heads_of count sections bytes) i [] ≡ bytes_of_section bytes s
heads_at bytes sections count i s below lt is =
    get_or-map (bytes_of_section bytes) (take count sections) i s [] (omega (arith, length-take count sections)) ∙ ap (bytes_of_section bytes) (get_or-take count sections i s below ∙ sym is)

pub head_first : (table : Table) (bytes : List ℕ) (sections : List Section) (s : Section) → length table.schema.fields + 1 + length table.settings.trees ≤ length sections → s ≡ get_or sections 0 s → get_or (heads_read table sections bytes) 0 [] ≡ bytes_of_section bytes s
head_first table bytes sections s many is = heads_at bytes sections (length table.schema.fields + 1 + length table.settings.trees) 0 s (omega arith) (omega (arith, many)) is

pub kind_found : (table : Table) (column : ℕ) (f : Field) → column < length table.schema.fields → f ≡ get_or table.schema.fields column f → kind_at table column ≡ f.kind
kind_found table column f lt is = ap kind_or (slice_get-get_or table.schema.fields column f lt) ∙ ap (λ g. g.kind) (sym is)

range_from : (a n last : ℕ) → a + n ≡ last → range_with_len a (suc n) ≡ range_with_len a n ++ last ∷ []
range_from a zero last e = let same : a ≡ last = omega arith in ap (λ x. x ∷ []) same
range_from a (suc n) last e = ap (λ xs. a ∷ xs) (range_from (a + 1) n last (omega arith))

pub ranges_push : (n : ℕ) → range_with_len 0 (n + 1) ≡ range_with_len 0 n ++ n ∷ []
ranges_push n = let e : n + 1 ≡ suc n = omega arith in ap (range_with_len 0) e ∙ range_from 0 n n (omega arith)

-- the dictionary of one more field
pub spelled_more : (table : Table) (rows : ℕ) (bytes here : List ℕ) (sections : List Section) (column : ℕ) (f : Field) (s : Section) (ds : List Distinct) (d : Distinct) → column < length table.schema.fields → length table.schema.fields + 1 ≤ length sections
    → f ≡ get_or table.schema.fields column f → s ≡ get_or sections (column + 1) s → here ≡ bytes_of_section bytes s
    → AreSpelled table rows (heads_read table sections bytes) (range_with_len 0 column) ds
    → IsSpelled f.kind rows here d
    → AreSpelled table rows (heads_read table sections bytes) (range_with_len 0 (column + 1)) (ds ++ d ∷ [])
spelled_more table rows bytes here sections column f s ds d lt many field section bytes_are so_far one =
    let heads : List (List ℕ) = heads_read table sections bytes in
    let R : ℕ → Distinct → Type 0 = λ c x. IsSpelled (kind_at table c) rows (dictionary_in heads c) x in
    let kind : f.kind ≡ kind_at table column = sym (kind_found table column f lt field) in
    let at : here ≡ dictionary_in heads column = bytes_are ∙ sym (heads_at bytes sections (length table.schema.fields + 1 + length table.settings.trees) (column + 1) s (omega arith) (omega arith) section) in
    let now : R column d = subst (λ b. IsSpelled (kind_at table column) rows b d) at (subst (λ k. IsSpelled k rows here d) kind one) in
    subst (λ cs. AllZip R cs (ds ++ d ∷ [])) (sym (ranges_push column)) (zip_push R (range_with_len 0 column) ds column d so_far now)

-- a fault of a dictionary that is one of the file
pub bad_dictionary : (reason : DictFault) (result : HeadFault) (p : Part) → (reason ≡ reasons.NoMemory → result ≡ fault.NoMemory) → result ≡ fault.NotASegment p → reason ≡ reasons.BadDictionary
bad_dictionary reasons.BadDictionary result p memory is = refl
bad_dictionary reasons.NoMemory result p memory is = let e : result ≡ fault.NoMemory = memory refl in absurd cc

-- the field at which the dictionaries stop
pub stops_here : (table : Table) (rows : ℕ) (bytes here : List ℕ) (sections : List Section) (column : ℕ) (f : Field) (s : Section) (ds : List Distinct) → column < length table.schema.fields → length table.schema.fields + 1 ≤ length sections
    → f ≡ get_or table.schema.fields column f → s ≡ get_or sections (column + 1) s → here ≡ bytes_of_section bytes s
    → AreSpelled table rows (heads_read table sections bytes) (range_with_len 0 column) ds
    → ((d : Distinct) → ¬ IsSpelled f.kind rows here d)
    → StopsAt table rows (heads_read table sections bytes) column
stops_here table rows bytes here sections column f s ds lt many field section bytes_are so_far none =
    let heads : List (List ℕ) = heads_read table sections bytes in
    let kind : kind_at table column ≡ f.kind = kind_found table column f lt field in
    let at : dictionary_in heads column ≡ here = heads_at bytes sections (length table.schema.fields + 1 + length table.settings.trees) (column + 1) s (omega arith) (omega arith) section ∙ sym bytes_are in
    record { field = lt; before = ds; spelled = so_far; none = λ d is. none d (subst (λ b. IsSpelled f.kind rows b d) at (subst (λ k. IsSpelled k rows (dictionary_in heads column) d) kind is)) }

-- ---- counts

-- one more column is counted
pub counts_more : (ds : List Distinct) (columns : List ℕ) (i c n : ℕ) (old new : List ℕ) → i < length columns → c ≡ get_or columns i c → n ≡ count_at ds c → old ≡ map (count_at ds) (take i columns) → new ≡ old ++ n ∷ []
    → new ≡ map (count_at ds) (take (i + 1) columns)
counts_more ds columns i c n old new lt is number so_far new_is =
    let one : n ≡ count_at ds (get_or columns i c) = number ∙ ap (count_at ds) is in
    new_is
    ∙ (λ j. so_far j ++ one j ∷ [])
    ∙ sym (map-append (count_at ds) (take i columns) (get_or columns i c ∷ []))
    ∙ ap (map (count_at ds)) (sym (take_more columns i c lt))
