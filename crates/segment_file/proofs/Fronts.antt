-- What the front of a file says is read back from its bytes.
use Rattle.std.proofs.Common.{◌≡◌, ◌∙◌, ◌<◌, ◌+◌, ◌-◌, ◌*◌, ◌^◌, ℕ, List, [], ◌∷◌, ◌++◌, length, take, drop, get_or, sum, refl, sym, ap, ap₂, subst, arith, append_assoc, length-drop}
use Rattle.std.proofs.Math.Seq.{drop-append_seam}
use Rattle.std.proofs.lemmas.List.{drop-drop, drop_more, length-append, take_all}
use Rattle.std.proofs.lemmas.List.Sums.{sum_by-cons, sum_by-drop_more}
use Rattle.std.proofs.lemmas.Nat.{from_be_bytes-to_be_bytes_4, from_be_bytes-to_be_bytes_8}
use Rattle.std.specs.Int.{w32, w64, from_be_bytes}
use Rattle.dictionary.specs.Spelling.{counted}
use Rattle.table_schema.specs.declared.table.Table.{Table}
use Rattle.segment_file.specs.declared.part.Part.{Part}
use Rattle.segment_file.specs.Front.{Extent, Front, directory, extent_bytes, extents_from, extents_of, file_end, front_bytes, front_size, head_end, counts_bytes, header_bytes, long, short, title_bytes}
use Rattle.segment_file.specs.Parts.{sections_of}
use Rattle.segment_file.specs.Reading.{sizes_from}
use Rattle.segment_file.specs.Rules.{IsFront}

header_size : (table : Table) (name : List ℕ) (f : Front) → length (header_bytes table name f) ≡ 38 + length name
unfolding counted short long
header_size table name f =
    omega (
      arith,
      length-append (title_bytes f name) (counts_bytes (length table.schema.fields) (length (sections_of table)) (head_end table name f) (file_end table name f)),
    )

length-entry : (e : Extent) → length (extent_bytes e) ≡ 19
unfolding short long
length-entry e = refl

-- an entry is read, and the others are after it
entry_size : (e : Extent) (rest : List ℕ) → e.size < 2 ^ 64 → from_be_bytes w64 (take 8 (drop 11 (extent_bytes e ++ rest))) ≡ e.size
unfolding short long
entry_size e rest small = from_be_bytes-to_be_bytes_8 e.size small

entry_following : (e : Extent) (rest : List ℕ) → drop 19 (extent_bytes e ++ rest) ≡ rest
unfolding short long
entry_following e rest = refl

pub directory_size : (offset : ℕ) (parts : List Part) (sizes : List ℕ) → length sizes ≡ length parts → length (directory (extents_from offset parts sizes)) ≡ 19 * length parts
directory_size offset [] sizes each = refl
directory_size offset (p ∷ parts) [] each = absurd (omega arith)
directory_size offset (p ∷ parts) (size ∷ sizes) each =
    let e : Extent = record { part = p; offset = offset; size = size } in
    omega (arith, directory_size (offset + size) parts sizes (omega arith), length-entry e, length-append (extent_bytes e) (directory (extents_from (offset + size) parts sizes)))

pub sizes_back : (offset : ℕ) (parts : List Part) (sizes : List ℕ) → length sizes ≡ length parts → sum sizes < 2 ^ 64 → sizes_from parts (directory (extents_from offset parts sizes)) ≡ sizes
sizes_back offset [] [] each small = refl
sizes_back offset [] (size ∷ sizes) each small = absurd (omega arith)
sizes_back offset (p ∷ parts) [] each small = absurd (omega arith)
sizes_back offset (p ∷ parts) (size ∷ sizes) each small =
    let e : Extent = record { part = p; offset = offset; size = size } in
    let rest : List ℕ = directory (extents_from (offset + size) parts sizes) in
    let all : sum (size ∷ sizes) ≡ size + sum sizes = sum_by-cons (λ n. n) size sizes in
    ap₂ ◌∷◌ (entry_size e rest (omega arith)) (ap (sizes_from parts) (entry_following e rest) ∙ sizes_back (offset + size) parts sizes (omega arith) (omega arith))

-- the rows that bytes say
abbrev pub rows_in : List ℕ → ℕ
rows_in bytes = from_be_bytes w32 (take 4 (drop 12 bytes))

rows_back : (table : Table) (name : List ℕ) (f : Front) → f.rows < 2 ^ 32 → rows_in (front_bytes table name f) ≡ f.rows
unfolding counted
rows_back table name f small = from_be_bytes-to_be_bytes_4 f.rows small

directory_following : (table : Table) (name : List ℕ) (f : Front) → drop (38 + length name) (front_bytes table name f) ≡ directory (extents_of table name f)
directory_following table name f =
    ap (λ n. drop n (front_bytes table name f)) (sym (header_size table name f)) ∙ drop-append_seam (header_bytes table name f) (directory (extents_of table name f))

-- what the bytes say, as they are read
abbrev pub said : Table → List ℕ → List ℕ → Front
said table name bytes = record { format = 1; rows = rows_in bytes; sizes = sizes_from (sections_of table) (drop (38 + length name) bytes) }

-- bytes are of no front but the one that they say
pub is_said : (table : Table) (name bytes : List ℕ) (size : ℕ) (f : Front) → IsFront table name bytes size f → f ≡ said table name bytes
is_said table name bytes size f is =
    let whole = is.whole in
    let small = is.small in
    let at_most : f.rows < 2 ^ 32 = omega (arith, is.at_most) in
    let rows : rows_in bytes ≡ f.rows = ap rows_in is.spelled ∙ rows_back table name f at_most in
    let sizes : sizes_from (sections_of table) (drop (38 + length name) bytes) ≡ f.sizes =
    ap (λ b. sizes_from (sections_of table) (drop (38 + length name) b)) is.spelled
    ∙ ap (sizes_from (sections_of table)) (directory_following table name f)
    ∙ sizes_back (front_size table name) (sections_of table) f.sizes is.each (omega arith) in
    (λ i. record { format = is.known i; rows = sym rows i; sizes = sym sizes i })

-- the format that bytes say
abbrev pub format_in : List ℕ → ℕ
format_in bytes = from_be_bytes w32 (take 4 (drop 8 bytes))

format_back : (table : Table) (name : List ℕ) (f : Front) → f.format < 2 ^ 32 → format_in (front_bytes table name f) ≡ f.format
unfolding counted
format_back table name f small = from_be_bytes-to_be_bytes_4 f.format small

-- bytes are of one front
pub fronts_tell : (table : Table) (name : List ℕ) (f g : Front) → f.format < 2 ^ 32 → g.format < 2 ^ 32 → f.rows < 2 ^ 32 → g.rows < 2 ^ 32 → length f.sizes ≡ length (sections_of table) → length g.sizes ≡ length (sections_of table)
    → sum f.sizes < 2 ^ 64 → sum g.sizes < 2 ^ 64 → front_bytes table name f ≡ front_bytes table name g → f ≡ g
fronts_tell table name f g ff gf fr gr f_each g_each fs gs e =
    let format : f.format ≡ g.format = sym (format_back table name f ff) ∙ ap format_in e ∙ format_back table name g gf in
    let rows : f.rows ≡ g.rows = sym (rows_back table name f fr) ∙ ap rows_in e ∙ rows_back table name g gr in
    let back : List ℕ → List ℕ = λ bytes. sizes_from (sections_of table) (drop (38 + length name) bytes) in
    let f_back : back (front_bytes table name f) ≡ f.sizes = ap (sizes_from (sections_of table)) (directory_following table name f) ∙ sizes_back (front_size table name) (sections_of table) f.sizes f_each fs in
    let g_back : back (front_bytes table name g) ≡ g.sizes = ap (sizes_from (sections_of table)) (directory_following table name g) ∙ sizes_back (front_size table name) (sections_of table) g.sizes g_each gs in
    let sizes : f.sizes ≡ g.sizes = sym f_back ∙ ap back e ∙ g_back in
    (λ i. record { format = format i; rows = rows i; sizes = sizes i })

-- what was read is what they say
pub said_is : (table : Table) (name bytes : List ℕ) (parts : List Part) (f : Front) → parts ≡ sections_of table → f.format ≡ 1 → f.rows ≡ rows_in bytes
    → f.sizes ≡ sizes_from parts (take (length bytes - (38 + length name)) (drop (38 + length name) bytes)) → f ≡ said table name bytes
said_is table name bytes parts f sections format rows sizes =
    let n : ℕ = 38 + length name in
    let tail : take (length bytes - n) (drop n bytes) ≡ drop n bytes = take_all (length bytes - n) (drop n bytes) (omega (arith, length-drop n bytes)) in
    let same : f.sizes ≡ sizes_from (sections_of table) (drop n bytes) = sizes ∙ ap₂ sizes_from sections tail in
    (λ i. record { format = format i; rows = rows i; sizes = same i })

-- where the front that was read is none, there is none
pub no_other : (table : Table) (name bytes : List ℕ) (size : ℕ) (ours : Front) → ours ≡ said table name bytes → ¬ IsFront table name bytes size ours → (f : Front) → ¬ IsFront table name bytes size f
no_other table name bytes size ours is none f front = none (subst (IsFront table name bytes size) (is_said table name bytes size f front ∙ sym is) front)

pub sizes_count : (parts : List Part) (bytes : List ℕ) → length (sizes_from parts bytes) ≡ length parts
sizes_count [] bytes = refl
sizes_count (p ∷ parts) bytes = omega (arith, sizes_count parts (drop 19 bytes))

-- the title, the counts and the directory are a front
pub front_written : (table : Table) (name : List ℕ) (f : Front) (start head file : ℕ) (none title counts all : List ℕ) → start ≡ front_size table name → head ≡ head_end table name f → file ≡ file_end table name f → none ≡ []
    → title ≡ none ++ title_bytes f name
    → counts ≡ title ++ counts_bytes (length table.schema.fields) (length (sections_of table)) head file
    → all ≡ counts ++ directory (extents_from start (sections_of table) f.sizes)
    → all ≡ front_bytes table name f
front_written table name f start head file none title counts all start_is head_is file_is none_is title_is counts_is all_is =
    let fields : ℕ = length table.schema.fields in
    let number : ℕ = length (sections_of table) in
    let t : title ≡ title_bytes f name = title_is ∙ ap (λ bytes. bytes ++ title_bytes f name) none_is in
    let c : counts ≡ header_bytes table name f = counts_is ∙ (λ i. t i ++ counts_bytes fields number (head_is i) (file_is i)) in
    all_is ∙ (λ i. c i ++ directory (extents_from (start_is i) (sections_of table) f.sizes))

pub front_bytes_size : (table : Table) (name : List ℕ) (f : Front) → length f.sizes ≡ length (sections_of table) → length (front_bytes table name f) ≡ front_size table name
front_bytes_size table name f each =
    omega (arith, length-append (header_bytes table name f) (directory (extents_of table name f)), header_size table name f, directory_size (front_size table name) (sections_of table) f.sizes each)

-- ---- steps of loops

-- one more size is read
pub size_read : (parts : List Part) (bytes sizes : List ℕ) (at : ℕ) (d : Part) → at < length parts → sizes ++ sizes_from (drop at parts) (drop (19 * at) bytes) ≡ sizes_from parts bytes
    → (sizes ++ from_be_bytes w64 (take 8 (drop (19 * at + 11) bytes)) ∷ []) ++ sizes_from (drop (at + 1) parts) (drop (19 * (at + 1)) bytes) ≡ sizes_from parts bytes
size_read parts bytes sizes at d lt so_far =
    let rest : List ℕ = drop (19 * at) bytes in
    let here : from_be_bytes w64 (take 8 (drop (19 * at + 11) bytes)) ≡ from_be_bytes w64 (take 8 (drop 11 rest)) = ap (λ b. from_be_bytes w64 (take 8 b)) (sym (drop-drop 11 (19 * at) bytes)) in
    let next : drop (19 * (at + 1)) bytes ≡ drop 19 rest = (let e : 19 * (at + 1) ≡ 19 * at + 19 = omega arith in ap (λ n. drop n bytes) e) ∙ sym (drop-drop 19 (19 * at) bytes) in
    append_assoc sizes (from_be_bytes w64 (take 8 (drop (19 * at + 11) bytes)) ∷ []) (sizes_from (drop (at + 1) parts) (drop (19 * (at + 1)) bytes))
    ∙ ap₂ (λ n b. sizes ++ n ∷ sizes_from (drop (at + 1) parts) b) here next
    ∙ ap (λ ps. sizes ++ sizes_from ps rest) (sym (drop_more parts at d lt))
    ∙ so_far

-- one more entry is written
pub entry_written : (parts : List Part) (sizes old out new : List ℕ) (start offset at : ℕ) (d : Part) → at < length parts → at < length sizes
    → new ≡ out ++ extent_bytes (record { part = get_or parts at d; offset = offset; size = get_or sizes at 0 })
    → out ++ directory (extents_from offset (drop at parts) (drop at sizes)) ≡ old ++ directory (extents_from start parts sizes)
    → new ++ directory (extents_from (offset + get_or sizes at 0) (drop (at + 1) parts) (drop (at + 1) sizes)) ≡ old ++ directory (extents_from start parts sizes)
entry_written parts sizes old out new start offset at d lp ls is so_far =
    let e : Extent = record { part = get_or parts at d; offset = offset; size = get_or sizes at 0 } in
    let rest : List ℕ = directory (extents_from (offset + get_or sizes at 0) (drop (at + 1) parts) (drop (at + 1) sizes)) in
    ap (λ bytes. bytes ++ rest) is
    ∙ append_assoc out (extent_bytes e) rest
    ∙ ap₂ (λ ps ss. out ++ directory (extents_from offset ps ss)) (sym (drop_more parts at d lp)) (sym (drop_more sizes at 0 ls))
    ∙ so_far

-- where the section after the next begins
pub next_offset : (sizes : List ℕ) (total offset at : ℕ) → at < length sizes → offset + sum (drop at sizes) ≡ total → offset + get_or sizes at 0 + sum (drop (at + 1) sizes) ≡ total
next_offset sizes total offset at lt so_far = omega (arith, sum_by-drop_more (λ n. n) sizes at 0 lt)
