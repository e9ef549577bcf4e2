-- The part that files are published by becomes a copy of a file.
use Rattle.std.proofs.Common.{◌≡◌, ◌∙◌, ◌≤◌, ◌<◌, ◌+◌, ◌↔◌, ℕ, Bool, true, false, cond, zero, suc, List, [], ◌∷◌, ◌++◌, append-nil, append_assoc, drop, length, take, Option, Some, None, IfSome, unwrap_or, Result, Ok, Err, IsErrOf, refl, sym, ap, subst, arith}
use Rattle.std.proofs.lemmas.List.{drop-drop, drop_all}
use Rattle.std.proofs.lemmas.Cmp.{nat_list_cmp_total}
use Rattle.std.specs.FinMap as map
use Rattle.std.specs.Ordering.{eq_by_cmp}
use Rattle.outside.specs.Calls.{AppendsToPart, BeginsPart, PublishesPart}
use Rattle.outside.specs.Counts.{Rose}
use Rattle.outside.specs.Files.{Files, IsLengthOf, Lacks, SameBut, bytes_at, bytes_of, name_order, with_file, without_file}
use Rattle.outside.specs.Seen.{OnlyReads, OnlyWrites, Seen}
use Rattle.outside.specs.declared.depot.DepotFault.{DepotFault}
use Rattle.outside.specs.declared.depot.DepotFault.TheVariants.{Failed}
use Rattle.segment_build.specs.FileReads.{LogsFile, file_then, file_through, file_unread}
use Rattle.segment_build.specs.FileLaws.{after_publish, again, get_put, same_but, same_but_new, same_but_then, same_name}
use Rattle.segment_build.specs.Publishing.{incoming}
use Rattle.table_store.specs.Calls.{CopiesFile}
use Rattle.table_store.specs.Copies.{IsCopied, IsGrown}
use Rattle.table_store.proofs.NameLemmas.{tied_name}
use Rattle.outside.proofs.ReadLemmas.{LogsFilled-through, there}
use Rattle.outside.proofs.SeenLemmas.{reads_so}
use Rattle.outside.specs.Reads.{LogsFilled}

-- ---- files by their names

-- what is put over what was put, and what is taken away after it was put
put_twice : (files : Files) (name x y : List ℕ) → map.insert (map.insert files name x) name y ≡ map.insert files name y
put_twice files name x y =
    let o = nat_list_cmp_total in
    map.same_map o same_name _ _ (λ q. map.get-insert o (map.insert files name x) name y q
    ∙ ap (λ v. cond (eq_by_cmp name_order q name) (Some y) v) (map.get-insert o files name x q)
    ∙ again (eq_by_cmp name_order q name) (Some y) (Some x) (map.get files q)
    ∙ sym (map.get-insert o files name y q))

taken_put : (files : Files) (name bytes : List ℕ) → map.remove (map.insert files name bytes) name ≡ map.remove files name
taken_put files name bytes =
    let o = nat_list_cmp_total in
    map.same_map o same_name _ _ (λ q. map.get-remove o (map.insert files name bytes) name q
    ∙ ap (λ v. cond (eq_by_cmp name_order q name) None v) (map.get-insert o files name bytes q)
    ∙ again (eq_by_cmp name_order q name) None (Some bytes) (map.get files q)
    ∙ sym (map.get-remove o files name q))

-- a file that is not there is taken away
kept_none : (b : Bool) (v : Option (List ℕ)) → (b ≡ true → v ≡ None) → v ≡ cond b None v
kept_none true v none = none refl
kept_none false v none = refl

none_taken : (files : Files) (name : List ℕ) → map.get files name ≡ None → files ≡ map.remove files name
none_taken files name none =
    let o = nat_list_cmp_total in
    map.same_map o same_name _ _ (λ q.
    kept_none (eq_by_cmp name_order q name) (map.get files q) (λ same. ap (map.get files) (tied_name q name same) ∙ none)
    ∙ sym (map.get-remove o files name q))

pub gone_already : (name : List ℕ) (held : Option Files) → Lacks held name → held ≡ without_file name held
gone_already name None lacks = refl
gone_already name (Some files) lacks = ap Some (none_taken files name lacks)

-- ---- what calls leave, one after another

pub copies_none : (file : List ℕ) (a : Seen) → CopiesFile file ⊥ ⊥ a a
copies_none file a = record {
  parts = same_but incoming a.parts;
  log = file_unread file a.log a.log refl;
  reads_later = omega arith;
  read_failed = λ fails. absurd fails;
  reads_still = λ _. refl;
  writes_later = omega arith;
  write_failed = λ fails. absurd fails;
  writes_still = λ _. refl;
}

pub copies_after : (file : List ℕ) (R W : Type 0) (a b d : Seen) → CopiesFile file ⊥ ⊥ a b → CopiesFile file R W b d → CopiesFile file R W a d
copies_after file R W a b d first next =
    let reads : b.read_faults ≡ a.read_faults = first.reads_still (λ fails. fails) in
    let writes : b.write_faults ≡ a.write_faults = first.writes_still (λ fails. fails) in
    record {
      parts = same_but_then incoming a.parts b.parts d.parts first.parts next.parts;
      log = file_then file a.log b.log d.log first.log next.log;
      reads_later = omega (arith, reads, next.reads_later);
      read_failed = λ fails. subst (λ n. Rose n d.read_faults) reads (next.read_failed fails);
      reads_still = λ fine. next.reads_still fine ∙ reads;
      writes_later = omega (arith, writes, next.writes_later);
      write_failed = λ fails. subst (λ n. Rose n d.write_faults) writes (next.write_failed fails);
      writes_still = λ fine. next.writes_still fine ∙ writes;
    }

-- by other names of the failures
pub copies_so : (file : List ℕ) (R W R' W' : Type 0) (a b : Seen) → R ↔ R' → W ↔ W' → CopiesFile file R W a b → CopiesFile file R' W' a b
copies_so file R W R' W' a b r w is = record {
  parts = is.parts;
  log = is.log;
  reads_later = is.reads_later;
  read_failed = λ fails. is.read_failed (r.1 fails);
  reads_still = λ fine. is.reads_still (λ fails. fine (r.0 fails));
  writes_later = is.writes_later;
  write_failed = λ fails. is.write_failed (w.1 fails);
  writes_still = λ fine. is.writes_still (λ fails. fine (w.0 fails));
}

-- a read alone
pub of_reads : (file : List ℕ) (R W : Type 0) (a b : Seen) → ¬ W → OnlyReads R a b → LogsFile file a.log b.log → CopiesFile file R W a b
of_reads file R W a b unwritten is log = record {
  parts = subst (SameBut incoming a.parts) (sym is.parts) (same_but incoming a.parts);
  log = log;
  reads_later = is.later;
  read_failed = is.rose;
  reads_still = is.unchanged;
  writes_later = omega (arith, is.writes);
  write_failed = λ writes. absurd (unwritten writes);
  writes_still = λ _. is.writes;
}

-- a write alone
pub of_writes : (file : List ℕ) (R W : Type 0) (a b : Seen) → ¬ R → OnlyWrites W incoming a b → CopiesFile file R W a b
of_writes file R W a b unread is = record {
  parts = is.parts;
  log = file_unread file a.log b.log is.log;
  reads_later = omega (arith, is.reads);
  read_failed = λ reads. absurd (unread reads);
  reads_still = λ _. is.reads;
  writes_later = is.later;
  write_failed = is.rose;
  writes_still = is.unchanged;
}

-- a part is begun, and grows
begun_but : (r : Result (Unit {0}) DepotFault) (a b : Seen) → BeginsPart incoming r a b → SameBut incoming a.parts b.parts
begun_but (Ok x) a b e = same_but_new incoming [] a.parts b.parts e.begun
begun_but (Err fault) a b e = e.unknown

pub of_begin : (r : Result (Unit {0}) DepotFault) (a b : Seen) → BeginsPart incoming r a b → OnlyWrites (IsErrOf r Failed) incoming a b
of_begin r a b e = record { parts = begun_but r a b e; log = e.writes.log; reads = e.writes.reads; later = e.writes.later; rose = e.writes.rose; unchanged = e.writes.unchanged }

grown_but : (bytes : List ℕ) (r : Result (Unit {0}) DepotFault) (a b : Seen) → AppendsToPart incoming bytes r a b → SameBut incoming a.parts b.parts
grown_but bytes (Ok x) a b e = same_but_new incoming (bytes_of a.parts incoming ++ bytes) a.parts b.parts e.appended
grown_but bytes (Err fault) a b e = e.unknown

pub of_append : (bytes : List ℕ) (r : Result (Unit {0}) DepotFault) (a b : Seen) → AppendsToPart incoming bytes r a b → OnlyWrites (IsErrOf r Failed) incoming a b
of_append bytes r a b e = record { parts = grown_but bytes r a b e; log = e.writes.log; reads = e.writes.reads; later = e.writes.later; rose = e.writes.rose; unchanged = e.writes.unchanged }

-- a write whose outcome is known
pub writes_as : (file : List ℕ) (r : Result (Unit {0}) DepotFault) (R W : Type 0) (a b : Seen) → ¬ R → W ↔ IsErrOf r Failed → OnlyWrites (IsErrOf r Failed) incoming a b → CopiesFile file R W a b
writes_as file r R W a b unread w is = copies_so file R (IsErrOf r Failed) R W a b (λ x. x, λ x. x) (w.1, w.0) (of_writes file R (IsErrOf r Failed) a b unread is)

-- a read, and then a write of what it gave
pub piece_moved : (file bytes : List ℕ) (from to end : ℕ) (r : Result (Unit {0}) DepotFault) (F R W : Type 0) (a b d : Seen) → ¬ F → OnlyReads F a b → LogsFilled file from to end a.log b.log → AppendsToPart incoming bytes r b d → ¬ R → W ↔ IsErrOf r Failed
    → CopiesFile file R W a d
piece_moved file bytes from to end r F R W a b d fine reads log appends unread w =
    copies_after file R W a b d
    (of_reads file ⊥ ⊥ a b (λ none. none) (reads_so F ⊥ a b (λ none. absurd none) (λ fails. absurd (fine fails)) reads) (file_through file from to a.log b.log (LogsFilled-through file from to end a.log b.log log)))
    (writes_as file r R W b d unread w (of_append bytes r b d appends))

-- a look alone
pub looked_first : (file : List ℕ) (F : Type 0) (a b : Seen) → ¬ F → OnlyReads F a b → b.log ≡ a.log → CopiesFile file ⊥ ⊥ a b
looked_first file F a b fine reads log =
    of_reads file ⊥ ⊥ a b (λ none. none) (reads_so F ⊥ a b (λ none. absurd none) (λ fails. absurd (fine fails)) reads) (file_unread file a.log b.log log)

-- the part is published
of_publish : (name : List ℕ) (r : Result (Unit {0}) DepotFault) (a b : Seen) → PublishesPart incoming name r a b → OnlyWrites (IsErrOf r Failed) incoming a b
of_publish name r a b e = record { parts = after_publish r incoming a.parts b.parts e.gone e.unknown; log = e.writes.log; reads = e.writes.reads; later = e.writes.later; rose = e.writes.rose; unchanged = e.writes.unchanged }

-- a look, a copy that ended well, and then the part was published
pub published_after : (file name : List ℕ) (r : Result (Unit {0}) DepotFault) (F R0 W0 R W : Type 0) (a b d e : Seen) → ¬ F → ¬ R0 → ¬ W0 → OnlyReads F a b → b.log ≡ a.log → CopiesFile file R0 W0 b d → PublishesPart incoming name r d e → ¬ R → W ↔ IsErrOf r Failed
    → CopiesFile file R W a e
published_after file name r F R0 W0 R W a b d e fine no_read no_write reads log copies publishes unread w =
    copies_after file R W a b e (looked_first file F a b fine reads log)
    (copies_after file R W b d e (copies_so file R0 W0 ⊥ ⊥ b d ((λ x. no_read x), (λ none. absurd none)) ((λ x. no_write x), (λ none. absurd none)) copies)
    (writes_as file r R W d e unread w (of_publish name r d e publishes)))

-- ---- a file, a piece after the other

-- so many of its bytes are copied
pub record Copying (file : List ℕ) (done : ℕ) (old now : Seen) : Type 0 where
  pub bytes : List ℕ
  pub told : IfSome old.held (λ files. bytes ++ drop done (bytes_of (Some files) file) ≡ bytes_of (Some files) file)
  pub parts : now.parts ≡ with_file incoming bytes old.parts
  pub held : now.held ≡ old.held
  pub copies : CopiesFile file ⊥ ⊥ old now

none_yet : (file : List ℕ) (held : Option Files) → IfSome held (λ files. [] ++ drop 0 (bytes_of (Some files) file) ≡ bytes_of (Some files) file)
none_yet file None = tt
none_yet file (Some files) = refl

pub copying_starts : (file : List ℕ) (old now : Seen) → now.parts ≡ with_file incoming [] old.parts → now.held ≡ old.held → CopiesFile file ⊥ ⊥ old now → Copying file 0 old now
copying_starts file old now parts held copies = record { bytes = []; told = none_yet file old.held; parts = parts; held = held; copies = copies }

-- the part grows
one_part : (told : Option Files) (x bytes : List ℕ) → with_file incoming (bytes_of (with_file incoming x told) incoming ++ bytes) (with_file incoming x told) ≡ with_file incoming (x ++ bytes) told
one_part None x bytes = refl
one_part (Some parts) x bytes =
    ap (λ front. Some (map.insert (map.insert parts incoming x) incoming (front ++ bytes))) (ap (λ o. unwrap_or o []) (get_put parts incoming x))
    ∙ ap Some (put_twice parts incoming x (x ++ bytes))

grown_part : (first between last : Option Files) (x bytes : List ℕ) → between ≡ with_file incoming x first → last ≡ with_file incoming (bytes_of between incoming ++ bytes) between → last ≡ with_file incoming (x ++ bytes) first
grown_part first between last x bytes before now =
    now ∙ ap (λ told. with_file incoming (bytes_of told incoming ++ bytes) told) before ∙ one_part first x bytes

-- the next bytes, and what follows them
cut : (count : ℕ) (left : List ℕ) → take count left ++ drop (length (take count left)) left ≡ left
cut zero left = refl
cut (suc count) [] = refl
cut (suc count) (x ∷ left) = ap (λ l. x ∷ l) (cut count left)

next_bytes : (front piece whole : List ℕ) (done count n : ℕ) → front ++ drop done whole ≡ whole → piece ≡ take count (drop done whole) → n ≡ length piece → (front ++ piece) ++ drop (done + n) whole ≡ whole
next_bytes front piece whole done count n so_far is counts =
    let rest : List ℕ = drop done whole in
    let many : n ≡ length (take count rest) = counts ∙ ap length is in
    append_assoc front piece (drop (done + n) whole)
    ∙ ap (λ l. front ++ (piece ++ l)) (sym (drop-drop n done whole))
    ∙ ap (λ p. front ++ (p ++ drop n rest)) is
    ∙ ap (λ k. front ++ (take count rest ++ drop k rest)) many
    ∙ ap (λ l. front ++ l) (cut count rest)
    ∙ so_far

next_told : (file front piece : List ℕ) (done count n : ℕ) (held : Option Files) → IfSome held (λ files. front ++ drop done (bytes_of (Some files) file) ≡ bytes_of (Some files) file) → IfSome held (λ files. piece ≡ bytes_at files file done count) → n ≡ length piece
    → IfSome held (λ files. (front ++ piece) ++ drop (done + n) (bytes_of (Some files) file) ≡ bytes_of (Some files) file)
next_told file front piece done count n None so_far is counts = tt
next_told file front piece done count n (Some files) so_far is counts = next_bytes front piece (bytes_of (Some files) file) done count n so_far is counts

pub copying_goes : (file : List ℕ) (done count n : ℕ) (old between now : Seen) → Copying file done old between → IsGrown file done count n between now → now.held ≡ between.held → CopiesFile file ⊥ ⊥ between now → Copying file (done + n) old now
copying_goes file done count n old between now i g held copies = record {
  bytes = i.bytes ++ g.bytes;
  told = next_told file i.bytes g.bytes done count n old.held i.told (subst (λ h. IfSome h (λ files. g.bytes ≡ bytes_at files file done count)) i.held g.told) g.count_is;
  parts = grown_part old.parts between.parts now.parts i.bytes g.bytes i.parts g.parts;
  held = held ∙ i.held;
  copies = copies_after file ⊥ ⊥ old between now i.copies copies;
}

-- its end is reached
end_told : (file bytes : List ℕ) (done size : ℕ) (held : Option Files) → IfSome held (λ files. bytes ++ drop done (bytes_of (Some files) file) ≡ bytes_of (Some files) file) → IsLengthOf held file size → size ≤ done → IfSome held (λ files. bytes ≡ bytes_of (Some files) file)
end_told file bytes done size None so_far long le = tt
end_told file bytes done size (Some files) so_far (whole, got, is) le =
    let all : bytes_of (Some files) file ≡ whole = there files file whole got in
    let past : length (bytes_of (Some files) file) ≤ done = omega (arith, ap length all, is, le) in
    sym (append-nil bytes) ∙ ap (λ l. bytes ++ l) (sym (drop_all done (bytes_of (Some files) file) past)) ∙ so_far

pub copied_all : (file : List ℕ) (done size : ℕ) (old now : Seen) → Copying file done old now → IsLengthOf old.held file size → size ≤ done → IsCopied file old now
copied_all file done size old now i long le = record { bytes = i.bytes; told = end_told file i.bytes done size old.held i.told long le; parts = i.parts }

-- or a read gave nothing
none_left : (count : ℕ) (left : List ℕ) → 0 < count → 0 ≡ length (take count left) → take count left ≡ left
none_left zero left some none = absurd (omega arith)
none_left (suc count) [] some none = refl
none_left (suc count) (x ∷ left) some none = absurd (omega arith)

short_told : (file front piece : List ℕ) (done count : ℕ) (held : Option Files) → IfSome held (λ files. front ++ drop done (bytes_of (Some files) file) ≡ bytes_of (Some files) file) → IfSome held (λ files. piece ≡ bytes_at files file done count) → 0 < count → 0 ≡ length piece
    → IfSome held (λ files. front ++ piece ≡ bytes_of (Some files) file)
short_told file front piece done count None so_far is some none = tt
short_told file front piece done count (Some files) so_far is some none =
    ap (λ l. front ++ l) (is ∙ none_left count (drop done (bytes_of (Some files) file)) some (none ∙ ap length is)) ∙ so_far

pub copied_short : (file : List ℕ) (done count n : ℕ) (old between now : Seen) → Copying file done old between → IsGrown file done count n between now → n ≡ 0 → 0 < count → IsCopied file old now
copied_short file done count n old between now i g none some = record {
  bytes = i.bytes ++ g.bytes;
  told = short_told file i.bytes g.bytes done count old.held i.told (subst (λ h. IfSome h (λ files. g.bytes ≡ bytes_at files file done count)) i.held g.told) some (sym none ∙ g.count_is);
  parts = grown_part old.parts between.parts now.parts i.bytes g.bytes i.parts g.parts;
}

-- ---- it is published

published_told : (file kept bytes : List ℕ) (held parts : Option Files) → (held ≡ None) ↔ (parts ≡ None) → IfSome held (λ files. bytes ≡ bytes_of (Some files) file)
    → with_file kept (bytes_of (with_file incoming bytes parts) incoming) held ≡ with_file kept (bytes_of held file) held
published_told file kept bytes None parts both told = refl
published_told file kept bytes (Some files) None both told = absurd (let e : Some files ≡ None = both.1 refl in cc)
published_told file kept bytes (Some files) (Some parts) both told =
    ap (λ o. Some (map.insert files kept (unwrap_or o []))) (get_put parts incoming bytes) ∙ ap (λ b. Some (map.insert files kept b)) told

pub published_so : (file kept : List ℕ) (old now : Seen) (last : Option Files) → (old.held ≡ None) ↔ (old.parts ≡ None) → IsCopied file old now → now.held ≡ old.held → last ≡ with_file kept (bytes_of now.parts incoming) now.held
    → last ≡ with_file kept (bytes_of old.held file) old.held
published_so file kept old now last both is held e =
    e ∙ ap (with_file kept (bytes_of now.parts incoming)) held
    ∙ ap (λ p. with_file kept (bytes_of p incoming) old.held) is.parts
    ∙ published_told file kept is.bytes old.held old.parts both is.told

-- the part is gone
gone_put : (told : Option Files) (bytes : List ℕ) → without_file incoming (with_file incoming bytes told) ≡ without_file incoming told
gone_put None bytes = refl
gone_put (Some parts) bytes = ap Some (taken_put parts incoming bytes)

pub part_gone : (file : List ℕ) (old now : Seen) (last : Option Files) → IsCopied file old now → last ≡ without_file incoming now.parts → last ≡ without_file incoming old.parts
part_gone file old now last is e = e ∙ ap (without_file incoming) is.parts ∙ gone_put old.parts is.bytes
