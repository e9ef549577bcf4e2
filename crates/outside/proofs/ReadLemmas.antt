-- Reads that go back to back, and how many bytes they give.
use Rattle.std.proofs.Common.{All, IfSome, ◌≡◌, ◌≢◌, ◌≤◌, ◌<◌, min, ◌+◌, ◌-◌, ℕ, Bool, true, false, List, [], ◌∷◌, ◌++◌, length, take, drop, Option, Some, None, refl, sym, ap, ◌∙◌, subst, arith, append_assoc, append-nil, option_map, unwrap_or, OnErr, Result, Ok, Err, length-drop, ◌⊎◌, inl, inr, if◌then◌else◌}
use Rattle.std.proofs.lemmas.List.{length-take, take_all, take_at, take_min, drop-drop}
use Rattle.std.proofs.Math.Seq.{take-add, take-append-add}
use borrow.Rule.Slice.PartMut.{mid_of, put_mid, post_of, same_len_mid}
use Rattle.std.proofs.lemmas.List.Elements.{All-tail}
use Rattle.std.proofs.lemmas.List.Sums.{sum_by-append, sum_by-cons}
use Rattle.std.proofs.lemmas.Cmp.{nat_list_cmp_total}
use Rattle.std.specs.Cmp.{tied_itself}
use Rattle.std.specs.FinMap as map
use Rattle.std.specs.Ordering.{eq_by_cmp, is_eq}
use Rattle.std.specs.declared.cmp.Ordering.TheVariants.{Less, Equal, Greater}
use Rattle.outside.specs.Files.{Files, Has, bytes_at, bytes_of, name_order, IsLengthOf}
use Rattle.outside.specs.Whole.{IsWhole}
use Rattle.outside.specs.Reads.{AllGive, Entry, Fills, entry_of, logged, overlap, read_by, read_in, Consecutive, LogsFilled, LogsOn, LogsThrough, LogsUpTo, ReadsAt}

-- one more read after reads that go back to back
pub Consecutive-push : (file : List ℕ) (from to n : ℕ) (entries : List Entry) → Consecutive file from to entries → Consecutive file from (to + n) (entries ++ entry_of file to n ∷ [])
Consecutive-push file from to n [] e = (refl, sym e, ap (λ k. k + n) e)
Consecutive-push file from to n (entry ∷ entries) h = (h.0, h.1, Consecutive-push file (from + entry.count) to n entries h.2)

some_append : (log : Option (List Entry)) (entries more : List Entry) → option_map (λ before. before ++ more) (option_map (λ before. before ++ entries) log) ≡ option_map (λ before. before ++ (entries ++ more)) log
some_append None entries more = refl
some_append (Some before) entries more = ap (λ x. Some x) (append_assoc before entries more)

-- no reads
pub LogsThrough-none : (file : List ℕ) (from : ℕ) (log : Option (List Entry)) → LogsThrough file from from log log
LogsThrough-none file from None = ([], refl, refl)
LogsThrough-none file from (Some before) = ([], ap (λ x. Some x) (sym (append-nil before)), refl)

-- one more read
pub LogsThrough-push : (file : List ℕ) (from to n : ℕ) (first log now : Option (List Entry)) → LogsThrough file from to first log → now ≡ logged file to n log → LogsThrough file from (to + n) first now
LogsThrough-push file from to n first log now (entries, is, through) e =
    (entries ++ entry_of file to n ∷ [], e ∙ ap (logged file to n) is ∙ some_append first entries (entry_of file to n ∷ []), Consecutive-push file from to n entries through)

-- a read that gave nothing
pub LogsThrough-end : (file : List ℕ) (from to n : ℕ) (first log now : Option (List Entry)) → LogsThrough file from to first log → now ≡ logged file to n log → n ≡ 0 → LogsThrough file from to first now
LogsThrough-end file from to n first log now through e none =
    subst (λ k. LogsThrough file from k first now) (omega (arith, none)) (LogsThrough-push file from to n first log now through e)

-- the bytes that are told under a name, where there is such a file and where there is none
pub there : (files : Files) (name bytes : List ℕ) → map.get files name ≡ Some bytes → bytes_of (Some files) name ≡ bytes
there files name bytes e = ap (λ (found : Option (List ℕ)). unwrap_or found []) e

pub lacking : (files : Files) (name : List ℕ) → map.get files name ≡ None → bytes_of (Some files) name ≡ []
lacking files name e = ap (λ (found : Option (List ℕ)). unwrap_or found []) e

-- so many bytes of the file from an offset on are at the front of the buffer, and the file has them
abbrev pub Front : Option Files → List ℕ → ℕ → ℕ → List ℕ → Type 0
Front held name offset done into =
    IfSome held (λ files. (done ≤ length (bytes_of (Some files) name) - offset) × (take done into ≡ bytes_at files name offset done))

pub front-starts : (held : Option Files) (name : List ℕ) (offset : ℕ) (into : List ℕ) → Front held name offset 0 into
front-starts None name offset into = tt
front-starts (Some files) name offset into = (omega arith, refl)

-- where a buffer has the front of a list, it has more of it after a read after that front
front_of : (rest into new following : List ℕ) (done n k : ℕ) → done ≤ length into → done + n ≤ length rest → new ≡ take n (drop done rest) ++ following → take done into ≡ take done rest
    → take (done + n) (put_mid done k into new) ≡ take (done + n) rest
front_of rest into new following done n k within lengths is before =
    let first : length (take done into) ≡ done = grind (arith, length-take done into) in
    let more : length (take n (drop done rest)) ≡ n = grind (arith, length-take n (drop done rest), length-drop done rest) in
    let tail : List ℕ = following ++ post_of done k into in
    let shape : put_mid done k into new ≡ take done into ++ (take n (drop done rest) ++ tail) = ap (λ ys. take done into ++ (ys ++ post_of done k into)) is ∙ ap (λ ys. take done into ++ ys) (append_assoc (take n (drop done rest)) following (post_of done k into)) in
    ap (take (done + n)) shape
    ∙ ap (λ m. take (m + n) (take done into ++ (take n (drop done rest) ++ tail))) (sym first)
    ∙ take-append-add (take done into) (take n (drop done rest) ++ tail) n
    ∙ ap (λ xs. xs ++ take n (take n (drop done rest) ++ tail)) before
    ∙ ap (λ xs. take done rest ++ xs) (take_at (take n (drop done rest)) tail n more)
    ∙ sym (take-add done n rest)

pub front-grows : (held : Option Files) (name : List ℕ) (offset done n k : ℕ) (into new : List ℕ) → done ≤ length into → ReadsAt held name (offset + done) n (mid_of done k into) new
    → Front held name offset done into → Front held name offset (done + n) (put_mid done k into new)
front-grows None name offset done n k into new within reads before = tt
front-grows (Some files) name offset done n k into new within (file, got, (count, is)) before =
    let told : bytes_of (Some files) name ≡ file = there files name file got in
    let sizes : length (bytes_of (Some files) name) ≡ length file = ap length told in
    let lengths : done + n ≤ length file - offset = omega (arith, count, before.0, sizes) in
    let rest = drop offset file in
    let shifted : new ≡ take n (drop done rest) ++ drop n (mid_of done k into) = is ∙ ap (λ ds. take n ds ++ drop n (mid_of done k into)) (sym (drop-drop done offset file)) in
    let front : take done into ≡ take done rest = before.1 ∙ ap (λ xs. take done (drop offset xs)) told in
    (omega (arith, lengths, sizes), front_of rest into new (drop n (mid_of done k into)) done n k within (omega (arith, length-drop offset file, lengths)) shifted front ∙ ap (λ xs. take (done + n) (drop offset xs)) (sym told))

-- a file from which a read came is there
pub ReadsAt-has : (held : Option Files) (name : List ℕ) (offset n : ℕ) (old new : List ℕ) → ReadsAt held name offset n old new → Has held name
ReadsAt-has None name offset n old new reads = tt
ReadsAt-has (Some files) name offset n old new (file, got, is) = (file, got)

-- a buffer that is cut after the bytes that were read has just the bytes of the file
pub filled-bytes : (held : Option Files) (name : List ℕ) (offset n count size : ℕ) (into rest bytes : List ℕ) → length into ≡ size → size ≡ count → bytes ≡ take n (take size (into ++ rest)) → Fills held name offset n into
    → IfSome held (λ files. bytes ≡ bytes_at files name offset count)
filled-bytes None name offset n count size into rest bytes lengths same is fills = tt
filled-bytes (Some files) name offset n count size into rest bytes lengths same is (many, front) =
    let file = bytes_of (Some files) name in
    let have : length (drop offset file) ≡ length file - offset = length-drop offset file in
    let least : n ≡ min count (length (drop offset file)) = omega (arith, many, have, lengths, same) in
    is ∙ ap (take n) (take_at into rest size lengths) ∙ front ∙ ap (λ k. take k (drop offset file)) least ∙ take_min count (drop offset file)

-- a read fits the buffer
pub fits_after : (into new : List ℕ) (done n : ℕ) → done ≤ length into → length new ≡ length (mid_of done (length into - done) into) → n ≤ length (mid_of done (length into - done) into)
    → done + n ≤ length (put_mid done (length into - done) into new)
fits_after into new done n within same fits =
    let part : length (mid_of done (length into - done) into) ≡ length into - done = grind (arith, length-take (length into - done) (drop done into), length-drop done into) in
    let whole : length (put_mid done (length into - done) into new) ≡ length into = same_len_mid done (length into - done) into new same in
    omega arith

-- reads of joined lists add up
pub read_in-append : (earlier later : List Entry) (file : List ℕ) (from to : ℕ) → read_in (earlier ++ later) file from to ≡ read_in earlier file from to + read_in later file from to
read_in-append earlier later file from to = sum_by-append (λ entry. read_by entry file from to) earlier later

pub read_in-cons : (entry : Entry) (entries : List Entry) (file : List ℕ) (from to : ℕ) → read_in (entry ∷ entries) file from to ≡ read_by entry file from to + read_in entries file from to
read_in-cons entry entries file from to = sum_by-cons (λ e. read_by e file from to) entry entries

other_name : (x y : List ℕ) → x ≢ y → eq_by_cmp name_order x y ≡ false
other_name x y ne =
    elim (name_order x y) as (λ r. name_order x y ≡ r → is_eq r ≡ false) [
      | Less ↦ λ e. refl
      | Equal ↦ λ e. absurd (ne (map.slice_cmp-IsAntisymmetric map.nat_cmp-IsAntisymmetric x y e))
      | Greater ↦ λ e. refl
    ] refl

-- a read of another file adds nothing
pub read_by-other : (entry : Entry) (file : List ℕ) (from to : ℕ) → entry.file ≢ file → read_by entry file from to ≡ 0
read_by-other entry file from to ne = ap (λ b. if b then overlap entry.offset (entry.offset + entry.count) from to else 0) (other_name entry.file file ne)

-- a read of this file adds the bytes that it has in common with the stretch
pub read_by-same : (entry : Entry) (file : List ℕ) (from to : ℕ) → entry.file ≡ file → read_by entry file from to ≡ overlap entry.offset (entry.offset + entry.count) from to
read_by-same entry file from to is =
    ap (λ r. if is_eq r then overlap entry.offset (entry.offset + entry.count) from to else 0) (ap (name_order entry.file) (sym is) ∙ tied_itself nat_list_cmp_total entry.file)

at_most : (b : Bool) (x : ℕ) → x ≡ 0 → (if b then x else 0) ≡ 0
at_most true x e = e
at_most false x e = refl

-- a read that ends before the stretch, or begins after it, adds nothing
pub read_by-apart : (entry : Entry) (file : List ℕ) (from to : ℕ) → (entry.offset + entry.count ≤ from) ⊎ (to ≤ entry.offset) → read_by entry file from to ≡ 0
read_by-apart entry file from to (inl before) = at_most _ (overlap entry.offset (entry.offset + entry.count) from to) (omega (arith, before))
read_by-apart entry file from to (inr following) = at_most _ (overlap entry.offset (entry.offset + entry.count) from to) (omega (arith, following))

-- reads that go back to back do not go back
pub Consecutive-le : (file : List ℕ) (a b : ℕ) (entries : List Entry) → Consecutive file a b entries → a ≤ b
Consecutive-le file a b [] e = omega (arith, e)
Consecutive-le file a b (entry ∷ entries) h = let rest : a + entry.count ≤ b = Consecutive-le file (a + entry.count) b entries h.2 in omega arith

-- reads that go back to back, and more from where they end
pub Consecutive-append : (file : List ℕ) (a b c : ℕ) (entries more : List Entry) → Consecutive file a b entries → Consecutive file b c more → Consecutive file a c (entries ++ more)
Consecutive-append file a b c [] more e h = subst (λ k. Consecutive file k c more) (sym e) h
Consecutive-append file a b c (entry ∷ entries) more h after = (h.0, h.1, Consecutive-append file (a + entry.count) b c entries more h.2 after)

-- stretches that touch have together what they have each
touching : (a m b from to : ℕ) → a ≤ m → m ≤ b → overlap a m from to + overlap m b from to ≡ overlap a b from to
touching a m b from to p q = omega arith

-- reads that go back to back from a to b give just the bytes of that stretch
pub read_in-through : (entries : List Entry) (file : List ℕ) (a b from to : ℕ) → Consecutive file a b entries → read_in entries file from to ≡ overlap a b from to
read_in-through [] file a b from to e = omega (arith, e)
read_in-through (entry ∷ entries) file a b from to h =
    let rest : read_in entries file from to ≡ overlap (a + entry.count) b from to = read_in-through entries file (a + entry.count) b from to h.2 in
    let here : read_by entry file from to ≡ overlap a (a + entry.count) from to = read_by-same entry file from to h.0 ∙ ap (λ k. overlap k (k + entry.count) from to) h.1 in
    let lengths : a + entry.count ≤ b = Consecutive-le file (a + entry.count) b entries h.2 in
    read_in-cons entry entries file from to ∙ ap (λ k. k + read_in entries file from to) here ∙ ap (λ k. overlap a (a + entry.count) from to + k) rest ∙ touching a (a + entry.count) b from to (omega arith) lengths

-- reads of other files add nothing
pub read_in-others : (entries : List Entry) (file : List ℕ) (from to : ℕ) → All (λ entry. entry.file ≢ file) entries → read_in entries file from to ≡ 0
read_in-others [] file from to h = refl
read_in-others (entry ∷ entries) file from to h =
    read_in-cons entry entries file from to ∙ ap (λ k. k + read_in entries file from to) (read_by-other entry file from to (h 0 entry (omega arith))) ∙ ap (λ k. 0 + k) (read_in-others entries file from to (All-tail (λ e. e.file ≢ file) entry entries h))

-- and none of another file
pub read_in-through_other : (entries : List Entry) (file other : List ℕ) (a b from to : ℕ) → Consecutive other a b entries → other ≢ file → read_in entries file from to ≡ 0
read_in-through_other [] file other a b from to h ne = refl
read_in-through_other (entry ∷ entries) file other a b from to h ne =
    read_in-cons entry entries file from to
    ∙ ap (λ k. k + read_in entries file from to) (read_by-other entry file from to (subst (λ f. f ≢ file) (sym h.0) ne))
    ∙ ap (λ k. 0 + k) (read_in-through_other entries file other (a + entry.count) b from to h.2 ne)

-- logs that grow one after another
pub LogsThrough-append : (file : List ℕ) (a b c : ℕ) (first between last : Option (List Entry)) → LogsThrough file a b first between → LogsThrough file b c between last → LogsThrough file a c first last
LogsThrough-append file a b c first between last (entries, is, through) (more, after, on) =
    (entries ++ more, after ∙ ap (λ log. option_map (λ before. before ++ more) log) is ∙ some_append first entries more, Consecutive-append file a b c entries more through on)

-- ---- reads that each give bytes

AllGive-push : (file : List ℕ) (from to n : ℕ) (entries : List Entry) → 0 < n → AllGive file from to entries → AllGive file from (to + n) (entries ++ entry_of file to n ∷ [])
AllGive-push file from to n [] some e = (refl, sym e, some, ap (λ k. k + n) e)
AllGive-push file from to n (entry ∷ entries) some h = (h.0, h.1, h.2, AllGive-push file (from + entry.count) to n entries some h.3)

AllGive-back : (file : List ℕ) (from to : ℕ) (entries : List Entry) → AllGive file from to entries → Consecutive file from to entries
AllGive-back file from to [] e = e
AllGive-back file from to (entry ∷ entries) h = (h.0, h.1, AllGive-back file (from + entry.count) to entries h.3)

-- no reads
pub LogsOn-none : (file : List ℕ) (from : ℕ) (log : Option (List Entry)) → LogsOn file from from log log
LogsOn-none file from None = ([], refl, refl)
LogsOn-none file from (Some before) = ([], ap (λ x. Some x) (sym (append-nil before)), refl)

-- one more read
pub LogsOn-push : (file : List ℕ) (from to n : ℕ) (first log now : Option (List Entry)) → LogsOn file from to first log → now ≡ logged file to n log → 0 < n → LogsOn file from (to + n) first now
LogsOn-push file from to n first log now (entries, is, on) e some =
    (entries ++ entry_of file to n ∷ [], e ∙ ap (logged file to n) is ∙ some_append first entries (entry_of file to n ∷ []), AllGive-push file from to n entries some on)

-- reads that each give bytes go back to back
pub LogsOn-through : (file : List ℕ) (from to : ℕ) (first now : Option (List Entry)) → LogsOn file from to first now → LogsThrough file from to first now
LogsOn-through file from to first now (entries, is, on) = (entries, is, AllGive-back file from to entries on)

pub on-err : {A E : Type 0} (result : Result A E) (P : Type 0) → P → OnErr result P
on-err (Ok x) P h = tt
on-err (Err e) P h = h

-- no reads
pub logs-none : (file : List ℕ) (from limit : ℕ) (log now : Option (List Entry)) → from ≤ limit → now ≡ log → LogsUpTo file from limit log now
logs-none file from limit log now within same = subst (LogsUpTo file from limit log) (sym same) (from, within, LogsThrough-none file from log)

-- reads that each give bytes, up to some offset that is within a limit
pub logs-up : (file : List ℕ) (from to limit : ℕ) (first log now : Option (List Entry)) → to ≤ limit → LogsOn file from to first log → now ≡ log → LogsUpTo file from limit first now
logs-up file from to limit first log now within on same = (to, within, subst (LogsThrough file from to first) (sym same) (LogsOn-through file from to first log on))

-- the last read gave nothing
pub LogsFilled-short : (file : List ℕ) (from to n end : ℕ) (first log now : Option (List Entry)) → LogsOn file from to first log → now ≡ logged file to n log → n ≡ 0 → to < end → LogsFilled file from to end first now
LogsFilled-short file from to n end first log now on e none short = inr (log, short, on, e ∙ ap (λ k. logged file to k log) none)

-- reads up to an end, or up to where one gave nothing, go back to back
pub LogsFilled-through : (file : List ℕ) (from to end : ℕ) (first now : Option (List Entry)) → LogsFilled file from to end first now → LogsThrough file from to first now
LogsFilled-through file from to end first now (inl (reached, on)) = LogsOn-through file from to first now on
LogsFilled-through file from to end first now (inr (between, short, on, e)) = LogsThrough-end file from to 0 first between now (LogsOn-through file from to first between on) e refl

-- reads that reached their end each gave bytes
pub LogsFilled-full : (file : List ℕ) (from to end : ℕ) (first now : Option (List Entry)) → end ≤ to → LogsFilled file from to end first now → LogsOn file from to first now
LogsFilled-full file from to end first now within (inl (reached, on)) = on
LogsFilled-full file from to end first now within (inr (between, short, on, e)) = absurd (omega (arith, within, short))

-- reads that begin where the file does
pub LogsFilled-start : (file : List ℕ) (to end : ℕ) (first now : Option (List Entry)) → LogsFilled file 0 (0 + to) (0 + end) first now → LogsFilled file 0 to end first now
LogsFilled-start file to end first now filled =
    let same : (n : ℕ) → 0 + n ≡ n = λ n. omega arith in
    subst (λ t. LogsFilled file 0 t end first now) (same to) (subst (λ e. LogsFilled file 0 (0 + to) e first now) (same end) filled)

same_bytes : {b file : List ℕ} → Some b ≡ Some file → b ≡ file
same_bytes e = cc

-- the bytes of a whole file, as long as it is told to be
pub whole-bytes : (held now : Option Files) (name bytes : List ℕ) (lengths limit : ℕ) → now ≡ held → IsLengthOf held name lengths → lengths ≤ limit → IfSome now (λ files. bytes ≡ bytes_at files name 0 lengths) → IsWhole held name limit bytes
whole-bytes None now name bytes lengths limit same told within is = tt
whole-bytes (Some files) now name bytes lengths limit same (file, got, count) within is =
    let read : bytes ≡ bytes_at files name 0 lengths = subst (λ h. IfSome h (λ fs. bytes ≡ bytes_at fs name 0 lengths)) same is in
    let whole : take lengths file ≡ file = take_all lengths file (omega (arith, count)) in
    (file, got, (read ∙ ap (take lengths) (there files name file got) ∙ whole, omega (arith, count)))

-- of a told file as many bytes are read as it has
pub LogsFilled-told : (held : Option Files) (name bytes : List ℕ) (lengths limit : ℕ) (first now : Option (List Entry)) → IsLengthOf held name lengths → IsWhole held name limit bytes
    → LogsFilled name 0 (length bytes) lengths first now → IfSome held (λ _. LogsOn name 0 (length bytes) first now)
LogsFilled-told None name bytes lengths limit first now told is filled = tt
LogsFilled-told (Some files) name bytes lengths limit first now (file, got, count) (other, got', is) (inl (reached, on)) = on
LogsFilled-told (Some files) name bytes lengths limit first now (file, got, count) (other, got', is) (inr (between, short, on, e)) =
    let same : length file ≡ length bytes = ap length (same_bytes (sym got ∙ got') ∙ sym is.0) in
    absurd (omega (arith, count, same, short))
