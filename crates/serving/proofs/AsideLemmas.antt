-- A segment goes while cursors are open: the cursors that are left, and what the call answers.
use Rattle.std.proofs.Common.{◌≡◌, ◌≢◌, ◌∙◌, ◌+◌, ◌<◌, ◌||◌, ◌⊎◌, inl, inr, ℕ, zero, suc, Bool, true, false, cond, nat_eq, List, [], ◌∷◌, ◌++◌, drop, get_or, length, map, set, Option, Some, None, IfSome, Ok, Err, refl, sym, ap, subst, arith, is_some, option_map, slice_get}
use Rattle.std.specs.Prelude.{IsSomeAnd}
use Rattle.std.specs.FinMap as finite
use Rattle.std.specs.Global.{Vec}
use Rattle.std.specs.List.{AllByRecursion, IsDistinct, list_any}
use borrow.Author.Tests.{eqb-true}
use Rattle.std.proofs.lemmas.Bool.{false≢true}
use Rattle.std.proofs.lemmas.Cmp.{nat_list_cmp_total}
use Rattle.std.proofs.lemmas.List.{drop-map, length-map}
use Rattle.outside.specs.Files.{Files, Lacks, bytes_of, with_file, without_file}
use Rattle.values.specs.declared.value.Value.{Value}
use Rattle.table_schema.specs.declared.table.Table.{Table}
use Rattle.segment_build.specs.Growing.{trees_fit}
use Rattle.segment_file.specs.Image.{CanHold, image}
use Rattle.segment_file.specs.Names.{IsSegmentName, file_of}
use Rattle.segment_file.specs.Ordered.{ordered}
use Rattle.state_pool.specs.Pool.{Pool}
use Rattle.table_store.specs.Kept.{IsKeptName, kept_name}
use Rattle.table_store.specs.Segments.{HasSegment, LacksSegment}
use Rattle.table_store.specs.Stands.{DropStands, KeptIdle, ReplaceStands, Stands, segment_file}
use Rattle.table_store.specs.State.{HasTable, Texts}
use Rattle.table_store.specs.declared.fault.StoreFault.{StoreFault}
use Rattle.table_store.specs.declared.fault.StoreFault.TheVariants as store
use Rattle.table_store.proofs.FilesLemmas.{same_name as one_name}
use Rattle.table_store.proofs.KeptLemmas.{live_name}
use Rattle.table_store.proofs.KeyLemmas.{segment_there}
use Rattle.query_executor.proofs.EndLemmas.{Failed, own_fault}
use Rattle.cursor_serve.specs.Machine.{After, Cursor as Kept, Drop, Listed, Live, Machine, Replace, Version, dropped, dropped_by, has_number, is_awaited, replaced, replaced_by}
use Rattle.cursor_serve.specs.Numbered.{IsNumbered, IsOneOf}
use Rattle.cursor_serve.specs.Sound.{IsSound}
use Rattle.cursor_serve.specs.ServingStands.{BothKept, OpenCursor, ServingStands, first_of, is_live_by, kept_files, kept_under, segment_of, segments_of, stands_as}
use Rattle.cursor_serve.proofs.FetchLemmas.{itself, tied}
use Rattle.cursor_serve.proofs.NumberedLemmas.{stays_numbered}
use Rattle.cursor_serve.proofs.SoundLemmas.{any_found, stays_sound}
use Rattle.serving.specs.Aside.{MayHaveCopy, files_aside, is_awaited_in, kept_if, stands_aside, with_copy, with_files, without_name}
use Rattle.serving.specs.Calls.{HasNoPlaceFor, IsAnsweredAs, SameButOf, Serves}
use Rattle.serving.specs.Closed.{has_file}
use Rattle.serving.specs.Faults.{of_store}
use Rattle.cursors.specs.Kept.{AreCursors, IsCursorIn, IsOver, cursor_in, cursors_in, owners_of, same_name}
use Rattle.cursors.specs.declared.cursor.Cursor.{Cursor}
use Rattle.serving.specs.declared.fault.ServeFault.{ServeFault}
use Rattle.serving.specs.declared.fault.ServeFault.TheVariants as fault
use Rattle.serving.proofs.CloseLemmas.{differ, has_mapped, mapped_has, number_of}
use Rattle.serving.proofs.ClosedLemmas.{IsAtPlace, at_of, under_at}
use Rattle.serving.proofs.LeavingLemmas.{Leaves, awaited_in, first_kept, file_one, leaves_stand, leaving, named_kept, of_cursor, open_aside, stands_live}
use Rattle.serving.proofs.OpenLemmas.{segments_got}

or_true : (a : Bool) → (a || true) ≡ true
or_true true = refl
or_true false = refl

or_false : (a : Bool) → (a || false) ≡ a
or_false true = refl
or_false false = refl

or_first : (a b : Bool) → a ≡ true → (a || b) ≡ true
or_first true b is = refl
or_first false b is = absurd (false≢true is)

or_next : (a b : Bool) → b ≡ true → (a || b) ≡ true
or_next a b is = ap (λ b. a || b) is ∙ or_true a

same_bool : (a b : Bool) → (a ≡ true → b ≡ true) → (b ≡ true → a ≡ true) → a ≡ b
same_bool true b to from = sym (to refl)
same_bool false true to from = from refl
same_bool false false to from = refl

-- ---- cursors with other files

pub with_last : (fs : List (Vec (Option (List ℕ)))) (f : Vec (Option (List ℕ))) (cs : List Cursor) (c : Cursor) → length fs < length cs → get_or cs (length fs) c ≡ c
    → with_files (fs ++ f ∷ []) cs ≡ with_files fs (set cs (length fs) (record c { files = f }))
with_last fs f [] c lt is = absurd (omega (arith, lt))
with_last [] f (x ∷ cs) c lt is = ap (λ (x : Cursor). record x { files = f } ∷ cs) is
with_last (g ∷ fs) f (x ∷ cs) c lt is = ap (λ l. record x { files = g } ∷ l) (with_last fs f cs c (omega (arith, lt)) is)

module _ (file : List ℕ) (kept : Option (List ℕ)) where
  seen_aside : (pool : Pool) (fs : List (Vec (Option (List ℕ)))) (ds : List Cursor) → map (λ f. f.items) fs ≡ files_aside file kept ds → cursors_in pool (with_files fs ds) ≡ map (open_aside file kept) (cursors_in pool ds)
  seen_aside pool [] [] is = refl
  seen_aside pool [] (d ∷ ds) is = absurd cc
  seen_aside pool (f ∷ fs) [] is = absurd cc
  seen_aside pool (f ∷ fs) (d ∷ ds) is =
      let one : f.items ≡ map (stands_aside file kept) d.files.items = ap (λ l. get_or l 0 []) is in
      λ i. record (cursor_in pool d) { files = one i } ∷ seen_aside pool fs ds (ap (drop 1) is) i

  module _ (waits : Bool) (name : List ℕ) (line : ℕ) (kept_is : kept ≡ kept_if waits name line) where
    there_all : (os : List (Option (List ℕ))) → (has_file file os ≡ true → waits ≡ true) → AllByRecursion (λ o. is_some o ≡ true) os → AllByRecursion (λ o. is_some o ≡ true) (map (stands_aside file kept) os)
    there_all [] w all = tt
    there_all (None ∷ os) w all = absurd (false≢true all.0)
    there_all (Some f ∷ os) w all = (by (same_name file f) refl, there_all os (λ has. w (or_next (same_name file f) (has_file file os) has)) all.1)
      where
        by : (b : Bool) → same_name file f ≡ b → is_some (cond b kept (Some f)) ≡ true
        by true e = ap is_some (kept_is ∙ ap (λ b. kept_if b name line) (w (or_first (same_name file f) (has_file file os) e)))
        by false e = refl

    cursor_aside : (pool : Pool) (d : Cursor) (f : Vec (Option (List ℕ))) → f.items ≡ map (stands_aside file kept) d.files.items → (has_file file (drop d.answered d.files.items) ≡ true → waits ≡ true) → IsCursorIn pool d
        → IsCursorIn pool (record d { files = f })
    cursor_aside pool d f one w is = record {
      owner = is.owner;
      owner_is = is.owner_is;
      table = is.table;
      of_query = is.of_query;
      fits = is.fits;
      answered = is.answered;
      few = is.few;
      files = ap length one ∙ length-map d.files.items (stands_aside file kept) ∙ is.files;
      there = subst (AllByRecursion (λ o. is_some o ≡ true)) (sym (ap (drop d.answered) one ∙ drop-map (stands_aside file kept) d.answered d.files.items))
          (there_all (drop d.answered d.files.items) w is.there);
    }

    each_aside : (pool : Pool) (fs : List (Vec (Option (List ℕ)))) (ds : List Cursor) → map (λ f. f.items) fs ≡ files_aside file kept ds → (is_awaited_in file ds ≡ true → waits ≡ true) → AllByRecursion (IsCursorIn pool) ds
        → AllByRecursion (IsCursorIn pool) (with_files fs ds)
    each_aside pool [] ds is w all = all
    each_aside pool (f ∷ fs) [] is w all = tt
    each_aside pool (f ∷ fs) (d ∷ ds) is w all = (
      cursor_aside pool d f (ap (λ l. get_or l 0 []) is) (λ has. w (or_first (has_file file (drop d.answered d.files.items)) (is_awaited_in file ds) has)) all.0,
      each_aside pool fs ds (ap (drop 1) is) (λ any. w (or_next (has_file file (drop d.answered d.files.items)) (is_awaited_in file ds) any)) all.1,
    )

same_field : {Y : Type 0} (g : Cursor → Y) → ((d : Cursor) (f : Vec (Option (List ℕ))) → g (record d { files = f }) ≡ g d) → (fs : List (Vec (Option (List ℕ)))) (ds : List Cursor) → map g (with_files fs ds) ≡ map g ds
same_field g same [] ds = refl
same_field g same (f ∷ fs) [] = refl
same_field g same (f ∷ fs) (d ∷ ds) = λ i. same d f i ∷ same_field g same fs ds i

pub cursors_left : (pool : Pool) (fs : List (Vec (Option (List ℕ)))) (ds : List Cursor) (name : List ℕ) (line : ℕ) (kept : Option (List ℕ)) → kept ≡ kept_if (is_awaited_in (file_of name) ds) name line
    → map (λ f. f.items) fs ≡ files_aside (file_of name) kept ds → AreCursors pool ds → AreCursors pool (with_files fs ds)
cursors_left pool fs ds name line kept kept_is is all =
    let owners : owners_of (with_files fs ds) ≡ owners_of ds = same_field (λ d. d.groups.owner) (λ d f. refl) fs ds in
    let names : map (λ (d : Cursor). d.name) (with_files fs ds) ≡ map (λ (d : Cursor). d.name) ds = same_field (λ d. d.name) (λ d f. refl) fs ds in
    record {
      pool_is = all.pool_is;
      few = (let long = sym (length-map (with_files fs ds) (λ (d : Cursor). d.name)) ∙ ap length names ∙ length-map ds (λ (d : Cursor). d.name) in let few = all.few in omega (arith, long, few));
      each = each_aside (file_of name) kept (is_awaited_in (file_of name) ds) name line kept_is pool fs ds is (λ any. any) all.each;
      owners = subst (IsDistinct nat_eq) (sym owners) all.owners;
      names = subst (IsDistinct same_name) (sym names) all.names;
      free = λ owner none. all.free owner (ap (list_any (nat_eq owner)) (sym owners) ∙ none);
    }

pub over_left : (table : Table) (fs : List (Vec (Option (List ℕ)))) (ds : List Cursor) → AllByRecursion (IsOver table) ds → AllByRecursion (IsOver table) (with_files fs ds)
over_left table [] ds all = all
over_left table (f ∷ fs) [] all = tt
over_left table (f ∷ fs) (d ∷ ds) all = (record { query = all.0.query; named = all.0.named }, over_left table fs ds all.1)

-- ---- who has still to answer it, by cursors and by the machine

record FoundAt (file : List ℕ) (ds : List Cursor) : Type 0 where
  i : ℕ
  d : Cursor
  got : slice_get ds i ≡ Some d
  has : has_file file (drop d.answered d.files.items) ≡ true

found_at : (file : List ℕ) (ds : List Cursor) → is_awaited_in file ds ≡ true → FoundAt file ds
found_at file [] any = absurd (false≢true any)
found_at file (d ∷ ds) any = by (has_file file (drop d.answered d.files.items)) refl any (found_at file ds)
  where
    by : (b : Bool) → has_file file (drop d.answered d.files.items) ≡ b → (b || is_awaited_in file ds) ≡ true → (is_awaited_in file ds ≡ true → FoundAt file ds) → FoundAt file (d ∷ ds)
    by true e any more = record { i = 0; d = d; got = refl; has = e }
    by false e any more = let r = more any in record { i = suc r.i; d = r.d; got = r.got; has = r.has }

any_at : (file : List ℕ) (ds : List Cursor) (i : ℕ) (d : Cursor) → slice_get ds i ≡ Some d → has_file file (drop d.answered d.files.items) ≡ true → is_awaited_in file ds ≡ true
any_at file [] i d got has = absurd cc
any_at file (x ∷ ds) zero d got has =
    let one : x ≡ d = cc in
    or_first (has_file file (drop x.answered x.files.items)) (is_awaited_in file ds) (ap (λ (x : Cursor). has_file file (drop x.answered x.files.items)) one ∙ has)
any_at file (x ∷ ds) (suc i) d got has = or_next (has_file file (drop x.answered x.files.items)) (is_awaited_in file ds) (any_at file ds i d got has)

one_dropped : (x : Listed) (n : ℕ) (xs : List Listed) → IsOneOf x (drop n xs) → IsOneOf x xs
one_dropped x zero xs one = one
one_dropped x (suc n) [] one = one
one_dropped x (suc n) (y ∷ xs) one = inr (one_dropped x n xs one)

module _ (table : Table) (files : Files) (texts : Texts) (m : Machine) (pool : Pool) (ds : List Cursor) (stands : ServingStands (cursors_in pool ds) files texts table m) (all : AreCursors pool ds) (name : List ℕ) where
  abbrev file : List ℕ
  file = file_of name

  -- a cursor of the machine that has still to answer a list whose rows stand in a file
  record Waits : Type 0 where
    q : List ℕ
    c : Kept
    there : finite.get m.cursors q ≡ Some c
    has : has_file file (map (stands_as m) (drop c.answered c.lists)) ≡ true

  waits_of : is_awaited_in file ds ≡ true → Waits
  waits_of any =
      let r = found_at file ds any in
      by r (finite.get m.cursors r.d.name) refl (subst (BothKept m (finite.get m.cursors r.d.name)) (under_at pool ds r.i r.d all.names r.got) (stands.cursors r.d.name))
    where
      by : (r : FoundAt file ds) (o : Option Kept) → finite.get m.cursors r.d.name ≡ o → BothKept m o (Some (cursor_in pool r.d)) → Waits
      by r None e both = absurd both
      by r (Some c) e both = record {
        q = r.d.name;
        c = c;
        there = e;
        has = sym (ap (has_file file) ((λ i. drop (both.answered i) (both.files i)) ∙ drop-map (stands_as m) c.answered c.lists)) ∙ r.has;
      }

  live_by : (x : Listed) → stands_as m x ≡ Some file → finite.get m.live name ≢ None
  live_by x is none = by (is_live_by x.version.number (finite.get m.live x.name)) refl is
    where
      by : (b : Bool) → is_live_by x.version.number (finite.get m.live x.name) ≡ b → cond b (Some (file_of x.name)) (first_of (kept_files x.version.number m.kept)) ≡ Some file → ⊥
      by true live is =
          let same : file_of x.name ≡ file = cc in
          false≢true (ap (is_live_by x.version.number) (sym none ∙ ap (finite.get m.live) (sym (file_one x.name name same))) ∙ live)
      by false live is = live_name name (first_kept x.version.number m.kept file is)

  -- what is live no longer is awaited by nobody
  not_awaited : finite.get m.live name ≡ None → is_awaited_in file ds ≡ false
  not_awaited none = by (is_awaited_in file ds) refl
    where
      by : (b : Bool) → is_awaited_in file ds ≡ b → b ≡ false
      by false e = refl
      by true e =
          let w = waits_of e in
          let r = mapped_has m file (drop w.c.answered w.c.lists) w.has in
          absurd (live_by r.x r.is none)

  module _ (version : Version) (got : finite.get m.live name ≡ Some version) where
    awaited_to : is_awaited_in file ds ≡ true → is_awaited version.number m.cursors ≡ true
    awaited_to any = let w = waits_of any in awaited_in table files texts m (cursors_in pool ds) stands name version got w.q w.c w.there w.has

    awaited_from : is_awaited version.number m.cursors ≡ true → is_awaited_in file ds ≡ true
    awaited_from any =
        let f = any_found (λ (c : Kept). has_number version.number (drop c.answered c.lists)) (finite.entries m.cursors) (finite.entries_sorted m.cursors) any in
        let there : finite.get m.cursors f.name ≡ Some f.value = finite.get-entries m.cursors f.name ∙ f.found in
        by f.name f.value there f.passes (kept_under f.name (cursors_in pool ds)) refl (subst (λ o. BothKept m o (kept_under f.name (cursors_in pool ds))) there (stands.cursors f.name))
      where
        by : (q : List ℕ) (c : Kept) → finite.get m.cursors q ≡ Some c → has_number version.number (drop c.answered c.lists) ≡ true → (o : Option OpenCursor) → kept_under q (cursors_in pool ds) ≡ o → BothKept m (Some c) o → is_awaited_in file ds ≡ true
        by q c there has None e both = absurd both
        by q c there has (Some k) e both =
            let n = number_of version.number (drop c.answered c.lists) has in
            let stood : stands_as m n.listed ≡ Some file = stands_live table files texts m (cursors_in pool ds) stands name version got n.listed
            (of_cursor table files texts m (cursors_in pool ds) stands name version got q c there n.listed (one_dropped n.listed c.answered c.lists n.one)) n.number_is in
            let r : IsAtPlace pool q k ds = at_of pool q k ds e in
            any_at file ds r.i r.d r.got
            (ap (has_file file) (ap (λ (k : OpenCursor). drop k.answered k.files) r.seen ∙ (λ i. drop (both.answered i) (both.files i)) ∙ drop-map (stands_as m) c.answered c.lists)
            ∙ has_mapped m file n.listed (drop c.answered c.lists) n.one stood)

    awaited_same : is_awaited_in file ds ≡ is_awaited version.number m.cursors
    awaited_same = same_bool (is_awaited_in file ds) (is_awaited version.number m.cursors) awaited_to awaited_from

-- ---- the files in between

-- the files with a copy, if there is one
abbrev mid_of : Option (List ℕ) → List ℕ → Files → Files
mid_of None source files = files
mid_of (Some k) source files = finite.insert files k (bytes_of (Some files) source)

copy_told : (kept : Option (List ℕ)) (source : List ℕ) (files : Files) → with_copy kept source (Some files) ≡ Some (mid_of kept source files)
copy_told None source files = refl
copy_told (Some k) source files = refl

pub copy_none : (kept : Option (List ℕ)) (source : List ℕ) → with_copy kept source None ≡ None
copy_none None source = refl
copy_none (Some k) source = refl

mid_other : (b : Bool) (name : List ℕ) (line : ℕ) (source : List ℕ) (files : Files) (f : List ℕ) → f ≢ kept_name name line → finite.get (mid_of (kept_if b name line) source files) f ≡ finite.get files f
mid_other false name line source files f ne = refl
mid_other true name line source files f ne =
    finite.get-insert nat_list_cmp_total files (kept_name name line) (bytes_of (Some files) source) f
    ∙ ap (λ b. cond b (Some (bytes_of (Some files) source)) (finite.get files f)) (differ f (kept_name name line) ne)

mid_copy : (name : List ℕ) (line : ℕ) (source : List ℕ) (files : Files) → finite.get (mid_of (kept_if true name line) source files) (kept_name name line) ≡ Some (bytes_of (Some files) source)
mid_copy name line source files =
    finite.get-insert nat_list_cmp_total files (kept_name name line) (bytes_of (Some files) source) (kept_name name line)
    ∙ ap (λ b. cond b (Some (bytes_of (Some files) source)) (finite.get files (kept_name name line))) (itself (kept_name name line))

file_not_kept : (name other : List ℕ) (line : ℕ) → file_of name ≢ kept_name other line
file_not_kept name other line e = live_name name (subst IsKeptName (sym e) (named_kept other line))

module _ (table : Table) (files : Files) (texts : Texts) (m : Machine) (pool : Pool) (ds : List Cursor) (stands : ServingStands (cursors_in pool ds) files texts table m) (all : AreCursors pool ds) (name : List ℕ) (line : ℕ) where
  abbrev gone : List ℕ
  gone = file_of name

  mid_stands : KeptIdle → (b : Bool) → Stands (mid_of (kept_if b name line) gone files) (HasTable texts (segments_of m.live))
  mid_stands idle false = stands.live
  mid_stands idle true = idle.more files texts (segments_of m.live) (kept_name name line) (bytes_of (Some files) gone) stands.live (named_kept name line)

  file_live : finite.get files gone ≡ option_map (segment_file stands.live.table name) (option_map segment_of (finite.get m.live name))
  file_live = segment_there files texts (segments_of m.live) stands.live name ∙ ap (option_map (segment_file stands.live.table name)) (segments_got m.live name)

  live_there : (bytes : List ℕ) → finite.get files gone ≡ Some bytes → (version : Version) × (finite.get m.live name ≡ Some version)
  live_there bytes is = by (finite.get m.live name) refl
    where
      by : (o : Option Version) → finite.get m.live name ≡ o → (version : Version) × (finite.get m.live name ≡ Some version)
      by (Some v) e = (v, e)
      by None e = absurd (let both : Some bytes ≡ None = sym is ∙ file_live ∙ ap (λ o. option_map (segment_file stands.live.table name) (option_map segment_of o)) e in cc)

  live_none : finite.get files gone ≡ None → finite.get m.live name ≡ None
  live_none is = by (finite.get m.live name) refl
    where
      by : (o : Option Version) → finite.get m.live name ≡ o → o ≡ None
      by None e = refl
      by (Some v) e = absurd (let both : None ≡ Some (segment_file stands.live.table name (segment_of v)) = sym is ∙ file_live ∙ ap (λ o. option_map (segment_file stands.live.table name) (option_map segment_of o)) e in cc)

  live_mid : (b : Bool) → HasSegment (Some (mid_of (kept_if b name line) gone files)) name → (version : Version) × (finite.get m.live name ≡ Some version)
  live_mid b (bytes, is) = live_there bytes (sym (mid_other b name line gone files gone (file_not_kept name name line)) ∙ is)

  none_mid : (b : Bool) → LacksSegment (Some (mid_of (kept_if b name line) gone files)) name → finite.get m.live name ≡ None
  none_mid b is = live_none (sym (mid_other b name line gone files gone (file_not_kept name name line)) ∙ is)

  -- a list is live no longer
  module _ (lacks : finite.get files (kept_name name line) ≡ None) (version : Version) (got : finite.get m.live name ≡ Some version) (lives : Live) (number : ℕ) (left : Files) where
    abbrev awaited : Bool
    awaited = is_awaited version.number m.cursors

    abbrev mid : Files
    mid = mid_of (kept_if awaited name line) gone files

    abbrev next : Machine
    next = leaving table files left texts m (cursors_in pool ds) stands name line version got lacks lives number

    goes : ((f : List ℕ) → f ≢ gone → finite.get left f ≡ finite.get mid f) → Leaves table files left texts m (cursors_in pool ds) stands name line version got lacks lives number
        → Stands left (HasTable texts (segments_of lives)) → IsSound next → IsNumbered next
        → (fs : List (Vec (Option (List ℕ)))) → map (λ f. f.items) fs ≡ files_aside gone (kept_if (is_awaited_in gone ds) name line) ds
        → ServingStands (cursors_in pool (with_files fs ds)) left texts table next
    goes beside leaves live sound numbered fs is =
        let same : is_awaited_in gone ds ≡ awaited = awaited_same table files texts m pool ds stands all name version got in
        subst (λ ks. ServingStands ks left texts table next)
        (sym (seen_aside gone (kept_if awaited name line) pool fs ds (subst (λ b. map (λ f. f.items) fs ≡ files_aside gone (kept_if b name line) ds) same is)))
        (leaves_stand table files left texts m (cursors_in pool ds) stands name line version got lacks lives number leaves
        (λ f ne nk. beside f ne ∙ mid_other awaited name line gone files f nk)
        copied
        (λ f named. ap is_some (beside f (λ e. live_name name (subst IsKeptName e named))) ∙ keeps awaited f)
        live sound numbered)
      where
        copied : (f : List ℕ) → kept_if awaited name line ≡ Some f → finite.get left f ≡ Some (bytes_of (Some files) gone)
        copied f e = by awaited refl e
          where
            by : (b : Bool) → awaited ≡ b → kept_if b name line ≡ Some f → finite.get left f ≡ Some (bytes_of (Some files) gone)
            by false a e = absurd cc
            by true a e =
                let same : kept_name name line ≡ f = cc in
                beside f (λ is. live_name name (subst IsKeptName (same ∙ is) (named_kept name line)))
                ∙ (λ i. finite.get (mid_of (kept_if (a i) name line) gone files) f)
                ∙ ap (finite.get (mid_of (kept_if true name line) gone files)) (sym same) ∙ mid_copy name line gone files

        keeps : (b : Bool) (f : List ℕ) → is_some (finite.get (mid_of (kept_if b name line) gone files) f) ≡ (finite.contains_key files f || cond b (same_name f (kept_name name line)) false)
        keeps false f = sym (or_false (finite.contains_key files f))
        keeps true f =
            ap is_some (finite.get-insert nat_list_cmp_total files (kept_name name line) (bytes_of (Some files) gone) f) ∙ by (same_name f (kept_name name line))
          where
            by : (b : Bool) → is_some (cond b (Some (bytes_of (Some files) gone)) (finite.get files f)) ≡ (finite.contains_key files f || b)
            by true = sym (or_true (finite.contains_key files f))
            by false = sym (or_false (finite.contains_key files f))

-- ---- the segments of live lists, with one less or another

less_by : (n : ℕ) (b : Bool) (o : Option Version) → is_live_by n (cond b None o) ≡ cond b false (is_live_by n o)
less_by n true o = refl
less_by n false o = refl

segments_less : (lives : Live) (name : List ℕ) → segments_of (finite.remove lives name) ≡ finite.remove (segments_of lives) name
segments_less lives name =
    finite.same_map nat_list_cmp_total one_name (segments_of (finite.remove lives name)) (finite.remove (segments_of lives) name) (λ q.
    segments_got (finite.remove lives name) q ∙ ap (option_map segment_of) (finite.get-remove nat_list_cmp_total lives name q) ∙ by (same_name q name) (finite.get lives q)
    ∙ sym (finite.get-remove nat_list_cmp_total (segments_of lives) name q ∙ ap (cond (same_name q name) None) (segments_got lives q)))
  where
    by : (b : Bool) (o : Option Version) → option_map segment_of (cond b None o) ≡ cond b None (option_map segment_of o)
    by true o = refl
    by false o = refl

segments_with : (lives : Live) (name : List ℕ) (v : Version) → segments_of (finite.insert lives name v) ≡ finite.insert (segments_of lives) name (segment_of v)
segments_with lives name v =
    finite.same_map nat_list_cmp_total one_name (segments_of (finite.insert lives name v)) (finite.insert (segments_of lives) name (segment_of v)) (λ q.
    segments_got (finite.insert lives name v) q ∙ ap (option_map segment_of) (finite.get-insert nat_list_cmp_total lives name v q) ∙ by (same_name q name) (finite.get lives q)
    ∙ sym (finite.get-insert nat_list_cmp_total (segments_of lives) name (segment_of v) q ∙ ap (cond (same_name q name) (Some (segment_of v))) (segments_got lives q)))
  where
    by : (b : Bool) (o : Option Version) → option_map segment_of (cond b (Some v) o) ≡ cond b (Some (segment_of v)) (option_map segment_of o)
    by true o = refl
    by false o = refl

-- ---- a segment is dropped

pub drops : DropStands → KeptIdle → (table : Table) (pool : Pool) (ds : List Cursor) (name : List ℕ) (line : ℕ) → AreCursors pool ds → (fs : List (Vec (Option (List ℕ)))) (kept : Option (List ℕ))
    → kept ≡ kept_if (is_awaited_in (file_of name) ds) name line → map (λ f. f.items) fs ≡ files_aside (file_of name) kept ds
    → (held between new : Option Files) → between ≡ with_copy kept (file_of name) held → HasSegment between name → new ≡ without_file (file_of name) between → Lacks held (kept_name name line)
    → Serves (dropped line name) table (cursors_in pool ds) (cursors_in pool (with_files fs ds)) held new (Ok tt)
drops law idle table pool ds name line all fs kept kept_is is None between new is_between has is_new lacks = tt
drops law idle table pool ds name line all fs kept kept_is is (Some files) between new is_between has is_new lacks = λ texts m stands.
    let waits : Bool = is_awaited_in (file_of name) ds in
    let told : between ≡ Some (mid_of (kept_if waits name line) (file_of name) files) = is_between ∙ copy_told kept (file_of name) files ∙ ap (λ k. Some (mid_of k (file_of name) files)) kept_is in
    let (version, got) = live_mid table files texts m pool ds stands all name line waits (subst (λ h. HasSegment h name) told has) in
    let same : waits ≡ is_awaited version.number m.cursors = awaited_same table files texts m pool ds stands all name version got in
    let mid : Files = mid_of (kept_if (is_awaited version.number m.cursors) name line) (file_of name) files in
    let now : new ≡ Some (finite.remove mid (file_of name)) = is_new ∙ ap (without_file (file_of name)) (told ∙ ap (λ b. Some (mid_of (kept_if b name line) (file_of name) files)) same) in
    let goes_so : dropped line name m ≡ dropped_by line name (Some version) m = ap (λ o. dropped_by line name o m) got in
    subst (λ o. IsSomeAnd o (λ left. IsAnsweredAs (dropped line name m) (ServingStands (cursors_in pool (with_files fs ds)) left texts table) (Stands left (HasTable texts (segments_of m.live))) (Ok tt))) (sym now)
    (subst (λ (a : After (Unit {0})). IsAnsweredAs a (ServingStands (cursors_in pool (with_files fs ds)) (finite.remove mid (file_of name)) texts table) (Stands (finite.remove mid (file_of name)) (HasTable texts (segments_of m.live))) (Ok tt)) (sym goes_so) (
      refl,
      goes table files texts m pool ds stands all name line lacks version got (finite.remove m.live name) m.next (finite.remove mid (file_of name))
          (λ f ne. finite.get-remove nat_list_cmp_total mid (file_of name) f ∙ ap (λ b. cond b None (finite.get mid f)) (differ f (file_of name) ne))
          (λ n q below. ap (is_live_by n) (finite.get-remove nat_list_cmp_total m.live name q) ∙ less_by n (same_name q name) (finite.get m.live q))
          (subst (λ s. Stands (finite.remove mid (file_of name)) (HasTable texts s)) (sym (segments_less m.live name))
          (law mid texts (segments_of m.live) name (mid_stands table files texts m pool ds stands all name line idle (is_awaited version.number m.cursors))))
          (subst (λ (a : After (Unit {0})). IsSound a.machine) goes_so (stays_sound line (Drop name) m stands.sound))
          (subst (λ (a : After (Unit {0})). IsNumbered a.machine) goes_so (stays_numbered line (Drop name) m stands.sound stands.numbered))
          fs (subst (λ k. map (λ f. f.items) fs ≡ files_aside (file_of name) k ds) kept_is is),
    ))

-- ---- rows come in its place

more_by : (n : ℕ) (b : Bool) (v : Version) (o : Option Version) → nat_eq v.number n ≡ false → is_live_by n (cond b (Some v) o) ≡ cond b false (is_live_by n o)
more_by n true v o new = new
more_by n false v o new = refl

pub replaces : ReplaceStands → KeptIdle → (table : Table) (pool : Pool) (ds : List Cursor) (name : List ℕ) (line : ℕ) (rows : List (List Value)) → IsSegmentName name → CanHold table rows → AreCursors pool ds
    → (fs : List (Vec (Option (List ℕ)))) (kept : Option (List ℕ))
    → kept ≡ kept_if (is_awaited_in (file_of name) ds) name line → map (λ f. f.items) fs ≡ files_aside (file_of name) kept ds
    → (held between new : Option Files) → between ≡ with_copy kept (file_of name) held → HasSegment between name → new ≡ with_file (file_of name) (image 1 table name rows) between → Lacks held (kept_name name line)
    → Serves (replaced line name (ordered table.settings.sorted rows)) table (cursors_in pool ds) (cursors_in pool (with_files fs ds)) held new (Ok tt)
replaces law idle table pool ds name line rows named can all fs kept kept_is is None between new is_between has is_new lacks = tt
replaces law idle table pool ds name line rows named can all fs kept kept_is is (Some files) between new is_between has is_new lacks = λ texts m stands.
    let own : List (List Value) = ordered table.settings.sorted rows in
    let bytes : List ℕ = image 1 table name rows in
    let v : Version = record { number = m.next; rows = own } in
    let waits : Bool = is_awaited_in (file_of name) ds in
    let told : between ≡ Some (mid_of (kept_if waits name line) (file_of name) files) = is_between ∙ copy_told kept (file_of name) files ∙ ap (λ k. Some (mid_of k (file_of name) files)) kept_is in
    let (version, got) = live_mid table files texts m pool ds stands all name line waits (subst (λ h. HasSegment h name) told has) in
    let same : waits ≡ is_awaited version.number m.cursors = awaited_same table files texts m pool ds stands all name version got in
    let mid : Files = mid_of (kept_if (is_awaited version.number m.cursors) name line) (file_of name) files in
    let left : Files = finite.insert mid (file_of name) bytes in
    let now : new ≡ Some left = is_new ∙ ap (with_file (file_of name) bytes) (told ∙ ap (λ b. Some (mid_of (kept_if b name line) (file_of name) files)) same) in
    let goes_so : replaced line name own m ≡ replaced_by line name own (Some version) m = ap (λ o. replaced_by line name own o m) got in
    subst (λ o. IsSomeAnd o (λ left. IsAnsweredAs (replaced line name own m) (ServingStands (cursors_in pool (with_files fs ds)) left texts table) (Stands left (HasTable texts (segments_of m.live))) (Ok tt))) (sym now)
    (subst (λ (a : After (Unit {0})). IsAnsweredAs a (ServingStands (cursors_in pool (with_files fs ds)) left texts table) (Stands left (HasTable texts (segments_of m.live))) (Ok tt)) (sym goes_so) (
      refl,
      goes table files texts m pool ds stands all name line lacks version got (finite.insert m.live name v) (m.next + 1) left
          (λ f ne. finite.get-insert nat_list_cmp_total mid (file_of name) bytes f ∙ ap (λ b. cond b (Some bytes) (finite.get mid f)) (differ f (file_of name) ne))
          (λ n q below. ap (is_live_by n) (finite.get-insert nat_list_cmp_total m.live name v q) ∙ more_by n (same_name q name) v (finite.get m.live q) (unlike m.next n (λ e. omega (arith, e, below))))
          (subst (λ s. Stands left (HasTable texts s)) (sym (segments_with m.live name v))
          (law mid texts (segments_of m.live) table name rows (segment_of version) (mid_stands table files texts m pool ds stands all name line idle (is_awaited version.number m.cursors)) stands.accepted named can
          (segments_got m.live name ∙ ap (option_map segment_of) got)))
          (subst (λ (a : After (Unit {0})). IsSound a.machine) goes_so (stays_sound line (Replace name own) m stands.sound))
          (subst (λ (a : After (Unit {0})). IsNumbered a.machine) goes_so (stays_numbered line (Replace name own) m stands.sound stands.numbered))
          fs (subst (λ k. map (λ f. f.items) fs ≡ files_aside (file_of name) k ds) kept_is is),
    ))
  where
    unlike : (a b : ℕ) → a ≢ b → nat_eq a b ≡ false
    unlike a b ne = by (nat_eq a b) refl
      where
        by : (c : Bool) → nat_eq a b ≡ c → c ≡ false
        by true e = absurd (ne (eqb-true a b e))
        by false e = refl

-- ---- a device or memory failed

-- a fault of a device, or of memory
abbrev pub IsLost : StoreFault → Type 0
IsLost store.ReadFault = Unit {0}
IsLost store.WriteFault = Unit {0}
IsLost store.NoMemory = Unit {0}
IsLost other = ⊥

lost_by : {A : Type 0} (after : After A) (stands : Machine → Type 0) (live : Type 0) (why : StoreFault) → IsLost why → live → IsAnsweredAs after stands live (Err (of_store why))
lost_by after stands live store.TableExists lost it = absurd lost
lost_by after stands live store.NoTable lost it = absurd lost
lost_by after stands live store.NameTaken lost it = absurd lost
lost_by after stands live store.NoSegment lost it = absurd lost
lost_by after stands live store.TooManySegments lost it = absurd lost
lost_by after stands live store.TooLarge lost it = absurd lost
lost_by after stands live (store.NotASegment part) lost it = absurd lost
lost_by after stands live store.ReadFault lost it = it
lost_by after stands live store.WriteFault lost it = it
lost_by after stands live store.NoMemory lost it = it

pub loses : {A : Type 0} → KeptIdle → (step : Machine → After A) (table : Table) (pool : Pool) (ds : List Cursor) (name : List ℕ) (line : ℕ) → AreCursors pool ds → (held new : Option Files) → MayHaveCopy name line held new → (why : StoreFault) → IsLost why
    → Serves step table (cursors_in pool ds) (cursors_in pool ds) held new (Err (of_store why))
loses idle step table pool ds name line all None new copy why lost = tt
loses idle step table pool ds name line all (Some files) new (b, is) why lost = λ texts m stands.
    subst (λ o. IsSomeAnd o (λ left. IsAnsweredAs (step m) (ServingStands (cursors_in pool ds) left texts table) (Stands left (HasTable texts (segments_of m.live))) (Err (of_store why))))
    (sym (is ∙ copy_told (kept_if b name line) (file_of name) files))
    (lost_by (step m) (ServingStands (cursors_in pool ds) (mid_of (kept_if b name line) (file_of name) files) texts table) (Stands (mid_of (kept_if b name line) (file_of name) files) (HasTable texts (segments_of m.live))) why lost
    (mid_stands table files texts m pool ds stands all name line idle b))

-- ---- there is no such segment

pub drops_none : (table : Table) (pool : Pool) (ds : List Cursor) (name : List ℕ) (line : ℕ) → AreCursors pool ds → (held new : Option Files) → LacksSegment held name → new ≡ held
    → Serves (dropped line name) table (cursors_in pool ds) (cursors_in pool ds) held new (Err fault.NoSegment)
drops_none table pool ds name line all None new lacks same = tt
drops_none table pool ds name line all (Some files) new lacks same = λ texts m stands.
    let none : finite.get m.live name ≡ None = live_none table files texts m pool ds stands all name line lacks in
    subst (λ o. IsSomeAnd o (λ left. IsAnsweredAs (dropped line name m) (ServingStands (cursors_in pool ds) left texts table) (Stands left (HasTable texts (segments_of m.live))) (Err fault.NoSegment))) (sym same)
    (subst (λ o. IsAnsweredAs (dropped_by line name o m) (ServingStands (cursors_in pool ds) files texts table) (Stands files (HasTable texts (segments_of m.live))) (Err fault.NoSegment)) (sym none) (refl, stands))

pub replaces_none : (table : Table) (pool : Pool) (ds : List Cursor) (name : List ℕ) (line : ℕ) (rows : List (List Value)) → AreCursors pool ds → (held new : Option Files) → LacksSegment held name → new ≡ held
    → Serves (replaced line name rows) table (cursors_in pool ds) (cursors_in pool ds) held new (Err fault.NoSegment)
replaces_none table pool ds name line rows all None new lacks same = tt
replaces_none table pool ds name line rows all (Some files) new lacks same = λ texts m stands.
    let none : finite.get m.live name ≡ None = live_none table files texts m pool ds stands all name line lacks in
    subst (λ o. IsSomeAnd o (λ left. IsAnsweredAs (replaced line name rows m) (ServingStands (cursors_in pool ds) left texts table) (Stands left (HasTable texts (segments_of m.live))) (Err fault.NoSegment))) (sym same)
    (subst (λ o. IsAnsweredAs (replaced_by line name rows o m) (ServingStands (cursors_in pool ds) files texts table) (Stands files (HasTable texts (segments_of m.live))) (Err fault.NoSegment)) (sym none) (refl, stands))

-- what lacks a segment after a copy, where a copy is made just of what is awaited, had none before: no copy was made, where all stands
module _ (pool : Pool) (ds : List Cursor) (all : AreCursors pool ds) (name : List ℕ) (line : ℕ) (kept : Option (List ℕ)) (kept_is : kept ≡ kept_if (is_awaited_in (file_of name) ds) name line) where
  no_copy : (table : Table) (files : Files) (texts : Texts) (m : Machine) → ServingStands (cursors_in pool ds) files texts table m → LacksSegment (with_copy kept (file_of name) (Some files)) name
      → (finite.get m.live name ≡ None) × (with_copy kept (file_of name) (Some files) ≡ Some files)
  no_copy table files texts m stands lacks =
      let waits : Bool = is_awaited_in (file_of name) ds in
      let none : finite.get m.live name ≡ None = none_mid table files texts m pool ds stands all name line waits
      (subst (λ h. LacksSegment h name) (copy_told kept (file_of name) files ∙ ap (λ k. Some (mid_of k (file_of name) files)) kept_is) lacks) in
      (none, ap (λ k. with_copy k (file_of name) (Some files)) (kept_is ∙ ap (λ b. kept_if b name line) (not_awaited table files texts m pool ds stands all name none)))

  pub drops_missed : (table : Table) (held new : Option Files) → LacksSegment (with_copy kept (file_of name) held) name → new ≡ with_copy kept (file_of name) held
      → Serves (dropped line name) table (cursors_in pool ds) (cursors_in pool ds) held new (Err fault.NoSegment)
  drops_missed table None new lacks is = tt
  drops_missed table (Some files) new lacks is = λ texts m stands.
      let r = no_copy table files texts m stands lacks in
      drops_none table pool ds name line all (Some files) new (subst (λ h. LacksSegment h name) r.1 lacks) (is ∙ r.1) texts m stands

  pub replaces_missed : (table : Table) (rows : List (List Value)) (held new : Option Files) → LacksSegment (with_copy kept (file_of name) held) name → new ≡ with_copy kept (file_of name) held
      → Serves (replaced line name rows) table (cursors_in pool ds) (cursors_in pool ds) held new (Err fault.NoSegment)
  replaces_missed table rows None new lacks is = tt
  replaces_missed table rows (Some files) new lacks is = λ texts m stands.
      let r = no_copy table files texts m stands lacks in
      replaces_none table pool ds name line rows all (Some files) new (subst (λ h. LacksSegment h name) r.1 lacks) (is ∙ r.1) texts m stands

-- ---- a star-tree is too large

taken_back : (files : Files) (k : List ℕ) (bytes : List ℕ) → finite.get files k ≡ None → finite.remove (finite.insert files k bytes) k ≡ files
taken_back files k bytes none =
    finite.same_map nat_list_cmp_total one_name (finite.remove (finite.insert files k bytes) k) files (λ q.
    finite.get-remove nat_list_cmp_total (finite.insert files k bytes) k q
    ∙ ap (cond (same_name q k) None) (finite.get-insert nat_list_cmp_total files k bytes q)
    ∙ by q (same_name q k) refl)
  where
    by : (q : List ℕ) (b : Bool) → same_name q k ≡ b → cond b None (cond b (Some bytes) (finite.get files q)) ≡ finite.get files q
    by q true e = sym (ap (finite.get files) (tied q k e) ∙ none)
    by q false e = refl

pub copy_gone : (b : Bool) (name : List ℕ) (line : ℕ) (source : List ℕ) (held : Option Files) → Lacks held (kept_name name line) → without_name (kept_if b name line) (with_copy (kept_if b name line) source held) ≡ held
copy_gone false name line source held lacks = refl
copy_gone true name line source None lacks = refl
copy_gone true name line source (Some files) lacks = ap Some (taken_back files (kept_name name line) (bytes_of (Some files) source) lacks)

pub no_place : (table : Table) (pool : Pool) (ds : List Cursor) (name : List ℕ) (line : ℕ) (rows : List (List Value)) → AreCursors pool ds → (kept : Option (List ℕ)) (b : Bool) → kept ≡ kept_if b name line
    → (held between new : Option Files) → between ≡ with_copy kept (file_of name) held → HasSegment between name → trees_fit table rows ≡ false → new ≡ without_name kept between → Lacks held (kept_name name line)
    → HasNoPlaceFor rows name table (cursors_in pool ds) (cursors_in pool ds) held new
no_place table pool ds name line rows all kept b kept_is held between new is_between has large is_new lacks = record { too_large = large; unchanged = by held is_between lacks }
  where
    by : (held : Option Files) → between ≡ with_copy kept (file_of name) held → Lacks held (kept_name name line)
        → IfSome held (λ files. (texts : Texts) (m : Machine) → ServingStands (cursors_in pool ds) files texts table m → IsSomeAnd new (λ left. (is_some (finite.get m.live name) ≡ true) × ServingStands (cursors_in pool ds) left texts table m))
    by None is_between lacks = tt
    by (Some files) is_between lacks = λ texts m stands.
        let told : between ≡ Some (mid_of (kept_if b name line) (file_of name) files) = is_between ∙ copy_told kept (file_of name) files ∙ ap (λ k. Some (mid_of k (file_of name) files)) kept_is in
        let (version, got) = live_mid table files texts m pool ds stands all name line b (subst (λ h. HasSegment h name) told has) in
        let back : new ≡ Some files = is_new ∙ (λ i. without_name (kept_is i) ((is_between ∙ ap (λ k. with_copy k (file_of name) (Some files)) kept_is) i)) ∙ copy_gone b name line (file_of name) (Some files) lacks in
        subst (λ o. IsSomeAnd o (λ left. (is_some (finite.get m.live name) ≡ true) × ServingStands (cursors_in pool ds) left texts table m)) (sym back)
        (ap is_some got, stands)

-- ---- what is left of other files

apart_names : (name : List ℕ) (line : ℕ) (other : List ℕ) → list_any (same_name other) (file_of name ∷ kept_name name line ∷ []) ≡ false → (other ≢ file_of name) × (other ≢ kept_name name line)
apart_names name line other none =
    let first : Bool = same_name other (file_of name) in
    let next : Bool = same_name other (kept_name name line) in (
      λ e. false≢true (sym none ∙ or_first first (next || false) (ap (λ q. same_name q (file_of name)) e ∙ itself (file_of name))),
      λ e. false≢true (sym none ∙ or_next first (next || false) (or_first next false (ap (λ q. same_name q (kept_name name line)) e ∙ itself (kept_name name line)))),
    )

same_but : (name : List ℕ) (line : ℕ) (files left : Files) (new : Option Files) → new ≡ Some left → ((other : List ℕ) → other ≢ file_of name → other ≢ kept_name name line → finite.get left other ≡ finite.get files other) → SameButOf name line (Some files) new
same_but name line files left new is same =
    subst (λ o. IsSomeAnd o (λ left. (other : List ℕ) → list_any (same_name other) (file_of name ∷ kept_name name line ∷ []) ≡ false → finite.get left other ≡ finite.get files other)) (sym is)
    (λ other none. let two = apart_names name line other none in same other two.0 two.1)

module _ (name : List ℕ) (line : ℕ) (kept : Option (List ℕ)) (b : Bool) (kept_is : kept ≡ kept_if b name line) where
  told_as : (files : Files) → with_copy kept (file_of name) (Some files) ≡ Some (mid_of (kept_if b name line) (file_of name) files)
  told_as files = copy_told kept (file_of name) files ∙ ap (λ k. Some (mid_of k (file_of name) files)) kept_is

  pub others_copied : (held new : Option Files) → new ≡ with_copy kept (file_of name) held → SameButOf name line held new
  others_copied None new is = is ∙ copy_none kept (file_of name)
  others_copied (Some files) new is = same_but name line files (mid_of (kept_if b name line) (file_of name) files) new (is ∙ told_as files) (λ other ne nk. mid_other b name line (file_of name) files other nk)

  pub others_dropped : (held between new : Option Files) → between ≡ with_copy kept (file_of name) held → new ≡ without_file (file_of name) between → SameButOf name line held new
  others_dropped None between new is_between is = is ∙ ap (without_file (file_of name)) (is_between ∙ copy_none kept (file_of name))
  others_dropped (Some files) between new is_between is =
      let mid : Files = mid_of (kept_if b name line) (file_of name) files in
      same_but name line files (finite.remove mid (file_of name)) new (is ∙ ap (without_file (file_of name)) (is_between ∙ told_as files)) (λ other ne nk.
      finite.get-remove nat_list_cmp_total mid (file_of name) other ∙ ap (λ b. cond b None (finite.get mid other)) (differ other (file_of name) ne) ∙ mid_other b name line (file_of name) files other nk)

  pub others_put : (bytes : List ℕ) (held between new : Option Files) → between ≡ with_copy kept (file_of name) held → new ≡ with_file (file_of name) bytes between → SameButOf name line held new
  others_put bytes None between new is_between is = is ∙ ap (with_file (file_of name) bytes) (is_between ∙ copy_none kept (file_of name))
  others_put bytes (Some files) between new is_between is =
      let mid : Files = mid_of (kept_if b name line) (file_of name) files in
      same_but name line files (finite.insert mid (file_of name) bytes) new (is ∙ ap (with_file (file_of name) bytes) (is_between ∙ told_as files)) (λ other ne nk.
      finite.get-insert nat_list_cmp_total mid (file_of name) bytes other ∙ ap (λ b. cond b (Some bytes) (finite.get mid other)) (differ other (file_of name) ne) ∙ mid_other b name line (file_of name) files other nk)

  pub others_back : (held between new : Option Files) → between ≡ with_copy kept (file_of name) held → new ≡ without_name kept between → SameButOf name line held new
  others_back None between new is_between is = is ∙ ap (without_name kept) (is_between ∙ copy_none kept (file_of name)) ∙ none_back kept
    where
      none_back : (kept : Option (List ℕ)) → without_name kept None ≡ None
      none_back None = refl
      none_back (Some k) = refl
  others_back (Some files) between new is_between is = by b (is ∙ (λ i. without_name (kept_is i) ((is_between ∙ told_as files) i)))
    where
      by : (b : Bool) → new ≡ without_name (kept_if b name line) (Some (mid_of (kept_if b name line) (file_of name) files)) → SameButOf name line (Some files) new
      by false is = same_but name line files files new is (λ other ne nk. refl)
      by true is =
          let mid : Files = mid_of (kept_if true name line) (file_of name) files in
          same_but name line files (finite.remove mid (kept_name name line)) new is (λ other ne nk.
          finite.get-remove nat_list_cmp_total mid (kept_name name line) other ∙ ap (λ b. cond b None (finite.get mid other)) (differ other (kept_name name line) nk) ∙ mid_other true name line (file_of name) files other nk)

-- ---- which faults there may be

lost_as : (T : Type 0) (why f : StoreFault) → IsLost f → Failed T why ≡ Failed T f → IsLost why
lost_as T why f lost e = subst IsLost (sym (own_fault T why f e)) lost

module _ (T : Type 0) (why : StoreFault) where
  pub lost_or_missed : (Failed T why ≡ Failed T store.NoSegment) ⊎ ((Failed T why ≡ Failed T store.ReadFault) ⊎ ((Failed T why ≡ Failed T store.WriteFault) ⊎ (Failed T why ≡ Failed T store.NoMemory)))
      → (why ≡ store.NoSegment) ⊎ IsLost why
  lost_or_missed (inl e) = inl (own_fault T why store.NoSegment e)
  lost_or_missed (inr (inl e)) = inr (lost_as T why store.ReadFault tt e)
  lost_or_missed (inr (inr (inl e))) = inr (lost_as T why store.WriteFault tt e)
  lost_or_missed (inr (inr (inr e))) = inr (lost_as T why store.NoMemory tt e)

  pub lost_but : why ≢ store.TooLarge
      → (Failed T why ≡ Failed T store.NoSegment) ⊎ ((Failed T why ≡ Failed T store.TooLarge) ⊎ ((Failed T why ≡ Failed T store.ReadFault) ⊎ ((Failed T why ≡ Failed T store.WriteFault) ⊎ (Failed T why ≡ Failed T store.NoMemory))))
      → (why ≡ store.NoSegment) ⊎ IsLost why
  lost_but fits (inl e) = inl (own_fault T why store.NoSegment e)
  lost_but fits (inr (inl e)) = absurd (fits (own_fault T why store.TooLarge e))
  lost_but fits (inr (inr (inl e))) = inr (lost_as T why store.ReadFault tt e)
  lost_but fits (inr (inr (inr (inl e)))) = inr (lost_as T why store.WriteFault tt e)
  lost_but fits (inr (inr (inr (inr e)))) = inr (lost_as T why store.NoMemory tt e)

  pub lost_writing : (Failed T why ≡ Failed T store.WriteFault) ⊎ (Failed T why ≡ Failed T store.NoMemory) → IsLost why
  lost_writing (inl e) = lost_as T why store.WriteFault tt e
  lost_writing (inr e) = lost_as T why store.NoMemory tt e

pub failed_so : {A : Type 0} → KeptIdle → (step : Machine → After A) (table : Table) (pool : Pool) (ds : List Cursor) (name : List ℕ) (line : ℕ) → AreCursors pool ds → (held new : Option Files) → MayHaveCopy name line held new
    → (why : StoreFault) (own : ServeFault) → own ≡ of_store why
    → (why ≡ store.NoSegment → Serves step table (cursors_in pool ds) (cursors_in pool ds) held new (Err fault.NoSegment)) → (why ≡ store.NoSegment) ⊎ IsLost why
    → Serves step table (cursors_in pool ds) (cursors_in pool ds) held new (Err own)
failed_so idle step table pool ds name line all held new copy why own is missed (inl e) =
    subst (λ w. Serves step table (cursors_in pool ds) (cursors_in pool ds) held new (Err w)) (sym (is ∙ ap of_store e)) (missed e)
failed_so idle step table pool ds name line all held new copy why own is missed (inr lost) =
    subst (λ w. Serves step table (cursors_in pool ds) (cursors_in pool ds) held new (Err w)) (sym is) (loses idle step table pool ds name line all held new copy why lost)

-- what is lost is no refusal
pub lost_not_missed : (why : StoreFault) → IsLost why → why ≢ store.NoSegment
lost_not_missed why lost e = subst IsLost e lost

pub write_not_read : (T : Type 0) (why : StoreFault) → (Failed T why ≡ Failed T store.WriteFault) ⊎ (Failed T why ≡ Failed T store.NoMemory) → why ≢ store.ReadFault
write_not_read T why (inl e) read = let both : store.WriteFault ≡ store.ReadFault = sym (own_fault T why store.WriteFault e) ∙ read in absurd cc
write_not_read T why (inr e) read = let both : store.NoMemory ≡ store.ReadFault = sym (own_fault T why store.NoMemory e) ∙ read in absurd cc
