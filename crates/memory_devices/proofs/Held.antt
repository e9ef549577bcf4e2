-- Files that ascend by name.
use Rattle.std.proofs.Common.{◌≡◌, ◌≢◌, ◌<◌, ℕ, List, [], ◌∷◌, ◌++◌, length, take, drop, true, T, refl, sym, ap, subst, ◌∙◌, slice_index_or, map, arith, zero, suc, slice_set, Bool, false, Result, Ok, Err, OnOk, OnErr, Option, Some, None, IfNone, unwrap_or, cond, not, ◌&&◌}
use Rattle.std.specs.List.{remove}
use Rattle.std.specs.FinMap as map
use Rattle.std.specs.FinMap.{put, find, is_sorted, get-from_sorted, entries-from_sorted}
use Rattle.std.specs.FinMap.Entries.{is_sorted-put, is_sorted-where_key, find-where_key, below_all}
use Rattle.std.proofs.lemmas.Cmp.{nat_list_cmp_total}
use Rattle.outside.specs.Files.{Files, name_order, SameBut, bytes_of}
use Rattle.memory_devices.specs.FileMap.{PutsAt, others}
use Rattle.std.specs.declared.cmp.Ordering.{Ordering}
use Rattle.std.specs.declared.cmp.Ordering.TheVariants.{Less, Equal, Greater}
use Rattle.std.specs.Ordering.{eq_by_cmp, is_eq, is_lt, ordering_reverse}
use Rattle.std.specs.Cmp.{alike_right, eq_by_cmp_equiv}

as_true : (b : Bool) → T b → b ≡ true
as_true true h = refl
as_true false h = absurd h

as_T : (b : Bool) → b ≡ true → T b
as_T b e = subst T (sym e) tt

pub get_held : (files : List (List ℕ × List ℕ)) (q : List ℕ) → is_sorted name_order files ≡ true → map.get (map.from_sorted {R = name_order} files) q ≡ find name_order q files
get_held files q e = get-from_sorted name_order files q (as_T _ e)

pub keys_held : (files : List (List ℕ × List ℕ)) → is_sorted name_order files ≡ true → map.keys (map.from_sorted {R = name_order} files) ≡ map (λ e. e.0) files
keys_held files e = ap (map (λ e. e.0)) (entries-from_sorted name_order files (as_T _ e))

pub entries_held : (files : List (List ℕ × List ℕ)) → is_sorted name_order files ≡ true → map.entries (map.from_sorted {R = name_order} files) ≡ files
entries_held files e = entries-from_sorted name_order files (as_T _ e)

pub sorted_put : (name bytes : List ℕ) (files : List (List ℕ × List ℕ)) → is_sorted name_order files ≡ true → is_sorted name_order (put name_order name bytes files) ≡ true
sorted_put name bytes files e = as_true _ (is_sorted-put name_order nat_list_cmp_total name bytes files (as_T _ e))

-- what `remove(0)` takes and leaves
pub taken : {A : Type 0} (xs ys : List A) (x : A) → 0 < length xs → x ≡ slice_index_or xs 0 x → ys ≡ remove xs 0 → xs ≡ x ∷ ys
taken [] ys x some at left = absurd (omega (arith, some))
taken (a ∷ others) ys x some at left = cc

-- to write the bytes of a file in its place is to put them
set_tail : (files : List (List ℕ × List ℕ)) (i : ℕ) (name bytes : List ℕ) (file : List ℕ × List ℕ) → i < length files → file ≡ slice_index_or files i file → name_order name file.0 ≡ Equal
    → slice_set files i (file.0, bytes) ≡ take i files ++ put name_order name bytes (drop i files)
set_tail [] i name bytes file lt at same = absurd (omega (arith, lt))
set_tail (e ∷ es) zero name bytes file lt at same =
    subst (λ f. name_order name f.0 ≡ Equal → (f.0, bytes) ∷ es ≡ put name_order name bytes (e ∷ es)) (sym at) (λ q. rw q refl) same
set_tail (e ∷ es) (suc i) name bytes file lt at same = ap (λ t. e ∷ t) (set_tail es i name bytes file (omega (arith, lt)) at same)

pub set_is_put : (files : List (List ℕ × List ℕ)) (i : ℕ) (name bytes : List ℕ) (file : List ℕ × List ℕ) → i < length files → file ≡ slice_index_or files i file → name_order name file.0 ≡ Equal
    → PutsAt files name i → slice_set files i (file.0, bytes) ≡ put name_order name bytes files
set_is_put files i name bytes file lt at same puts = set_tail files i name bytes file lt at same ∙ sym (puts bytes)

-- what the list of files is as a map
pub empty_held : map.from_sorted {X = List ℕ} {R = name_order} [] ≡ map.empty
empty_held = map.empty_of_len _ (map.len-entries _ ∙ ap length (entries-from_sorted name_order [] tt))

pub put_held : (name bytes : List ℕ) (files : List (List ℕ × List ℕ)) → is_sorted name_order files ≡ true
    → map.from_sorted {R = name_order} (put name_order name bytes files) ≡ map.insert (map.from_sorted files) name bytes
put_held name bytes files e =
    map.same_entries_map _ _ (entries-from_sorted name_order (put name_order name bytes files) (as_T _ (sorted_put name bytes files e))
    ∙ ap (put name_order name bytes) (sym (entries-from_sorted name_order files (as_T _ e)))
    ∙ sym (map.entries-insert nat_list_cmp_total (map.from_sorted files) name bytes))

-- a put that may fail keeps the order
pub sorted_after : {E : Type 0} (r : Result (Unit {0}) E) (name bytes : List ℕ) (old new : List (List ℕ × List ℕ)) → OnOk r (new ≡ put name_order name bytes old) → OnErr r (new ≡ old)
    → is_sorted name_order old ≡ true → is_sorted name_order new ≡ true
sorted_after (Ok _) name bytes old new ok err e = ap (is_sorted name_order) ok ∙ sorted_put name bytes old e
sorted_after (Err _) name bytes old new ok err e = ap (is_sorted name_order) err ∙ e

-- a put into the list is one into the map that it is seen as
pub held_after : {E : Type 0} (r : Result (Unit {0}) E) (name bytes : List ℕ) (old new : List (List ℕ × List ℕ)) (held : Files) → OnOk r (new ≡ put name_order name bytes old)
    → is_sorted name_order old ≡ true → map.from_sorted old ≡ held → OnOk r (map.from_sorted new ≡ map.insert held name bytes)
held_after (Ok _) name bytes old new held ok e is = ap (map.from_sorted {R = name_order}) ok ∙ put_held name bytes old e ∙ ap (λ m. map.insert m name bytes) is
held_after (Err _) name bytes old new held ok e is = tt

-- names are the same where neither is less
same_name : (x y : List ℕ) → name_order x y ≡ Equal → x ≡ y
same_name = map.slice_cmp-IsAntisymmetric map.nat_cmp-IsAntisymmetric

-- a file is of one of two kinds by its name
turned : {A : Type 0} (b : Bool) (x y : A) → cond (not b) x y ≡ cond b y x
turned true x y = refl
turned false x y = refl

equal : (r : Ordering) → T (is_eq r) → r ≡ Equal
equal Less p = absurd p
equal Equal p = refl
equal Greater p = absurd p

-- the files of other names, as a map
pub others_held : (name : List ℕ) (files : List (List ℕ × List ℕ)) → is_sorted name_order files ≡ true → map.from_sorted {R = name_order} (others name files) ≡ map.remove (map.from_sorted files) name
others_held name files e =
    let o = nat_list_cmp_total in
    let keeps : List ℕ → Bool = λ k. not (eq_by_cmp name_order name k) in
    let sorted = is_sorted-where_key name_order keeps files (as_T _ e) in
    map.same_map o same_name _ _ (λ q.
    get-from_sorted name_order (others name files) q sorted
    ∙ find-where_key name_order keeps q (λ x t. ap (λ r. not (is_eq r)) (sym (alike_right o q x name t))) files
    ∙ turned (eq_by_cmp name_order name q) _ _
    ∙ ap (λ b. cond b None (find name_order q files)) ((eq_by_cmp_equiv o).symm name q)
    ∙ ap (λ v. cond (eq_by_cmp name_order q name) None v) (sym (get-from_sorted name_order files q (as_T _ e)))
    ∙ sym (map.get-remove o (map.from_sorted files) name q))

pub sorted_others : (name : List ℕ) (files : List (List ℕ × List ℕ)) → is_sorted name_order files ≡ true → is_sorted name_order (others name files) ≡ true
sorted_others name files e = as_true _ (is_sorted-where_key name_order (λ k. not (eq_by_cmp name_order name k)) files (as_T _ e))

-- where no file has the name, all are of other names
pub others_all : (name : List ℕ) (files : List (List ℕ × List ℕ)) → find name_order name files ≡ None → others name files ≡ files
others_all name [] none = refl
others_all name (e ∷ es) none =
    elim (eq_by_cmp name_order name e.0) as (λ b. cond b (Some e.1) (find name_order name es) ≡ None → cond (not b) (e ∷ others name es) (others name es) ≡ e ∷ es) [
      | true ↦ λ is. cc
      | false ↦ λ is. ap (λ t. e ∷ t) (others_all name es is)
    ] none

first : (a b : Bool) → T (a && b) → T a
first true b p = tt
first false b p = p

second : (a b : Bool) → T (a && b) → T b
second true b p = p
second false b p = absurd p

above : (name : List ℕ) (es : List (List ℕ × List ℕ)) → T (below_all name_order name es) → others name es ≡ es
above name [] h = refl
above name (e ∷ es) h =
    elim (name_order name e.0) as (λ r. T (is_lt r && below_all name_order name es) → cond (not (is_eq r)) (e ∷ others name es) (others name es) ≡ e ∷ es) [
      | Less ↦ λ p. ap (λ t. e ∷ t) (above name es p)
      | Equal ↦ λ p. absurd p
      | Greater ↦ λ p. absurd p
    ] h

below_each : (x : List ℕ) (es : List (List ℕ × List ℕ)) (i : ℕ) (file : List ℕ × List ℕ) → T (below_all name_order x es) → i < length es → file ≡ slice_index_or es i file → T (is_lt (name_order x file.0))
below_each x [] i file h lt at = absurd (omega (arith, lt))
below_each x (e ∷ es) zero file h lt at = subst (λ f. T (is_lt (name_order x f.0))) (sym at) (first _ _ h)
below_each x (e ∷ es) (suc i) file h lt at = below_each x es i file (second _ _ h) (omega (arith, lt)) at

apart : (r s : Ordering) → T (is_lt r) → s ≡ ordering_reverse r → is_eq s ≡ false
apart Less s p e = ap is_eq e
apart Equal s p e = absurd p
apart Greater s p e = absurd p

-- where files ascend, to take the one of a name away leaves those of other names
pub remove_others : (name : List ℕ) (files : List (List ℕ × List ℕ)) (i : ℕ) (file : List ℕ × List ℕ) → is_sorted name_order files ≡ true → i < length files → file ≡ slice_index_or files i file → name_order name file.0 ≡ Equal
    → remove files i ≡ others name files
remove_others name [] i file sorted lt at same = absurd (omega (arith, lt))
remove_others name (e ∷ es) zero file sorted lt at same =
    let here : name_order name e.0 ≡ Equal = subst (λ f. name_order name f.0 ≡ Equal) at same in
    let below : T (below_all name_order name es) = subst (λ x. T (below_all name_order x es)) (sym (same_name name e.0 here)) (first (below_all name_order e.0 es) (is_sorted name_order es) (as_T _ sorted)) in
    sym (ap (λ r. cond (not (is_eq r)) (e ∷ others name es) (others name es)) here ∙ above name es below)
remove_others name (e ∷ es) (suc i) file sorted lt at same =
    let below : T (is_lt (name_order e.0 file.0)) = below_each e.0 es i file (first (below_all name_order e.0 es) (is_sorted name_order es) (as_T _ sorted)) (omega (arith, lt)) at in
    let less : T (is_lt (name_order e.0 name)) = subst (λ x. T (is_lt (name_order e.0 x))) (sym (same_name name file.0 same)) below in
    let other : is_eq (name_order name e.0) ≡ false = apart _ _ less (nat_list_cmp_total.antisymm name e.0) in
    ap (λ t. e ∷ t) (remove_others name es i file (as_true _ (second (below_all name_order e.0 es) (is_sorted name_order es) (as_T _ sorted))) (omega (arith, lt)) at same)
    ∙ sym (ap (λ b. cond (not b) (e ∷ others name es) (others name es)) other)

other_name : (q name : List ℕ) → q ≢ name → eq_by_cmp name_order q name ≡ false
other_name q name ne = elim (name_order q name) as (λ r. name_order q name ≡ r → is_eq r ≡ false) [ Less ↦ λ e. refl | Equal ↦ λ e. absurd (ne (same_name q name e)) | Greater ↦ λ e. refl ] refl

-- what is put or taken away under a name changes no other
pub others_kept : (held : Files) (name : List ℕ) → SameBut name (Some held) (Some (map.remove held name))
others_kept held name q ne = map.get-remove nat_list_cmp_total held name q ∙ ap (λ b. cond b None (map.get held q)) (other_name q name ne)

pub others_kept_put : (held : Files) (name bytes : List ℕ) → SameBut name (Some held) (Some (map.insert held name bytes))
others_kept_put held name bytes q ne = map.get-insert nat_list_cmp_total held name bytes q ∙ ap (λ b. cond b (Some bytes) (map.get held q)) (other_name q name ne)

either : {A : Type 0} (b : Bool) (x y : A) → (T b → x ≡ y) → cond b x y ≡ y
either true x y e = e tt
either false x y e = refl

-- to take away what is not there changes nothing
pub remove_absent : (held : Files) (name : List ℕ) → map.get held name ≡ None → map.remove held name ≡ held
remove_absent held name none =
    map.same_map nat_list_cmp_total same_name _ _ (λ q. map.get-remove nat_list_cmp_total held name q
    ∙ either (eq_by_cmp name_order q name) None (map.get held q) (λ t. sym (ap (map.get held) (same_name q name (equal _ t)) ∙ none)))

again : {A : Type 0} (b : Bool) (x y z : A) → cond b x (cond b y z) ≡ cond b x z
again true x y z = refl
again false x y z = refl

-- to put what was taken away before is to put it
pub insert_removed : (held : Files) (name bytes : List ℕ) → map.insert (map.remove held name) name bytes ≡ map.insert held name bytes
insert_removed held name bytes =
    let o = nat_list_cmp_total in
    map.same_map o same_name _ _ (λ q. map.get-insert o (map.remove held name) name bytes q
    ∙ ap (λ v. cond (eq_by_cmp name_order q name) (Some bytes) v) (map.get-remove o held name q)
    ∙ again (eq_by_cmp name_order q name) (Some bytes) None (map.get held q)
    ∙ sym (map.get-insert o held name bytes q))

-- what is taken away changes nothing where nothing was there
pub absent_after : (taken : Option (List ℕ)) (held new : Files) (name : List ℕ) → taken ≡ map.get held name → new ≡ map.remove held name → IfNone taken (new ≡ held)
absent_after None held new name e is = is ∙ remove_absent held name (sym e)
absent_after (Some bytes) held new name e is = tt

-- to take a file away, add to its bytes and put it back is to put it with more after it
pub appended_after : (held rest new : Files) (name key : List ℕ) (taken : Option (List ℕ)) (none bytes all more : List ℕ) → taken ≡ map.get held name → rest ≡ map.remove held name
    → none ≡ [] → bytes ≡ unwrap_or taken none → all ≡ bytes ++ more → key ≡ name → new ≡ map.insert rest key all → new ≡ map.insert held name (bytes_of (Some held) name ++ more)
appended_after held rest new name key taken none bytes all more at left empty is with same put_in =
    let whole : all ≡ bytes_of (Some held) name ++ more = with ∙ ap (λ b. b ++ more) (is ∙ ap (unwrap_or taken) empty ∙ ap (λ o. unwrap_or o []) at) in
    put_in ∙ ap (λ m. map.insert m key all) left ∙ ap (λ k. map.insert (map.remove held name) k all) same ∙ ap (map.insert (map.remove held name) name) whole ∙ insert_removed held name (bytes_of (Some held) name ++ more)
