-- A cursor is closed, as the machine does: the files of lists that no other cursor was opened over go with it.
use Rattle.std.proofs.Common.{◌≡◌, ◌≢◌, ◌∙◌, ◌+◌, ◌<◌, ◌⊎◌, ◌||◌, inl, inr, ℕ, zero, suc, Bool, true, false, cond, nat_eq, List, [], ◌∷◌, ◌++◌, drop, filter, length, map, take, Option, Some, None, IfSome, Result, Ok, Err, refl, sym, ap, subst, arith, is_some}
use Rattle.std.specs.FinMap as finite
use Rattle.std.specs.List.{AllByRecursion, IsDistinct, list_any}
use Rattle.std.specs.Ordering.{eq_by_cmp}
use borrow.Author.Tests.{eqb-true, eqb-false}
use Rattle.std.proofs.lemmas.Bool.{false≢true}
use Rattle.std.proofs.lemmas.Cmp.{nat_list_cmp_total}
use Rattle.outside.specs.Files.{Files, name_order, without_file}
use Rattle.table_schema.specs.declared.table.Table.{Table}
use Rattle.segment_file.specs.Image.{file_of_rows}
use Rattle.segment_file.specs.Names.{file_of}
use Rattle.table_store.specs.Kept.{IsKeptName, kept_name}
use Rattle.table_store.specs.Stands.{KeptIdle, Stands}
use Rattle.table_store.specs.State.{HasTable, Segments, Texts}
use Rattle.table_store.proofs.KeptLemmas.{live_name}
use Rattle.cursor_serve.specs.Machine as machine
use Rattle.cursor_serve.specs.Machine.{After, Close, Cursor as Kept, Cursors, KeptList, Listed, Machine, Version, closed, closed_by, has_number, is_held}
use Rattle.cursor_serve.specs.Numbered.{IsListIn, IsNumbered, IsOneOf}
use Rattle.cursor_serve.specs.Sound.{IsAmong, IsKeptWell, IsSound}
use Rattle.cursor_serve.specs.ServingStands.{BothKept, HasFile, HasList, IsKeptAs, IsListOf, OpenCursor, ServingStands, first_of, is_live_by, kept_files, kept_under, segments_of, stands_as}
use Rattle.cursor_serve.proofs.FetchLemmas.{itself, tied}
use Rattle.cursor_serve.proofs.NumberedLemmas.{stays_numbered}
use Rattle.cursor_serve.proofs.SoundLemmas.{all_both, all_drop, all_so, any_found, held_by, same_number, took_cases}
use Rattle.serving.specs.Closed.{has_file, is_file}
use Rattle.cursors.specs.Kept.{same_name}

-- ---- among some

or_true : (a : Bool) → (a || true) ≡ true
or_true true = refl
or_true false = refl

-- a kept list is one of some
abbrev pub IsKeptOf : KeptList → List KeptList → Type 0
IsKeptOf k [] = ⊥
IsKeptOf k (x ∷ kept) = (x ≡ k) ⊎ IsKeptOf k kept

abbrev pub file_name : KeptList → List ℕ
file_name k = kept_name k.listed.name k.line

pub kept_all : (P : KeptList → Type 0) (k : KeptList) (kept : List KeptList) → AllByRecursion P kept → IsKeptOf k kept → P k
kept_all P k [] all one = absurd one
kept_all P k (x ∷ kept) all (inl same) = subst P same all.0
kept_all P k (x ∷ kept) all (inr later) = kept_all P k kept all.1 later

pub kept_among : (k : KeptList) (kept : List KeptList) → IsKeptOf k kept → IsAmong k.listed kept
kept_among k [] one = one
kept_among k (x ∷ kept) (inl same) = inl (ap (λ (x : KeptList). x.listed) same)
kept_among k (x ∷ kept) (inr later) = inr (kept_among k kept later)

record Passed (p : KeptList → Bool) (kept : List KeptList) : Type 0 where
  k : KeptList
  one : IsKeptOf k kept
  passes : p k ≡ true

any_passed : (p : KeptList → Bool) (kept : List KeptList) → list_any p kept ≡ true → Passed p kept
any_passed p [] any = absurd (false≢true any)
any_passed p (k ∷ kept) any = by (p k) refl any (any_passed p kept)
  where
    by : (b : Bool) → p k ≡ b → (b || list_any p kept) ≡ true → (list_any p kept ≡ true → Passed p kept) → Passed p (k ∷ kept)
    by true is any more = record { k = k; one = inl refl; passes = is }
    by false is any more = let f = more any in record { k = f.k; one = inr f.one; passes = f.passes }

pub passed_any : (p : KeptList → Bool) (k : KeptList) (kept : List KeptList) → IsKeptOf k kept → p k ≡ true → list_any p kept ≡ true
passed_any p k [] one is = absurd one
passed_any p k (x ∷ kept) (inl same) is = ap (λ b. b || list_any p kept) (ap p same ∙ is)
passed_any p k (x ∷ kept) (inr later) is = ap (λ b. p x || b) (passed_any p k kept later is) ∙ or_true (p x)

kept_filtered : (p : KeptList → Bool) (k : KeptList) (kept : List KeptList) → IsKeptOf k kept → p k ≡ true → IsKeptOf k (filter p kept)
kept_filtered p k [] one is = one
kept_filtered p k (x ∷ kept) one is = by (p x) refl one (λ later. kept_filtered p k kept later is)
  where
    by : (b : Bool) → p x ≡ b → (x ≡ k) ⊎ IsKeptOf k kept → (IsKeptOf k kept → IsKeptOf k (filter p kept)) → IsKeptOf k (cond b (x ∷ filter p kept) (filter p kept))
    by true e (inl same) more = inl same
    by true e (inr later) more = inr (more later)
    by false e (inl same) more = absurd (false≢true (sym e ∙ ap p same ∙ is))
    by false e (inr later) more = more later

filtered_kept : (p : KeptList → Bool) (k : KeptList) (kept : List KeptList) → IsKeptOf k (filter p kept) → IsKeptOf k kept × (p k ≡ true)
filtered_kept p k [] one = absurd one
filtered_kept p k (x ∷ kept) one = by (p x) refl one (filtered_kept p k kept)
  where
    by : (b : Bool) → p x ≡ b → IsKeptOf k (cond b (x ∷ filter p kept) (filter p kept)) → (IsKeptOf k (filter p kept) → IsKeptOf k kept × (p k ≡ true)) → ((x ≡ k) ⊎ IsKeptOf k kept) × (p k ≡ true)
    by true e (inl same) more = (inl same, ap p (sym same) ∙ e)
    by true e (inr later) more = let m = more later in (inr m.0, m.1)
    by false e one more = let m = more one in (inr m.0, m.1)

none_of : (x l : KeptList) (kept : List KeptList) → AllByRecursion (λ n. same_name (file_name x) n ≡ false) (map file_name kept) → IsKeptOf l kept → file_name x ≡ file_name l → ⊥
none_of x l [] all one e = one
none_of x l (y ∷ kept) all (inl same) e = false≢true (sym all.0 ∙ ap (same_name (file_name x)) (ap file_name same ∙ sym e) ∙ itself (file_name x))
none_of x l (y ∷ kept) all (inr later) e = none_of x l kept all.1 later e

-- kept lists of one name are one
pub same_of : (k l : KeptList) (kept : List KeptList) → IsDistinct same_name (map file_name kept) → IsKeptOf k kept → IsKeptOf l kept → file_name k ≡ file_name l → k ≡ l
unfolding IsDistinct
same_of k l [] once p q e = absurd p
same_of k l (x ∷ kept) once (inl p) (inl q) e = sym p ∙ q
same_of k l (x ∷ kept) once (inl p) (inr q) e = absurd (none_of x l kept once.0 q (ap file_name p ∙ e))
same_of k l (x ∷ kept) once (inr p) (inl q) e = absurd (none_of x k kept once.0 p (ap file_name q ∙ sym e))
same_of k l (x ∷ kept) once (inr p) (inr q) e = same_of k l kept once.1 p q e

-- ---- the files of kept lists

of_number : (k : KeptList) (kept : List KeptList) → IsDistinct nat_eq (map (λ k. k.listed.version.number) kept) → IsKeptOf k kept → first_of (kept_files k.listed.version.number kept) ≡ Some (file_name k)
unfolding IsDistinct
of_number k [] once one = absurd one
of_number k (x ∷ kept) once one = by (nat_eq x.listed.version.number k.listed.version.number) refl one (of_number k kept once.1)
  where
    apart : (kept : List KeptList) → AllByRecursion (λ n. nat_eq x.listed.version.number n ≡ false) (map (λ k. k.listed.version.number) kept) → IsKeptOf k kept → nat_eq x.listed.version.number k.listed.version.number ≡ true → ⊥
    apart [] all one is = one
    apart (y ∷ kept) all (inl same) is = false≢true (sym all.0 ∙ ap (λ (k : KeptList). nat_eq x.listed.version.number k.listed.version.number) same ∙ is)
    apart (y ∷ kept) all (inr later) is = apart kept all.1 later is

    by : (b : Bool) → nat_eq x.listed.version.number k.listed.version.number ≡ b → (x ≡ k) ⊎ IsKeptOf k kept → (IsKeptOf k kept → first_of (kept_files k.listed.version.number kept) ≡ Some (file_name k))
        → first_of (map file_name (cond b (x ∷ filter (λ k'. nat_eq k'.listed.version.number k.listed.version.number) kept) (filter (λ k'. nat_eq k'.listed.version.number k.listed.version.number) kept))) ≡ Some (file_name k)
    by true e (inl same) more = ap (λ k. Some (file_name k)) same
    by true e (inr later) more = absurd (apart kept once.0 later e)
    by false e (inl same) more = absurd (false≢true (sym e ∙ ap (λ (x : KeptList). nat_eq x.listed.version.number k.listed.version.number) same ∙ same_number k.listed.version.number))
    by false e (inr later) more = more later

pub record IsFileOf (f : List ℕ) (number : ℕ) (kept : List KeptList) : Type 0 where
  pub k : KeptList
  pub one : IsKeptOf k kept
  pub number_is : k.listed.version.number ≡ number
  pub named : file_name k ≡ f

pub file_of_number : (f : List ℕ) (number : ℕ) (kept : List KeptList) → first_of (kept_files number kept) ≡ Some f → IsFileOf f number kept
file_of_number f number [] is = absurd cc
file_of_number f number (x ∷ kept) is = by (nat_eq x.listed.version.number number) refl is (file_of_number f number kept)
  where
    by : (b : Bool) → nat_eq x.listed.version.number number ≡ b
        → first_of (map file_name (cond b (x ∷ filter (λ k. nat_eq k.listed.version.number number) kept) (filter (λ k. nat_eq k.listed.version.number number) kept))) ≡ Some f
        → (first_of (kept_files number kept) ≡ Some f → IsFileOf f number kept) → IsFileOf f number (x ∷ kept)
    by true e is more = record { k = x; one = inl refl; number_is = eqb-true x.listed.version.number number e; named = cc }
    by false e is more = let f = more is in record { k = f.k; one = inr f.one; number_is = f.number_is; named = f.named }

-- the same once those that nobody holds are left out
kept_held : (number : ℕ) (p : KeptList → Bool) (kept : List KeptList) → ((k : KeptList) → k.listed.version.number ≡ number → p k ≡ true) → kept_files number (filter p kept) ≡ kept_files number kept
kept_held number p [] all = refl
kept_held number p (x ∷ kept) all = by (p x) refl (nat_eq x.listed.version.number number) refl (kept_held number p kept all)
  where
    q : KeptList → Bool
    q k = nat_eq k.listed.version.number number

    by : (a : Bool) → p x ≡ a → (b : Bool) → q x ≡ b → kept_files number (filter p kept) ≡ kept_files number kept
        → map file_name (filter q (cond a (x ∷ filter p kept) (filter p kept))) ≡ map file_name (cond b (x ∷ filter q kept) (filter q kept))
    by true s true t rest = ap (λ b. map file_name (cond b (x ∷ filter q (filter p kept)) (filter q (filter p kept)))) t ∙ ap (λ l. file_name x ∷ l) rest
    by true s false t rest = ap (λ b. map file_name (cond b (x ∷ filter q (filter p kept)) (filter q (filter p kept)))) t ∙ rest
    by false s true t rest = absurd (false≢true (sym s ∙ all x (eqb-true x.listed.version.number number t)))
    by false s false t rest = rest

-- ---- lists and their files, among others

pub record IsNumberOf (number : ℕ) (lists : List Listed) : Type 0 where
  pub listed : Listed
  pub one : IsOneOf listed lists
  pub number_is : listed.version.number ≡ number

pub number_of : (number : ℕ) (lists : List Listed) → has_number number lists ≡ true → IsNumberOf number lists
number_of number [] has = absurd (false≢true has)
number_of number (x ∷ lists) has = by (nat_eq x.version.number number) refl has (number_of number lists)
  where
    by : (b : Bool) → nat_eq x.version.number number ≡ b → (b || has_number number lists) ≡ true → (has_number number lists ≡ true → IsNumberOf number lists) → IsNumberOf number (x ∷ lists)
    by true e has more = record { listed = x; one = inl refl; number_is = eqb-true x.version.number number e }
    by false e has more = let f = more has in record { listed = f.listed; one = inr f.one; number_is = f.number_is }

pub all_in : (xs : List Listed) → AllByRecursion (λ x. IsOneOf x xs) xs
all_in [] = tt
all_in (x ∷ xs) = (inl refl, all_so (λ y. IsOneOf y xs) (λ y. IsOneOf y (x ∷ xs)) (λ y one. inr one) xs (all_in xs))

pub one_number : (x : Listed) (xs : List Listed) → IsOneOf x xs → has_number x.version.number xs ≡ true
one_number x [] one = absurd one
one_number x (y ∷ xs) (inl same) = ap (λ b. b || has_number x.version.number xs) (ap (λ (l : Listed). nat_eq l.version.number x.version.number) same ∙ same_number x.version.number)
one_number x (y ∷ xs) (inr later) = ap (λ b. nat_eq y.version.number x.version.number || b) (one_number x xs later) ∙ or_true (nat_eq y.version.number x.version.number)

pub has_mapped : (m : Machine) (f : List ℕ) (x : Listed) (xs : List Listed) → IsOneOf x xs → stands_as m x ≡ Some f → has_file f (map (stands_as m) xs) ≡ true
has_mapped m f x [] one is = absurd one
has_mapped m f x (y ∷ xs) (inl same) is = ap (λ b. b || has_file f (map (stands_as m) xs)) (ap (is_file f) (ap (stands_as m) same ∙ is) ∙ itself f)
has_mapped m f x (y ∷ xs) (inr later) is = ap (λ b. is_file f (stands_as m y) || b) (has_mapped m f x xs later is) ∙ or_true (is_file f (stands_as m y))

pub record IsListAs (m : Machine) (f : List ℕ) (xs : List Listed) : Type 0 where
  pub x : Listed
  pub one : IsOneOf x xs
  pub is : stands_as m x ≡ Some f

pub file_is : (f : List ℕ) (o : Option (List ℕ)) → is_file f o ≡ true → o ≡ Some f
file_is f None is = absurd (false≢true is)
file_is f (Some g) is = ap Some (sym (tied f g is))

pub mapped_has : (m : Machine) (f : List ℕ) (xs : List Listed) → has_file f (map (stands_as m) xs) ≡ true → IsListAs m f xs
mapped_has m f [] has = absurd (false≢true has)
mapped_has m f (y ∷ xs) has = by (is_file f (stands_as m y)) refl has (mapped_has m f xs)
  where
    by : (b : Bool) → is_file f (stands_as m y) ≡ b → (b || has_file f (map (stands_as m) xs)) ≡ true → (has_file f (map (stands_as m) xs) ≡ true → IsListAs m f xs) → IsListAs m f (y ∷ xs)
    by true e has more = record { x = y; one = inl refl; is = file_is f (stands_as m y) e }
    by false e has more = let r = more has in record { x = r.x; one = inr r.one; is = r.is }

map_same : (m n : Machine) (xs : List Listed) → AllByRecursion (λ x. stands_as n x ≡ stands_as m x) xs → map (stands_as n) xs ≡ map (stands_as m) xs
map_same m n [] all = refl
map_same m n (x ∷ xs) all = λ i. all.0 i ∷ map_same m n xs all.1 i

pub differ : (q name : List ℕ) → q ≢ name → same_name q name ≡ false
differ q name ne = by (same_name q name) refl
  where
    by : (b : Bool) → same_name q name ≡ b → b ≡ false
    by true e = absurd (ne (tied q name e))
    by false e = refl

-- ---- the cursors once one is out

-- the cursors that are kept, without that of a name
abbrev pub TakesUnder : List ℕ → List OpenCursor → List OpenCursor → Type 0
TakesUnder name old new = (q : List ℕ) → kept_under q new ≡ cond (same_name q name) None (kept_under q old)

module _ (table : Table) (files left : Files) (texts : Texts) (m : Machine) (name : List ℕ) (olds news : List OpenCursor) (cursor : Kept) (own : OpenCursor)
    (stands : ServingStands olds files texts table m) (got : finite.get m.cursors name ≡ Some cursor) (is_own : IsKeptAs m cursor own) (gone : List (List ℕ)) where
  abbrev rest : Cursors
  rest = finite.remove m.cursors name

  abbrev held : KeptList → Bool
  held k = is_held k.listed.version.number rest

  abbrev next : Machine
  next = (closed_by name (Some cursor) m).machine

  -- no other cursor has a file
  abbrev Alone : List ℕ → Type 0
  Alone f = (q : List ℕ) (k : OpenCursor) → same_name q name ≡ false → kept_under q olds ≡ Some k → has_file f k.files ≡ false

  record IsOtherKept (q : List ℕ) (c : Kept) : Type 0 where
    k : OpenCursor
    under : kept_under q olds ≡ Some k
    apart : same_name q name ≡ false
    is : IsKeptAs m c k
    was : finite.get m.cursors q ≡ Some c

  other_kept : (q : List ℕ) (c : Kept) → finite.get rest q ≡ Some c → IsOtherKept q c
  other_kept q c there = by (kept_under q olds) refl (subst (λ o. BothKept m o (kept_under q olds)) two.1 (stands.cursors q))
    where
      two : (q ≢ name) × (finite.get m.cursors q ≡ Some c)
      two = took_cases m.cursors name q c there

      by : (o : Option OpenCursor) → kept_under q olds ≡ o → BothKept m (Some c) o → IsOtherKept q c
      by None e both = absurd both
      by (Some k) e both = record { k = k; under = e; apart = differ q name two.0; is = both; was = two.1 }

  same_stands : (q : List ℕ) (c : Kept) → finite.get rest q ≡ Some c → (x : Listed) → IsOneOf x c.lists → stands_as next x ≡ stands_as m x
  same_stands q c there x one = ap (λ l. cond (is_live_by x.version.number (finite.get m.live x.name)) (Some (file_of x.name)) (first_of l))
      (kept_held x.version.number held m.kept (λ k e. ap (λ n. is_held n rest) e ∙ held_by x.version.number rest q c there (one_number x c.lists one)))

  all_same : (q : List ℕ) (c : Kept) → finite.get rest q ≡ Some c → AllByRecursion (λ x. stands_as next x ≡ stands_as m x) c.lists
  all_same q c there = all_so (λ x. IsOneOf x c.lists) (λ x. stands_as next x ≡ stands_as m x) (same_stands q c there) c.lists (all_in c.lists)

  kept_next : (q : List ℕ) (c : Kept) (k : OpenCursor) → finite.get rest q ≡ Some c → IsKeptAs m c k → IsKeptAs next c k
  kept_next q c k there is = record { query = is.query; segments = is.segments; answered = is.answered; groups = is.groups; files = is.files ∙ sym (map_same m next c.lists (all_same q c there)) }

  both_next : (q : List ℕ) (o : Option Kept) (k : Option OpenCursor) → finite.get rest q ≡ o → BothKept m o k → BothKept next o k
  both_next q None None e both = tt
  both_next q None (Some k) e both = absurd both
  both_next q (Some c) None e both = absurd both
  both_next q (Some c) (Some k) e both = kept_next q c k e both

  -- ---- kept lists that nobody holds, and the files that go

  -- a list of the machine with the number of a kept list stands as its file
  stands_kept : (x : Listed) → IsListIn m x → (k : KeptList) → IsKeptOf k m.kept → x.version.number ≡ k.listed.version.number → stands_as m x ≡ Some (file_name k)
  stands_kept x there k one e =
      let same : x ≡ k.listed = stands.numbered.one x k.listed there (inr (inr (kept_among k m.kept one))) e in
      let well : IsKeptWell m k = kept_all (IsKeptWell m) k m.kept stands.sound.kept one in
      ap (stands_as m) same
      ∙ ap (λ b. cond b (Some (file_of k.listed.name)) (first_of (kept_files k.listed.version.number m.kept))) (not_live k.listed.version.number (finite.get m.live k.listed.name) well.out)
      ∙ of_number k m.kept stands.numbered.once one
    where
      not_live : (n : ℕ) (o : Option Version) → ((v : Version) → o ≡ Some v → v.number ≢ n) → is_live_by n o ≡ false
      not_live n None out = refl
      not_live n (Some v) out = by (nat_eq v.number n) refl
        where
          by : (b : Bool) → nat_eq v.number n ≡ b → b ≡ false
          by true e = absurd (out v refl (eqb-true v.number n e))
          by false e = refl

  -- a list that stands as a kept file has the number of its kept list
  kept_of : (x : Listed) (f : List ℕ) → IsKeptName f → stands_as m x ≡ Some f → IsFileOf f x.version.number m.kept
  kept_of x f kept is = by (is_live_by x.version.number (finite.get m.live x.name)) is
    where
      by : (b : Bool) → cond b (Some (file_of x.name)) (first_of (kept_files x.version.number m.kept)) ≡ Some f → IsFileOf f x.version.number m.kept
      by true is = let same : file_of x.name ≡ f = cc in absurd (live_name x.name (subst IsKeptName (sym same) kept))
      by false is = file_of_number f x.version.number m.kept is

  of_cursor : (q : List ℕ) (c : Kept) → finite.get m.cursors q ≡ Some c → (x : Listed) → IsOneOf x c.lists → IsListIn m x
  of_cursor q c there x one = inr (inl (record { name = q; cursor = c; got = there; among = one }))

  -- a kept list that another cursor holds stays with it
  held_stays : (k : KeptList) → IsKeptOf k m.kept → held k ≡ true → Alone (file_name k) → ⊥
  held_stays k one is alone =
      let f = any_found (λ (c : Kept). has_number k.listed.version.number c.lists) (finite.entries rest) (finite.entries_sorted rest) is in
      let there : finite.get rest f.name ≡ Some f.value = finite.get-entries rest f.name ∙ f.found in
      let other = other_kept f.name f.value there in
      let n = number_of k.listed.version.number f.value.lists f.passes in
      let stood : stands_as m n.listed ≡ Some (file_name k) = stands_kept n.listed (of_cursor f.name f.value other.was n.listed n.one) k one n.number_is in
      let has : has_file (file_name k) other.k.files ≡ true = ap (has_file (file_name k)) other.is.files ∙ has_mapped m (file_name k) n.listed f.value.lists n.one stood in
      false≢true (sym (alone f.name other.k other.apart other.under) ∙ has)

  -- one that no other holds is the closed cursor's alone
  unheld_alone : (k : KeptList) → IsKeptName (file_name k) → IsKeptOf k m.kept → held k ≡ false → (q : List ℕ) (other : OpenCursor) → same_name q name ≡ false → kept_under q olds ≡ Some other → (b : Bool) → has_file (file_name k) other.files ≡ b → b ≡ false
  unheld_alone k named one none q other apart under false has = refl
  unheld_alone k named one none q other apart under true has = absurd (by (finite.get m.cursors q) refl (subst (BothKept m (finite.get m.cursors q)) under (stands.cursors q)))
    where
      by : (o : Option Kept) → finite.get m.cursors q ≡ o → BothKept m o (Some other) → ⊥
      by None e both = both
      by (Some c) e both =
          let r = mapped_has m (file_name k) c.lists (ap (has_file (file_name k)) (sym both.files) ∙ has) in
          let f = kept_of r.x (file_name k) named r.is in
          let same : f.k ≡ k = same_of f.k k m.kept stands.apart f.one one f.named in
          let number : r.x.version.number ≡ k.listed.version.number = sym f.number_is ∙ ap (λ (k : KeptList). k.listed.version.number) same in
          let there : finite.get rest q ≡ Some c = finite.get-remove nat_list_cmp_total m.cursors name q ∙ ap (λ b. cond b None (finite.get m.cursors q)) apart ∙ e in
          let is : held k ≡ true = held_by k.listed.version.number rest q c there (ap (λ n. has_number n c.lists) (sym number) ∙ one_number r.x c.lists r.one) in
          false≢true (sym none ∙ is)

  unheld_own : (k : KeptList) → IsKeptOf k m.kept → held k ≡ false → has_file (file_name k) own.files ≡ true
  unheld_own k one none =
      let well : IsKeptWell m k = kept_all (IsKeptWell m) k m.kept stands.sound.kept one in
      let f = any_found (λ (c : Kept). has_number k.listed.version.number c.lists) (finite.entries m.cursors) (finite.entries_sorted m.cursors) well.held in
      by f.name f.value (finite.get-entries m.cursors f.name ∙ f.found) f.passes (same_name f.name name) refl
    where
      by : (q : List ℕ) (c : Kept) → finite.get m.cursors q ≡ Some c → has_number k.listed.version.number c.lists ≡ true → (b : Bool) → same_name q name ≡ b → has_file (file_name k) own.files ≡ true
      by q c there has true same =
          let one_is : Some cursor ≡ Some c = sym got ∙ ap (finite.get m.cursors) (sym (tied q name same)) ∙ there in
          let it : cursor ≡ c = cc in
          let n = number_of k.listed.version.number cursor.lists (ap (λ (c : Kept). has_number k.listed.version.number c.lists) it ∙ has) in
          ap (has_file (file_name k)) is_own.files
          ∙ has_mapped m (file_name k) n.listed cursor.lists n.one (stands_kept n.listed (of_cursor name cursor got n.listed n.one) k one n.number_is)
      by q c there has false apart =
          let in_rest : finite.get rest q ≡ Some c = finite.get-remove nat_list_cmp_total m.cursors name q ∙ ap (λ b. cond b None (finite.get m.cursors q)) apart ∙ there in
          absurd (false≢true (sym none ∙ held_by k.listed.version.number rest q c in_rest has))

  -- ---- the files that are left

  module _ (alone : (f : List ℕ) → list_any (same_name f) gone ≡ true → Alone f)
      (all : (f : List ℕ) → IsKeptName f → has_file f own.files ≡ true → Alone f → list_any (same_name f) gone ≡ true)
      (left_got : (f : List ℕ) → finite.get left f ≡ cond (list_any (same_name f) gone) None (finite.get files f)) where
    still_there : (q : List ℕ) (c : Kept) → finite.get rest q ≡ Some c → (x : Listed) → IsOneOf x c.lists → (f : List ℕ) → stands_as m x ≡ Some f → finite.get left f ≡ finite.get files f
    still_there q c there x one f is = left_got f ∙ ap (λ b. cond b None (finite.get files f)) (by (list_any (same_name f) gone) refl)
      where
        by : (b : Bool) → list_any (same_name f) gone ≡ b → b ≡ false
        by true e =
            let other = other_kept q c there in
            let has : has_file f other.k.files ≡ true = ap (has_file f) other.is.files ∙ has_mapped m f x c.lists one is in
            absurd (false≢true (sym (alone f e q other.k other.apart other.under) ∙ has))
        by false e = refl

    list_next : (q : List ℕ) (c : Kept) → finite.get rest q ≡ Some c → (x : Listed) → IsOneOf x c.lists → IsListOf table files m x → IsListOf table left next x
    list_next q c there x one of = record { segment = of.segment; image = subst (HasList table left x) (sym (same_stands q c there x one)) (by (stands_as m x) refl of.image) }
      where
        by : (o : Option (List ℕ)) → stands_as m x ≡ o → HasList table files x o → HasList table left x o
        by None e image = tt
        by (Some f) e image = still_there q c there x one f e ∙ image

    kept_left : (f : List ℕ) → IsKeptName f → finite.contains_key left f ≡ list_any (λ k. same_name f (file_name k)) (filter held m.kept)
    kept_left f named =
        ap is_some (left_got f) ∙ cond_some (list_any (same_name f) gone) ∙ ap (λ b. cond (list_any (same_name f) gone) false b) (stands.kept f named)
        ∙ by (list_any p m.kept) refl
      where
        p : KeptList → Bool
        p k = same_name f (file_name k)

        cond_some : (b : Bool) → is_some (cond b None (finite.get files f)) ≡ cond b false (finite.contains_key files f)
        cond_some true = refl
        cond_some false = refl

        none_left : (b : Bool) → list_any p (filter held m.kept) ≡ b → list_any p m.kept ≡ false → b ≡ false
        none_left false e none = refl
        none_left true e none =
            let r = any_passed p (filter held m.kept) e in
            let two = filtered_kept held r.k m.kept r.one in
            absurd (false≢true (sym none ∙ passed_any p r.k m.kept two.0 r.passes))

        never : (b : Bool) → cond b false false ≡ false
        never true = refl
        never false = refl

        one_by : (k : KeptList) → IsKeptOf k m.kept → p k ≡ true → (b : Bool) → held k ≡ b → (g : Bool) → list_any (same_name f) gone ≡ g → (l : Bool) → list_any p (filter held m.kept) ≡ l → cond g false true ≡ l
        one_by k one is true h true g l e = absurd (held_stays k one h (subst Alone (tied f (file_name k) is) (alone f g)))
        one_by k one is true h false g true e = refl
        one_by k one is true h false g false e = absurd (false≢true (sym e ∙ passed_any p k (filter held m.kept) (kept_filtered held k m.kept one h) is))
        one_by k one is false h true g false e = refl
        one_by k one is false h true g true e =
            let r = any_passed p (filter held m.kept) e in
            let two = filtered_kept held r.k m.kept r.one in
            let same : r.k ≡ k = same_of r.k k m.kept stands.apart two.0 one (sym (tied f (file_name r.k) r.passes) ∙ tied f (file_name k) is) in
            absurd (false≢true (sym h ∙ ap held (sym same) ∙ two.1))
        one_by k one is false h false g l e =
            let same : f ≡ file_name k = tied f (file_name k) is in
            let there : list_any (same_name f) gone ≡ true = all f named (ap (λ n. has_file n own.files) same ∙ unheld_own k one h)
            (λ q other apart under. ap (λ n. has_file n other.files) same ∙ unheld_alone k (subst IsKeptName same named) one h q other apart under (has_file (file_name k) other.files) refl) in
            absurd (false≢true (sym g ∙ there))

        by : (b : Bool) → list_any p m.kept ≡ b → cond (list_any (same_name f) gone) false b ≡ list_any p (filter held m.kept)
        by false e = never (list_any (same_name f) gone) ∙ sym (none_left (list_any p (filter held m.kept)) refl e)
        by true e = let r = any_passed p m.kept e in one_by r.k r.one r.passes (held r.k) refl (list_any (same_name f) gone) refl (list_any p (filter held m.kept)) refl

    apart_left : (kept : List KeptList) → IsDistinct same_name (map file_name kept) → IsDistinct same_name (map file_name (filter held kept))
    unfolding IsDistinct
    apart_left [] once = tt
    apart_left (k ∷ kept) once = by (held k) (others kept once.0) (apart_left kept once.1)
      where
        others : (ks : List KeptList) → AllByRecursion (λ n. same_name (file_name k) n ≡ false) (map file_name ks) → AllByRecursion (λ n. same_name (file_name k) n ≡ false) (map file_name (filter held ks))
        others [] all = tt
        others (x ∷ ks) all = one (held x) (others ks all.1)
          where
            one : (b : Bool) → AllByRecursion (λ n. same_name (file_name k) n ≡ false) (map file_name (filter held ks)) → AllByRecursion (λ n. same_name (file_name k) n ≡ false) (map file_name (cond b (x ∷ filter held ks) (filter held ks)))
            one true rest = (all.0, rest)
            one false rest = rest

        by : (b : Bool) → AllByRecursion (λ n. same_name (file_name k) n ≡ false) (map file_name (filter held kept)) → IsDistinct same_name (map file_name (filter held kept)) → IsDistinct same_name (map file_name (cond b (k ∷ filter held kept) (filter held kept)))
        by true none rest = (none, rest)
        by false none rest = rest

    pub closes_stand : TakesUnder name olds news → Stands left (HasTable texts (segments_of m.live)) → IsSound next → IsNumbered next → ServingStands news left texts table next
    closes_stand takes live sound numbered = record {
      accepted = stands.accepted;
      sound = sound;
      numbered = numbered;
      cursors = λ q.
          subst (BothKept next (finite.get rest q)) (sym (takes q))
          (by q (same_name q name) refl);
      answered = λ q c there. all_both (λ x. stands_as next x ≡ stands_as m x) (HasFile m) (HasFile next) (λ x same has. (has.0, same ∙ has.1)) (drop c.answered c.lists)
          (all_drop (λ x. stands_as next x ≡ stands_as m x) c.answered c.lists (all_same q c there)) (stands.answered q c (other_kept q c there).was);
      lists = λ q c there. all_both (λ x. IsOneOf x c.lists) (IsListOf table files m) (IsListOf table left next) (list_next q c there) c.lists (all_in c.lists) (stands.lists q c (other_kept q c there).was);
      live = live;
      kept = kept_left;
      apart = apart_left m.kept stands.apart;
    }
      where
        by : (q : List ℕ) (b : Bool) → same_name q name ≡ b → BothKept next (finite.get rest q) (cond b None (kept_under q olds))
        by q true same = subst (λ o. BothKept next o None) (sym (finite.get-remove nat_list_cmp_total m.cursors name q ∙ ap (λ b. cond b None (finite.get m.cursors q)) same)) tt
        by q false apart =
            let is : finite.get rest q ≡ finite.get m.cursors q = finite.get-remove nat_list_cmp_total m.cursors name q ∙ ap (λ b. cond b None (finite.get m.cursors q)) apart in
            both_next q (finite.get rest q) (kept_under q olds) refl (subst (λ o. BothKept m o (kept_under q olds)) (sym is) (stands.cursors q))
