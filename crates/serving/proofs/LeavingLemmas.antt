-- A list is live no longer, as the machine has it: where rows stand then, and that what is left stands for the machine.
use Rattle.std.proofs.Common.{◌≡◌, ◌≢◌, ◌∙◌, ◌+◌, ◌<◌, ◌||◌, inl, inr, ℕ, Bool, true, false, cond, nat_eq, List, [], ◌∷◌, ◌++◌, drop, filter, map, Option, Some, None, refl, sym, ap, subst, is_some, option_map, unwrap_or}
use Rattle.std.specs.Prelude.{codes}
use Rattle.std.specs.Fmt.{decimal}
use Rattle.std.specs.FinMap as finite
use Rattle.std.specs.List.{AllByRecursion, IsDistinct, list_any}
use borrow.Author.Tests.{eqb-true}
use Rattle.std.proofs.lemmas.Bool.{false≢true}
use Rattle.outside.specs.Files.{Files, bytes_of}
use Rattle.table_schema.specs.declared.table.Table.{Table}
use Rattle.segment_file.specs.Image.{file_of_rows}
use Rattle.segment_file.specs.Names.{file_of}
use Rattle.table_store.specs.Kept.{IsKeptName, kept_name}
use Rattle.table_store.specs.Stands.{Stands}
use Rattle.table_store.specs.State.{HasTable, Texts}
use Rattle.table_store.proofs.KeptLemmas.{live_name}
use Rattle.table_store.proofs.NameLemmas.{stem_back}
use Rattle.table_store.specs.Segments.{stem}
use Rattle.cursor_serve.specs.Machine.{Cursor as Kept, KeptList, Listed, Live, Machine, Version, has_number, is_awaited, kept_with}
use Rattle.cursor_serve.specs.Numbered.{IsListIn, IsNumbered, IsOneOf}
use Rattle.cursor_serve.specs.Sound.{IsKeptWell, IsOwn, IsSound}
use Rattle.cursor_serve.specs.ServingStands.{BothKept, HasFile, HasList, IsKeptAs, IsListOf, OpenCursor, ServingStands, first_of, is_live_by, kept_files, kept_under, segments_of, stands_as}
use Rattle.cursor_serve.proofs.FetchLemmas.{itself, tied}
use Rattle.cursor_serve.proofs.SoundLemmas.{all_both, all_drop, awaited_by, same_number}
use Rattle.serving.specs.Aside.{kept_if, stands_aside}
use Rattle.serving.specs.Closed.{has_file}
use Rattle.cursors.specs.Kept.{same_name}
use Rattle.serving.proofs.CloseLemmas.{IsKeptOf, all_in, differ, file_name, file_of_number, has_mapped, kept_all, kept_among, mapped_has, one_number, passed_any}
use Rattle.serving.proofs.GoneLemmas.{any_joined}

-- ---- names

pub named_kept : (name : List ℕ) (line : ℕ) → IsKeptName (kept_name name line)
named_kept name line = (name ++ codes "." ++ decimal line, refl)

pub file_one : (a b : List ℕ) → file_of a ≡ file_of b → a ≡ b
file_one a b e = sym (stem_back a) ∙ ap stem e ∙ stem_back b

pub first_kept : (n : ℕ) (kept : List KeptList) (f : List ℕ) → first_of (kept_files n kept) ≡ Some f → IsKeptName f
first_kept n kept f is = let r = file_of_number f n kept is in subst IsKeptName r.named (named_kept r.k.listed.name r.k.line)

-- ---- kept lists, with one more

kept_more : (n : ℕ) (kept : List KeptList) (k : KeptList) (b : Bool) → nat_eq k.listed.version.number n ≡ b → kept_files n (kept ++ k ∷ []) ≡ kept_files n kept ++ cond b (file_name k ∷ []) []
kept_more n [] k b is = ap (λ b. map file_name (cond b (k ∷ []) [])) is ∙ by b
  where
    by : (b : Bool) → map file_name (cond b (k ∷ []) []) ≡ cond b (file_name k ∷ []) []
    by true = refl
    by false = refl
kept_more n (x ∷ kept) k b is = by (nat_eq x.listed.version.number n) (kept_more n kept k b is)
  where
    q : KeptList → Bool
    q k = nat_eq k.listed.version.number n

    by : (a : Bool) → map file_name (filter q (kept ++ k ∷ [])) ≡ map file_name (filter q kept) ++ cond b (file_name k ∷ []) []
        → map file_name (cond a (x ∷ filter q (kept ++ k ∷ [])) (filter q (kept ++ k ∷ []))) ≡ map file_name (cond a (x ∷ filter q kept) (filter q kept)) ++ cond b (file_name k ∷ []) []
    by true rest = ap (λ l. file_name x ∷ l) rest
    by false rest = rest

none_numbered : (n : ℕ) (kept : List KeptList) → ((k : KeptList) → IsKeptOf k kept → k.listed.version.number ≢ n) → kept_files n kept ≡ []
none_numbered n [] apart = refl
none_numbered n (x ∷ kept) apart = by (nat_eq x.listed.version.number n) refl (none_numbered n kept (λ k one. apart k (inr one)))
  where
    q : KeptList → Bool
    q k = nat_eq k.listed.version.number n

    by : (b : Bool) → nat_eq x.listed.version.number n ≡ b → map file_name (filter q kept) ≡ [] → map file_name (cond b (x ∷ filter q kept) (filter q kept)) ≡ []
    by true e rest = absurd (apart x (inl refl) (eqb-true x.listed.version.number n e))
    by false e rest = rest

apart_pushed : (kept : List KeptList) (k : KeptList) → AllByRecursion (λ x. same_name (file_name x) (file_name k) ≡ false) kept → IsDistinct same_name (map file_name kept) → IsDistinct same_name (map file_name (kept ++ k ∷ []))
unfolding IsDistinct
apart_pushed [] k all once = (tt, tt)
apart_pushed (x ∷ kept) k all once = (others kept once.0, apart_pushed kept k all.1 once.1)
  where
    others : (ks : List KeptList) → AllByRecursion (λ n. same_name (file_name x) n ≡ false) (map file_name ks) → AllByRecursion (λ n. same_name (file_name x) n ≡ false) (map file_name (ks ++ k ∷ []))
    others [] rest = (all.0, tt)
    others (y ∷ ks) rest = (rest.0, others ks rest.1)

all_kept : (P : KeptList → Type 0) (kept : List KeptList) → ((k : KeptList) → IsKeptOf k kept → P k) → AllByRecursion P kept
all_kept P [] each = tt
all_kept P (k ∷ kept) each = (each k (inl refl), all_kept P kept (λ x one. each x (inr one)))

one_in : (P : Listed → Type 0) (x : Listed) (xs : List Listed) → AllByRecursion P xs → IsOneOf x xs → P x
one_in P x [] all one = absurd one
one_in P x (y ∷ xs) all (inl same) = subst P same all.0
one_in P x (y ∷ xs) all (inr later) = one_in P x xs all.1 later

-- ---- cursors that are kept, with other files

-- a cursor whose rows stand elsewhere once a file is gone
abbrev pub open_aside : List ℕ → Option (List ℕ) → OpenCursor → OpenCursor
open_aside file kept cursor = record cursor { files = map (stands_aside file kept) cursor.files }

pub under_aside : (file : List ℕ) (kept : Option (List ℕ)) (q : List ℕ) (ks : List OpenCursor) → kept_under q (map (open_aside file kept) ks) ≡ option_map (open_aside file kept) (kept_under q ks)
under_aside file kept q [] = refl
under_aside file kept q (k ∷ ks) = by (same_name q k.name) (under_aside file kept q ks)
  where
    by : (b : Bool) → kept_under q (map (open_aside file kept) ks) ≡ option_map (open_aside file kept) (kept_under q ks)
        → cond b (Some (open_aside file kept k)) (kept_under q (map (open_aside file kept) ks)) ≡ option_map (open_aside file kept) (cond b (Some k) (kept_under q ks))
    by true rest = refl
    by false rest = rest

mapped_aside : (file : List ℕ) (kept : Option (List ℕ)) (m n : Machine) (xs : List Listed) → AllByRecursion (λ x. stands_as n x ≡ stands_aside file kept (stands_as m x)) xs → map (stands_aside file kept) (map (stands_as m) xs) ≡ map (stands_as n) xs
mapped_aside file kept m n [] all = refl
mapped_aside file kept m n (x ∷ xs) all = λ i. sym all.0 i ∷ mapped_aside file kept m n xs all.1 i

module _ (table : Table) (files : Files) (texts : Texts) (m : Machine) (olds : List OpenCursor) (stands : ServingStands olds files texts table m) (name : List ℕ) (version : Version) (got : finite.get m.live name ≡ Some version) where
  abbrev pub gone : List ℕ
  gone = file_of name

  pub of_cursor : (q : List ℕ) (c : Kept) → finite.get m.cursors q ≡ Some c → (x : Listed) → IsOneOf x c.lists → IsListIn m x
  of_cursor q c there x one = inr (inl (record { name = q; cursor = c; got = there; among = one }))

  -- a list with the number of the one that goes is that one
  same_list : (x : Listed) → IsListIn m x → x.version.number ≡ version.number → x ≡ record { name = name; version = version }
  same_list x there e = stands.numbered.one x (record { name = name; version = version }) there (inl got) e

  -- it is the one that is live under its name
  live_by : (x : Listed) → IsListIn m x → x.version.number ≡ version.number → is_live_by x.version.number (finite.get m.live x.name) ≡ true
  live_by x there e =
      let same = same_list x there e in
      ap (λ (x : Listed). is_live_by x.version.number (finite.get m.live x.name)) same ∙ ap (is_live_by version.number) got ∙ same_number version.number

  pub stands_live : (x : Listed) → IsListIn m x → x.version.number ≡ version.number → stands_as m x ≡ Some gone
  stands_live x there e =
      ap (λ b. cond b (Some (file_of x.name)) (first_of (kept_files x.version.number m.kept))) (live_by x there e)
      ∙ ap (λ (x : Listed). Some (file_of x.name)) (same_list x there e)

  number_live : (n : ℕ) (o : Option Version) → o ≡ Some version → is_live_by n o ≡ true → n ≡ version.number
  number_live n None e is = absurd cc
  number_live n (Some v) e is = let same : v ≡ version = cc in sym (eqb-true v.number n is) ∙ ap (λ (v : Version). v.number) same

  -- and the one whose rows stand in its file
  gone_number : (x : Listed) → stands_as m x ≡ Some gone → x.version.number ≡ version.number
  gone_number x is = by (is_live_by x.version.number (finite.get m.live x.name)) refl is
    where
      by : (b : Bool) → is_live_by x.version.number (finite.get m.live x.name) ≡ b → cond b (Some (file_of x.name)) (first_of (kept_files x.version.number m.kept)) ≡ Some gone → x.version.number ≡ version.number
      by true live is =
          let same : file_of x.name ≡ gone = cc in
          number_live x.version.number (finite.get m.live x.name) (ap (finite.get m.live) (file_one x.name name same) ∙ got) live
      by false live is = absurd (live_name name (first_kept x.version.number m.kept gone is))

  none_kept : kept_files version.number m.kept ≡ []
  none_kept = none_numbered version.number m.kept (λ k one e.
      let there : IsListIn m k.listed = inr (inr (kept_among k m.kept one)) in
      let same : k.listed ≡ record { name = name; version = version } = same_list k.listed there e in
      let well : IsKeptWell m k = kept_all (IsKeptWell m) k m.kept stands.sound.kept one in
      well.out version (ap (λ (x : Listed). finite.get m.live x.name) same ∙ got) (sym e))

  -- ---- who has still to answer it

  pub awaited_in : (q : List ℕ) (c : Kept) → finite.get m.cursors q ≡ Some c → has_file gone (map (stands_as m) (drop c.answered c.lists)) ≡ true → is_awaited version.number m.cursors ≡ true
  awaited_in q c there has =
      let r = mapped_has m gone (drop c.answered c.lists) has in
      let number : r.x.version.number ≡ version.number = gone_number r.x r.is in
      awaited_by version.number m.cursors q c there (ap (λ n. has_number n (drop c.answered c.lists)) (sym number) ∙ one_number r.x (drop c.answered c.lists) r.one)

-- ---- once it is live no longer

module _ (table : Table) (files left : Files) (texts : Texts) (m : Machine) (olds : List OpenCursor) (stands : ServingStands olds files texts table m) (name : List ℕ) (line : ℕ) (version : Version)
    (got : finite.get m.live name ≡ Some version) (lacks : finite.get files (kept_name name line) ≡ None) (lives : Live) (number : ℕ) where
  abbrev file : List ℕ
  file = file_of name

  abbrev awaited : Bool
  awaited = is_awaited version.number m.cursors

  abbrev kept : Option (List ℕ)
  kept = kept_if awaited name line

  abbrev own : KeptList
  own = record { listed = record { name = name; version = version }; line = line }

  abbrev pub leaving : Machine
  leaving = record m { live = lives; next = number; kept = kept_with line name version m }

  abbrev news : List OpenCursor
  news = map (open_aside file kept) olds

  -- other lists are live as before, and this one is live no longer
  abbrev pub Leaves : Type 0
  Leaves = (n : ℕ) (q : List ℕ) → n < m.next → is_live_by n (finite.get lives q) ≡ cond (same_name q name) false (is_live_by n (finite.get m.live q))

  kept_by : (b : Bool) (n : ℕ) (c : Bool) → nat_eq version.number n ≡ c → kept_files n (cond b (m.kept ++ own ∷ []) m.kept) ≡ kept_files n m.kept ++ cond b (cond c (kept_name name line ∷ []) []) []
  kept_by true n c is = kept_more n m.kept own c is
  kept_by false n c is = sym (nil (kept_files n m.kept))
    where
      nil : (xs : List (List ℕ)) → xs ++ [] ≡ xs
      nil [] = refl
      nil (x ∷ xs) = ap (λ l. x ∷ l) (nil xs)

  plain : (xs : List (List ℕ)) (b : Bool) → xs ++ cond b [] [] ≡ xs
  plain [] true = refl
  plain [] false = refl
  plain (x ∷ xs) b = ap (λ l. x ∷ l) (plain xs b)

  first_one : (b : Bool) → first_of ([] ++ cond b (kept_name name line ∷ []) []) ≡ kept_if b name line
  first_one true = refl
  first_one false = refl

  next_by : (x : Listed) (b : Bool) → is_live_by x.version.number (finite.get lives x.name) ≡ b → stands_as leaving x ≡ cond b (Some (file_of x.name)) (first_of (kept_files x.version.number leaving.kept))
  next_by x b is = ap (λ b. cond b (Some (file_of x.name)) (first_of (kept_files x.version.number leaving.kept))) is

  was_by : (x : Listed) (b : Bool) → is_live_by x.version.number (finite.get m.live x.name) ≡ b → stands_as m x ≡ cond b (Some (file_of x.name)) (first_of (kept_files x.version.number m.kept))
  was_by x b is = ap (λ b. cond b (Some (file_of x.name)) (first_of (kept_files x.version.number m.kept))) is

  -- no kept file is the one that goes
  not_file : (o : Option (List ℕ)) → ((f : List ℕ) → o ≡ Some f → f ≢ file) → stands_aside file kept o ≡ o
  not_file None other = refl
  not_file (Some f) other = ap (λ b. cond b kept (Some f)) (differ file f (λ e. other f refl (sym e)))

  stands_next : Leaves → (x : Listed) → IsListIn m x → x.version.number < m.next → stands_as leaving x ≡ stands_aside file kept (stands_as m x)
  stands_next leaves x there below = by (is_live_by x.version.number (finite.get m.live x.name)) refl (same_name x.name name) refl
    where
      n : ℕ
      n = x.version.number

      by : (l : Bool) → is_live_by n (finite.get m.live x.name) ≡ l → (s : Bool) → same_name x.name name ≡ s → stands_as leaving x ≡ stands_aside file kept (stands_as m x)
      by false live s is =
          let apart : version.number ≢ n = λ e. false≢true (sym live ∙ live_by table files texts m olds stands name version got x there (sym e)) in
          let other : nat_eq version.number n ≡ false = unlike version.number n apart in
          let now : is_live_by n (finite.get lives x.name) ≡ false = leaves n x.name below ∙ (λ i. cond (is i) false (live i)) ∙ never s in
          next_by x false now
          ∙ ap first_of (kept_by awaited n false other ∙ plain (kept_files n m.kept) awaited)
          ∙ sym (ap (stands_aside file kept) (was_by x false live) ∙ not_file (first_of (kept_files n m.kept)) (λ f is e. live_name name (subst IsKeptName e (first_kept n m.kept f is))))
        where
          never : (b : Bool) → cond b false false ≡ false
          never true = refl
          never false = refl

          unlike : (a b : ℕ) → a ≢ b → nat_eq a b ≡ false
          unlike a b ne = either (nat_eq a b) refl
            where
              either : (c : Bool) → nat_eq a b ≡ c → c ≡ false
              either true e = absurd (ne (eqb-true a b e))
              either false e = refl
      by true live true is =
          let same : x.name ≡ name = tied x.name name is in
          let e : n ≡ version.number = number_live table files texts m olds stands name version got n (finite.get m.live x.name) (ap (finite.get m.live) same ∙ got) live in
          let now : is_live_by n (finite.get lives x.name) ≡ false = leaves n x.name below ∙ (λ i. cond (is i) false (live i)) in
          next_by x false now
          ∙ ap first_of (kept_by awaited n true (ap (nat_eq version.number) e ∙ same_number version.number))
          ∙ (λ i. first_of (kept_files (e i) m.kept ++ cond awaited (kept_name name line ∷ []) []))
          ∙ (λ i. first_of (none_kept table files texts m olds stands name version got i ++ cond awaited (kept_name name line ∷ []) []))
          ∙ first_one awaited
          ∙ sym (ap (stands_aside file kept) (was_by x true live) ∙ ap (λ b. cond b kept (Some (file_of x.name))) (ap (λ q. same_name file (file_of q)) same ∙ itself file))
      by true live false is =
          let now : is_live_by n (finite.get lives x.name) ≡ true = leaves n x.name below ∙ (λ i. cond (is i) false (live i)) in
          let apart : x.name ≢ name = λ e. false≢true (sym is ∙ ap (λ q. same_name q name) e ∙ itself name) in
          next_by x true now
          ∙ sym (ap (stands_aside file kept) (was_by x true live) ∙ not_file (Some (file_of x.name)) (λ f is e. apart (file_one x.name name (let same : file_of x.name ≡ f = cc in same ∙ e))))

  -- ---- all parts

  abbrev SameFiles : Type 0
  SameFiles = (f : List ℕ) → f ≢ file → f ≢ kept_name name line → finite.get left f ≡ finite.get files f

  abbrev HasCopy : Type 0
  HasCopy = (f : List ℕ) → kept ≡ Some f → finite.get left f ≡ Some (bytes_of (Some files) file)

  abbrev KeepsFiles : Type 0
  KeepsFiles = (f : List ℕ) → IsKeptName f → finite.contains_key left f ≡ (finite.contains_key files f || cond awaited (same_name f (kept_name name line)) false)

  module _ (leaves : Leaves) (others : SameFiles) (copied : HasCopy) (keeps : KeepsFiles) where
    next_all : (q : List ℕ) (c : Kept) → finite.get m.cursors q ≡ Some c → AllByRecursion (λ x. stands_as leaving x ≡ stands_aside file kept (stands_as m x)) c.lists
    next_all q c there =
        all_both (λ x. IsOneOf x c.lists) (IsOwn m) (λ x. stands_as leaving x ≡ stands_aside file kept (stands_as m x))
        (λ x one is. stands_next leaves x (inr (inl (record { name = q; cursor = c; got = there; among = one }))) is.below)
        c.lists (all_in c.lists) (stands.sound.lists q c there)

    kept_next : (q : List ℕ) (c : Kept) (k : OpenCursor) → finite.get m.cursors q ≡ Some c → IsKeptAs m c k → IsKeptAs leaving c (open_aside file kept k)
    kept_next q c k there is = record {
      query = is.query;
      segments = is.segments;
      answered = is.answered;
      groups = is.groups;
      files = ap (map (stands_aside file kept)) is.files ∙ mapped_aside file kept m leaving c.lists (next_all q c there);
    }

    both_next : (q : List ℕ) (o : Option Kept) (k : Option OpenCursor) → finite.get m.cursors q ≡ o → BothKept m o k → BothKept leaving o (option_map (open_aside file kept) k)
    both_next q None None e both = tt
    both_next q None (Some k) e both = absurd both
    both_next q (Some c) None e both = absurd both
    both_next q (Some c) (Some k) e both = kept_next q c k e both

    -- a list that some cursor has still to answer has a file
    file_next : (q : List ℕ) (c : Kept) → finite.get m.cursors q ≡ Some c → (x : Listed) → IsOneOf x (drop c.answered c.lists) → stands_as leaving x ≡ stands_aside file kept (stands_as m x) → HasFile m x → HasFile leaving x
    file_next q c there x one is (f, was) = by (same_name file f) refl
      where
        by : (b : Bool) → same_name file f ≡ b → HasFile leaving x
        by false e = (f, is ∙ ap (stands_aside file kept) was ∙ ap (λ b. cond b kept (Some f)) e)
        by true e =
            let stood : stands_as m x ≡ Some file = was ∙ ap Some (sym (tied file f e)) in
            let waits : awaited ≡ true = awaited_in table files texts m olds stands name version got q c there (has_mapped m file x (drop c.answered c.lists) one stood) in
            (kept_name name line, is ∙ ap (stands_aside file kept) was ∙ ap (λ b. cond b kept (Some f)) e ∙ ap (λ b. kept_if b name line) waits)

    list_next : (x : Listed) → stands_as leaving x ≡ stands_aside file kept (stands_as m x) → IsListOf table files m x → IsListOf table left leaving x
    list_next x is of = record { segment = of.segment; image = subst (HasList table left x) (sym is) (by (stands_as m x) of.image) }
      where
        -- the file of another name is as before
        there : (f : List ℕ) → f ≢ file → finite.get files f ≡ Some (file_of_rows 1 table x.name x.version.rows) → finite.get left f ≡ Some (file_of_rows 1 table x.name x.version.rows)
        there f other image = others f other (λ e. let none : None ≡ Some (file_of_rows 1 table x.name x.version.rows) = sym lacks ∙ ap (finite.get files) (sym e) ∙ image in absurd cc) ∙ image

        copy : (o : Option (List ℕ)) → kept ≡ o → finite.get files file ≡ Some (file_of_rows 1 table x.name x.version.rows) → HasList table left x o
        copy None e image = tt
        copy (Some f) e image = copied f e ∙ ap Some (ap (λ o. unwrap_or o []) image)

        moved : (f : List ℕ) (b : Bool) → same_name file f ≡ b → finite.get files f ≡ Some (file_of_rows 1 table x.name x.version.rows) → HasList table left x (cond b kept (Some f))
        moved f true e image = copy kept refl (ap (finite.get files) (tied file f e) ∙ image)
        moved f false e image = there f (λ same. false≢true (sym e ∙ ap (same_name file) same ∙ itself file)) image

        by : (o : Option (List ℕ)) → HasList table files x o → HasList table left x (stands_aside file kept o)
        by None image = tt
        by (Some f) image = moved f (same_name file f) refl image

    kept_left : (f : List ℕ) → IsKeptName f → finite.contains_key left f ≡ list_any (λ k. same_name f (file_name k)) leaving.kept
    kept_left f named = keeps f named ∙ ap (λ b. b || cond awaited (same_name f (kept_name name line)) false) (stands.kept f named) ∙ by awaited
      where
        plain_or : (a : Bool) → (a || false) ≡ a
        plain_or true = refl
        plain_or false = refl

        by : (b : Bool) → (list_any (λ k. same_name f (file_name k)) m.kept || cond b (same_name f (kept_name name line)) false) ≡ list_any (λ k. same_name f (file_name k)) (cond b (m.kept ++ own ∷ []) m.kept)
        by true = sym (any_joined (λ k. same_name f (file_name k)) m.kept own)
        by false = plain_or (list_any (λ k. same_name f (file_name k)) m.kept)

    apart_left : IsDistinct same_name (map file_name leaving.kept)
    apart_left = by awaited
      where
        other : (k : KeptList) → IsKeptOf k m.kept → same_name (file_name k) (file_name own) ≡ false
        other k one = by (same_name (file_name k) (file_name own)) refl
          where
            by : (b : Bool) → same_name (file_name k) (file_name own) ≡ b → b ≡ false
            by false e = refl
            by true e =
                let there : finite.contains_key files (file_name k) ≡ true = stands.kept (file_name k) (named_kept k.listed.name k.line) ∙ passed_any (λ l. same_name (file_name k) (file_name l)) k m.kept one (itself (file_name k)) in
                absurd (false≢true (ap is_some (sym lacks ∙ ap (finite.get files) (sym (tied (file_name k) (file_name own) e))) ∙ there))

        by : (b : Bool) → IsDistinct same_name (map file_name (cond b (m.kept ++ own ∷ []) m.kept))
        by true = apart_pushed m.kept own (all_kept (λ k. same_name (file_name k) (file_name own) ≡ false) m.kept other) stands.apart
        by false = stands.apart

    pub leaves_stand : Stands left (HasTable texts (segments_of lives)) → IsSound leaving → IsNumbered leaving → ServingStands news left texts table leaving
    leaves_stand live sound numbered = record {
      accepted = stands.accepted;
      sound = sound;
      numbered = numbered;
      cursors = λ q. subst (BothKept leaving (finite.get m.cursors q)) (sym (under_aside file kept q olds)) (both_next q (finite.get m.cursors q) (kept_under q olds) refl (stands.cursors q));
      answered = λ q c there. rest q c there (drop c.answered c.lists) (all_in (drop c.answered c.lists))
          (all_drop (λ x. stands_as leaving x ≡ stands_aside file kept (stands_as m x)) c.answered c.lists (next_all q c there)) (stands.answered q c there);
      lists = λ q c there. all_both (λ x. stands_as leaving x ≡ stands_aside file kept (stands_as m x)) (IsListOf table files m) (IsListOf table left leaving) list_next c.lists (next_all q c there) (stands.lists q c there);
      live = live;
      kept = kept_left;
      apart = apart_left;
    }
      where
        rest : (q : List ℕ) (c : Kept) → finite.get m.cursors q ≡ Some c → (xs : List Listed) → AllByRecursion (λ x. IsOneOf x (drop c.answered c.lists)) xs
            → AllByRecursion (λ x. stands_as leaving x ≡ stands_aside file kept (stands_as m x)) xs → AllByRecursion (HasFile m) xs → AllByRecursion (HasFile leaving) xs
        rest q c there [] ones all has = tt
        rest q c there (x ∷ xs) ones all has = (file_next q c there x ones.0 all.0 has.0, rest q c there xs ones.1 all.1 has.1)
