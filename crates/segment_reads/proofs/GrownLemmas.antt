-- The reads that a told log grew by: of one segment after the other.
use Rattle.std.proofs.Common.{◌≡◌, ◌≢◌, ◌∙◌, ◌+◌, ◌<◌, ◌≤◌, ◌==◌, ◌++◌, [], ℕ, Bool, true, false, nat_lt, List, All, Option, Some, None, IfSome, length, map, get_or, option_map, refl, sym, ap, subst, arith, append_assoc, append-nil, zero, suc, ◌∷◌}
use Rattle.std.specs.List.{AllZip}
use Rattle.std.proofs.lemmas.Bool.{eq-eqb, eqb-true, false≢true, ltb-false, ltb-true}
use Rattle.std.proofs.lemmas.List.{append_cancel_left, append_cancel_right, length-map}
use Rattle.std.specs.Prelude.{codes}
use Rattle.outside.specs.Files.{Files}
use Rattle.outside.specs.Reads.{Entry}
use Rattle.values.specs.declared.value.Value.{Value}
use Rattle.table_schema.specs.declared.table.Table.{Table}
use Rattle.segment_file.specs.Names.{file_of}
use Rattle.segment_file.specs.Ordered.{ordered}
use Rattle.segment_reads.specs.Logs.{LogsIn, LogsThat, LogsWhere}
use Rattle.segment_reads.specs.Reads.{AreApart, Grown, LogsEach, LogsOne}
use Rattle.segment_head.specs.Stored.{HasImage, live, segment_at}
use Rattle.segment_head.specs.declared.stored.Stored.{Stored}
use Rattle.segment_reads.proofs.NameLemmas.{live_at}

pub zip_at : {A B : Type 0} (R : A → B → Type 0) (xs : List A) (ys : List B) (i : ℕ) (d : A) (e : B) → AllZip R xs ys → i < length xs → R (get_or xs i d) (get_or ys i e)
zip_at R [] ys i d e all lt = absurd (omega (arith, lt))
zip_at R (x ∷ xs) [] i d e all lt = absurd all
zip_at R (x ∷ xs) (y ∷ ys) zero d e all lt = all.0
zip_at R (x ∷ xs) (y ∷ ys) (suc i) d e all lt = zip_at R xs ys i d e all.1 (omega (arith, lt))

-- ---- what a log grew by

told_so : (a b : Option (List Entry)) (before x : List Entry) → a ≡ Some before → b ≡ option_map (λ l. l ++ x) a → b ≡ Some (before ++ x)
told_so a b before x is made = made ∙ ap (option_map (λ l. l ++ x)) is

pub grown_so : (P : List Entry → Type 0) (a b : Option (List Entry)) (x : List Entry) → b ≡ option_map (λ l. l ++ x) a → P x → Grown P a b
grown_so P a b x made h = λ before entries is now.
    let same : Some (before ++ x) ≡ Some (before ++ entries) = sym (told_so a b before x is made) ∙ now in
    let lists : before ++ x ≡ before ++ entries = cc in
    subst P (append_cancel_left before x entries lists) h

pub grown_that : (Q : Entry → Type 0) (a b : Option (List Entry)) → LogsThat Q a b → Grown (All Q) a b
grown_that Q a b (x, made, all) = grown_so (All Q) a b x made all

-- a log that grew twice
pub grown_then : (P Q R : List Entry → Type 0) (a b c : Option (List Entry)) (x y : List Entry) → b ≡ option_map (λ l. l ++ x) a → c ≡ option_map (λ l. l ++ y) b → Grown P a b → Grown Q b c → ((x y : List Entry) → P x → Q y → R (x ++ y)) → Grown R a c
grown_then P Q R a b c x y made then first second both = λ before entries is now.
    let mid : b ≡ Some (before ++ x) = told_so a b before x is made in
    let end : c ≡ Some ((before ++ x) ++ y) = told_so b c (before ++ x) y mid then in
    let same : Some (before ++ entries) ≡ Some (before ++ (x ++ y)) = sym now ∙ end ∙ ap Some (append_assoc before x y) in
    let lists : before ++ (x ++ y) ≡ before ++ entries = cc in
    subst R (append_cancel_left before (x ++ y) entries lists) (both x y (first before x is mid) (second (before ++ x) y mid end))

-- ---- the files of segments

pub same_name : (a b : List ℕ) → file_of a ≡ file_of b → a ≡ b
same_name a b is = append_cancel_right a b (codes ".seg") is

-- segments that a store publishes have files of their own, where no name comes twice
pub live_apart : (names : List (List ℕ)) → ((i k : ℕ) → i < k → k < length names → get_or names i [] ≢ get_or names k []) → AreApart (map live names)
live_apart names apart = λ i k lt at_most same.
    apart i k lt (omega (arith, at_most, length-map names live))
    (same_name (get_or names i []) (get_or names k []) (ap (λ (s : Stored). s.file) (sym (live_at names i)) ∙ same ∙ ap (λ (s : Stored). s.file) (live_at names k)))

-- a file is that of one of the first n of these segments
abbrev pub IsFileBefore : List Stored → ℕ → List ℕ → Type 0
IsFileBefore stored n file = (i : ℕ) × (i < n) × (file ≡ (segment_at stored i).file)

pub none_before : (stored : List Stored) (a : Option (List Entry)) → LogsWhere (IsFileBefore stored 0) a a
none_before stored None = ([], refl, λ k d lt. absurd (omega (arith, lt)))
none_before stored (Some l) = ([], ap Some (sym (append-nil l)), λ k d lt. absurd (omega (arith, lt)))

pub more_before : (stored : List Stored) (n : ℕ) (file : List ℕ) → IsFileBefore stored n file → IsFileBefore stored (n + 1) file
more_before stored n file (i, lt, is) = (i, omega (arith, lt), is)

pub this_before : (stored : List Stored) (n : ℕ) (segment : Stored) (file : List ℕ) → segment ≡ segment_at stored n → file ≡ segment.file → IsFileBefore stored (n + 1) file
this_before stored n segment file is e = (n, omega arith, e ∙ ap (λ (s : Stored). s.file) is)

-- ---- one segment after the other

-- what holds of reads for a segment's file holds whatever is read of other files
pub record IsOfFile (P : Stored → List (List Value) → List Entry → Type 0) : Type 0 where
  pub after : (segment : Stored) (rows : List (List Value)) (x y : List Entry) → All (λ e. e.file ≢ segment.file) y → P segment rows x → P segment rows (x ++ y)
  pub before : (segment : Stored) (rows : List (List Value)) (x y : List Entry) → All (λ e. e.file ≢ segment.file) x → P segment rows y → P segment rows (x ++ y)

module _ (P : Stored → List (List Value) → List Entry → Type 0) (table : Table) (held : Option Files) (stored : List Stored) where
  abbrev Each : Files → ℕ → List Entry → Type 0
  Each files n entries = (segments : List (List (List Value))) → AllZip (HasImage table files) stored segments → AreApart stored
      → (k : ℕ) → k < n → P (segment_at stored k) (ordered table.settings.sorted (get_or segments k [])) entries

  if_all : (h : Option Files) (A : Files → Type 0) → ((files : Files) → A files) → IfSome h A
  if_all None A f = tt
  if_all (Some files) A f = f files

  pub each_none : (a : Option (List Entry)) → LogsEach P table held stored 0 a a
  each_none a = λ before entries is now. if_all held (λ files. Each files 0 entries) (λ files segments all apart k lt. absurd (omega (arith, lt)))

  module _ (closed : IsOfFile P) where
    others_before : AreApart stored → (n k : ℕ) → n ≤ k → k < length stored → (x : List Entry) → All (λ e. IsFileBefore stored n e.file) x → All (λ e. e.file ≢ (segment_at stored k).file) x
    others_before apart n k le lt x all = λ j d within same.
        let (i, before, is) = all j d within in
        apart i k (omega (arith, before, le)) lt (sym is ∙ same)

    other_this : AreApart stored → (n k : ℕ) → k < n → n < length stored → (y : List Entry) → All (λ e. e.file ≡ (segment_at stored n).file) y → All (λ e. e.file ≢ (segment_at stored k).file) y
    other_this apart n k lt at_most y all = λ j d within same.
        apart k n lt at_most (sym same ∙ all j d within)

    both_each : (files : Files) (n : ℕ) → n < length stored → (x y : List Entry) → All (λ e. IsFileBefore stored n e.file) x → All (λ e. e.file ≡ (segment_at stored n).file) y
        → Each files n x → ((rows : List (List Value)) → HasImage table files (segment_at stored n) rows → P (segment_at stored n) (ordered table.settings.sorted rows) y) → Each files (n + 1) (x ++ y)
    both_each files n at_most x y first second told one = λ segments all apart k lt. by segments all apart k lt (k == n) refl
      where
        by : (segments : List (List (List Value))) → AllZip (HasImage table files) stored segments → AreApart stored → (k : ℕ) → k < n + 1 → (b : Bool) → k == n ≡ b → P (segment_at stored k) (ordered table.settings.sorted (get_or segments k [])) (x ++ y)
        by segments all apart k lt true is =
            let same : k ≡ n = eqb-true k n is in
            subst (λ j. P (segment_at stored j) (ordered table.settings.sorted (get_or segments j [])) (x ++ y)) (sym same)
            (closed.before (segment_at stored n) (ordered table.settings.sorted (get_or segments n [])) x y (others_before apart n n (omega arith) at_most x first)
            (one (get_or segments n []) (zip_at (HasImage table files) stored segments n (live []) [] all at_most)))
        by segments all apart k lt false is =
            let other : k ≢ n = λ same. false≢true (sym is ∙ eq-eqb k n same) in
            let less : k < n = omega (arith, lt, other) in
            closed.after (segment_at stored k) (ordered table.settings.sorted (get_or segments k [])) x y (other_this apart n k less at_most y second) (told segments all apart k less)

    -- one segment more
    pub each_more : (now : Option Files) (n : ℕ) (segment : Stored) (a b c : Option (List Entry)) → n < length stored → segment ≡ segment_at stored n → now ≡ held → LogsWhere (IsFileBefore stored n) a b → LogsIn segment.file b c
        → LogsEach P table held stored n a b → LogsOne P table now segment b c → LogsEach P table held stored (n + 1) a c
    each_more now n segment a b c at_most is same (x, made, first) (y, then, second) each one =
        let own : All (λ e. e.file ≡ (segment_at stored n).file) y = λ j d lt. second j d lt ∙ ap (λ (s : Stored). s.file) is in
        grown_then (λ l. (l ≡ x) × IfSome held (λ files. Each files n l)) (λ l. (l ≡ y) × IfSome held (λ files. (rows : List (List Value)) → HasImage table files (segment_at stored n) rows → P (segment_at stored n) (ordered table.settings.sorted rows) l))
        (λ l. IfSome held (λ files. Each files (n + 1) l)) a b c x y made then
        (λ before entries was now. (same_entries a b x before entries made was now, each before entries was now))
        (λ before entries was now. (same_entries b c y before entries then was now, renamed before entries was now))
        (λ l m p q. joined held l m p.0 q.0 p.1 q.1 own)
      where
        same_entries : (a b : Option (List Entry)) (x before entries : List Entry) → b ≡ option_map (λ l. l ++ x) a → a ≡ Some before → b ≡ Some (before ++ entries) → entries ≡ x
        same_entries a b x before entries made was now =
            let both : Some (before ++ entries) ≡ Some (before ++ x) = sym now ∙ told_so a b before x was made in
            append_cancel_left before entries x (let lists : before ++ entries ≡ before ++ x = cc in lists)

        renamed : LogsOne P table held (segment_at stored n) b c
        renamed = subst (λ h. LogsOne P table h (segment_at stored n) b c) same (subst (λ m. LogsOne P table now m b c) is one)

        joined : (h : Option Files) (l m : List Entry) → l ≡ x → m ≡ y → IfSome h (λ files. Each files n l) → IfSome h (λ files. (rows : List (List Value)) → HasImage table files (segment_at stored n) rows → P (segment_at stored n) (ordered table.settings.sorted rows) m)
            → All (λ e. e.file ≡ (segment_at stored n).file) y → IfSome h (λ files. Each files (n + 1) (l ++ m))
        joined None l m is_l is_m told one own = tt
        joined (Some files) l m is_l is_m told one own =
            both_each files n at_most l m (subst (All (λ e. IsFileBefore stored n e.file)) (sym is_l) first) (subst (All (λ e. e.file ≡ (segment_at stored n).file)) (sym is_m) own) told one

    -- of the segments after these nothing was read
    pub each_rest : (n : ℕ) (a b : Option (List Entry)) → n ≤ length stored → IfSome held (λ files. (segment : Stored) (rows : List (List Value)) → HasImage table files segment rows → P segment (ordered table.settings.sorted rows) [])
        → LogsWhere (IsFileBefore stored n) a b → LogsEach P table held stored n a b → LogsEach P table held stored (length stored) a b
    each_rest n a b at_most nothing (x, made, first) each = λ before entries was now.
        let both : Some (before ++ entries) ≡ Some (before ++ x) = sym now ∙ told_so a b before x was made in
        let same : entries ≡ x = append_cancel_left before entries x (let lists : before ++ entries ≡ before ++ x = cc in lists) in
        by held entries same nothing (each before entries was now)
      where
        by : (h : Option Files) (entries : List Entry) → entries ≡ x → IfSome h (λ files. (segment : Stored) (rows : List (List Value)) → HasImage table files segment rows → P segment (ordered table.settings.sorted rows) []) → IfSome h (λ files. Each files n entries) → IfSome h (λ files. Each files (length stored) entries)
        by None entries same nothing told = tt
        by (Some files) entries same nothing told = λ segments all apart k lt. here segments all apart k lt (nat_lt k n) refl
          where
            here : (segments : List (List (List Value))) → AllZip (HasImage table files) stored segments → AreApart stored → (k : ℕ) → k < length stored → (v : Bool) → nat_lt k n ≡ v → P (segment_at stored k) (ordered table.settings.sorted (get_or segments k [])) entries
            here segments all apart k lt true is = told segments all apart k (ltb-true k n is)
            here segments all apart k lt false is =
                closed.after (segment_at stored k) (ordered table.settings.sorted (get_or segments k [])) [] entries
                (others_before apart n k (ltb-false k n is) lt entries (subst (All (λ e. IsFileBefore stored n e.file)) (sym same) first))
                (nothing (segment_at stored k) (get_or segments k []) (zip_at (HasImage table files) stored segments k (live []) [] all lt))

-- what holds of a query that was answered holds of one that was not
pub each_as : (P Q : Stored → List (List Value) → List Entry → Type 0) (table : Table) (held : Option Files) (stored : List Stored) (n : ℕ) (a b : Option (List Entry)) → ((segment : Stored) (rows : List (List Value)) (entries : List Entry) → P segment rows entries → Q segment rows entries)
    → LogsEach P table held stored n a b → LogsEach Q table held stored n a b
each_as P Q table held stored n a b f each = λ before entries was now. by held entries (each before entries was now)
  where
    by : (h : Option Files) (entries : List Entry) → IfSome h (λ files. Each P table held stored files n entries) → IfSome h (λ files. Each Q table held stored files n entries)
    by None entries told = tt
    by (Some files) entries told = λ segments all apart k lt. f (segment_at stored k) (ordered table.settings.sorted (get_or segments k [])) entries (told segments all apart k lt)
