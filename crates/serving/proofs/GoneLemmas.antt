-- Files that are taken away, one after the other.
use Rattle.std.proofs.Common.{◌≡◌, ◌≢◌, ◌∙◌, ◌+◌, ◌⊎◌, ◌||◌, inl, inr, ℕ, Bool, true, false, cond, List, [], ◌∷◌, ◌++◌, Option, Some, None, refl, sym, ap, subst}
use Rattle.std.specs.FinMap as finite
use Rattle.std.specs.List.{AllByRecursion, list_any}
use Rattle.std.proofs.lemmas.Bool.{false≢true}
use Rattle.std.proofs.lemmas.Cmp.{nat_list_cmp_total}
use Rattle.outside.specs.Files.{Files, without_file}
use Rattle.table_store.specs.Kept.{IsKeptName}
use Rattle.table_store.specs.Stands.{KeptIdle, Stands}
use Rattle.table_store.specs.State.{HasTable, Segments, Texts}
use Rattle.cursor_serve.proofs.FetchLemmas.{tied}
use Rattle.cursor_serve.proofs.SoundLemmas.{all_joined, all_so}
use Rattle.serving.specs.Closed.{IsGone, IsReleased, has_file, is_file, without_files}
use Rattle.cursors.specs.Kept.{same_name}
use Rattle.cursors.specs.declared.cursor.Cursor.{Cursor}

-- ---- files without some

-- the files that are left
abbrev pub left_of : List (List ℕ) → Files → Files
left_of [] files = files
left_of (name ∷ names) files = left_of names (finite.remove files name)

pub without_told : (names : List (List ℕ)) (files : Files) → without_files names (Some files) ≡ Some (left_of names files)
without_told [] files = refl
without_told (name ∷ names) files = without_told names (finite.remove files name)

pub without_none : (names : List (List ℕ)) → without_files names None ≡ None
without_none [] = refl
without_none (name ∷ names) = without_none names

pub without_last : (names : List (List ℕ)) (name : List ℕ) (held : Option Files) → without_files (names ++ name ∷ []) held ≡ without_file name (without_files names held)
without_last [] name held = refl
without_last (n ∷ names) name held = without_last names name (without_file n held)

gone_by : {X : Type 0} (a b : Bool) (o : Option X) → cond b None (cond a None o) ≡ cond (a || b) None o
gone_by true true o = refl
gone_by true false o = refl
gone_by false b o = refl

pub left_got : (names : List (List ℕ)) (files : Files) (f : List ℕ) → finite.get (left_of names files) f ≡ cond (list_any (same_name f) names) None (finite.get files f)
left_got [] files f = refl
left_got (name ∷ names) files f =
    left_got names (finite.remove files name) f
    ∙ ap (cond (list_any (same_name f) names) None) (finite.get-remove nat_list_cmp_total files name f)
    ∙ gone_by (same_name f name) (list_any (same_name f) names) (finite.get files f)

pub left_stands : KeptIdle → (texts : Texts) (segments : Segments) (names : List (List ℕ)) (files : Files) → AllByRecursion IsKeptName names → Stands files (HasTable texts segments) → Stands (left_of names files) (HasTable texts segments)
left_stands idle texts segments [] files all stands = stands
left_stands idle texts segments (name ∷ names) files all stands = left_stands idle texts segments names (finite.remove files name) all.1 (idle.less files texts segments name stands all.0)

-- ---- as they go

-- what is gone of the first files of the cursor at a place
pub record AreGoneOf (at : ℕ) (cursors : List Cursor) (files : List (Option (List ℕ))) (names : List (List ℕ)) : Type 0 where
  pub each : AllByRecursion (IsGone at cursors) names
  pub all : (name : List ℕ) → has_file name files ≡ true → IsGone at cursors name → list_any (same_name name) names ≡ true

abbrev pub HaveGone : ℕ → List Cursor → List (Option (List ℕ)) → Option Files → Option Files → Type 0
HaveGone at cursors files old new = (names : List (List ℕ)) × AreGoneOf at cursors files names × (new ≡ without_files names old)

pub any_joined : {X : Type 0} (p : X → Bool) (xs : List X) (x : X) → list_any p (xs ++ x ∷ []) ≡ (list_any p xs || p x)
any_joined p [] x = or_false (p x)
  where
    or_false : (b : Bool) → (b || false) ≡ b
    or_false true = refl
    or_false false = refl
any_joined p (y ∷ xs) x = ap (λ b. p y || b) (any_joined p xs x) ∙ or_assoc (p y) (list_any p xs) (p x)
  where
    or_assoc : (a b c : Bool) → (a || (b || c)) ≡ ((a || b) || c)
    or_assoc true b c = refl
    or_assoc false b c = refl

or_left : (a b : Bool) → a ≡ true → (a || b) ≡ true
or_left true b is = refl
or_left false b is = absurd (false≢true is)

or_either : (a b : Bool) → (a || b) ≡ true → (a ≡ true) ⊎ (b ≡ true)
or_either true b is = inl refl
or_either false b is = inr is

or_right : (a b : Bool) → b ≡ true → (a || b) ≡ true
or_right true b is = refl
or_right false b is = is

pub more_gone : (at : ℕ) (cursors : List Cursor) (files : List (Option (List ℕ))) (file : Option (List ℕ)) (old mid new : Option Files) → HaveGone at cursors files old mid → IsReleased at cursors file mid new
    → HaveGone at cursors (files ++ file ∷ []) old new
more_gone at cursors files None old mid new (names, of, is) released =
    (names, record { each = of.each; all = λ name has gone. by name gone (or_either (has_file name files) false (sym (any_joined (is_file name) files None) ∙ has)) }, released ∙ is)
  where
    by : (name : List ℕ) → IsGone at cursors name → (has_file name files ≡ true) ⊎ (false ≡ true) → list_any (same_name name) names ≡ true
    by name gone (inl had) = of.all name had gone
    by name gone (inr wrong) = absurd (false≢true wrong)
more_gone at cursors files (Some file) old mid new (names, of, is) (inl kept) =
    (names, record { each = of.each; all = λ name has gone. by name gone (or_either (has_file name files) (same_name name file) (sym (any_joined (is_file name) files (Some file)) ∙ has)) }, kept.1 ∙ is)
  where
    by : (name : List ℕ) → IsGone at cursors name → (has_file name files ≡ true) ⊎ (same_name name file ≡ true) → list_any (same_name name) names ≡ true
    by name gone (inl had) = of.all name had gone
    by name gone (inr same) = absurd (kept.0 (subst (IsGone at cursors) (tied name file same) gone))
more_gone at cursors files (Some file) old mid new (names, of, is) (inr went) = (
  names ++ file ∷ [],
  record {
    each = all_joined (IsGone at cursors) names (file ∷ []) of.each (went.0, tt);
    all = λ name has gone. any_joined (same_name name) names file ∙ by name gone (or_either (has_file name files) (same_name name file) (sym (any_joined (is_file name) files (Some file)) ∙ has));
  },
  went.1 ∙ ap (without_file file) is ∙ sym (without_last names file old),
)
  where
    by : (name : List ℕ) → IsGone at cursors name → (has_file name files ≡ true) ⊎ (same_name name file ≡ true) → (list_any (same_name name) names || same_name name file) ≡ true
    by name gone (inl had) = or_left (list_any (same_name name) names) (same_name name file) (of.all name had gone)
    by name gone (inr same) = or_right (list_any (same_name name) names) (same_name name file) same

pub gone_kept : (at : ℕ) (cursors : List Cursor) (names : List (List ℕ)) → AllByRecursion (IsGone at cursors) names → AllByRecursion IsKeptName names
gone_kept at cursors names all = all_so (IsGone at cursors) IsKeptName (λ name is. is.kept) names all
