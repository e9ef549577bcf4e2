-- What is kept of cursors stands for the machine, with the lists that a cursor has still to answer where their files are.
use Rattle.std.proofs.Common.{◌≡◌, ◌≢◌, ◌∙◌, ◌+◌, ◌-◌, ◌<◌, ◌≤◌, ◌⊎◌, inl, inr, ℕ, zero, suc, Bool, true, false, cond, List, [], ◌∷◌, ◌++◌, drop, length, map, take, Option, Some, None, refl, sym, ap, subst, arith, unwrap_or}
use Rattle.std.specs.FinMap as finite
use Rattle.std.specs.List.{AllByRecursion, AllZip}
use Rattle.std.specs.Ordering.{eq_by_cmp}
use Rattle.std.specs.Option.{option_and_then}
use Rattle.std.proofs.lemmas.Cmp.{nat_list_cmp_total}
use Rattle.outside.specs.Files.{Files, bytes_of, name_order}
use Rattle.values.specs.declared.value.Value.{Value}
use Rattle.table_schema.specs.declared.table.Table.{Table}
use Rattle.segment_file.specs.Image.{file_of_rows}
use Rattle.segment_file.specs.Names.{file_of}
use Rattle.segment_file.specs.Ordered.{ordered}
use Rattle.segment_head.specs.Stored.{HasImage, stored_rows}
use Rattle.segment_head.specs.declared.stored.Stored.{Stored}
use Rattle.table_store.specs.State.{Texts}
use Rattle.cursor_serve.specs.Machine.{Cursor, Listed, Machine, moved, rows_of}
use Rattle.cursor_serve.specs.Numbered.{IsNumbered}
use Rattle.cursor_serve.specs.Sound.{IsSound}
use Rattle.cursor_serve.specs.ServingStands.{BothKept, HasFile, HasList, IsKeptAs, IsListOf, OpenCursor, ServingStands, kept_under, stands_as}
use Rattle.cursor_serve.proofs.FetchLemmas.{itself, tied}
use Rattle.cursor_serve.proofs.SoundLemmas.{all_drop, all_so, put_cases}
use Rattle.cursors.specs.Added.{stored_in}
use Rattle.cursors.specs.Kept.{same_name}

-- ---- lists and their files

abbrev pub names_in : List Listed → List (List ℕ)
names_in lists = map (λ listed. listed.name) lists

abbrev pub files_in : Machine → List Listed → List (Option (List ℕ))
files_in m lists = map (stands_as m) lists

-- lists whose files have their images: rows that came, of which these are in order
pub record AreImaged (table : Table) (files : Files) (m : Machine) (lists : List Listed) : Type 0 where
  pub came : List (List (List Value))
  pub images : AllZip (HasImage table files) (stored_in (names_in lists) (files_in m lists)) came
  pub rows_are : stored_rows table came ≡ rows_of lists

module _ (table : Table) (files : Files) (m : Machine) where
  has_image : (listed : Listed) (file : List ℕ) → stands_as m listed ≡ Some file → (of : IsListOf table files m listed)
      → HasImage table files (record { file = file; name = listed.name }) of.segment.came
  has_image listed file is of =
      let got : finite.get files file ≡ Some (file_of_rows 1 table listed.name listed.version.rows) = subst (HasList table files listed) is of.image in
      record {
        can = of.segment.can;
        stored = ap (λ (o : Option (List ℕ)). unwrap_or o []) got ∙ ap (file_of_rows 1 table listed.name) of.segment.in_order;
      }

  pub imaged : (lists : List Listed) → AllByRecursion (HasFile m) lists → AllByRecursion (IsListOf table files m) lists → AreImaged table files m lists
  imaged [] there all = record { came = []; images = tt; rows_are = refl }
  imaged (listed ∷ lists) there all =
      let rest = imaged lists there.1 all.1 in
      let file : List ℕ = there.0.0 in
      record {
        came = all.0.segment.came ∷ rest.came;
        images = subst (λ o. AllZip (HasImage table files) (stored_in (listed.name ∷ names_in lists) (o ∷ files_in m lists)) (all.0.segment.came ∷ rest.came)) (sym there.0.1)
            (has_image listed file there.0.1 all.0, rest.images);
        rows_are = λ i. (sym all.0.segment.in_order) i ++ rest.rows_are i;
      }

-- ---- a cursor in the place of another

-- the cursors that are kept, where one of a name is another or is new
abbrev pub PutsUnder : List ℕ → OpenCursor → List OpenCursor → List OpenCursor → Type 0
PutsUnder name kept old new = (q : List ℕ) → kept_under q new ≡ cond (same_name q name) (Some kept) (kept_under q old)

-- the machine where a cursor is put under a name
abbrev pub with_cursor : List ℕ → Cursor → Machine → Machine
with_cursor name cursor m = record m { cursors = finite.insert m.cursors name cursor }

module _ (serving serving_new : List OpenCursor) (files : Files) (texts : Texts) (table : Table) (m : Machine) (name : List ℕ) (cursor : Cursor) (kept : OpenCursor) where
  -- a cursor is kept, as the machine with another one sees it
  kept_still : (c : Cursor) (k : OpenCursor) → IsKeptAs m c k → IsKeptAs (with_cursor name cursor m) c k
  kept_still c k is = record { query = is.query; segments = is.segments; answered = is.answered; groups = is.groups; files = is.files }

  both_still : (a : Option Cursor) (b : Option OpenCursor) → BothKept m a b → BothKept (with_cursor name cursor m) a b
  both_still None None h = tt
  both_still None (Some k) h = absurd h
  both_still (Some c) None h = absurd h
  both_still (Some c) (Some k) h = kept_still c k h

  list_still : (listed : Listed) → IsListOf table files m listed → IsListOf table files (with_cursor name cursor m) listed
  list_still listed of = record { segment = of.segment; image = of.image }

  pub stands_with : ServingStands serving files texts table m → PutsUnder name kept serving serving_new → IsKeptAs m cursor kept → IsSound (with_cursor name cursor m) → IsNumbered (with_cursor name cursor m)
      → AllByRecursion (HasFile m) (drop cursor.answered cursor.lists) → AllByRecursion (IsListOf table files m) cursor.lists
      → ServingStands serving_new files texts table (with_cursor name cursor m)
  stands_with stands puts is sound numbered there lists = record {
    accepted = stands.accepted;
    sound = sound;
    numbered = numbered;
    cursors = λ q.
        subst (λ o. BothKept (with_cursor name cursor m) o (kept_under q serving_new)) (sym (finite.get-insert nat_list_cmp_total m.cursors name cursor q))
        (subst (BothKept (with_cursor name cursor m) (cond (same_name q name) (Some cursor) (finite.get m.cursors q))) (sym (puts q))
        (by (same_name q name) (finite.get m.cursors q) (kept_under q serving) (stands.cursors q)));
    answered = λ q c got. of_each (λ (c : Cursor). AllByRecursion (HasFile m) (drop c.answered c.lists)) there stands.answered q c (put_cases m.cursors name cursor q c got);
    lists = λ q c got. all_so (IsListOf table files m) (IsListOf table files (with_cursor name cursor m)) list_still c.lists
        (of_each (λ (c : Cursor). AllByRecursion (IsListOf table files m) c.lists) lists stands.lists q c (put_cases m.cursors name cursor q c got));
    live = stands.live;
    kept = stands.kept;
    apart = stands.apart;
  }
    where
      by : (b : Bool) (a : Option Cursor) (k : Option OpenCursor) → BothKept m a k → BothKept (with_cursor name cursor m) (cond b (Some cursor) a) (cond b (Some kept) k)
      by true a k h = kept_still cursor kept is
      by false a k h = both_still a k h

      of_each : (P : Cursor → Type 0) → P cursor → ((q : List ℕ) (c : Cursor) → finite.get m.cursors q ≡ Some c → P c) → (q : List ℕ) (c : Cursor)
          → ((q ≡ name) × (cursor ≡ c)) ⊎ (finite.get m.cursors q ≡ Some c) → P c
      of_each P own each q c (inl here) = subst P here.1 own
      of_each P own each q c (inr there) = each q c there
