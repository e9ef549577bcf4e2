-- A segment is built while cursors are open: what they are kept as stands for the machine with one list more.
use Rattle.std.proofs.Common.{◌≡◌, ◌≢◌, ◌⊎◌, ◌∙◌, ◌+◌, ◌<◌, inl, inr, ℕ, Bool, true, false, cond, nat_eq, List, [], ◌∷◌, drop, map, Option, Some, None, option_map, refl, sym, ap, subst, arith, is_some}
use Rattle.std.proofs.lemmas.Bool.Decides.{nat_tests}
use Rattle.std.specs.FinMap as finite
use Rattle.std.specs.Cmp.{eq_by_cmp_equiv}
use Rattle.std.specs.List.{AllByRecursion, list_any}
use Rattle.std.specs.Ordering.{eq_by_cmp}
use Rattle.std.proofs.lemmas.Cmp.{nat_list_cmp_total}
use Rattle.outside.specs.Files.{Files, name_order}
use Rattle.values.specs.declared.value.Value.{Value}
use Rattle.table_schema.specs.declared.table.Table.{Table}
use Rattle.segment_build.specs.FileLaws.{same_name}
use Rattle.segment_file.specs.Image.{CanHold, file_of_rows, image}
use Rattle.segment_file.specs.Names.{IsSegmentName, file_of}
use Rattle.segment_file.specs.Ordered.{ordered}
use Rattle.table_store.specs.Kept.{IsKeptName, kept_name}
use Rattle.table_store.specs.Stands.{Stands, segment_of as stored_segment}
use Rattle.table_store.specs.State.{HasTable, Segment, Texts}
use Rattle.table_store.proofs.KeptLemmas.{live_name}
use Rattle.cursor_serve.specs.Machine.{Cursor, Listed, Live, Machine, Version, with_list}
use Rattle.cursor_serve.specs.Sound.{IsOwn}
use Rattle.cursor_serve.specs.ServingStands.{BothKept, HasFile, HasList, IsKeptAs, IsListOf, OpenCursor, ServingStands, first_of, is_live_by, kept_files, kept_under, segment_of, segments_of, stands_as}
use Rattle.cursor_serve.proofs.NumberedLemmas.{puts_numbered}
use Rattle.cursor_serve.proofs.SoundLemmas.{all_both, all_drop, is_or_not, put_there, puts, still_put}
use Rattle.serving.proofs.LeavingLemmas.{file_one, first_kept}
use Rattle.serving.proofs.OpenLemmas.{segments_got}

-- the segments of live lists with one more
pub segments_put : (live : Live) (name : List ℕ) (version : Version) → segments_of (finite.insert live name version) ≡ finite.insert (segments_of live) name (segment_of version)
segments_put live name version =
    finite.same_map nat_list_cmp_total same_name (segments_of (finite.insert live name version)) (finite.insert (segments_of live) name (segment_of version)) (λ q.
    segments_got (finite.insert live name version) q
    ∙ ap (option_map segment_of) (finite.get-insert nat_list_cmp_total live name version q)
    ∙ by q (eq_by_cmp name_order q name)
    ∙ sym (finite.get-insert nat_list_cmp_total (segments_of live) name (segment_of version) q))
  where
    by : (q : List ℕ) (b : Bool) → option_map segment_of (cond b (Some version) (finite.get live q)) ≡ cond b (Some (segment_of version)) (finite.get (segments_of live) q)
    by q true = refl
    by q false = sym (segments_got live q)

none_there : (o : Option Version) → option_map segment_of o ≡ None → o ≡ None
none_there None is = refl
none_there (Some version) is = absurd cc

-- a name without a segment has no live list
pub free_live : (live : Live) (name : List ℕ) → finite.get (segments_of live) name ≡ None → finite.get live name ≡ None
free_live live name none = none_there (finite.get live name) (sym (segments_got live name) ∙ none)

module _ (serving : List OpenCursor) (files : Files) (texts : Texts) (table : Table) (m : Machine) (name : List ℕ) (rows : List (List Value))
    (s : ServingStands serving files texts table m) (free : finite.get m.live name ≡ None) where
  abbrev Put : List (List Value)
  Put = ordered table.settings.sorted rows

  abbrev Next : Machine
  Next = with_list name Put m

  abbrev New : Version
  New = record { number = m.next; rows = Put }

  abbrev Left : Files
  Left = finite.insert files (file_of name) (image 1 table name rows)

  later : (n : ℕ) → n < m.next → nat_eq m.next n ≡ false
  later n lt = grind (arith, nat_tests)

  -- a list with a number of before stands where it stood
  same_as : (listed : Listed) → listed.version.number < m.next → stands_as Next listed ≡ stands_as m listed
  same_as listed lt = elim (is_or_not listed.name name) [
    | inl same ↦
        let there : finite.get Next.live listed.name ≡ Some New = ap (finite.get Next.live) same ∙ put_there m.live name New in
        let was : finite.get m.live listed.name ≡ None = ap (finite.get m.live) same ∙ free in
        ap (λ o. cond (is_live_by listed.version.number o) (Some (file_of listed.name)) (first_of (kept_files listed.version.number m.kept))) there
        ∙ ap (λ b. cond b (Some (file_of listed.name)) (first_of (kept_files listed.version.number m.kept))) (later listed.version.number lt)
        ∙ sym (ap (λ o. cond (is_live_by listed.version.number o) (Some (file_of listed.name)) (first_of (kept_files listed.version.number m.kept))) was)
    | inr apart ↦ ap (λ o. cond (is_live_by listed.version.number o) (Some (file_of listed.name)) (first_of (kept_files listed.version.number m.kept))) (still_put m.live name New listed.name apart)
  ]

  all_same : (lists : List Listed) → AllByRecursion (IsOwn m) lists → map (stands_as m) lists ≡ map (stands_as Next) lists
  all_same [] own = refl
  all_same (listed ∷ lists) own = λ k. (sym (same_as listed own.0.below) k ∷ all_same lists own.1 k)

  -- no list stood in the file of the new segment
  apart_from : (listed : Listed) (file : List ℕ) → stands_as m listed ≡ Some file → file ≢ file_of name
  apart_from listed file is same = by (is_live_by listed.version.number (finite.get m.live listed.name)) (finite.get m.live listed.name) refl refl is
    where
      by : (b : Bool) (o : Option Version) → finite.get m.live listed.name ≡ o → is_live_by listed.version.number o ≡ b → cond b (Some (file_of listed.name)) (first_of (kept_files listed.version.number m.kept)) ≡ Some file → ⊥
      by false o got live stands = live_name name (subst IsKeptName same (first_kept listed.version.number m.kept file stands))
      by true None got live stands = let e : false ≡ true = live in cc
      by true (Some version) got live stands =
          let one : file_of listed.name ≡ file_of name = some_one (file_of listed.name) file stands ∙ same in
          let no : Some version ≡ None = sym got ∙ ap (finite.get m.live) (file_one listed.name name one) ∙ free in
          cc
        where
          some_one : (x y : List ℕ) → Some x ≡ Some y → x ≡ y
          some_one x y e = cc

  image_still : (listed : Listed) (o : Option (List ℕ)) → stands_as m listed ≡ o → HasList table files listed o → HasList table Left listed o
  image_still listed None is has = tt
  image_still listed (Some file) is has = still_put files (file_of name) (image 1 table name rows) file (apart_from listed file is) ∙ has

  kept_still : (q : List ℕ) (a : Option Cursor) (b : Option OpenCursor) → finite.get m.cursors q ≡ a → BothKept m a b → BothKept Next a b
  kept_still q None None got both = tt
  kept_still q None (Some k) got both = absurd both
  kept_still q (Some c) None got both = absurd both
  kept_still q (Some c) (Some k) got is = record { query = is.query; segments = is.segments; answered = is.answered; groups = is.groups; files = is.files ∙ all_same c.lists (s.sound.lists q c got) }

  pub build_stands : Stands Left (HasTable texts (finite.insert (segments_of m.live) name (stored_segment table rows))) → ServingStands serving Left texts table Next
  build_stands live = record {
    accepted = s.accepted;
    sound = puts m name Put free s.sound;
    numbered = puts_numbered m name Put s.sound s.numbered;
    cursors = λ q. kept_still q (finite.get m.cursors q) (kept_under q serving) refl (s.cursors q);
    answered = λ q c got. all_both (HasFile m) (IsOwn m) (HasFile Next) (λ listed has own. (has.0, same_as listed own.below ∙ has.1)) (drop c.answered c.lists) (s.answered q c got) (all_drop (IsOwn m) c.answered c.lists (s.sound.lists q c got));
    lists = λ q c got. all_both (IsListOf table files m) (IsOwn m) (IsListOf table Left Next)
        (λ listed of own. record { segment = of.segment; image = subst (HasList table Left listed) (sym (same_as listed own.below)) (image_still listed (stands_as m listed) refl of.image) }) c.lists (s.lists q c got) (s.sound.lists q c got);
    live = subst (λ segments. Stands Left (HasTable texts segments)) (sym (segments_put m.live name New)) live;
    kept = λ file is. ap is_some (still_put files (file_of name) (image 1 table name rows) file (λ same. live_name name (subst IsKeptName same is))) ∙ s.kept file is;
    apart = s.apart;
  }
