-- Each list of the machine has a number of its own, after each line.
use Rattle.std.proofs.Common.{◌≡◌, ◌≢◌, ◌∙◌, ◌<◌, ◌≤◌, ◌⊎◌, ◌+◌, ◌-◌, inl, inr, ℕ, Bool, true, false, cond, List, [], ◌∷◌, ◌++◌, filter, length, map, take, Option, Some, None, Ok, refl, sym, ap, subst, arith}
use Rattle.std.specs.Prelude.{is_some, nat_eq, nat_le}
use borrow.Author.Tests.{eqb-true}
use Rattle.std.specs.FinMap as finite
use Rattle.std.specs.FinMap.Entries.{find}
use Rattle.std.specs.List.{AllByRecursion, IsDistinct}
use Rattle.std.specs.Ordering.{eq_by_cmp}
use Rattle.std.proofs.lemmas.Cmp.{nat_list_cmp_total}
use Rattle.outside.specs.Files.{name_order}
use Rattle.values.specs.declared.value.Value.{Value}
use Rattle.table_schema.specs.declared.query.BoundQuery.{BoundQuery}
use Rattle.broker_merge.specs.Reply as groups
use Rattle.cursor_serve.specs.Machine.{Cursor, Cursors, KeptList, Line, Listed, Live, Machine, Open, Step, Fetch, Close, Build, Drop, Replace, CursorTaken, NameTaken, TooManyCursors, TooManyGroups, TooManySegments, Version, closed_by, cursor_reply, dropped_by, fetched_as, fetched_by, is_awaited, is_held, is_over, kept_with, left_of, lists_of, most_cursors, most_segments, moved, numbered, refused, replaced_by, rows_of, started, stepped_by, with_list}
use Rattle.cursor_serve.specs.Numbered.{IsListIn, IsNumbered, IsOfCursor, IsOneOf, StartsNumbered, StaysNumbered}
use Rattle.cursor_serve.specs.Sound.{IsAmong, IsKeptWell, IsOwn, IsSound}
use Rattle.cursor_serve.proofs.FetchLemmas.{tied}
use Rattle.cursor_serve.proofs.SoundLemmas.{all_found, all_mapped, no_cursor, one_value, put_cases, took_cases}

-- ---- one of some

one_all : (P : Listed → Type 0) (listed : Listed) (lists : List Listed) → AllByRecursion P lists → IsOneOf listed lists → P listed
one_all P listed [] all one = absurd one
one_all P listed (x ∷ xs) all (inl same) = subst P same all.0
one_all P listed (x ∷ xs) all (inr later) = one_all P listed xs all.1 later

among_all : (P : Listed → Type 0) (listed : Listed) (kept : List KeptList) → AllByRecursion (λ k. P k.listed) kept → IsAmong listed kept → P listed
among_all P listed [] all one = absurd one
among_all P listed (k ∷ kept) all (inl same) = subst P same all.0
among_all P listed (k ∷ kept) all (inr later) = among_all P listed kept all.1 later

among_filtered : (p : KeptList → Bool) (listed : Listed) (kept : List KeptList) → IsAmong listed (filter p kept) → IsAmong listed kept
among_filtered p listed [] one = one
among_filtered p listed (k ∷ kept) one = by (p k) one (among_filtered p listed kept)
  where
    by : (b : Bool) → IsAmong listed (cond b (k ∷ filter p kept) (filter p kept)) → (IsAmong listed (filter p kept) → IsAmong listed kept) → IsAmong listed (k ∷ kept)
    by true (inl same) more = inl same
    by true (inr later) more = inr (more later)
    by false one more = inr (more one)

among_pushed : (listed : Listed) (kept : List KeptList) (k : KeptList) → IsAmong listed (kept ++ k ∷ []) → IsAmong listed kept ⊎ (k.listed ≡ listed)
among_pushed listed [] k (inl same) = inr same
among_pushed listed [] k (inr none) = absurd none
among_pushed listed (x ∷ kept) k (inl same) = inl (inl same)
among_pushed listed (x ∷ kept) k (inr later) = elim (among_pushed listed kept k later) [ inl old ↦ inl (inr old) | inr new ↦ inr new ]

-- ---- numbers that differ

abbrev numbers : List KeptList → List ℕ
numbers kept = map (λ k. k.listed.version.number) kept

other_filtered : (n : ℕ) (p : KeptList → Bool) (kept : List KeptList) → AllByRecursion (λ x. nat_eq n x ≡ false) (numbers kept) → AllByRecursion (λ x. nat_eq n x ≡ false) (numbers (filter p kept))
other_filtered n p [] all = tt
other_filtered n p (k ∷ kept) all = by (p k) (other_filtered n p kept all.1)
  where
    by : (b : Bool) → AllByRecursion (λ x. nat_eq n x ≡ false) (numbers (filter p kept)) → AllByRecursion (λ x. nat_eq n x ≡ false) (numbers (cond b (k ∷ filter p kept) (filter p kept)))
    by true rest = (all.0, rest)
    by false rest = rest

once_filtered : (p : KeptList → Bool) (kept : List KeptList) → IsDistinct nat_eq (numbers kept) → IsDistinct nat_eq (numbers (filter p kept))
unfolding IsDistinct
once_filtered p [] once = tt
once_filtered p (k ∷ kept) once = by (p k) (other_filtered k.listed.version.number p kept once.0) (once_filtered p kept once.1)
  where
    by : (b : Bool) → AllByRecursion (λ x. nat_eq k.listed.version.number x ≡ false) (numbers (filter p kept)) → IsDistinct nat_eq (numbers (filter p kept)) → IsDistinct nat_eq (numbers (cond b (k ∷ filter p kept) (filter p kept)))
    by true none rest = (none, rest)
    by false none rest = rest

differs : (n m : ℕ) → n ≢ m → nat_eq n m ≡ false
differs n m ne = by (nat_eq n m) refl
  where
    by : (b : Bool) → nat_eq n m ≡ b → b ≡ false
    by true e = absurd (ne (eqb-true n m e))
    by false e = refl

once_pushed : (kept : List KeptList) (k : KeptList) → IsDistinct nat_eq (numbers kept) → AllByRecursion (λ x. x.listed.version.number ≢ k.listed.version.number) kept → IsDistinct nat_eq (numbers (kept ++ k ∷ []))
unfolding IsDistinct
once_pushed [] k once ne = (tt, tt)
once_pushed (x ∷ kept) k once ne = (last kept once.0, once_pushed kept k once.1 ne.1)
  where
    last : (ks : List KeptList) → AllByRecursion (λ n. nat_eq x.listed.version.number n ≡ false) (numbers ks) → AllByRecursion (λ n. nat_eq x.listed.version.number n ≡ false) (numbers (ks ++ k ∷ []))
    last [] all = (differs x.listed.version.number k.listed.version.number ne.0, tt)
    last (y ∷ ks) all = (all.0, last ks all.1)

-- ---- fewer lists, or one more

narrows : (m n : Machine) → ((x : Listed) → IsListIn n x → IsListIn m x) → IsDistinct nat_eq (numbers n.kept) → IsNumbered m → IsNumbered n
narrows m n was once is = record { one = λ a b p q e. is.one a b (was a p) (was b q) e; once = once }

number_below : (m : Machine) → IsSound m → (x : Listed) → IsListIn m x → x.version.number < m.next
number_below m is x (inl live) = is.live x.name x.version live
number_below m is x (inr (inl of)) = (one_all (IsOwn m) x of.cursor.lists (is.lists of.name of.cursor of.got) of.among).below
number_below m is x (inr (inr kept)) = among_all (λ (l : Listed). l.version.number < m.next) x m.kept (below m.kept is.kept) kept
  where
    below : (ks : List KeptList) → AllByRecursion (IsKeptWell m) ks → AllByRecursion (λ k. k.listed.version.number < m.next) ks
    below [] all = tt
    below (k ∷ ks) all = (all.0.below, below ks all.1)

widens : (m n : Machine) (new : Listed) → new.version.number ≡ m.next → IsSound m → ((x : Listed) → IsListIn n x → IsListIn m x ⊎ (new ≡ x)) → IsDistinct nat_eq (numbers n.kept) → IsNumbered m → IsNumbered n
widens m n new next sound was once is = record { one = λ a b p q e. by a b (was a p) (was b q) e; once = once }
  where
    by : (a b : Listed) → IsListIn m a ⊎ (new ≡ a) → IsListIn m b ⊎ (new ≡ b) → a.version.number ≡ b.version.number → a ≡ b
    by a b (inl p) (inl q) e = is.one a b p q e
    by a b (inr p) (inr q) e = sym p ∙ q
    by a b (inl p) (inr q) e =
        let lt = number_below m sound a p in
        let same : m.next ≡ b.version.number = sym next ∙ ap (λ (l : Listed). l.version.number) q in
        absurd (omega (arith, lt, same, e))
    by a b (inr p) (inl q) e =
        let lt = number_below m sound b q in
        let same : m.next ≡ a.version.number = sym next ∙ ap (λ (l : Listed). l.version.number) p in
        absurd (omega (arith, lt, same, e))

-- ---- cursors

live_found : (m : Machine) → AllByRecursion (λ (l : Listed). finite.get m.live l.name ≡ Some l.version) (lists_of m.live)
live_found m =
    all_mapped (λ entry. record { name = entry.0; version = entry.1 }) (λ (l : Listed). finite.get m.live l.name ≡ Some l.version) (finite.entries m.live)
    (all_found (λ (e : List ℕ × Version). finite.get m.live e.0 ≡ Some e.1) (finite.entries m.live) (finite.entries_sorted m.live) (λ q x found. finite.get-entries m.live q ∙ found))

-- a cursor whose lists are lists of the machine
with_one : (m : Machine) (other : List ℕ) (new : Cursor) → ((x : Listed) → IsOneOf x new.lists → IsListIn m x) → IsNumbered m → IsNumbered (record m { cursors = finite.insert m.cursors other new })
with_one m other new own is = narrows m (record m { cursors = finite.insert m.cursors other new }) was is.once is
  where
    was : (x : Listed) → IsListIn (record m { cursors = finite.insert m.cursors other new }) x → IsListIn m x
    was x (inl live) = inl live
    was x (inr (inl of)) = elim (put_cases m.cursors other new of.name of.cursor of.got) [
      | inl both ↦ own x (subst (λ (c : Cursor). IsOneOf x c.lists) (sym both.1) of.among)
      | inr old ↦ inr (inl (record { name = of.name; cursor = of.cursor; got = old; among = of.among }))
    ]
    was x (inr (inr kept)) = inr (inr kept)

opens_numbered : (m : Machine) (other : List ℕ) (query : BoundQuery) (a b : Bool) → IsNumbered m
    → IsNumbered (cond a (refused CursorTaken m) (cond b (refused TooManyCursors m) (record {
      answer = Ok (length (lists_of m.live));
      machine = record m { cursors = finite.insert m.cursors other (record { query = query; lists = lists_of m.live; answered = 0 }) };
    }))).machine
opens_numbered m other query true b is = is
opens_numbered m other query false true is = is
opens_numbered m other query false false is = with_one m other (record { query = query; lists = lists_of m.live; answered = 0 })
    (λ x one. inl (one_all (λ (l : Listed). finite.get m.live l.name ≡ Some l.version) x (lists_of m.live) (live_found m) one)) is

moves_numbered : (m : Machine) (other : List ℕ) (cursor : Cursor) (n : ℕ) → finite.get m.cursors other ≡ Some cursor → IsNumbered m → IsNumbered (moved other cursor n m)
moves_numbered m other cursor n got is = with_one m other (record cursor { answered = n }) (λ x one. inr (inl (record { name = other; cursor = cursor; got = got; among = one }))) is

steps_numbered : (m : Machine) (other : List ℕ) (cursor : Cursor) (a b : Bool) → finite.get m.cursors other ≡ Some cursor → IsNumbered m
    → IsNumbered (cond a (record { answer = Ok 0; machine = m }) (cond b (refused TooManyGroups m) (record {
      answer = Ok (left_of cursor - 1);
      machine = moved other cursor (cursor.answered + 1) m;
    }))).machine
steps_numbered m other cursor true b got is = is
steps_numbered m other cursor false true got is = is
steps_numbered m other cursor false false got is = moves_numbered m other cursor (cursor.answered + 1) got is

steps_by : (m : Machine) (other : List ℕ) (o : Option Cursor) → finite.get m.cursors other ≡ o → IsNumbered m → IsNumbered (stepped_by other o m).machine
steps_by m other None got is = is
steps_by m other (Some cursor) got is = steps_numbered m other cursor (nat_eq (left_of cursor) 0) (is_over cursor.query (rows_of (take (cursor.answered + 1) cursor.lists))) got is

fetches_as : (m : Machine) (other : List ℕ) (cursor : Cursor) (reply : groups.Reply) → finite.get m.cursors other ≡ Some cursor → IsNumbered m → IsNumbered (fetched_as other cursor m reply).machine
fetches_as m other cursor groups.TooManyGroups got is = is
fetches_as m other cursor (groups.Answers text) got is = moves_numbered m other cursor (length cursor.lists) got is

fetches_by : (m : Machine) (other : List ℕ) (o : Option Cursor) → finite.get m.cursors other ≡ o → IsNumbered m → IsNumbered (fetched_by other o m).machine
fetches_by m other None got is = is
fetches_by m other (Some cursor) got is = fetches_as m other cursor (cursor_reply cursor.query (rows_of cursor.lists)) got is

closes_by : (m : Machine) (other : List ℕ) (o : Option Cursor) → IsNumbered m → IsNumbered (closed_by other o m).machine
closes_by m other None is = is
closes_by m other (Some cursor) is = narrows m (closed_by other (Some cursor) m).machine was (once_filtered held m.kept is.once) is
  where
    held : KeptList → Bool
    held k = is_held k.listed.version.number (finite.remove m.cursors other)

    was : (x : Listed) → IsListIn (closed_by other (Some cursor) m).machine x → IsListIn m x
    was x (inl live) = inl live
    was x (inr (inl of)) = inr (inl (record { name = of.name; cursor = of.cursor; got = (took_cases m.cursors other of.name of.cursor of.got).1; among = of.among }))
    was x (inr (inr kept)) = inr (inr (among_filtered held x m.kept kept))

-- ---- lists

-- the kept lists once a live one is live no longer
kept_lists : (m : Machine) (number : ℕ) (other : List ℕ) (version : Version) (x : Listed) (b : Bool) → finite.get m.live other ≡ Some version
    → IsAmong x (cond b (m.kept ++ record { listed = record { name = other; version = version }; line = number } ∷ []) m.kept) → IsListIn m x
kept_lists m number other version x true got kept = elim (among_pushed x m.kept (record { listed = record { name = other; version = version }; line = number }) kept) [
  | inl old ↦ inr (inr old)
  | inr same ↦ inl (subst (λ (l : Listed). finite.get m.live l.name ≡ Some l.version) same got)
]
kept_lists m number other version x false got kept = inr (inr kept)

kept_once : (m : Machine) (number : ℕ) (other : List ℕ) (version : Version) (b : Bool) → finite.get m.live other ≡ Some version → IsSound m → IsNumbered m
    → IsDistinct nat_eq (numbers (cond b (m.kept ++ record { listed = record { name = other; version = version }; line = number } ∷ []) m.kept))
kept_once m number other version false got sound is = is.once
kept_once m number other version true got sound is =
    once_pushed m.kept (record { listed = record { name = other; version = version }; line = number }) is.once (apart m.kept sound.kept (λ x e. e))
  where
    listed : Listed
    listed = record { name = other; version = version }

    apart : (ks : List KeptList) → AllByRecursion (IsKeptWell m) ks → ((x : Listed) → IsAmong x ks → IsAmong x m.kept) → AllByRecursion (λ k. k.listed.version.number ≢ version.number) ks
    apart [] all in_kept = tt
    apart (k ∷ ks) all in_kept = (
      (λ e.
          let same : k.listed ≡ listed = is.one k.listed listed (inr (inr (in_kept k.listed (inl refl)))) (inl got) e in
          all.0.out version (ap (λ (l : Listed). finite.get m.live l.name) same ∙ got) (sym e)),
      apart ks all.1 (λ x one. in_kept x (inr one)),
    )

pub puts_numbered : (m : Machine) (other : List ℕ) (rows : List (List Value)) → IsSound m → IsNumbered m → IsNumbered (with_list other rows m)
puts_numbered m other rows sound is = widens m (with_list other rows m) (record { name = other; version = new }) refl sound was is.once is
  where
    new : Version
    new = record { number = m.next; rows = rows }

    was : (x : Listed) → IsListIn (with_list other rows m) x → IsListIn m x ⊎ (record { name = other; version = new } ≡ x)
    was x (inl live) = elim (put_cases m.live other new x.name x.version live) [
      | inl both ↦ inr (λ i. record { name = sym both.0 i; version = both.1 i })
      | inr old ↦ inl (inl old)
    ]
    was x (inr (inl of)) = inl (inr (inl (record { name = of.name; cursor = of.cursor; got = of.got; among = of.among })))
    was x (inr (inr kept)) = inl (inr (inr kept))

builds_by : (m : Machine) (other : List ℕ) (rows : List (List Value)) (a b : Bool) → IsSound m → IsNumbered m
    → IsNumbered (cond a (refused {A = Unit {0}} NameTaken m) (cond b (refused TooManySegments m) (record { answer = Ok tt; machine = with_list other rows m }))).machine
builds_by m other rows true b sound is = is
builds_by m other rows false true sound is = is
builds_by m other rows false false sound is = puts_numbered m other rows sound is

drops_by : (m : Machine) (number : ℕ) (other : List ℕ) (o : Option Version) → finite.get m.live other ≡ o → IsSound m → IsNumbered m → IsNumbered (dropped_by number other o m).machine
drops_by m number other None got sound is = is
drops_by m number other (Some version) got sound is = narrows m (dropped_by number other (Some version) m).machine was (kept_once m number other version (is_awaited version.number m.cursors) got sound is) is
  where
    was : (x : Listed) → IsListIn (dropped_by number other (Some version) m).machine x → IsListIn m x
    was x (inl live) = inl (took_cases m.live other x.name x.version live).1
    was x (inr (inl of)) = inr (inl (record { name = of.name; cursor = of.cursor; got = of.got; among = of.among }))
    was x (inr (inr kept)) = kept_lists m number other version x (is_awaited version.number m.cursors) got kept

replaces_by : (m : Machine) (number : ℕ) (other : List ℕ) (rows : List (List Value)) (o : Option Version) → finite.get m.live other ≡ o → IsSound m → IsNumbered m → IsNumbered (replaced_by number other rows o m).machine
replaces_by m number other rows None got sound is = is
replaces_by m number other rows (Some version) got sound is =
    widens m (replaced_by number other rows (Some version) m).machine (record { name = other; version = new }) refl sound was (kept_once m number other version (is_awaited version.number m.cursors) got sound is) is
  where
    new : Version
    new = record { number = m.next; rows = rows }

    was : (x : Listed) → IsListIn (replaced_by number other rows (Some version) m).machine x → IsListIn m x ⊎ (record { name = other; version = new } ≡ x)
    was x (inl live) = elim (put_cases m.live other new x.name x.version live) [
      | inl both ↦ inr (λ i. record { name = sym both.0 i; version = both.1 i })
      | inr old ↦ inl (inl old)
    ]
    was x (inr (inl of)) = inl (inr (inl (record { name = of.name; cursor = of.cursor; got = of.got; among = of.among })))
    was x (inr (inr kept)) = inl (kept_lists m number other version x (is_awaited version.number m.cursors) got kept)

pub stays_numbered : StaysNumbered
stays_numbered number (Open other query) m sound is = opens_numbered m other query (is_some (finite.get m.cursors other)) (nat_le most_cursors (finite.len m.cursors)) is
stays_numbered number (Step other) m sound is = steps_by m other (finite.get m.cursors other) refl is
stays_numbered number (Fetch other) m sound is = fetches_by m other (finite.get m.cursors other) refl is
stays_numbered number (Close other) m sound is = closes_by m other (finite.get m.cursors other) is
stays_numbered number (Build other rows) m sound is = builds_by m other rows (is_some (finite.get m.live other)) (nat_le most_segments (finite.len m.live)) sound is
stays_numbered number (Drop other) m sound is = drops_by m number other (finite.get m.live other) refl sound is
stays_numbered number (Replace other rows) m sound is = replaces_by m number other rows (finite.get m.live other) refl sound is

-- ---- the start

from_start : (lists : List (List ℕ × List (List Value))) (n : ℕ) (q : List ℕ) (v : Version) → find name_order q (numbered n lists) ≡ Some v → n ≤ v.number
from_start [] n q v found = absurd cc
from_start (list ∷ lists) n q v found = by (eq_by_cmp name_order q list.0) found (from_start lists (n + 1) q v)
  where
    by : (b : Bool) → cond b (Some (record { number = n; rows = list.1 })) (find name_order q (numbered (n + 1) lists)) ≡ Some v → (find name_order q (numbered (n + 1) lists) ≡ Some v → n + 1 ≤ v.number) → n ≤ v.number
    by true is more = let one : n ≡ v.number = ap (λ (v : Version). v.number) (one_value (record { number = n; rows = list.1 }) v is) in omega (arith, one)
    by false is more = let le = more is in omega (arith, le)

abbrev Same : List ℕ → Version → List ℕ → Version → Type 0
Same q v r w = (q ≡ r) × (v ≡ w)

same_found : (lists : List (List ℕ × List (List Value))) (n : ℕ) (q r : List ℕ) (v w : Version) → find name_order q (numbered n lists) ≡ Some v → find name_order r (numbered n lists) ≡ Some w → v.number ≡ w.number → Same q v r w
same_found [] n q r v w found other e = absurd cc
same_found (list ∷ lists) n q r v w found other e = by (eq_by_cmp name_order q list.0) refl (eq_by_cmp name_order r list.0) refl found other (same_found lists (n + 1) q r v w)
  where
    own : Version
    own = record { number = n; rows = list.1 }

    by : (a : Bool) → eq_by_cmp name_order q list.0 ≡ a → (b : Bool) → eq_by_cmp name_order r list.0 ≡ b
        → cond a (Some own) (find name_order q (numbered (n + 1) lists)) ≡ Some v → cond b (Some own) (find name_order r (numbered (n + 1) lists)) ≡ Some w
        → (find name_order q (numbered (n + 1) lists) ≡ Some v → find name_order r (numbered (n + 1) lists) ≡ Some w → v.number ≡ w.number → Same q v r w) → Same q v r w
    by true s true t found other more = (tied q list.0 s ∙ sym (tied r list.0 t), sym (one_value own v found) ∙ one_value own w other)
    by true s false t found other more =
        let one : n ≡ v.number = ap (λ (v : Version). v.number) (one_value own v found) in
        let le = from_start lists (n + 1) r w other in
        absurd (omega (arith, one, le, e))
    by false s true t found other more =
        let one : n ≡ w.number = ap (λ (v : Version). v.number) (one_value own w other) in
        let le = from_start lists (n + 1) q v found in
        absurd (omega (arith, one, le, e))
    by false s false t found other more = more found other e

pub starts_numbered : StartsNumbered
unfolding IsDistinct
starts_numbered lists = record { one = λ a b p q e. by a b p q e; once = tt }
  where
    got_found : (q : List ℕ) (v : Version) → finite.get (started lists).live q ≡ Some v → find name_order q (numbered 0 lists) ≡ Some v
    got_found q v got = sym (finite.get-from_entries nat_list_cmp_total (numbered 0 lists) q) ∙ got

    by : (a b : Listed) → IsListIn (started lists) a → IsListIn (started lists) b → a.version.number ≡ b.version.number → a ≡ b
    by a b (inl p) (inl q) e =
        let both = same_found lists 0 a.name b.name a.version b.version (got_found a.name a.version p) (got_found b.name b.version q) e in
        (λ i. record { name = both.0 i; version = both.1 i })
    by a b (inr (inl of)) q e = no_cursor of.name of.cursor of.got
    by a b (inr (inr none)) q e = absurd none
    by a b (inl p) (inr (inl of)) e = no_cursor of.name of.cursor of.got
    by a b (inl p) (inr (inr none)) e = absurd none
