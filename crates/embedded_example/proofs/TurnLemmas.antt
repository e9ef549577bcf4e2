-- Two cursors that take turns, by the machine of cursors.
use Rattle.std.proofs.Common.{◌≡◌, ◌∙◌, ◌+◌, ◌-◌, ℕ, Bool, true, false, cond, List, [], ◌∷◌, length, take, Option, Some, None, Result, Ok, refl, sym, subst}
use Rattle.std.specs.Prelude.{is_some, nat_eq, nat_le, IsErrOf, IsSomeAnd}
use Rattle.std.specs.FinMap as finite
use Rattle.std.specs.List.{All}
use Rattle.std.proofs.lemmas.List.Elements.{All-from_recursion}
use Rattle.outside.specs.Files.{Files, Lacks}
use Rattle.values.specs.declared.value.Value.{Value}
use Rattle.table_schema.specs.declared.query.BoundQuery.{BoundQuery}
use Rattle.table_schema.specs.declared.table.Table.{Table}
use Rattle.broker_merge.specs.Reply as groups
use Rattle.segment_file.specs.Ordered.{ordered}
use Rattle.table_store.specs.Images.{IsUnicode}
use Rattle.table_store.specs.Kept.{kept_name}
use Rattle.table_store.specs.Stands.{Stands}
use Rattle.table_store.specs.State.{HasTable, Texts}
use Rattle.cursor_serve.specs.Laws.{FetchedOwn, LeavesOpen}
use Rattle.cursor_serve.specs.Machine.{After, Cursor, CursorTaken, Fetch, Line, Live, Machine, Open, Replace, Step, TooManyCursors, TooManyGroups, Version, closed, closed_by, cursor_reply, fetched, fetched_as, fetched_by, is_over, left_of, lists_of, most_cursors, moved, opened, refused, replaced, replaced_by, rows_of, stepped, stepped_by}
use Rattle.cursor_serve.specs.ServingStands.{OpenCursor, ServingStands, segments_of}
use Rattle.serving.specs.Calls.{Serves}
use Rattle.serving.specs.declared.fault.ServeFault.{ServeFault}
use Rattle.serving.specs.declared.fault.ServeFault.TheVariants as fault
use Rattle.embedded_example.specs.Steps.{AreBegun, AreFetched, IsOpened, Leads, begun, both_begun, both_closed, both_fetched, early_name, late_name}
use Rattle.embedded_example.specs.Turns.{IsReplyTo, LeavesReplaced, PrintOwn, live_with}

-- ---- one call

record Left (after : Option Files) (P : Files → Type 0) : Type 0 where
  left : Files
  told : after ≡ Some left
  has : P left

left_with : (after : Option Files) (P : Files → Type 0) → IsSomeAnd after P → Left after P
left_with None P h = absurd h
left_with (Some files) P h = record { left = files; told = refl; has = h }

-- a call that is answered does its step
pub led_by : {A : Type 0} (step : Machine → After A) (table : Table) (old new : List OpenCursor) (before after : Option Files) (a : A) → Serves step table old new before after (Ok a)
    → Leads table (λ m. (step m).machine) (λ m. (step m).answer ≡ Ok a) old new before after
led_by step table old new before after a serves = serves

-- calls after others
pub led_then : (table : Table) (first second : Machine → Machine) (P Q : Machine → Type 0) (a b c : List OpenCursor) (before between after : Option Files)
    → Leads table first P a b before between → Leads table second Q b c between after
    → Leads table (λ m. second (first m)) (λ m. P m × Q (first m)) a c before after
led_then table first second P Q a b c None between after s t = tt
led_then table first second P Q a b c (Some files) between after s t = λ texts m stands.
    let one = left_with between (λ left. P m × ServingStands b left texts table (first m)) (s texts m stands) in
    let two = left_with after (λ left. Q (first m) × ServingStands c left texts table (second (first m)))
    (subst (λ d. Leads table second Q b c d after) one.told t texts (first m) one.has.1) in
    subst (λ d. IsSomeAnd d (λ left. (P m × Q (first m)) × ServingStands c left texts table (second (first m)))) (sym two.told) ((one.has.0, two.has.0), two.has.1)

-- what is so of the state before, in other words
pub led_so : (table : Table) (to : Machine → Machine) (P Q : Machine → Type 0) (a b : List OpenCursor) (before after : Option Files) → ((m : Machine) → P m → Q m)
    → Leads table to P a b before after → Leads table to Q a b before after
led_so table to P Q a b None after so s = tt
led_so table to P Q a b (Some files) after so s = λ texts m stands.
    let one = left_with after (λ left. P m × ServingStands b left texts table (to m)) (s texts m stands) in
    subst (λ d. IsSomeAnd d (λ left. Q m × ServingStands b left texts table (to m))) (sym one.told) (so m one.has.0, one.has.1)

-- ---- the lists that are live

record SameLists (m n : Machine) : Type 0 where
  live : n.live ≡ m.live
  next : n.next ≡ m.next

opens_by : (m : Machine) (name : List ℕ) (query : BoundQuery) (a b : Bool)
    → SameLists m (cond a (refused CursorTaken m) (cond b (refused TooManyCursors m) (record {
      answer = Ok (length (lists_of m.live));
      machine = record m { cursors = finite.insert m.cursors name (record { query = query; lists = lists_of m.live; answered = 0 }) };
    }))).machine
opens_by m name query true b = record { live = refl; next = refl }
opens_by m name query false true = record { live = refl; next = refl }
opens_by m name query false false = record { live = refl; next = refl }

opens : (m : Machine) (name : List ℕ) (query : BoundQuery) → SameLists m (opened name query m).machine
opens m name query = opens_by m name query (is_some (finite.get m.cursors name)) (nat_le most_cursors (finite.len m.cursors))

steps_on : (m : Machine) (name : List ℕ) (cursor : Cursor) (a b : Bool)
    → SameLists m (cond a (record { answer = Ok 0; machine = m }) (cond b (refused TooManyGroups m) (record {
      answer = Ok (left_of cursor - 1);
      machine = moved name cursor (cursor.answered + 1) m;
    }))).machine
steps_on m name cursor true b = record { live = refl; next = refl }
steps_on m name cursor false true = record { live = refl; next = refl }
steps_on m name cursor false false = record { live = refl; next = refl }

steps_by : (m : Machine) (name : List ℕ) (o : Option Cursor) → SameLists m (stepped_by name o m).machine
steps_by m name None = record { live = refl; next = refl }
steps_by m name (Some cursor) = steps_on m name cursor (nat_eq (left_of cursor) 0) (is_over cursor.query (rows_of (take (cursor.answered + 1) cursor.lists)))

fetches_as : (m : Machine) (name : List ℕ) (cursor : Cursor) (reply : groups.Reply) → SameLists m (fetched_as name cursor m reply).machine
fetches_as m name cursor groups.TooManyGroups = record { live = refl; next = refl }
fetches_as m name cursor (groups.Answers text) = record { live = refl; next = refl }

fetches_by : (m : Machine) (name : List ℕ) (o : Option Cursor) → SameLists m (fetched_by name o m).machine
fetches_by m name None = record { live = refl; next = refl }
fetches_by m name (Some cursor) = fetches_as m name cursor (cursor_reply cursor.query (rows_of cursor.lists))

closes_by : (m : Machine) (name : List ℕ) (o : Option Cursor) → SameLists m (closed_by name o m).machine
closes_by m name None = record { live = refl; next = refl }
closes_by m name (Some cursor) = record { live = refl; next = refl }

replaces_by : (line : ℕ) (name : List ℕ) (rows : List (List Value)) (o : Option Version) (m : Machine) → (replaced_by line name rows o m).answer ≡ Ok tt
    → (replaced_by line name rows o m).machine.live ≡ finite.insert m.live name (record { number = m.next; rows = rows })
replaces_by line name rows None m e = absurd cc
replaces_by line name rows (Some version) m e = refl

put_same : (a b : Live) (x y : ℕ) (name : List ℕ) (rows : List (List Value)) → a ≡ b → x ≡ y
    → finite.insert a name (record { number = x; rows = rows }) ≡ finite.insert b name (record { number = y; rows = rows })
put_same a b x y name rows p q = λ i. finite.insert (p i) name (record { number = q i; rows = rows })

-- ---- a few calls

abbrev pub Done : Result (Unit {0}) ServeFault
Done = Ok tt

pub not_large : ¬ IsErrOf Done fault.TooLarge
not_large e = cc

-- a cursor is opened and answers its first list
pub begins : (table : Table) (name : List ℕ) (query : BoundQuery) (a b c : List OpenCursor) (d0 d1 d2 : Option Files) (n1 n2 : ℕ)
    → Serves (opened name query) table a b d0 d1 (Ok n1) → Serves (stepped name) table b c d1 d2 (Ok n2)
    → Leads table (begun name query) (IsOpened name query) a c d0 d2
begins table name query a b c d0 d1 d2 n1 n2 one two =
    let first : Machine → Machine = λ m. (opened name query m).machine in
    let second : Machine → Machine = λ m. (stepped name m).machine in
    led_so table (begun name query) (λ m. ((opened name query m).answer ≡ Ok n1) × ((stepped name (first m)).answer ≡ Ok n2)) (IsOpened name query) a c d0 d2 (λ m h. (n1, h.0))
    (led_then table first second (λ m. (opened name query m).answer ≡ Ok n1) (λ m. (stepped name m).answer ≡ Ok n2) a b c d0 d1 d2 one two)

-- both begin, and rows are put in the place of others between them
pub both_begin : (table : Table) (early late : BoundQuery) (name : List ℕ) (rows : List (List Value)) (a b c d : List OpenCursor) (d0 d1 d2 d3 : Option Files)
    → Leads table (begun early_name early) (IsOpened early_name early) a b d0 d1 → Serves (replaced 1 name rows) table b c d1 d2 Done → Leads table (begun late_name late) (IsOpened late_name late) c d d2 d3
    → Leads table (both_begun early late name rows) (AreBegun early late name rows) a d d0 d3
both_begin table early late name rows a b c d d0 d1 d2 d3 one two three =
    let first = begun early_name early in
    let second : Machine → Machine = λ m. (replaced 1 name rows m).machine in
    let third = begun late_name late in
    let P1 = IsOpened early_name early in
    let P2 : Machine → Type 0 = λ m. (replaced 1 name rows m).answer ≡ Ok tt in
    let P3 = IsOpened late_name late in
    led_so table (both_begun early late name rows) (λ m. (P1 m × P2 (first m)) × P3 (second (first m))) (AreBegun early late name rows) a d d0 d3
    (λ m h. record { first_opened = h.0.0; put = h.0.1; second_opened = h.1 })
    (led_then table (λ m. second (first m)) third (λ m. P1 m × P2 (first m)) P3 a c d d0 d2 d3 (led_then table first second P1 P2 a b c d0 d1 d2 one two) three)

-- one cursor goes on, and both give their replies
pub both_fetch : (table : Table) (a b c d : List OpenCursor) (d0 d1 d2 d3 : Option Files) (n : ℕ) (first second : List ℕ)
    → Serves (stepped early_name) table a b d0 d1 (Ok n) → Serves (fetched late_name) table b c d1 d2 (Ok second) → Serves (fetched early_name) table c d d2 d3 (Ok first)
    → Leads table both_fetched (AreFetched first second) a d d0 d3
both_fetch table a b c d d0 d1 d2 d3 n first second one two three =
    let f1 : Machine → Machine = λ m. (stepped early_name m).machine in
    let f2 : Machine → Machine = λ m. (fetched late_name m).machine in
    let f3 : Machine → Machine = λ m. (fetched early_name m).machine in
    let P1 : Machine → Type 0 = λ m. (stepped early_name m).answer ≡ Ok n in
    let P2 : Machine → Type 0 = λ m. (fetched late_name m).answer ≡ Ok second in
    let P3 : Machine → Type 0 = λ m. (fetched early_name m).answer ≡ Ok first in
    led_so table both_fetched (λ m. (P1 m × P2 (f1 m)) × P3 (f2 (f1 m))) (AreFetched first second) a d d0 d3
    (λ m h. record { late_is = h.0.1; early_is = h.1 })
    (led_then table (λ m. f2 (f1 m)) f3 (λ m. P1 m × P2 (f1 m)) P3 a c d d0 d2 d3 (led_then table f1 f2 P1 P2 a b c d0 d1 d2 one two) three)

-- both are closed
pub both_close : (table : Table) (a b c : List OpenCursor) (d0 d1 d2 : Option Files)
    → Serves (closed late_name) table a b d0 d1 Done → Serves (closed early_name) table b c d1 d2 Done
    → Leads table both_closed (λ m. Unit {0}) a c d0 d2
both_close table a b c d0 d1 d2 one two =
    let f1 : Machine → Machine = λ m. (closed late_name m).machine in
    let f2 : Machine → Machine = λ m. (closed early_name m).machine in
    let P1 : Machine → Type 0 = λ m. (closed late_name m).answer ≡ Ok tt in
    let P2 : Machine → Type 0 = λ m. (closed early_name m).answer ≡ Ok tt in
    led_so table both_closed (λ m. P1 m × P2 (f1 m)) (λ m. Unit {0}) a c d0 d2 (λ m h. tt)
    (led_then table f1 f2 P1 P2 a b c d0 d1 d2 one two)

-- ---- all of them

-- what the two cursors print, and what is left, from a state of the machine
record Turned (table : Table) (early late : BoundQuery) (name : List ℕ) (rows : List (List Value)) (after : Option Files) (first second : List ℕ) (texts : Texts) (m : Machine) : Type 0 where
  first_is : IsReplyTo early m.live first
  second_is : IsReplyTo late (live_with table name rows m) second
  left : Files
  told : after ≡ Some left
  stands : Stands left (HasTable texts (segments_of (live_with table name rows m)))

module _ (table : Table) (early late : BoundQuery) (name : List ℕ) (rows : List (List Value)) (c1 c2 c3 : List OpenCursor) (d0 d1 d2 d3 : Option Files) (first second : List ℕ) where
  abbrev R : List (List Value)
  R = ordered table.settings.sorted rows

  abbrev begun_both : Machine → Machine
  begun_both = both_begun early late name R

  -- what each few calls did
  pub record Calls : Type 0 where
    pub begin : Lacks d0 (kept_name name 1) → All (λ row. All IsUnicode row) rows → Leads table begun_both (AreBegun early late name R) [] c1 d0 d1
    pub fetch : Leads table both_fetched (AreFetched first second) c1 c2 d1 d2
    pub close : Leads table both_closed (λ m. Unit {0}) c2 c3 d2 d3

  module _ (law : FetchedOwn) (s : Calls) where
    turned : (files : Files) → d0 ≡ Some files → (texts : Texts) (m : Machine) → ServingStands [] files texts table m → finite.get files (kept_name name 1) ≡ None
        → All (λ row. All IsUnicode row) rows → Turned table early late name rows d3 first second texts m
    turned files told texts m stands free unicode =
        let lacks : Lacks d0 (kept_name name 1) = subst (λ d. Lacks d (kept_name name 1)) (sym told) free in
        let all = led_then table (λ m. both_fetched (begun_both m)) both_closed (λ m. AreBegun early late name R m × AreFetched first second (begun_both m)) (λ m. Unit {0}) [] c2 c3 d0 d2 d3
        (led_then table begun_both both_fetched (AreBegun early late name R) (AreFetched first second) [] c1 c2 d0 d1 d2 (s.begin lacks unicode) s.fetch) s.close in
        let end : Left d3 (λ left. ((AreBegun early late name R m × AreFetched first second (begun_both m)) × Unit {0}) × ServingStands c3 left texts table (both_closed (both_fetched (begun_both m)))) =
        left_with d3 (λ left. ((AreBegun early late name R m × AreFetched first second (begun_both m)) × Unit {0}) × ServingStands c3 left texts table (both_closed (both_fetched (begun_both m))))
        (subst (λ d. Leads table (λ m. both_closed (both_fetched (begun_both m))) (λ m. (AreBegun early late name R m × AreFetched first second (begun_both m)) × Unit {0}) [] c3 d d3) told all texts m stands) in
        let b = end.has.0.0.0 in
        let f = end.has.0.0.1 in
        let E = early_name in
        let L = late_name in
        let m1 = (opened E early m).machine in
        let m2 = (stepped E m1).machine in
        let m3 = (replaced 1 name R m2).machine in
        let m4 = (opened L late m3).machine in
        let m5 = (stepped L m4).machine in
        let m6 = (stepped E m5).machine in
        let m7 = (fetched L m6).machine in
        let m8 = (fetched E m7).machine in
        let m9 = (closed L m8).machine in
        let m10 = (closed E m9).machine in
        let between : List Line = Step E ∷ Replace name R ∷ Open L late ∷ Step L ∷ Step E ∷ Fetch L ∷ [] in
        let first_is = law m E early b.first_opened.0 0 between b.first_opened.1 (All-from_recursion (LeavesOpen E) between (tt, (tt, (tt, (tt, (tt, (tt, tt))))))) in
        let after : List Line = Step L ∷ Step E ∷ [] in
        let second_is = law m3 L late b.second_opened.0 0 after b.second_opened.1 (All-from_recursion (LeavesOpen L) after (tt, (tt, tt))) in
        let one = opens m E early in
        let two = steps_by m1 E (finite.get m1.cursors E) in
        let live : m2.live ≡ m.live = two.live ∙ one.live in
        let next : m2.next ≡ m.next = two.next ∙ one.next in
        let put : m3.live ≡ finite.insert m2.live name (record { number = m2.next; rows = R }) = replaces_by 1 name R (finite.get m2.live name) m2 b.put in
        let live_is : m3.live ≡ live_with table name rows m = put ∙ put_same m2.live m.live m2.next m.next name R live next in
        let to5 : m5.live ≡ m3.live = (steps_by m4 L (finite.get m4.cursors L)).live ∙ (opens m3 L late).live in
        let to7 : m7.live ≡ m5.live = (fetches_by m6 L (finite.get m6.cursors L)).live ∙ (steps_by m5 E (finite.get m5.cursors E)).live in
        let to9 : m9.live ≡ m7.live = (closes_by m8 L (finite.get m8.cursors L)).live ∙ (fetches_by m7 E (finite.get m7.cursors E)).live in
        let to10 : m10.live ≡ m9.live = (closes_by m9 E (finite.get m9.cursors E)).live in
        let end_is : m10.live ≡ live_with table name rows m = to10 ∙ to9 ∙ to7 ∙ to5 ∙ live_is in
        record {
          first_is = sym first_is ∙ f.early_is;
          second_is = subst (λ lists. IsReplyTo late lists second) live_is (sym second_is ∙ f.late_is);
          left = end.left;
          told = end.told;
          stands = subst (λ lists. Stands end.left (HasTable texts (segments_of lists))) end_is end.has.1.live;
        }

    pub prints_own : PrintOwn table early late name rows d0 first second
    prints_own = by d0 refl
      where
        by : (before : Option Files) → d0 ≡ before → PrintOwn table early late name rows before first second
        by None told = tt
        by (Some files) told = λ texts m stands free unicode. let t = turned files told texts m stands free unicode in (t.first_is, t.second_is)

    pub leaves_replaced : LeavesReplaced table name rows d0 d3
    leaves_replaced = by d0 refl
      where
        by : (before : Option Files) → d0 ≡ before → LeavesReplaced table name rows before d3
        by None told = tt
        by (Some files) told = λ texts m stands free unicode.
            let t = turned files told texts m stands free unicode in
            subst (λ after. IsSomeAnd after (λ left. Stands left (HasTable texts (segments_of (live_with table name rows m))))) (sym t.told) t.stands
