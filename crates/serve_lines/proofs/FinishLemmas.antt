-- Cursors are closed one after another, and no file is kept where none is left.
use Rattle.std.proofs.Common.{◌≡◌, ◌≢◌, ◌⊎◌, ◌∙◌, ◌+◌, ◌<◌, ◌≤◌, ℕ, Bool, true, false, List, [], ◌∷◌, Option, Some, None, IfSome, Result, Ok, Err, IsErrOf, length, refl, sym, ap, subst, arith, is_some}
use Rattle.std.specs.Prelude.{IsErrAnd, IsSomeAnd}
use Rattle.std.specs.FinMap as finite
use Rattle.std.specs.List.{AllByRecursion, list_any}
use Rattle.std.specs.Ordering.{eq_by_cmp}
use Rattle.std.proofs.lemmas.Bool.{false≢true}
use Rattle.outside.specs.Counts.{Rose}
use Rattle.outside.specs.Files.{Files, name_order}
use Rattle.outside.specs.Seen.{Seen}
use Rattle.table_schema.specs.declared.table.Table.{Table}
use Rattle.table_store.specs.Kept.{IsKeptName, kept_name}
use Rattle.table_store.specs.Stands.{Stands}
use Rattle.table_store.specs.Calls.{OnlyRemoves}
use Rattle.table_store.specs.State.{HasTable, State, Texts}
use Rattle.cursor_serve.specs.Machine.{Cursor, KeptList, Machine, closed, is_held}
use Rattle.cursor_serve.specs.Sound.{IsKeptWell}
use Rattle.cursor_serve.specs.ServingStands.{BothKept, OpenCursor, ServingStands, segments_of}
use Rattle.cursor_serve.proofs.SoundLemmas.{any_found}
use Rattle.serving.specs.Calls.{IsAnsweredAs, Serves}
use Rattle.state_pool.specs.Pool.{Pool}
use Rattle.serving.specs.Faults.{IsCloseFault}
use Rattle.cursors.specs.Kept.{AreCursors, IsOver, cursors_in}
use Rattle.cursors.specs.declared.cursor.Cursor.{Cursor as ACursor}
use Rattle.serving.specs.declared.serving.Serving.{Serving}
use Rattle.serving.specs.declared.fault.ServeFault.{ServeFault}
use Rattle.serving.specs.declared.fault.ServeFault.TheVariants as serve
use Rattle.command_words.specs.declared.fault.Fault.{Fault}
use Rattle.command_words.specs.declared.fault.Fault.TheVariants as fault
use Rattle.serve_lines.specs.Calls.{Finishes, HasFaultOf, close_fault}
use Rattle.serve_lines.specs.Kept.{AreBefore, HasNoKept, IsSession, Kept, StandsServed, live_state}
use Rattle.serve_lines.specs.Step.{NoStore, Served, Serves as Over}
use Rattle.serve_lines.proofs.MachineLemmas.{closed_before, closed_live}
use Rattle.serve_lines.proofs.OverLemmas.{some_map, told_at}

-- the result of a close that failed so
abbrev pub close_failed : ServeFault → Result (Unit {0}) ServeFault
close_failed why = Err why

-- ---- no cursor, no kept file

no_held : (m : Machine) (number : ℕ) → ((name : List ℕ) → finite.get m.cursors name ≡ None) → is_held number m.cursors ≡ true → ⊥
no_held m number none held =
    let f = any_found _ (finite.entries m.cursors) (finite.entries_sorted m.cursors) held in
    some_none (finite.get m.cursors f.name) f.value (finite.get-entries m.cursors f.name ∙ f.found) (none f.name)
  where
    some_none : (o : Option Cursor) (c : Cursor) → o ≡ Some c → o ≡ None → ⊥
    some_none o c p q = cc

none_kept : (m : Machine) (kept : List KeptList) → ((name : List ℕ) → finite.get m.cursors name ≡ None) → AllByRecursion (IsKeptWell m) kept → kept ≡ []
none_kept m [] none all = refl
none_kept m (k ∷ kept) none all = absurd (no_held m k.listed.version.number none all.0.held)

none_both : (m : Machine) (o : Option Cursor) → BothKept m o None → o ≡ None
none_both m None both = refl
none_both m (Some cursor) both = absurd both

none_some : (o : Option (List ℕ)) → is_some o ≡ false → o ≡ None
none_some None is = refl
none_some (Some x) is = absurd cc

no_kept_over : (files : Files) (texts : Texts) (table : Table) (m : Machine) → ServingStands [] files texts table m → HasNoKept files
no_kept_over files texts table m s = λ file is.
    none_some (finite.get files file) (s.kept file is ∙ ap (λ kept. list_any (λ k. eq_by_cmp name_order file (kept_name k.listed.name k.line)) kept) (none_kept m m.kept (λ name. none_both m (finite.get m.cursors name) (s.cursors name)) s.sound.kept))

-- files that what is kept stands beside have none that is kept, where there is no cursor
pub no_kept : (number : ℕ) (kept : Kept) (files : Files) (state : Served) → kept.cursors ≡ [] → StandsServed number kept files state → HasNoKept files
no_kept number kept files NoStore none s = λ file is. s.stands file
no_kept number kept files (Over texts m) none s = no_kept_over files texts s.table m (subst (λ cs. ServingStands cs files texts s.table m) none s.stands)

-- ---- as cursors are closed

-- what is kept now stands for a state with the lists that were live
pub record Closing (before : Kept) (old new : Seen) (now : Kept) : Type 0 where
  pub stands : IfSome old.held (λ stored. (number : ℕ) (state : Served) → StandsServed number before stored state
      → IsSomeAnd new.held (λ files. (n : ℕ) × (then : Served) × StandsServed n now files then × (live_state then ≡ live_state state)))
  pub reads : new.read_faults ≡ old.read_faults
  pub writes : new.write_faults ≡ old.write_faults

told_some : {X : Type 0} (held : Option X) (P Q : X → Type 0) → ((x : X) → held ≡ Some x → P x → Q x) → IfSome held P → IfSome held Q
told_some None P Q f h = tt
told_some (Some x) P Q f h = f x refl h

if_some : {X : Type 0} (held : Option X) (P : X → Type 0) → ((x : X) → held ≡ Some x → P x) → IfSome held P
if_some None P f = tt
if_some (Some x) P f = f x refl

pub not_closing : (kept : Kept) (d : Seen) → Closing kept d d kept
not_closing kept d = record {
  stands = if_some d.held _ (λ stored told number state s. subst (λ o. IsSomeAnd o (λ files. (n : ℕ) × (then : Served) × StandsServed n kept files then × (live_state then ≡ live_state state))) (sym told) (number, state, s, refl));
  reads = refl;
  writes = refl;
}

-- the end, where no cursor is left
pub closing_done : (kept now : Kept) (d e : Seen) → now.cursors ≡ [] → Closing kept d e now → Finishes kept d e (Ok tt)
closing_done kept now d e none c = record {
  stands = told_some d.held _ _ (λ stored told f number state s.
      some_map e.held _ _ (λ files h. (no_kept h.0 now files h.1 none h.2, subst (λ l. Stands files l) h.3 (live_of h.0 now files h.1 h.2))) (f number state s)) c.stands;
  faults = record { reads = λ no. c.reads; writes = λ no. c.writes; read_rose = λ is. cc; write_rose = λ is. cc };
}
  where
    live_of : (number : ℕ) (kept : Kept) (files : Files) (state : Served) → StandsServed number kept files state → Stands files (live_state state)
    live_of number kept files NoStore s = s.stands
    live_of number kept files (Over texts m) s = s.stands.live

live_at : (number : ℕ) (kept : Kept) (files : Files) (state : Served) → StandsServed number kept files state → Stands files (live_state state)
live_at number kept files NoStore s = s.stands
live_at number kept files (Over texts m) s = s.stands.live

told_one : {X : Type 0} (held : Option X) (P : X → Type 0) → IsSomeAnd held P → (x : X) × (held ≡ Some x) × P x
told_one None P h = absurd h
told_one (Some x) P h = (x, refl, h)

-- memory ran out between two calls
pub closing_memory : (before now : Kept) (old new : Seen) → Closing before old new now → Finishes before old new (Err fault.Memory)
closing_memory before now old new c = record {
  stands = told_some old.held _ _ (λ stored told f number state s.
      some_map new.held _ _ (λ files h. subst (λ l. Stands files l) h.3 (live_at h.0 now files h.1 h.2)) (f number state s)) c.stands;
  faults = record { reads = λ other. c.reads; writes = λ other. c.writes; read_rose = λ is. cc; write_rose = λ is. cc };
}

module _ (before : Kept) (old mid new : Seen) (o : Option Table) (olds news : List OpenCursor) (name : List ℕ) (some : olds ≡ [] → ⊥) (c : Closing before old mid (record { table = o; cursors = olds })) where
  abbrev Now : Kept
  Now = record { table = o; cursors = olds }

  abbrev Then : Kept
  Then = record { table = o; cursors = news }

  abbrev Closes : Result (Unit {0}) ServeFault → Type 0
  Closes r = (table : Table) → Serves (closed name) table olds news mid.held new.held r

  -- what a call does from a state that stands now
  from_state : (r : Result (Unit {0}) ServeFault) (Q : State → Files → Type 0) → Closes r
      → ((texts : Texts) (table : Table) (m : Machine) (n : ℕ) → AreBefore n m → (o ≡ None) ⊎ (o ≡ Some table) → (left : Files)
      → IsAnsweredAs (closed name m) (ServingStands news left texts table) (Stands left (HasTable texts (segments_of m.live))) r → Q (HasTable texts (segments_of m.live)) left)
      → (n : ℕ) (files : Files) → mid.held ≡ Some files → (then : Served) → StandsServed n Now files then → IsSomeAnd new.held (Q (live_state then))
  from_state r Q call f n files held NoStore s = absurd (some s.cursors)
  from_state r Q call f n files held (Over texts m) s =
      some_map new.held (λ left. IsAnsweredAs (closed name m) (ServingStands news left texts s.table) (Stands left (HasTable texts (segments_of m.live))) r) (Q (HasTable texts (segments_of m.live)))
      (λ left h. f texts s.table m n s.before s.table_is left h)
      (told_at mid.held files (λ files. (texts : Texts) (m : Machine) → ServingStands olds files texts s.table m → IsSomeAnd new.held (λ left. IsAnsweredAs (closed name m) (ServingStands news left texts s.table) (Stands left (HasTable texts (segments_of m.live))) r)) held (call s.table) texts m s.stands)

  from_now : (r : Result (Unit {0}) ServeFault) (Q : State → Files → Type 0) → Closes r
      → ((texts : Texts) (table : Table) (m : Machine) (n : ℕ) → AreBefore n m → (o ≡ None) ⊎ (o ≡ Some table) → (left : Files)
      → IsAnsweredAs (closed name m) (ServingStands news left texts table) (Stands left (HasTable texts (segments_of m.live))) r → Q (HasTable texts (segments_of m.live)) left)
      → IfSome old.held (λ stored. (number : ℕ) (state : Served) → StandsServed number before stored state → IsSomeAnd new.held (Q (live_state state)))
  from_now r Q call f = told_some old.held _ _ (λ stored told g number state s.
      let t = told_one mid.held (λ files. (n : ℕ) × (then : Served) × StandsServed n Now files then × (live_state then ≡ live_state state)) (g number state s) in
      let h = t.2 in
      subst (λ l. IsSomeAnd new.held (Q l)) h.3 (from_state r Q call f h.0 t.0 t.1 h.1 h.2)) c.stands

  abbrev ok_result : Unit {0} → Result (Unit {0}) ServeFault
  ok_result u = Ok u

  -- the cursor was closed
  pub closing_next : (u : Unit {0}) → Closes (ok_result u) → new.read_faults ≡ mid.read_faults → new.write_faults ≡ mid.write_faults → Closing before old new Then
  closing_next u call reads writes = record {
    stands = from_now (ok_result u) (λ state files. (n : ℕ) × (then : Served) × StandsServed n Then files then × (live_state then ≡ state)) call
        (λ texts table m n all is left h. (n + 1, Over texts (closed name m).machine, record { table = table; table_is = is; stands = h.1; before = closed_before n name m all }, ap (λ l. HasTable texts (segments_of l)) (closed_live name m)));
    reads = reads ∙ c.reads;
    writes = writes ∙ c.writes;
  }

  -- or that failed, and the lists are live that were
  left_live : (why : ServeFault) → IsCloseFault why → (texts : Texts) (table : Table) (m : Machine) (left : Files)
      → IsAnsweredAs (closed name m) (ServingStands news left texts table) (Stands left (HasTable texts (segments_of m.live))) (close_failed why) → Stands left (HasTable texts (segments_of m.live))
  left_live serve.NoCursor of texts table m left h = subst (λ l. Stands left (HasTable texts (segments_of l))) (closed_live name m) h.1.live
  left_live serve.WriteFault of texts table m left h = h
  left_live serve.NoMemory of texts table m left h = h
  left_live serve.CursorTaken of texts table m left h = absurd of
  left_live serve.TooManyCursors of texts table m left h = absurd of
  left_live serve.TooManyGroups of texts table m left h = absurd of
  left_live serve.NoSegment of texts table m left h = absurd of
  left_live serve.TooLarge of texts table m left h = absurd of
  left_live (serve.NotASegment part) of texts table m left h = absurd of
  left_live serve.ReadFault of texts table m left h = absurd of

  pub closing_not : (why : ServeFault) (f : Fault) → IsCloseFault why → Closes (close_failed why) → HasFaultOf {A = Unit {0}} old new (Err f) → Finishes before old new (Err f)
  closing_not why f of call faults = record {
    stands = from_now (close_failed why) (λ state files. Stands files state) call (λ texts table m n all is left h. left_live why of texts table m left h);
    faults = faults;
  }

-- the counts of a close that failed so
pub write_counts : (old mid new : Seen) → mid.read_faults ≡ old.read_faults → mid.write_faults ≡ old.write_faults → OnlyRemoves ⊥ (IsErrOf (close_failed serve.WriteFault) serve.WriteFault) mid new → HasFaultOf {A = Unit {0}} old new (Err fault.Write)
write_counts old mid new reads writes o = record {
  reads = λ other. o.reads_still (λ f. f) ∙ reads;
  writes = λ other. absurd (other refl);
  read_rose = λ is. cc;
  write_rose = λ is. subst (λ n. Rose n new.write_faults) writes (o.write_failed refl);
}

pub other_counts : (old mid new : Seen) (why : ServeFault) → (why ≡ serve.WriteFault → ⊥) → mid.read_faults ≡ old.read_faults → mid.write_faults ≡ old.write_faults → OnlyRemoves ⊥ (IsErrOf (close_failed why) serve.WriteFault) mid new → HasFaultOf {A = Unit {0}} old new (Err fault.Memory)
other_counts old mid new why apart reads writes o = record {
  reads = λ other. o.reads_still (λ f. f) ∙ reads;
  writes = λ other. o.writes_still (λ e. apart (one_why why (close_failed why) refl e)) ∙ writes;
  read_rose = λ is. cc;
  write_rose = λ is. cc;
}
  where
    one_why : (x : ServeFault) (r : Result (Unit {0}) ServeFault) → r ≡ Err x → r ≡ Err serve.WriteFault → x ≡ serve.WriteFault
    one_why x r p q = cc

-- a close that failed ends the lines
pub closing_stop : (before : Kept) (old mid new : Seen) (o : Option Table) (olds news : List OpenCursor) (name : List ℕ) (some : olds ≡ [] → ⊥) (c : Closing before old mid (record { table = o; cursors = olds })) (why : ServeFault) → IsCloseFault why
    → ((table : Table) → Serves (closed name) table olds news mid.held new.held (close_failed why)) → OnlyRemoves ⊥ (IsErrOf (close_failed why) serve.WriteFault) mid new → Finishes before old new (Err (close_fault why))
closing_stop before old mid new o olds news name some c serve.NoCursor of call removes = closing_not before old mid new o olds news name some c serve.NoCursor fault.Memory of call (other_counts old mid new serve.NoCursor (λ e. cc) c.reads c.writes removes)
closing_stop before old mid new o olds news name some c serve.WriteFault of call removes = closing_not before old mid new o olds news name some c serve.WriteFault fault.Write of call (write_counts old mid new c.reads c.writes removes)
closing_stop before old mid new o olds news name some c serve.NoMemory of call removes = closing_not before old mid new o olds news name some c serve.NoMemory fault.Memory of call (other_counts old mid new serve.NoMemory (λ e. cc) c.reads c.writes removes)
closing_stop before old mid new o olds news name some c serve.CursorTaken of call removes = absurd of
closing_stop before old mid new o olds news name some c serve.TooManyCursors of call removes = absurd of
closing_stop before old mid new o olds news name some c serve.TooManyGroups of call removes = absurd of
closing_stop before old mid new o olds news name some c serve.NoSegment of call removes = absurd of
closing_stop before old mid new o olds news name some c serve.TooLarge of call removes = absurd of
closing_stop before old mid new o olds news name some c (serve.NotASegment part) of call removes = absurd of
closing_stop before old mid new o olds news name some c serve.ReadFault of call removes = absurd of

-- a fault that ended a call before it ends the lines
pub finished_not : (before : Kept) (old new : Seen) (result : Result (Unit {0}) Fault) (f : Fault) → IsErrAnd result (λ x. x ≡ f) → Finishes before old new (Err f) → Finishes before old new result
finished_not before old new (Ok done) f is b = absurd is
finished_not before old new (Err other) f is b = subst (λ x. Finishes before old new (Err x)) (sym is) b

-- there are cursors
pub some_cursors : (pool : Pool) (ds : List ACursor) (n : ℕ) → n < length ds → cursors_in pool ds ≡ [] → ⊥
some_cursors pool [] n lt is = omega (arith, lt)
some_cursors pool (d ∷ ds) n lt is = cc

pub no_cursors : (pool : Pool) (ds : List ACursor) → length ds ≤ 0 → cursors_in pool ds ≡ []
no_cursors pool [] le = refl
no_cursors pool (d ∷ ds) le = absurd (omega (arith, le))

-- what is kept once a cursor is closed
pub session_closed : (old new : Serving) (o : Option Table) → IsSession (record { serving = old; table = o }) → AreCursors new.pool new.cursors.items → ((table : Table) → AllByRecursion (IsOver table) old.cursors.items → AllByRecursion (IsOver table) new.cursors.items)
    → length new.cursors.items < length old.cursors.items → IsSession (record { serving = new; table = o })
session_closed old new None s cursors over fewer = let none = ap length s.over in absurd (omega (arith, fewer, none))
session_closed old new (Some table) s cursors over fewer = record { cursors = cursors; valid = s.valid; over = over table s.over }
