-- A cursor keeps its query and its lists as long as it is open.
use Rattle.std.proofs.Common.{◌≡◌, ◌≢◌, ◌∙◌, ◌+◌, ◌-◌, ℕ, Bool, true, false, cond, List, [], ◌∷◌, length, map, take, Option, Some, None, Result, Ok, Err, refl, sym, ap, subst}
use Rattle.std.specs.Prelude.{is_some, nat_eq, nat_le}
use Rattle.std.specs.FinMap as finite
use Rattle.std.specs.List.{All}
use Rattle.std.specs.Cmp.{eq_by_cmp_equiv}
use Rattle.std.specs.Ordering.{eq_by_cmp, is_eq}
use Rattle.std.specs.declared.cmp.Ordering.TheVariants as order
use Rattle.std.proofs.lemmas.Bool.{false≢true}
use Rattle.std.proofs.lemmas.Cmp.{nat_list_cmp_total}
use Rattle.std.proofs.lemmas.List.Elements.{All-head, All-tail}
use Rattle.outside.specs.Files.{name_order}
use Rattle.values.specs.declared.value.Value.{Value}
use Rattle.table_schema.specs.declared.query.BoundQuery.{BoundQuery}
use Rattle.broker_merge.specs.Reply as groups
use Rattle.cursor_serve.specs.Machine.{After, Cursor, Cursors, Line, Listed, Machine, Open, Step, Fetch, Close, Build, Drop, Replace, Refusal, CursorTaken, NameTaken, TooManyCursors, TooManyGroups, TooManySegments, Version, after_line, after_lines, closed_by, cursor_reply, dropped_by, fetched, fetched_as, fetched_by, is_over, left_of, lists_of, most_cursors, most_segments, moved, opened, refused, replaced_by, rows_of, stepped_by, with_list}
use Rattle.cursor_serve.specs.Laws.{FetchedOwn, LeavesOpen, printed}

-- ---- names

same_name : (x y : List ℕ) → name_order x y ≡ order.Equal → x ≡ y
same_name = finite.slice_cmp-IsAntisymmetric finite.nat_cmp-IsAntisymmetric

pub tied : (x y : List ℕ) → eq_by_cmp name_order x y ≡ true → x ≡ y
tied x y = elim (name_order x y) as (λ r. name_order x y ≡ r → is_eq r ≡ true → x ≡ y) [ order.Less ↦ λ o e. absurd (false≢true e) | order.Equal ↦ λ o e. same_name x y o | order.Greater ↦ λ o e. absurd (false≢true e) ] refl

pub itself : (x : List ℕ) → eq_by_cmp name_order x x ≡ true
itself x = (eq_by_cmp_equiv nat_list_cmp_total).refl x

-- ---- a cursor is open

-- it is open, with this query and these lists
record IsOpen (name : List ℕ) (query : BoundQuery) (lists : List Listed) (cursors : Cursors) : Type 0 where
  answered : ℕ
  got : finite.get cursors name ≡ Some (record { query = query; lists = lists; answered = answered })

module _ (name : List ℕ) (query : BoundQuery) (lists : List Listed) where
  -- another cursor is put in, or taken out
  put_by : (cursors : Cursors) (other : List ℕ) (cursor : Cursor) (b : Bool) → eq_by_cmp name_order name other ≡ b → (name ≡ other → (n : ℕ) × (cursor ≡ record { query = query; lists = lists; answered = n })) → IsOpen name query lists cursors
      → IsOpen name query lists (finite.insert cursors other cursor)
  put_by cursors other cursor true e like is =
      let (n, same) = like (tied name other e) in
      record { answered = n; got = finite.get-insert nat_list_cmp_total cursors other cursor name ∙ ap (λ b. cond b (Some cursor) (finite.get cursors name)) e ∙ ap Some same }
  put_by cursors other cursor false e like is = record { answered = is.answered; got = finite.get-insert nat_list_cmp_total cursors other cursor name ∙ ap (λ b. cond b (Some cursor) (finite.get cursors name)) e ∙ is.got }

  put : (cursors : Cursors) (other : List ℕ) (cursor : Cursor) → (name ≡ other → (n : ℕ) × (cursor ≡ record { query = query; lists = lists; answered = n })) → IsOpen name query lists cursors → IsOpen name query lists (finite.insert cursors other cursor)
  put cursors other cursor like is = put_by cursors other cursor (eq_by_cmp name_order name other) refl like is

  out_by : (cursors : Cursors) (other : List ℕ) (b : Bool) → eq_by_cmp name_order name other ≡ b → other ≢ name → IsOpen name query lists cursors → IsOpen name query lists (finite.remove cursors other)
  out_by cursors other true e apart is = absurd (apart (sym (tied name other e)))
  out_by cursors other false e apart is = record { answered = is.answered; got = finite.get-remove nat_list_cmp_total cursors other name ∙ ap (λ b. cond b None (finite.get cursors name)) e ∙ is.got }

  -- it has answered more or fewer lists
  one_cursor : (x y : Cursor) → Some x ≡ Some y → x ≡ y
  one_cursor x y e = cc

  goes : (m : Machine) (other : List ℕ) (cursor : Cursor) (n : ℕ) → finite.get m.cursors other ≡ Some cursor → IsOpen name query lists m.cursors → IsOpen name query lists (moved other cursor n m).cursors
  goes m other cursor n got is =
      put m.cursors other (record cursor { answered = n })
      (λ same.
      let here : cursor ≡ record { query = query; lists = lists; answered = is.answered } = one_cursor cursor (record { query = query; lists = lists; answered = is.answered }) (sym got ∙ ap (finite.get m.cursors) (sym same) ∙ is.got) in
      (n, ap (λ (c : Cursor). record c { answered = n }) here))
      is

  -- ---- one line

  opens_by : (m : Machine) (other : List ℕ) (asked : BoundQuery) (a b : Bool) → is_some (finite.get m.cursors other) ≡ a → IsOpen name query lists m.cursors
      → IsOpen name query lists (cond a (refused CursorTaken m) (cond b (refused TooManyCursors m) (record {
        answer = Ok (length (lists_of m.live));
        machine = record m { cursors = finite.insert m.cursors other (record { query = asked; lists = lists_of m.live; answered = 0 }) };
      }))).machine.cursors
  opens_by m other asked true b e is = is
  opens_by m other asked false true e is = is
  opens_by m other asked false false e is =
      put m.cursors other (record { query = asked; lists = lists_of m.live; answered = 0 })
      (λ same. absurd (false≢true (sym e ∙ ap (λ n. is_some (finite.get m.cursors n)) (sym same) ∙ ap is_some is.got)))
      is

  steps_on : (m : Machine) (other : List ℕ) (cursor : Cursor) (a b : Bool) → finite.get m.cursors other ≡ Some cursor → IsOpen name query lists m.cursors
      → IsOpen name query lists (cond a (record { answer = Ok 0; machine = m }) (cond b (refused TooManyGroups m) (record {
        answer = Ok (left_of cursor - 1);
        machine = moved other cursor (cursor.answered + 1) m;
      }))).machine.cursors
  steps_on m other cursor true b got is = is
  steps_on m other cursor false true got is = is
  steps_on m other cursor false false got is = goes m other cursor (cursor.answered + 1) got is

  steps_by : (m : Machine) (other : List ℕ) (o : Option Cursor) → finite.get m.cursors other ≡ o → IsOpen name query lists m.cursors → IsOpen name query lists (stepped_by other o m).machine.cursors
  steps_by m other None got is = is
  steps_by m other (Some cursor) got is = steps_on m other cursor (nat_eq (left_of cursor) 0) (is_over cursor.query (rows_of (take (cursor.answered + 1) cursor.lists))) got is

  fetches_as : (m : Machine) (other : List ℕ) (cursor : Cursor) (reply : groups.Reply) → finite.get m.cursors other ≡ Some cursor → IsOpen name query lists m.cursors → IsOpen name query lists (fetched_as other cursor m reply).machine.cursors
  fetches_as m other cursor groups.TooManyGroups got is = is
  fetches_as m other cursor (groups.Answers text) got is = goes m other cursor (length cursor.lists) got is

  fetches_by : (m : Machine) (other : List ℕ) (o : Option Cursor) → finite.get m.cursors other ≡ o → IsOpen name query lists m.cursors → IsOpen name query lists (fetched_by other o m).machine.cursors
  fetches_by m other None got is = is
  fetches_by m other (Some cursor) got is = fetches_as m other cursor (cursor_reply cursor.query (rows_of cursor.lists)) got is

  closes_by : (m : Machine) (other : List ℕ) (o : Option Cursor) → other ≢ name → IsOpen name query lists m.cursors → IsOpen name query lists (closed_by other o m).machine.cursors
  closes_by m other None apart is = is
  closes_by m other (Some cursor) apart is = out_by m.cursors other (eq_by_cmp name_order name other) refl apart is

  builds_by : (m : Machine) (other : List ℕ) (rows : List (List Value)) (a b : Bool) → IsOpen name query lists m.cursors
      → IsOpen name query lists (cond a (refused {A = Unit {0}} NameTaken m) (cond b (refused TooManySegments m) (record { answer = Ok tt; machine = with_list other rows m }))).machine.cursors
  builds_by m other rows true b is = is
  builds_by m other rows false true is = is
  builds_by m other rows false false is = is

  drops_by : (m : Machine) (number : ℕ) (other : List ℕ) (o : Option Version) → IsOpen name query lists m.cursors → IsOpen name query lists (dropped_by number other o m).machine.cursors
  drops_by m number other None is = is
  drops_by m number other (Some version) is = is

  replaces_by : (m : Machine) (number : ℕ) (other : List ℕ) (rows : List (List Value)) (o : Option Version) → IsOpen name query lists m.cursors → IsOpen name query lists (replaced_by number other rows o m).machine.cursors
  replaces_by m number other rows None is = is
  replaces_by m number other rows (Some version) is = is

  one_line : (number : ℕ) (line : Line) (m : Machine) → LeavesOpen name line → IsOpen name query lists m.cursors → IsOpen name query lists (after_line number line m).cursors
  one_line number (Open other asked) m leaves is = opens_by m other asked (is_some (finite.get m.cursors other)) (nat_le most_cursors (finite.len m.cursors)) refl is
  one_line number (Step other) m leaves is = steps_by m other (finite.get m.cursors other) refl is
  one_line number (Fetch other) m leaves is = fetches_by m other (finite.get m.cursors other) refl is
  one_line number (Close other) m leaves is = closes_by m other (finite.get m.cursors other) leaves is
  one_line number (Build other rows) m leaves is = builds_by m other rows (is_some (finite.get m.live other)) (nat_le most_segments (finite.len m.live)) is
  one_line number (Drop other) m leaves is = drops_by m number other (finite.get m.live other) is
  one_line number (Replace other rows) m leaves is = replaces_by m number other rows (finite.get m.live other) is

  all_lines : (number : ℕ) (lines : List Line) (m : Machine) → All (LeavesOpen name) lines → IsOpen name query lists m.cursors → IsOpen name query lists (after_lines number lines m).cursors
  all_lines number [] m leaves is = is
  all_lines number (line ∷ lines) m leaves is =
      all_lines (number + 1) lines (after_line number line m) (All-tail (LeavesOpen name) line lines leaves)
      (one_line number line m (All-head (LeavesOpen name) line lines leaves) is)

-- ---- a fetch

fresh_by : (m : Machine) (name : List ℕ) (query : BoundQuery) (count : ℕ) (a b : Bool)
    → (cond a (refused CursorTaken m) (cond b (refused TooManyCursors m) (record {
      answer = Ok (length (lists_of m.live));
      machine = record m { cursors = finite.insert m.cursors name (record { query = query; lists = lists_of m.live; answered = 0 }) };
    }))).answer ≡ Ok count
    → IsOpen name query (lists_of m.live) (cond a (refused CursorTaken m) (cond b (refused TooManyCursors m) (record {
      answer = Ok (length (lists_of m.live));
      machine = record m { cursors = finite.insert m.cursors name (record { query = query; lists = lists_of m.live; answered = 0 }) };
    }))).machine.cursors
fresh_by m name query count true b fine = absurd cc
fresh_by m name query count false true fine = absurd cc
fresh_by m name query count false false fine =
    let own : Cursor = record { query = query; lists = lists_of m.live; answered = 0 } in
    record { answered = 0; got = finite.get-insert nat_list_cmp_total m.cursors name own name ∙ ap (λ b. cond b (Some own) (finite.get m.cursors name)) (itself name) }

prints : (name : List ℕ) (cursor : Cursor) (m : Machine) (reply : groups.Reply) → (fetched_as name cursor m reply).answer ≡ printed reply
prints name cursor m (groups.Answers text) = refl
prints name cursor m groups.TooManyGroups = refl

fetch_is : (name : List ℕ) (query : BoundQuery) (lists : List Listed) (m : Machine) → IsOpen name query lists m.cursors → (fetched name m).answer ≡ printed (cursor_reply query (rows_of lists))
fetch_is name query lists m is =
    ap (λ o. (fetched_by name o m).answer) is.got
    ∙ prints name (record { query = query; lists = lists; answered = is.answered }) m (cursor_reply query (rows_of lists))

pub fetched_own : FetchedOwn
fetched_own m cursor query count number between fine leaves =
    let open_now = fresh_by m cursor query count (is_some (finite.get m.cursors cursor)) (nat_le most_cursors (finite.len m.cursors)) fine in
    fetch_is cursor query (lists_of m.live) (after_lines number between (opened cursor query m).machine) (all_lines cursor query (lists_of m.live) number between (opened cursor query m).machine leaves open_now)
