-- The segments of the example, and the replies over them.
use Rattle.std.proofs.Common.{◌≡◌, ◌∙◌, ℕ, Bool, true, false, cond, List, [], ◌∷◌, ◌++◌, append-nil, length, Some, None, Result, Ok, Err, refl, sym, ap, subst, arith}
use Rattle.std.specs.Prelude.{codes, flat_map, map as each}
use Rattle.std.specs.FinMap as map
use Rattle.std.proofs.lemmas.Cmp.{nat_list_cmp_total}
use Rattle.outside.specs.Files.{name_order}
use Rattle.outside.specs.Seen.{Seen}
use Rattle.values.specs.declared.value.Value.{Value}
use Rattle.memory_devices.specs.Memory.{fresh, told}
use Rattle.table_schema.specs.declared.field.Field.{Field}
use Rattle.table_schema.specs.declared.table.Table.{Table}
use Rattle.segment_file.specs.Ordered.{ordered}
use Rattle.sql_reply.specs.SqlReply.{sql_reply}
use Rattle.table_store.specs.Accepted.{IsAccepted}
use Rattle.table_store.specs.Stands.{segment_of}
use Rattle.table_store.specs.State.{NoTable, Segment, Segments, Texts}
use Rattle.command_model.specs.Queried.{all_rows, rows_in}
use Rattle.embedded.specs.Calls.{Answers, Builds}
use Rattle.embedded.specs.Making.{IsMade}
use Rattle.embedded.specs.Rows.{are_rows, csv_rows, own_rows}
use Rattle.embedded.specs.Stores.{IsState, Keeps, SeenStore}
use Rattle.embedded.specs.declared.fault.Fault.{Fault}
use Rattle.embedded.specs.declared.fault.Fault.TheVariants.{BadRows}
use Rattle.embedded.proofs.StateLemmas.{still_kept}
use Rattle.embedded_example.specs.Visits.{IsReplyOver}

-- ---- two segments, and the rows of both

no_items : {A : Type 0} (xs : List A) → length xs ≡ 0 → xs ≡ []
no_items [] e = refl
no_items (x ∷ xs) e = absurd (omega arith)

none : map.entries (map.empty {X = Segment} {R = name_order}) ≡ []
none = no_items (map.entries (map.empty {X = Segment} {R = name_order})) (sym (map.len-entries map.empty) ∙ map.len-empty name_order Segment)

module _ (a b : Segment) where
  abbrev June : Segments
  June = map.insert map.empty (codes "june") a

  abbrev pub Both : Segments
  Both = map.insert June (codes "july") b

  entries : map.entries Both ≡ (codes "july", b) ∷ (codes "june", a) ∷ []
  entries =
      map.entries-insert nat_list_cmp_total June (codes "july") b
      ∙ ap (map.put name_order (codes "july") b) (map.entries-insert nat_list_cmp_total map.empty (codes "june") a ∙ ap (map.put name_order (codes "june") a) none)

  july_there : map.get Both (codes "july") ≡ Some b
  july_there = map.get-insert nat_list_cmp_total June (codes "july") b (codes "july")

  june_there : map.get Both (codes "june") ≡ Some a
  june_there = map.get-insert nat_list_cmp_total June (codes "july") b (codes "june") ∙ map.get-insert nat_list_cmp_total map.empty (codes "june") a (codes "june")

  pub both_rows : all_rows Both ≡ b.rows ++ a.rows
  both_rows =
      ap (flat_map (λ name. rows_in (map.get Both name))) (ap (each (λ e. e.0)) entries)
      ∙ (λ i. rows_in (july_there i) ++ (rows_in (june_there i) ++ []))
      ∙ ap (λ rows. b.rows ++ rows) (append-nil a.rows)

-- ---- the store of the example

own_same : (b : Bool) (rows given : List (List Value)) → cond b (Ok rows) (Err BadRows) ≡ Ok given → given ≡ rows
own_same true rows given e = cc
own_same false rows given e = absurd cc

pub no_state : (old : Seen) → old ≡ told (fresh [] []) → IsState old NoTable
no_state old is = subst (λ seen. IsState seen NoTable) (sym is) (λ name. map.get-empty name_order name)

abbrev Done : Result (Unit {0}) Fault
Done = Ok tt

module _ (texts : Texts) (june : List ℕ) (july : List (List Value)) where
  -- both segments are there, with the rows that were handed in
  pub record HasBoth (store : SeenStore) : Type 0 where
    pub accepted : IsAccepted texts store.table
    pub rows : List (List Value)
    pub rows_are : csv_rows store.table.schema.fields june ≡ Ok rows
    pub keeps : Keeps store (Both (segment_of store.table rows) (segment_of store.table july))

  pub has_both : (old : Seen) (s t u : SeenStore) → old ≡ told (fresh [] []) → IsMade texts old s → Builds (codes "june") (csv_rows s.table.schema.fields june) s t Done
      → Builds (codes "july") (own_rows t.table.schema.fields july) t u Done → HasBoth u
  has_both old s t u fresh_is made first second =
      let one = first.builds map.empty (made.keeps (no_state old fresh_is)) in
      let two = second.builds (map.insert map.empty (codes "june") (segment_of t.table one.rows)) one.keeps in
      let tables : u.table ≡ s.table = second.table ∙ first.table in
      let rows : two.rows ≡ july = own_same (are_rows t.table.schema.fields july) july two.rows two.rows_are in
      record {
        accepted = subst (IsAccepted texts) (sym tables) made.table;
        rows = one.rows;
        rows_are = subst (λ (table : Table). csv_rows table.schema.fields june ≡ Ok one.rows) (sym tables) one.rows_are;
        keeps = subst (λ (table : Table). Keeps u (Both (segment_of table one.rows) (segment_of u.table july))) (sym second.table)
            (subst (λ own. Keeps u (Both (segment_of t.table one.rows) (segment_of u.table own))) rows two.keeps);
      }

  module _ (sql text : List ℕ) (old new : SeenStore) (answers : Answers sql old new (Ok text)) (has : HasBoth old) where
    pub still_both : HasBoth new
    still_both = record {
      accepted = subst (IsAccepted texts) (sym answers.table) has.accepted;
      rows = has.rows;
      rows_are = subst (λ (table : Table). csv_rows table.schema.fields june ≡ Ok has.rows) (sym answers.table) has.rows_are;
      keeps = subst (λ (table : Table). Keeps new (Both (segment_of table has.rows) (segment_of table july))) (sym answers.table)
          (still_kept old new (Both (segment_of old.table has.rows) (segment_of old.table july)) answers.table answers.leaves.held has.keeps);
    }

    pub reply_over : IsReplyOver texts june july sql text
    reply_over = record {
      table = old.table;
      accepted = has.accepted;
      rows = has.rows;
      rows_are = has.rows_are;
      reply = ap (sql_reply old.table false sql) (sym (both_rows (segment_of old.table has.rows) (segment_of old.table july)))
          ∙ answers.answers (Both (segment_of old.table has.rows) (segment_of old.table july)) has.keeps;
    }
