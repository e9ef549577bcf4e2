-- What is kept from line to line, as the table is looked for and lines are answered.
use Rattle.std.proofs.Common.{◌≡◌, ◌∙◌, ℕ, Bool, true, false, List, [], Option, Some, None, Result, Ok, Err, IsErrAnd, is_some, not, refl, sym, ap, subst}
use Rattle.std.specs.List.{AllByRecursion}
use Rattle.outside.specs.Seen.{Seen}
use Rattle.table_schema.specs.ValidTable.{IsValidTable}
use Rattle.table_schema.specs.declared.table.Table.{Table}
use Rattle.cursor_serve.specs.ServingStands.{OpenCursor}
use Rattle.cursor_serve.proofs.SoundLemmas.{one_value}
use Rattle.cursors.specs.Kept.{IsOver, cursors_in}
use Rattle.serving.specs.declared.serving.Serving.{Serving}
use Rattle.command_words.specs.declared.stop.Stop.{Stop}
use Rattle.serve_lines.specs.Calls.{FindsTable}
use Rattle.serve_lines.specs.Kept.{AreOver, IsSession, cursors_of}
use Rattle.serve_lines.specs.declared.session.Session.{Session}

abbrev Of : Serving → Option Table → Session
Of serving table = record { serving = serving; table = table }

pub none_by : {X : Type 0} (o : Option X) (b : Bool) → is_some o ≡ not b → b ≡ true → o ≡ None
none_by None b is so = refl
none_by (Some x) b is so = absurd (both b is so)
  where
    both : (b : Bool) → true ≡ not b → b ≡ true → ⊥
    both true p q = cc
    both false p q = cc

pub not_none : {X A : Type 0} (o : Option X) (b : Bool) → is_some o ≡ not b → b ≡ false → o ≡ None → A
not_none None b is so none = absurd (both b is so)
  where
    both : (b : Bool) → false ≡ not b → b ≡ false → ⊥
    both true p q = cc
    both false p q = cc
not_none (Some x) b is so none = cc

-- what holds of the stop that ended a call holds of the result that hands it on
pub halted : (P : Result (List ℕ) Stop → Type 0) (result : Result (List ℕ) Stop) (why : Stop) → IsErrAnd result (λ s. s ≡ why) → P (Err why) → P result
halted P (Ok text) why is p = absurd is
halted P (Err other) why is p = subst (λ s. P (Err s)) (sym is) p

-- without a table there is no cursor
pub none_open : (serving : Serving) (o : Option Table) → o ≡ None → IsSession (Of serving o) → cursors_of serving ≡ []
none_open serving None is s = ap (cursors_in serving.pool) s.over
none_open serving (Some table) is s = cc

-- the cursors are over the table that is kept, or was found
pub session_over : (serving : Serving) (o left : Option Table) (d m : Seen) (table : Table) → IsSession (Of serving o) → FindsTable o d m left (Ok tt) → left ≡ Some table → AreOver table serving
session_over serving (Some t) left d m table s finds is =
    subst (λ t. AreOver t serving) (one_value t table (sym finds.1 ∙ is)) (record { valid = s.valid; cursors = s.cursors; over = s.over })
session_over serving None left d m table s finds is =
    subst (λ t. AreOver t serving) (one_value finds.0 table (sym finds.1 ∙ is))
    (record { valid = finds.2; cursors = s.cursors; over = subst (AllByRecursion (IsOver finds.0)) (sym s.over) tt })

-- a table is kept
pub session_with : (serving : Serving) (o : Option Table) (table : Table) → o ≡ Some table → AreOver table serving → IsSession (Of serving o)
session_with serving o table is over = subst (λ o. IsSession (Of serving o)) (sym is) (record { cursors = over.cursors; valid = over.valid; over = over.over })

-- none was found, and what was kept is as it was
pub session_without : (serving : Serving) (o left : Option Table) → o ≡ left → IsSession (Of serving o) → IsSession (Of serving left)
session_without serving o left is s = subst (λ o. IsSession (Of serving o)) is s
