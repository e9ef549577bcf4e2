-- The reply to a query over rows, by which of them hold.
use Rattle.std.specs.Prelude.{ℕ, nat_lt, Bool, List, filter, if◌then◌else◌}
use Rattle.std.specs.FinMap as finite
use Rattle.values.specs.declared.value.Value.{Value}
use Rattle.group_table.specs.Shape.{Shape}
use Rattle.group_table.specs.Groups.{Groups, groups_of}
use Rattle.broker_merge.specs.Answer.{answer_of, answer_text}

-- a text, or the refusal of more groups than there may be
pub data Reply : Type 0 where
  Answers : (text : List ℕ) → Reply
  TooManyGroups : Reply

-- the reply over these groups
abbrev pub reply_over : (most : ℕ) → Shape → Groups → Reply
reply_over most shape groups = if nat_lt most (finite.len groups) then TooManyGroups
    else Answers (answer_text (answer_of shape groups))

-- the reply over the rows that hold
abbrev pub reply : (most : ℕ) → (List Value → Bool) → Shape → List (List Value) → Reply
reply most holds shape rows = reply_over most shape (groups_of shape (filter holds rows))
