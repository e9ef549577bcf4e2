-- The names of what is wrong with a query's names and types, as note lines have them.
use Rattle.std.specs.Prelude.{ℕ, List, codes}
use Rattle.query_bind.specs.declared.fault.BindReason.{BindReason}
use Rattle.query_bind.specs.declared.fault.BindReason.TheVariants as bind

-- the name of what is wrong with a query's names and types
abbrev pub bind_text : BindReason → List ℕ
bind_text bind.UnknownTable = codes "UnknownTable"
bind_text bind.UnknownColumn = codes "UnknownColumn"
bind_text bind.TypeMismatch = codes "TypeMismatch"
bind_text bind.NotNumeric = codes "NotNumeric"
bind_text bind.NoAggregate = codes "NoAggregate"
bind_text bind.NotGrouped = codes "NotGrouped"
bind_text bind.TooMany = codes "TooMany"
