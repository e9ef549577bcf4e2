-- What the faults of the layers below are for a call of cursors.
use Rattle.sql_reply.specs.declared.fault.SqlFault.TheVariants as sql
use Rattle.query_executor.specs.declared.fault.ExecutorFault.{ExecutorFault}
use Rattle.query_executor.specs.declared.fault.ExecutorFault.TheVariants as executor
use Rattle.table_store.specs.declared.fault.StoreFault.{StoreFault}
use Rattle.table_store.specs.declared.fault.StoreFault.TheVariants as store
use Rattle.serving.specs.declared.fault.ServeFault.{ServeFault}
use Rattle.serving.specs.declared.fault.ServeFault.TheVariants.{CursorTaken, NoCursor, NoMemory, NoSegment, NotASegment, ReadFault, TooLarge, TooManyCursors, TooManyGroups, WriteFault}

-- a fault of a pass over segments; one of a query is that there are too many groups
abbrev pub of_query : ExecutorFault → ServeFault
of_query (executor.Sql sql.NoMemory) = NoMemory
of_query (executor.Sql other) = TooManyGroups
of_query (executor.NotASegment at part) = NotASegment part
of_query executor.ReadFault = ReadFault

-- a fault of a call on the store
abbrev pub of_store : StoreFault → ServeFault
of_store store.NoSegment = NoSegment
of_store store.TooLarge = TooLarge
of_store (store.NotASegment part) = NotASegment part
of_store store.ReadFault = ReadFault
of_store store.WriteFault = WriteFault
of_store other = NoMemory

-- ---- which faults a call may answer

-- opening a cursor
abbrev pub IsOpenFault : ServeFault → Type 0
IsOpenFault CursorTaken = Unit {0}
IsOpenFault TooManyCursors = Unit {0}
IsOpenFault ReadFault = Unit {0}
IsOpenFault NoMemory = Unit {0}
IsOpenFault other = ⊥

-- a step or a fetch
abbrev pub IsStepFault : ServeFault → Type 0
IsStepFault NoCursor = Unit {0}
IsStepFault TooManyGroups = Unit {0}
IsStepFault (NotASegment part) = Unit {0}
IsStepFault ReadFault = Unit {0}
IsStepFault NoMemory = Unit {0}
IsStepFault other = ⊥

-- closing a cursor
abbrev pub IsCloseFault : ServeFault → Type 0
IsCloseFault NoCursor = Unit {0}
IsCloseFault WriteFault = Unit {0}
IsCloseFault NoMemory = Unit {0}
IsCloseFault other = ⊥

-- a drop
abbrev pub IsDropFault : ServeFault → Type 0
IsDropFault NoSegment = Unit {0}
IsDropFault ReadFault = Unit {0}
IsDropFault WriteFault = Unit {0}
IsDropFault NoMemory = Unit {0}
IsDropFault other = ⊥

-- a replace
abbrev pub IsReplaceFault : ServeFault → Type 0
IsReplaceFault TooLarge = Unit {0}
IsReplaceFault other = IsDropFault other
