-- What the faults of a segment are for a query.
use Rattle.std.proofs.Common.{◌≡◌, ◌≢◌, ℕ, refl}
use Rattle.segment_file.specs.declared.part.Part.{Part}
use Rattle.segment_head.specs.declared.fault.EngineFault.{EngineFault}
use Rattle.segment_head.specs.declared.fault.EngineFault.TheVariants as engine
use Rattle.sql_reply.specs.declared.fault.SqlFault.{SqlFault}
use Rattle.sql_reply.specs.declared.fault.SqlFault.TheVariants as sql
use Rattle.query_executor.specs.declared.fault.ExecutorFault.TheVariants.{NotASegment, ReadFault, Sql}
use Rattle.query_executor.specs.Steps.{fault_at}

pub refused_so : (most at : ℕ) (f : EngineFault) (fault : SqlFault) → fault_at most at f ≡ Sql fault → fault ≢ sql.NoMemory → (f ≡ engine.TooManyGroups) × (fault ≡ sql.TooManyGroups most)
refused_so most at engine.TooManyGroups fault e real = (refl, cc)
refused_so most at (engine.NotASegment part) fault e real = absurd cc
refused_so most at engine.ReadFault fault e real = absurd cc
refused_so most at engine.NoMemory fault e real = absurd (real cc)

pub bad_so : (most at other : ℕ) (f : EngineFault) (part : Part) → fault_at most at f ≡ NotASegment other part → (at ≡ other) × (f ≡ engine.NotASegment part)
bad_so most at other engine.TooManyGroups part e = absurd cc
bad_so most at other (engine.NotASegment p) part e = (cc, cc)
bad_so most at other engine.ReadFault part e = absurd cc
bad_so most at other engine.NoMemory part e = absurd cc

pub read_so : (most at : ℕ) (f : EngineFault) → fault_at most at f ≡ ReadFault → f ≡ engine.ReadFault
read_so most at engine.TooManyGroups e = absurd cc
read_so most at (engine.NotASegment p) e = absurd cc
read_so most at engine.ReadFault e = refl
read_so most at engine.NoMemory e = absurd cc

-- without too many groups nothing is wrong with the query
pub wrong_so : (most at : ℕ) (f : EngineFault) (fault : SqlFault) → fault_at most at f ≡ Sql fault → (f ≡ engine.TooManyGroups → ⊥) → fault ≡ sql.NoMemory
wrong_so most at engine.TooManyGroups fault e fewer = absurd (fewer refl)
wrong_so most at (engine.NotASegment part) fault e fewer = absurd cc
wrong_so most at engine.ReadFault fault e fewer = absurd cc
wrong_so most at engine.NoMemory fault e fewer = cc

pub memory_not_bad_at : (at : ℕ) (part : Part) → Sql sql.NoMemory ≢ NotASegment at part
memory_not_bad_at at part = λ e. absurd cc

pub memory_not_read_at : Sql sql.NoMemory ≢ ReadFault
memory_not_read_at = λ e. absurd cc

pub text_not_bad_at : (fault : SqlFault) (at : ℕ) (part : Part) → Sql fault ≢ NotASegment at part
text_not_bad_at fault at part = λ e. absurd cc

pub text_not_read_at : (fault : SqlFault) → Sql fault ≢ ReadFault
text_not_read_at fault = λ e. absurd cc

pub own_refusal : (f fault : SqlFault) → Sql f ≡ Sql fault → f ≡ fault
own_refusal f fault e = cc
