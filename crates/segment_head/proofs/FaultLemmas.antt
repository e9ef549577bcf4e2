-- What the fault of a head is for its segment.
use Rattle.std.proofs.Common.{◌≡◌, ◌≢◌, refl}
use Rattle.segment_file.specs.declared.fault.HeadFault.{HeadFault}
use Rattle.segment_file.specs.declared.fault.HeadFault.TheVariants as head
use Rattle.segment_file.specs.declared.part.Part.{Part}
use Rattle.segment_head.specs.declared.fault.EngineFault.TheVariants as engine
use Rattle.segment_head.specs.Faults.{fault_of}

pub never_full : (f : HeadFault) → fault_of f ≢ engine.TooManyGroups
never_full (head.NotASegment part) = λ e. absurd cc
never_full head.ReadFault = λ e. absurd cc
never_full head.NoMemory = λ e. absurd cc

pub bad_head : (f : HeadFault) (part : Part) → fault_of f ≡ engine.NotASegment part → f ≡ head.NotASegment part
bad_head (head.NotASegment p) part e = cc
bad_head head.ReadFault part e = absurd cc
bad_head head.NoMemory part e = absurd cc

pub read_head : (f : HeadFault) → fault_of f ≡ engine.ReadFault → f ≡ head.ReadFault
read_head (head.NotASegment p) e = absurd cc
read_head head.ReadFault e = refl
read_head head.NoMemory e = absurd cc
