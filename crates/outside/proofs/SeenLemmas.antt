-- What calls leave of a device, one after another.
use Rattle.std.proofs.Common.{◌≡◌, ◌∙◌, Result, Ok, Err, IsErrOf, refl, subst, arith, le_refl}
use Rattle.std.specs.Prelude.{OnErr}
use Rattle.outside.specs.Counts.{Rose}
use Rattle.outside.specs.Seen.{OnlyReads, Seen}

-- a call that was not made
pub reads_none : (shelf : Seen) → OnlyReads ⊥ shelf shelf
reads_none shelf = record { held = refl; parts = refl; writes = refl; later = le_refl _; rose = λ fails. absurd fails; unchanged = λ _. refl }

-- a call after calls that ended well
pub reads_after : (Fails : Type 0) (first between last : Seen) → OnlyReads ⊥ first between → OnlyReads Fails between last → OnlyReads Fails first last
reads_after Fails first between last before now =
    let same : between.read_faults ≡ first.read_faults = before.unchanged (λ fails. fails) in
    record {
      held = now.held ∙ before.held;
      parts = now.parts ∙ before.parts;
      writes = now.writes ∙ before.writes;
      later = omega (arith, before.later, now.later);
      rose = λ fails. subst (λ n. Rose n last.read_faults) same (now.rose fails);
      unchanged = λ fine. now.unchanged fine ∙ same;
    }

-- the same call by another name of its failure
pub reads_so : (Fails Other : Type 0) (old new : Seen) → (Other → Fails) → (Fails → Other) → OnlyReads Fails old new → OnlyReads Other old new
reads_so Fails Other old new to from reads = record {
  held = reads.held;
  parts = reads.parts;
  writes = reads.writes;
  later = reads.later;
  rose = λ fails. reads.rose (to fails);
  unchanged = λ fine. reads.unchanged (λ fails. fine (from fails));
}

-- what holds whatever the call returned
pub err_is : {T E : Type 0} (r : Result T E) (P : Type 0) → P → OnErr r P
err_is (Ok x) P p = tt
err_is (Err e) P p = p

abbrev IsAnswer : {T E : Type 0} → Result T E → Type 0
IsAnswer (Ok value) = Unit {0}
IsAnswer (Err fault) = ⊥

no_fault : (T E : Type 0) (value : T) (cause : E) → IsErrOf {T = T} {E = E} (Ok value) cause → ⊥
no_fault T E value cause is = subst IsAnswer is tt

-- a call that answered
pub reads_well : (T E : Type 0) (value : T) (cause : E) (between last : Seen) → OnlyReads (IsErrOf {T = T} {E = E} (Ok value) cause) between last → OnlyReads ⊥ between last
reads_well T E value cause between last now = reads_so (IsErrOf {T = T} {E = E} (Ok value) cause) ⊥ between last (λ none. absurd none) (no_fault T E value cause) now

-- another one that answered
pub reads_next : (T E : Type 0) (value : T) (cause : E) (first between last : Seen) → OnlyReads ⊥ first between → OnlyReads (IsErrOf {T = T} {E = E} (Ok value) cause) between last → OnlyReads ⊥ first last
reads_next T E value cause first between last before now = reads_after ⊥ first between last before (reads_well T E value cause between last now)
