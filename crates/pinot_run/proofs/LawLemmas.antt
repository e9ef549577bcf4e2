-- Commands one after another do on a state what their steps do.
use Rattle.std.proofs.Common.{◌≡◌, ◌∙◌, ℕ, List, [], ◌∷◌, Option, Some, None, IsSomeAnd, refl, ap, subst}
use Rattle.outside.specs.Files.{Files}
use Rattle.outside.specs.Seen.{Seen}
use Rattle.table_store.specs.State.{State}
use Rattle.table_store.specs.Stands.{Stands}
use Rattle.pinot_run.specs.Laws.{PromisesCompose}
use Rattle.command_model.specs.Profile.{AnyPlace, Front, Portion, profile}
use Rattle.pinot_run.specs.Promise.{IsStep}
use Rattle.command_model.specs.Ran.{WhereStands}
use Rattle.command_model.specs.Step.{After, HasStep, step_of}
use Rattle.command_model.specs.Touched.{Reads, ReadsPortion}

by_told : (held stored : Option Files) (Q : State → Files → Type 0) → ((state : State) (files kept : Files) → held ≡ Some files → stored ≡ Some kept → Stands kept state → Q state files) → WhereStands held stored Q
by_told None stored Q f = tt
by_told (Some files) None Q f = tt
by_told (Some files) (Some kept) Q f = λ state stands. f state files kept refl refl stands

pub at : (held stored : Option Files) (Q : State → Files → Type 0) (state : State) (files kept : Files) → held ≡ Some files → stored ≡ Some kept → Stands kept state → WhereStands held stored Q → Q state files
at held stored Q state files kept h s stands all =
    let both : WhereStands (Some files) (Some kept) Q = subst (λ d. WhereStands (Some files) d Q) s (subst (λ d. WhereStands d stored Q) h all) in
    both state stands

pub told_one : (o : Option Files) (P : Files → Type 0) → IsSomeAnd o P → (x : Files) × (o ≡ Some x) × P x
told_one None P h = absurd h
told_one (Some x) P h = (x, refl, h)

-- the input files stay what is told
same_told : (file : List ℕ) (portion : Portion) (old new : Seen) → ReadsPortion file portion old new → new.held ≡ old.held
same_told file (Front limit) old new read = read.held
same_told file AnyPlace old new read = read.held

pub same_held : (files : List (List ℕ × Portion)) (old new : Seen) → Reads files old new → new.held ≡ old.held
same_held [] old new same = ap (λ s. s.held) same
same_held (file ∷ others) old new (mid, read, rest) = same_held others mid new rest ∙ same_told file.0 file.1 old mid read

pub compose : PromisesCompose
compose first second old mid new ended later one two fine unchanged =
    by_told old.devices.inputs.held old.devices.depot.held (λ state files. HasStep state first files (λ between. HasStep between.state second files (λ after. IsSomeAnd new.devices.depot.held (λ kept. Stands kept after.state))))
    (λ state files kept told stored stands.
    let stepped = at old.devices.inputs.held old.devices.depot.held (λ state files. HasStep state first files (λ after. IsStep after ended old mid)) state files kept told stored stands (one.step fine) in
    let left : After = step_of state first files stepped.0 in
    let (between, there, stood) = told_one mid.devices.depot.held (λ files'. Stands files' left.state) stepped.2.stepped.stands in
    let told_on : mid.devices.inputs.held ≡ Some files = same_held (profile first).files old.devices.inputs mid.devices.inputs one.touched.inputs ∙ told in
    let then = at mid.devices.inputs.held mid.devices.depot.held (λ state files. HasStep state second files (λ after. IsStep after later mid new)) left.state files between told_on there stood (two.step unchanged) in
    (stepped.0, stepped.1, (then.0, then.1, then.2.stepped.stands)))
