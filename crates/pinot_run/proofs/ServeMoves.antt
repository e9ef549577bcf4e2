-- A file of lines leads on from a state to another one, and so do any calls.
use Rattle.std.proofs.Common.{◌≡◌, ◌≢◌, ◌∙◌, inl, inr, ℕ, List, [], ◌∷◌, Option, Some, None, IfSome, Result, Ok, Err, refl, sym, ap, subst}
use Rattle.std.specs.Prelude.{IsSomeAnd}
use Rattle.std.specs.FinMap as tree
use Rattle.std.specs.Str.Lines.{lines}
use Rattle.outside.specs.Files.{Files, OfFile, name_order}
use Rattle.outside.specs.Seen.{Heard, Seen}
use Rattle.table_store.specs.Stands.{Stands}
use Rattle.table_store.specs.State.{NoTable, State}
use Rattle.command_words.specs.Command.{Open, call_of}
use Rattle.command_words.specs.declared.fault.Fault.{Fault}
use Rattle.command_words.specs.declared.fault.Fault.TheVariants as fault
use Rattle.command_words.specs.declared.status.Status.{Status}
use Rattle.command_words.specs.declared.status.Status.TheVariants as status
use Rattle.command_model.specs.World.{Devices, Stage, World, beside}
use Rattle.serve_lines.specs.Calls.{Begins, Finishes, HasFaultOf, IsCaused}
use Rattle.serve_lines.specs.Kept.{HasNoKept, Kept, StandsServed, live_state, served_of}
use Rattle.serve_lines.specs.Step.{Served}
use Rattle.pinot_run.specs.Calls.{AreCalls, Call}
use Rattle.pinot_run.specs.Headline.{FromEmpty, Headline, Proceeds}
use Rattle.pinot_run.specs.Moves.{Moves}
use Rattle.pinot_run.specs.Promise.{Promise}
use Rattle.pinot_run.specs.Script.{Does}
use Rattle.pinot_run.specs.Serve.{EndsAll, GaveEnd, RunsServe, ServesLine, ServesLines, begun}
use Rattle.pinot_run.specs.ServeLaws.{EndsServed, FailsAside, LeadsAll, MovesServed, ServedLeads}
use Rattle.pinot_run.proofs.HeadlineLemmas.{StandsIn, if_told, moves_on, stands_still}
use Rattle.pinot_run.proofs.ScriptLifts.{does_lift}
use Rattle.pinot_run.proofs.ServeLifts.{EndsIn, LiveIn, ServedIn, lines_lift}

told_at : {X : Type 0} (held : Option X) (x : X) (Q : X → Type 0) → held ≡ Some x → IfSome held Q → Q x
told_at held x Q is h = subst (λ o. IfSome o Q) is h

told_one : {X : Type 0} (held : Option X) (P : X → Type 0) → IsSomeAnd held P → (x : X) × (held ≡ Some x) × P x
told_one None P h = absurd h
told_one (Some x) P h = (x, refl, h)

one_told : {X : Type 0} (held : Option X) (x : X) (P : X → Type 0) → held ≡ Some x → P x → IsSomeAnd held P
one_told held x P is h = subst (λ o. IsSomeAnd o P) (sym is) h

caused_by : {A : Type 0} (i j d e : Seen) (why : Fault) → HasFaultOf {A = A} d e (Err why) → IsCaused (record { inputs = i; depot = d }) (record { inputs = j; depot = e }) why
caused_by i j d e fault.Read f = inr (f.read_rose refl)
caused_by i j d e fault.Write f = f.write_rose refl
caused_by i j d e fault.Memory f = tt

-- ---- the end

-- the store stands for a state, and the input files are told
abbrev Left : Files → World → State → Type 0
Left files new next = StandsIn files new next

module _ (files : Files) (last : Stage Kept) (state : Served) (ended : Status) (new : World) where
  end_live : (why : Status) → LiveIn files last state → EndsAll (Err why) last ended new → EndsServed (Err why) (beside state last) ended (beside (live_state state) new) × StandsIn files new (live_state state)
  end_live why live (same, is) = (
    (same, refl, ap (λ (w : World). w.out) is, ap (λ (w : World). w.notes) is),
    record {
      inputs = ap (λ (w : World). w.devices.inputs.held) is ∙ live.inputs;
      kept = live.stored;
      stored = ap (λ (w : World). w.devices.depot.held) is ∙ live.held;
      stands = live.stands;
    },
  )

  end_done : (number : ℕ) → ServedIn files number last state → EndsAll (Ok tt) last ended new → EndsServed (Ok tt) (beside state last) ended (beside (live_state state) new) × StandsIn files new (live_state state)
  end_done number i (inl (depot, finishes, done, is)) =
      let closed = told_at last.devices.depot.held i.stored (λ stored. (number : ℕ) (state : Served) → StandsServed number last.kept stored state → IsSomeAnd depot.held (λ files. HasNoKept files × Stands files (live_state state))) i.held finishes.stands number state i.stands in
      let (stored, held, rest) = told_one depot.held (λ files. HasNoKept files × Stands files (live_state state)) closed in
      let here : new.devices.depot.held ≡ Some stored = ap (λ (w : World). w.devices.depot.held) is ∙ held in (
        inl (done, refl, ap (λ (w : World). w.out) is, ap (λ (w : World). w.notes) is, one_told new.devices.depot.held stored HasNoKept here rest.0),
        record { inputs = ap (λ (w : World). w.devices.inputs.held) is ∙ i.inputs; kept = stored; stored = here; stands = rest.1 },
      )
  end_done number i (inr (why, finishes, gave)) =
      let closed = told_at last.devices.depot.held i.stored (λ stored. (number : ℕ) (state : Served) → StandsServed number last.kept stored state → IsSomeAnd new.devices.depot.held (λ files. Stands files (live_state state))) i.held finishes.stands number state i.stands in
      let (stored, held, stands) = told_one new.devices.depot.held (λ files. Stands files (live_state state)) closed in (
        inr (
          why,
          record {
            ended_so = gave.gave.ends;
            caused = caused_by last.devices.inputs new.devices.inputs last.devices.depot new.devices.depot why finishes.faults;
            kept = refl;
            out = gave.out;
            noted = gave.gave.noted;
          },
        ),
        record { inputs = ap (λ (s : Seen). s.held) gave.inputs ∙ i.inputs; kept = stored; stored = held; stands = stands },
      )

ended_on : (files : Files) (said : Result (Unit {0}) Status) (last : Stage Kept) (state : Served) (ended : Status) (new : World) → EndsIn files said last state → EndsAll said last ended new
    → EndsServed said (beside state last) ended (beside (live_state state) new) × StandsIn files new (live_state state)
ended_on files (Ok done) last state ended new (number, i) ends = end_done files last state ended new number i ends
ended_on files (Err why) last state ended new live ends = end_live files last state ended new why live ends

-- ---- the lines

lines_led : (files : Files) (all : List (List ℕ)) (old : World) (state : State) (ended : Status) (new : World) → StandsIn files old state → ServesLines all old ended new
    → (next : State) × LeadsAll files all (beside state old) ended (beside next new) × StandsIn files new next
lines_led files all old state ended new i (inl (why, begins, gave)) =
    let at = told_at old.devices.depot.held i.kept (λ stored. (state : State) → Stands stored state → IsSomeAnd new.devices.depot.held (λ files. Stands files state)) i.stored begins.stands state i.stands in
    let (stored, held, stands) = told_one new.devices.depot.held (λ files. Stands files state) at in (
      state,
      inl (
        why,
        record {
          ended_so = gave.gave.ends;
          caused = caused_by old.devices.inputs new.devices.inputs old.devices.depot new.devices.depot why begins.faults;
          kept = refl;
          out = gave.out;
          noted = gave.gave.noted;
        },
      ),
      record { inputs = ap (λ (s : Seen). s.held) gave.inputs ∙ i.inputs; kept = stored; stored = held; stands = stands },
    )
lines_led files all old state ended new i (inr (kept, depot, begins, said, last, runs, ends)) =
    let at = told_at old.devices.depot.held i.kept (λ stored. (state : State) → Stands stored state → IsSomeAnd depot.held (λ files. StandsServed 1 kept files (served_of state) × HasNoKept files × Stands files state)) i.stored begins.stands state i.stands in
    let (stored, held, rest) = told_one depot.held (λ files. StandsServed 1 kept files (served_of state) × HasNoKept files × Stands files state) at in
    let first : ServedIn files 1 (begun kept depot old) (served_of state) = record { inputs = i.inputs; stored = stored; held = held; stands = rest.0 } in
    let (state_then, leads, in_end) = lines_lift files 1 all (begun kept depot old) (served_of state) said last first runs in
    let (end, left) = ended_on files said last state_then ended new in_end ends in
    (live_state state_then, inr (beside (served_of state) (begun kept depot old), beside state_then last, said, record { kept = refl; out = refl; notes = refl }, leads, end), left)

-- ---- the file

pub served_on : (files : Files) (file : List ℕ) (old : World) (state : State) (ended : Status) (new : World) → StandsIn files old state → RunsServe file old ended new
    → (next : State) × MovesServed files file (beside state old) ended (beside next new) × StandsIn files new next
served_on files file old state ended new i s =
    let (mid, opens, there) = moves_on files (Some (Open file)) old state s.said s.opened i s.opens in
    elim s.follows [
      | inl (stopped, same, left) ↦
          let here = stands_still files s.opened new mid (ap (λ (w : World). w.devices) left) there in (
            mid,
            record { said = s.said; opened = beside mid s.opened; opens = opens; follows = inl (stopped, same, ap (beside mid) left); stands = one_told new.devices.depot.held here.kept (λ stored. Stands stored mid) here.stored here.stands },
            here,
          )
      | inr (done, text, text_is, runs) ↦
          let (next, leads, here) = lines_led files (lines text) s.opened mid ended new there runs in (
            next,
            record {
              said = s.said;
              opened = beside mid s.opened;
              opens = opens;
              follows = inr (done, text, subst (λ held. OfFile held file (λ bytes. bytes ≡ text)) i.inputs text_is, leads);
              stands = one_told new.devices.depot.held here.kept (λ stored. Stands stored next) here.stored here.stands;
            },
            here,
          )
    ]

pub served_leads : ServedLeads
served_leads files kept state file old new ended given told stands runs =
    let (next, moves, there) = served_on files file old state ended new (record { inputs = given; kept = kept; stored = told; stands = stands }) runs in
    (next, moves)

-- ---- any calls

pub headline : Headline
headline kept state depot [] told stands are = tt
headline kept state depot (call ∷ calls) told stands (found, does, later) =
    let here : call.old.devices.depot.held ≡ Some kept = ap (λ (d : Seen). d.held) found ∙ told in
    if_told call.old.devices.inputs.held (λ files. (next : State) × Does (Moves files) (MovesServed files) (call_of call.words) (beside state call.old) call.ended (beside next call.new) × Proceeds next calls)
    (λ files inputs.
    let (next, moves, i) = does_lift Promise (Moves files) (StandsIn files) (moves_on files) (stands_still files) RunsServe (MovesServed files) (λ file old state ended new i s. served_on files file old state ended new i s) (call_of call.words) call.old state call.ended call.new (record { inputs = inputs; kept = kept; stored = here; stands = stands }) does in
    (next, moves, headline i.kept next call.new.devices.depot calls i.stored i.stands later))

pub from_empty : FromEmpty
from_empty depot calls told are = headline tree.empty NoTable depot calls told (λ name. tree.get-empty name_order name) are
