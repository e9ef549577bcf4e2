-- What each command of a script does leads to what all of them do.
use Rattle.std.proofs.Common.{◌≡◌, inl, inr, ℕ, List, [], ◌∷◌, Option, Some, refl, ap}
use Rattle.command_words.specs.Command.{Command, Generate, One, Open, Request, Script, Serve}
use Rattle.command_words.specs.declared.status.Status.{Status}
use Rattle.command_model.specs.Generated.{generate_commands}
use Rattle.command_model.specs.World.{Devices, Stage, World, beside}
use Rattle.pinot_run.specs.Generate.{Generates, RunsThrough, Tells, aside}
use Rattle.command_words.specs.declared.status.Status.TheVariants as status
use Rattle.pinot_run.specs.Script.{Does, DoesOne, EndsAt, IsMarkCut, IsMarked, RunsLines, RunsScript}
use Rattle.pinot_run.specs.Text.{line_request, lines_of}

-- where what one command does leads from something kept to what is kept then, and no mark changes what holds of it, the lines of a script and a script do
module _ {K : Type 0} (P : Option Command → World → Status → World → Type 0) (Q : Option Command → Stage K → Status → Stage K → Type 0) (I : World → K → Type 0)
    (one : (command : Option Command) (old : World) (k : K) (ended : Status) (new : World) → I old k → P command old ended new → (next : K) × Q command (beside k old) ended (beside next new) × I new next)
    (still : (old new : World) (k : K) → new.devices ≡ old.devices → I old k → I new k) where
  cut_beside : (said : Status) (old new : World) (k : K) → IsMarkCut said old new → IsMarkCut said (beside k old) (beside k new)
  cut_beside said old new k cut = record { devices = cut.devices; kept = refl; prefix = cut.prefix; failed = cut.failed; later = cut.later; noted = cut.noted }

  marked_beside : (said : Status) (old new : World) (k : K) → IsMarked said old new → IsMarked said (beside k old) (beside k new)
  marked_beside said old new k marked = record { devices = marked.devices; kept = refl; notes = marked.notes; out = marked.out; faults = marked.faults }

  -- commands one after another, each with streams of its own
  pub through_lift : (commands : List (Option Command)) (old : Devices) (u : Unit {0}) (k : K) (said : Status) (texts : List (List ℕ)) (line : List ℕ) (new : Devices) (v : Unit {0}) → I (aside old u [] []) k → RunsThrough P commands old u said texts line new v
      → (next : K) × RunsThrough Q commands old k said texts line new next × I (aside new v [] []) next
  through_lift [] old u k said texts line new v i (done, none, silent, same, left) = (k, (done, none, silent, same, refl), still (aside old u [] []) (aside new v [] []) k same i)
  through_lift (command ∷ commands) old u k said texts line new v i (inl (other, none, does)) =
      let (next, q, then) = one command (aside old u [] []) k said (aside new v [] line) i does in
      (next, inl (other, none, q), still (aside new v [] line) (aside new v [] []) next refl then)
  through_lift (command ∷ commands) old u k said texts line new v i (inr (text, mid, between, more, does, rest, is)) =
      let (here, q, there) = one command (aside old u [] []) k status.Done (aside mid between text []) i does in
      let (next, runs, then) = through_lift commands mid between here said more line new v (still (aside mid between text []) (aside mid between [] []) here refl there) rest in
      (next, inr (text, mid, here, more, q, runs, is), then)

  tells_beside : (said : Status) (text line : List ℕ) (old : World) (ended : Status) (new : World) (k next : K) → Tells said text line old ended new → Tells said text line (beside k old) ended (beside next new)
  tells_beside said text line old ended new k next (inl (fine, same, p)) = inl (fine, same, record { out = p.out; notes = p.notes })
  tells_beside said text line old ended new k next (inr (inl (fine, same, p))) = inr (inl (fine, same, record { failed = p.failed; prefix = p.prefix }))
  tells_beside said text line old ended new k next (inr (inr (inl t))) = inr (inr (inl t))
  tells_beside said text line old ended new k next (inr (inr (inr t))) = inr (inr (inr t))

  pub generates_lift : (rows : ℕ) (old : World) (k : K) (ended : Status) (new : World) → I old k → Generates P rows old ended new → (next : K) × Generates Q rows (beside k old) ended (beside next new) × I new next
  generates_lift rows old k ended new i g =
      let (next, runs, then) = through_lift (generate_commands rows) old.devices old.kept k g.said g.texts g.line new.devices new.kept (still old (aside old.devices old.kept [] []) k refl i) g.runs in (
        next,
        record {
          said = g.said;
          texts = g.texts;
          line = g.line;
          runs = runs;
          tells = tells_beside g.said _ g.line old ended new k next g.tells;
          noted = g.noted;
          counted = g.counted;
          later = g.later;
        },
        still (aside new.devices new.kept [] []) new next refl then,
      )

  -- what a line asks for
  one_lift : (request : Request) (old : World) (k : K) (ended : Status) (new : World) → I old k → DoesOne P request old ended new → (next : K) × DoesOne Q request (beside k old) ended (beside next new) × I new next
  one_lift (Script file) old k ended new i d = absurd d
  one_lift (Serve file) old k ended new i d = absurd d
  one_lift (One command) old k ended new i d = one command old k ended new i d
  one_lift (Generate rows) old k ended new i d = generates_lift rows old k ended new i d

  -- the last line
  ends_lift : (line : List ℕ) (old : World) (k : K) (ended : Status) (new : World) → I old k → EndsAt P line old ended new → (next : K) × EndsAt Q line (beside k old) ended (beside next new) × I new next
  ends_lift line old k ended new i e =
      let (next, does, then) = one_lift (line_request line) old k e.said e.between i e.does in
      elim e.stops [
        | inl (fault, same, left) ↦ (
          next,
          record { said = e.said; between = beside next e.between; does = does; stops = inl (fault, same, ap (beside next) left) },
          still e.between new next (ap (λ (w : World). w.devices) left) then,
        )
        | inr (fine, same, cut) ↦ (
          next,
          record { said = e.said; between = beside next e.between; does = does; stops = inr (fine, same, cut_beside e.said e.between new next cut) },
          still e.between new next cut.devices then,
        )
      ]

  pub lines_lift : (lines : List (List ℕ)) (old : World) (k : K) (ended : Status) (new : World) → I old k → RunsLines P lines old ended new → (next : K) × RunsLines Q lines (beside k old) ended (beside next new) × I new next
  lines_lift [] old k ended new i (done, same) = (k, (done, ap (beside k) same), still old new k (ap (λ (w : World). w.devices) same) i)
  lines_lift (line ∷ lines) old k ended new i (inl e) =
      let (next, ends, then) = ends_lift line old k ended new i e in
      (next, inl ends, then)
  lines_lift (line ∷ lines) old k ended new i (inr (mid, goes, rest)) =
      let (between, does, there) = one_lift (line_request line) old k goes.said goes.between i goes.does in
      let here = still goes.between mid between goes.marked.devices there in
      let (next, runs, then) = lines_lift lines mid between ended new here rest in (
        next,
        inr (
          beside between mid,
          record { said = goes.said; between = beside between goes.between; does = does; fine = goes.fine; marked = marked_beside goes.said goes.between mid between goes.marked },
          runs,
        ),
        then,
      )

  pub script_lift : (file : List ℕ) (old : World) (k : K) (ended : Status) (new : World) → I old k → RunsScript P file old ended new → (next : K) × RunsScript Q file (beside k old) ended (beside next new) × I new next
  script_lift file old k ended new i s =
      let (mid, opens, there) = one (Some (Open file)) old k s.said s.opened i s.opens in
      elim s.follows [
        | inl (stopped, same, left) ↦ (
          mid,
          record { said = s.said; opened = beside mid s.opened; opens = opens; follows = inl (stopped, same, ap (beside mid) left) },
          still s.opened new mid (ap (λ (w : World). w.devices) left) there,
        )
        | inr (done, text, text_is, runs) ↦
            let (next, lines, then) = lines_lift (lines_of text) s.opened mid ended new there runs in
            (next, record { said = s.said; opened = beside mid s.opened; opens = opens; follows = inr (done, text, text_is, lines) }, then)
      ]

  pub does_lift : (S : List ℕ → World → Status → World → Type 0) (T : List ℕ → Stage K → Status → Stage K → Type 0)
      → ((file : List ℕ) (old : World) (k : K) (ended : Status) (new : World) → I old k → S file old ended new → (next : K) × T file (beside k old) ended (beside next new) × I new next)
      → (request : Request) (old : World) (k : K) (ended : Status) (new : World) → I old k → Does P S request old ended new → (next : K) × Does Q T request (beside k old) ended (beside next new) × I new next
  does_lift S T serve (Script file) old k ended new i d = script_lift file old k ended new i d
  does_lift S T serve (Serve file) old k ended new i d = serve file old k ended new i d
  does_lift S T serve (One command) old k ended new i d = one command old k ended new i d
  does_lift S T serve (Generate rows) old k ended new i d = generates_lift rows old k ended new i d
