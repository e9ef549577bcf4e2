use Rattle.std.proofs.Common.{◌∙◌, None, Some, Err, ap, refl, subst, sym}
use Rattle.command_words.specs.CommandView.{IsNamed, command_view}
use Rattle.command_model.specs.Ran.{Finds, Over, Ran}
use Rattle.command_model.specs.Step.{Refuses}
use Rattle.command_words.specs.declared.note.Note.TheVariants as note
use Rattle.command_words.specs.declared.stop.Stop.TheVariants as stop
use Rattle.outside.specs.Seen.{Seen, seen}
use Rattle.command_model.specs.World.{devices}
use Rattle.command_model.proofs.MachineLemmas.{steps_over}
use Rattle.command_model.proofs.StoredLemmas.{told_all}
use Rattle.pinot_run.proofs.run.reply_to.Goals as goal

pub returns-in-Some-Scan : goal.returns-in-Some-Scan
returns-in-Some-Scan g c =
    subst (λ command. Ran command (devices g.I.Shelf g.D.Shelf c.args.inputs.now c.args.depot.now) (devices g.I.Shelf g.D.Shelf c.scan.new.inputs c.args.depot.now) c.scan.result)
    (ap (λ command. Some (command_view command)) (sym c.in-Some-Scan.field-0-is) ∙ c.in-Some-Scan.ensures.spelled) (c.scan.ensures (seen g.D.Shelf c.args.depot.now))

pub returns-in-Some-List : goal.returns-in-Some-List
returns-in-Some-List g c =
    subst (λ command. Ran command (devices g.I.Shelf g.D.Shelf c.args.inputs.now c.args.depot.now) (devices g.I.Shelf g.D.Shelf c.args.inputs.now c.list.new.depot) c.list.result)
    (ap (λ command. Some (command_view command)) (sym c.in-Some-List.field-0-is) ∙ c.in-Some-List.ensures.spelled) (c.list.ensures (seen g.I.Shelf c.args.inputs.now))

pub build-requires : goal.build-requires
build-requires g c = subst IsNamed c.in-Some-Build.field-0-is c.in-Some-Build.ensures.named

pub returns-in-Some-Build : goal.returns-in-Some-Build
returns-in-Some-Build g c =
    subst (λ command. Ran command (devices g.I.Shelf g.D.Shelf c.args.inputs.now c.args.depot.now) (devices g.I.Shelf g.D.Shelf c.build.new.inputs c.build.new.depot) c.build.result)
    (ap (λ command. Some (command_view command)) (sym c.in-Some-Build.field-0-is) ∙ c.in-Some-Build.ensures.spelled) c.build.ensures

pub returns-in-Some-Drop : goal.returns-in-Some-Drop
returns-in-Some-Drop g c =
    subst (λ command. Ran command (devices g.I.Shelf g.D.Shelf c.args.inputs.now c.args.depot.now) (devices g.I.Shelf g.D.Shelf c.args.inputs.now c.drop_named.new.depot) c.drop_named.result)
    (ap (λ command. Some (command_view command)) (sym c.in-Some-Drop.field-0-is) ∙ c.in-Some-Drop.ensures.spelled) (c.drop_named.ensures (seen g.I.Shelf c.args.inputs.now))

pub returns-in-Some-Ask : goal.returns-in-Some-Ask
returns-in-Some-Ask g c =
    subst (λ command. Ran command (devices g.I.Shelf g.D.Shelf c.args.inputs.now c.args.depot.now) (devices g.I.Shelf g.D.Shelf c.args.inputs.now c.ask.new.depot) c.ask.result)
    (ap (λ command. Some (command_view command)) (sym c.in-Some-Ask.field-0-is) ∙ c.in-Some-Ask.ensures.spelled) (c.ask.ensures (seen g.I.Shelf c.args.inputs.now))

pub look-requires : goal.look-requires
look-requires g c = subst IsNamed c.in-Some-Look.field-0-is c.in-Some-Look.ensures.named

pub returns-in-Some-Look : goal.returns-in-Some-Look
returns-in-Some-Look g c =
    subst (λ command. Ran command (devices g.I.Shelf g.D.Shelf c.args.inputs.now c.args.depot.now) (devices g.I.Shelf g.D.Shelf c.args.inputs.now c.look.new.depot) c.look.result)
    (ap (λ command. Some (command_view command)) (sym c.in-Some-Look.field-0-is) ∙ c.in-Some-Look.ensures.spelled) (c.look.ensures (seen g.I.Shelf c.args.inputs.now))

pub attach-requires : goal.attach-requires
attach-requires g c = subst IsNamed c.in-Some-Attach.field-0-is c.in-Some-Attach.ensures.named

pub returns-in-Some-Attach : goal.returns-in-Some-Attach
returns-in-Some-Attach g c =
    subst (λ command. Ran command (devices g.I.Shelf g.D.Shelf c.args.inputs.now c.args.depot.now) (devices g.I.Shelf g.D.Shelf c.attach.new.inputs c.attach.new.depot) c.attach.result)
    (ap (λ command. Some (command_view command)) (sym c.in-Some-Attach.field-0-is) ∙ c.in-Some-Attach.ensures.spelled) c.attach.ensures

-- words that spell no command are refused, and nothing is looked at
refused : (i a : Seen) → Ran None (record { inputs = i; depot = a }) (record { inputs = i; depot = a }) (Err (stop.Refused note.BadWords))
refused i a =
    let over = told_all i.held (λ files. Over None files a.held (Refuses note.BadWords) a.held) (λ files. (refl, refl)) in
    record {
      touched = record { inputs = refl; depot = refl };
      reads = tt;
      counted = record { inputs = refl; depot_reads = refl; depot_writes = refl };
      ended = record {
        step = steps_over None i.held a.held (Refuses note.BadWords) a.held over;
        over = over;
        allowed = (refl, told_all i.held (λ files. Finds None files a.held note.BadWords) (λ files. tt), refl, tt);
      };
    }

pub returns-in-None : goal.returns-in-None
returns-in-None g c =
    subst (λ command. Ran command (devices g.I.Shelf g.D.Shelf c.args.inputs.now c.args.depot.now) (devices g.I.Shelf g.D.Shelf c.args.inputs.now c.args.depot.now) (Err (stop.Refused note.BadWords))) c.in-None.ensures.spelled
    (refused (seen g.I.Shelf c.args.inputs.now) (seen g.D.Shelf c.args.depot.now))
