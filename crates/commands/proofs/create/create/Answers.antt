use Rattle.std.proofs.Common.{Err, Ok, ap, subst, sym}
use Rattle.outside.specs.Files.{Has, Lacks}
use Rattle.outside.specs.Seen.{seen}
use Rattle.command_words.specs.Command.{TextFiles}
use Rattle.table_store.specs.TableFile.{table_name}
use Rattle.command_model.proofs.CreateLemmas.{files_stop, other_err, ran_exists, ran_halted, ran_looked, ran_made, ran_no_look, ran_stopped}
use Rattle.commands.proofs.create.create.Goals as goal

pub returns-in_err-finds_table : goal.returns-in_err-finds_table
returns-in_err-finds_table g c =
    ran_halted (TextFiles c.args.schema.now c.args.settings.now) (seen g.I.Shelf c.args.inputs.now) (seen g.I.Shelf c.args.inputs.now) (seen g.D.Shelf c.args.depot.now) (seen g.D.Shelf c.finds_table.new.depot) c.from_residual.result c.in_err-finds_table.field-0.0 c.from_residual.ensures.1
    (ran_no_look (TextFiles c.args.schema.now c.args.settings.now) (seen g.I.Shelf c.args.inputs.now) (seen g.D.Shelf c.args.depot.now) (seen g.D.Shelf c.finds_table.new.depot) c.in_err-finds_table.field-0.0 c.in_err-finds_table.ensures.looks c.in_err-finds_table.ensures.stops
    (λ other. c.in_err-finds_table.ensures.unchanged (other_err c.in_err-finds_table.field-0.0 other)))

pub returns-then-branch : goal.returns-then-branch
returns-then-branch g c =
    let looks = c.in_ok-finds_table.ensures.looks in
    let inputs = seen g.I.Shelf c.args.inputs.now in
    let looked = seen g.D.Shelf c.finds_table.new.depot in
    let has : Has (g.D.Shelf.held c.args.depot.now) table_name = c.in_ok-finds_table.ensures.yes (ap Ok c.if-branch.true) in
    ran_looked (TextFiles c.args.schema.now c.args.settings.now) inputs inputs (seen g.D.Shelf c.args.depot.now) looked looked looks (c.in_ok-finds_table.ensures.unchanged (λ e. cc)) _
    (ran_exists (TextFiles c.args.schema.now c.args.settings.now) inputs looked (subst (λ h. Has h table_name) (sym looks.held) has))

pub returns-in_err-new : goal.returns-in_err-new
returns-in_err-new g c =
    let looks = c.in_ok-finds_table.ensures.looks in
    let inputs = seen g.I.Shelf c.args.inputs.now in
    let inputs_new = seen g.I.Shelf c.read_table.new.inputs in
    let looked = seen g.D.Shelf c.finds_table.new.depot in
    let why = c.in_err-new.field-0.0 in
    let lacks : Lacks (g.D.Shelf.held c.args.depot.now) table_name = c.in_ok-finds_table.ensures.no (ap Ok c.if-branch.false) in
    ran_looked (TextFiles c.args.schema.now c.args.settings.now) inputs inputs_new (seen g.D.Shelf c.args.depot.now) looked looked looks (c.in_ok-finds_table.ensures.unchanged (λ e. cc)) _
    (ran_halted (TextFiles c.args.schema.now c.args.settings.now) inputs inputs_new looked looked c.from_residual-in_err-new.result why c.from_residual-in_err-new.ensures.1
    (ran_stopped (TextFiles c.args.schema.now c.args.settings.now) inputs inputs_new looked c.in_err-new.ensures.reads why (subst (λ h. Lacks h table_name) (sym looks.held) lacks) (files_stop c.args.schema.now c.args.settings.now inputs.held _ why c.in_err-new.ensures.stops) (λ other. c.in_err-new.ensures.unchanged (other_err why other)) (λ wrong path is. c.in_err-new.ensures.schema_alone wrong path (ap Err is))))

pub returns : goal.returns
returns g c =
    let looks = c.in_ok-finds_table.ensures.looks in
    let inputs = seen g.I.Shelf c.args.inputs.now in
    let inputs_new = seen g.I.Shelf c.read_table.new.inputs in
    let looked = seen g.D.Shelf c.finds_table.new.depot in
    let made = c.in_ok-new.ensures in
    let lacks : Lacks (g.D.Shelf.held c.args.depot.now) table_name = c.in_ok-finds_table.ensures.no (ap Ok c.if-branch.false) in
    ran_looked (TextFiles c.args.schema.now c.args.settings.now) inputs inputs_new (seen g.D.Shelf c.args.depot.now) looked (seen g.D.Shelf c.make.new.depot) looks (c.in_ok-finds_table.ensures.unchanged (λ e. cc)) _
    (ran_made (TextFiles c.args.schema.now c.args.settings.now) inputs inputs_new looked made.reads
    _ _ (seen g.D.Shelf c.make.new.depot) c.make.result made.made c.make.ensures.writes (subst (λ h. Lacks h table_name) (sym looks.held) lacks) (made.unchanged (λ e. cc)) c.make.ensures.reads_still c.make.ensures.writes_still c.make.ensures.makes)
