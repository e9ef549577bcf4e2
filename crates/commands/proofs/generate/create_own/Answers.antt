use Rattle.std.proofs.Common.{◌≡◌, Err, Ok, ap, refl, subst, sym}
use Rattle.outside.specs.Files.{Has, Lacks}
use Rattle.outside.specs.Seen.{seen}
use Rattle.table_store.specs.TableFile.{table_name}
use Rattle.command_words.specs.Command.{GeneratedTexts}
use Rattle.command_model.specs.Create.{own_table}
use Rattle.command_model.proofs.BuildLemmas.{told_all}
use Rattle.command_model.proofs.CreateLemmas.{own_stop, ran_exists, ran_halted, ran_looked, ran_made, ran_no_look, ran_stopped, other_err}
use Rattle.commands.proofs.generate.create_own.Goals as goal

pub returns-in_err-finds_table : goal.returns-in_err-finds_table
returns-in_err-finds_table g c = λ inputs.
    ran_halted (GeneratedTexts c.args.rows) inputs inputs (seen g.D.Shelf c.args.depot.now) (seen g.D.Shelf c.finds_table.new.depot) c.from_residual.result c.in_err-finds_table.field-0.0 c.from_residual.ensures.1
    (ran_no_look (GeneratedTexts c.args.rows) inputs (seen g.D.Shelf c.args.depot.now) (seen g.D.Shelf c.finds_table.new.depot) c.in_err-finds_table.field-0.0 c.in_err-finds_table.ensures.looks c.in_err-finds_table.ensures.stops
    (λ other. c.in_err-finds_table.ensures.unchanged (other_err c.in_err-finds_table.field-0.0 other)))

pub returns-then-branch : goal.returns-then-branch
returns-then-branch g c = λ inputs.
    let looks = c.in_ok-finds_table.ensures.looks in
    let looked = seen g.D.Shelf c.finds_table.new.depot in
    let has : Has (g.D.Shelf.held c.args.depot.now) table_name = c.in_ok-finds_table.ensures.yes (ap Ok c.if-branch.true) in
    ran_looked (GeneratedTexts c.args.rows) inputs inputs (seen g.D.Shelf c.args.depot.now) looked looked looks (c.in_ok-finds_table.ensures.unchanged (λ e. cc)) _
    (ran_exists (GeneratedTexts c.args.rows) inputs looked (subst (λ h. Has h table_name) (sym looks.held) has))

pub returns-in_err-new : goal.returns-in_err-new
returns-in_err-new g c = λ inputs.
    let looks = c.in_ok-finds_table.ensures.looks in
    let looked = seen g.D.Shelf c.finds_table.new.depot in
    let why = c.in_err-new.field-0.0 in
    let lacks : Lacks (g.D.Shelf.held c.args.depot.now) table_name = c.in_ok-finds_table.ensures.no (ap Ok c.if-branch.false) in
    ran_looked (GeneratedTexts c.args.rows) inputs inputs (seen g.D.Shelf c.args.depot.now) looked looked looks (c.in_ok-finds_table.ensures.unchanged (λ e. cc)) _
    (ran_halted (GeneratedTexts c.args.rows) inputs inputs looked looked c.from_residual-in_err-new.result why c.from_residual-in_err-new.ensures.1
    (ran_stopped (GeneratedTexts c.args.rows) inputs inputs looked refl why (subst (λ h. Lacks h table_name) (sym looks.held) lacks) (own_stop c.args.rows inputs.held _ why c.in_err-new.ensures.stops) (λ other. refl) (λ wrong path is. refl)))

pub returns : goal.returns
returns g c = λ inputs.
    let looks = c.in_ok-finds_table.ensures.looks in
    let looked = seen g.D.Shelf c.finds_table.new.depot in
    let made = c.in_ok-new.ensures in
    let lacks : Lacks (g.D.Shelf.held c.args.depot.now) table_name = c.in_ok-finds_table.ensures.no (ap Ok c.if-branch.false) in
    ran_looked (GeneratedTexts c.args.rows) inputs inputs (seen g.D.Shelf c.args.depot.now) looked (seen g.D.Shelf c.make.new.depot) looks (c.in_ok-finds_table.ensures.unchanged (λ e. cc)) _
    (ran_made (GeneratedTexts c.args.rows) inputs inputs looked refl
    _ _ (seen g.D.Shelf c.make.new.depot) c.make.result
    (told_all inputs.held (λ files. own_table c.args.rows ≡ Ok (record { schema = c.in_ok-new.new.schema; settings = c.in_ok-new.new.settings }, c.in_ok-new.new.table)) (λ files. made.made))
    c.make.ensures.writes (subst (λ h. Lacks h table_name) (sym looks.held) lacks) refl c.make.ensures.reads_still c.make.ensures.writes_still c.make.ensures.makes)
