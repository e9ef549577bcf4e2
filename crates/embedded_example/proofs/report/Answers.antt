use Rattle.std.proofs.Common.{◌≡◌, ◌∙◌, [], Ok, ap, subst}
use Rattle.std.specs.Prelude.{codes}
use Rattle.outside.specs.Seen.{Seen}
use Rattle.memory_devices.specs.Memory.{fresh, told}
use Rattle.embedded.specs.Calls.{Builds}
use Rattle.embedded.specs.Making.{IsMade, texts_of}
use Rattle.embedded.specs.Rows.{csv_rows}
use Rattle.embedded.specs.Stores.{SeenStore}
use Rattle.embedded_example.specs.declared.TheConstants.{BY_BROWSER, BY_COUNTRY, MOST}
use Rattle.embedded_example.proofs.VisitLemmas.{has_both, reply_over, still_both}
use Rattle.embedded_example.proofs.report.Goals as goal

pub returns : goal.returns
returns c =
    let texts = texts_of c.args.schema.now c.args.settings.now in
    let june = c.args.june.now in
    let july = c.args.july.now in
    let old : Seen = told c.in_ok-depot.depot in
    let s : SeenStore = record { table = c.in_ok-visits.visits.table; depot = told c.in_ok-visits.visits.depot } in
    let t : SeenStore = record { table = c.build.new.self.table; depot = told c.build.new.self.depot } in
    let u : SeenStore = record { table = c.build_rows.new.self.table; depot = told c.build_rows.new.self.depot } in
    let v : SeenStore = record { table = c.query.new.self.table; depot = told c.query.new.self.depot } in
    let w : SeenStore = record { table = c.query-2.new.self.table; depot = told c.query-2.new.self.depot } in
    let x : SeenStore = record { table = c.query-3.new.self.table; depot = told c.query-3.new.self.depot } in
    let fresh_is : old ≡ told (fresh [] []) = ap told (c.in_ok-depot.ensures ∙ (λ i. fresh (c.new.ensures i) (c.new-2.ensures i))) in
    let by_schema : IsMade (texts_of c.args.schema.now c.as_bytes-2.result.now) old s = subst (λ text. IsMade (texts_of text c.as_bytes-2.result.now) old s) c.as_bytes.ensures.value c.in_ok-visits.ensures.made in
    let made : IsMade texts old s = subst (λ text. IsMade (texts_of c.args.schema.now text) old s) c.as_bytes-2.ensures.value by_schema in
    let first = subst (λ text. Builds (codes "june") (csv_rows s.table.schema.fields text) s t (Ok tt)) c.as_bytes-3.ensures.value c.in_ok-build.ensures in
    let both = has_both texts june july old s t u fresh_is made first c.in_ok-build_rows.ensures in
    let then_both = still_both texts june july BY_COUNTRY.now c.in_ok-by_country.by_country u v c.in_ok-by_country.ensures both in
    let last_both = still_both texts june july MOST.now c.in_ok-most.most v w c.in_ok-most.ensures then_both in
    record {
      first_is = reply_over texts june july BY_COUNTRY.now c.in_ok-by_country.by_country u v c.in_ok-by_country.ensures both;
      second_is = reply_over texts june july MOST.now c.in_ok-most.most v w c.in_ok-most.ensures then_both;
      third_is = reply_over texts june july BY_BROWSER.now c.in_ok-by_browser.by_browser w x c.in_ok-by_browser.ensures last_both;
    }
