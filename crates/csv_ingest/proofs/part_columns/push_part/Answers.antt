use Rattle.std.proofs.Common.{◌≡◌, Bool, true, Bor, List, ℕ, get_or, map}
use Rattle.csv_ingest.specs.Parts.{AddsPart, ReadsPart}
use Rattle.csv_ingest.proofs.NumberTextLemmas.{ok-at}
use Rattle.csv_ingest.proofs.PartLines.{reads-part}
use Rattle.csv_ingest.proofs.part_columns.push_part.Goals as goal

pub returns : goal.returns
returns c =
    let now : Bor (List ℕ) → List ℕ = λ f. f.now in
    let part = c.args.part in
    let layout = c.args.layout.now in
    let old = c.args.columns.now.items in
    let new = c.push_fields.new.columns.items in
    ok-at c.push_fields.result
    (λ (done : Bool). done ≡ true → AddsPart part layout.fields.now layout.places.items old new)
    (λ (done : Bool). done ≡ true → ReadsPart layout.fields.now (map now layout.names.now) part.text.now old new part.rows (get_or part.places.now part.last 0))
    (λ done adds e. reads-part part c.requires.fits.part layout c.requires.fits.layout c.requires.fits.width old new c.requires.fits.sorts (adds e) c.requires.some)
    c.push_fields.ensures
