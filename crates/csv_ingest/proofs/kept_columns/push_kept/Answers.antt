use Rattle.std.proofs.Common.{◌≡◌, Bool, true, Bor, List, ℕ, get_or, map}
use Rattle.csv_ingest.specs.Kept.{KeepsPart, ReadsKept}
use Rattle.csv_ingest.specs.Parts.{ReadsPart}
use Rattle.csv_ingest.proofs.KeptLines.{reads-all, reads-kept}
use Rattle.csv_ingest.proofs.NumberTextLemmas.{ok-at}
use Rattle.csv_ingest.proofs.kept_columns.push_kept.Goals as goal

pub returns-then-are_all : goal.returns-then-are_all
returns-then-are_all c =
    let now : Bor (List ℕ) → List ℕ = λ f. f.now in
    let part = c.args.part in
    let layout = c.args.layout.now in
    let old = c.args.columns.now.items in
    let new = c.push_part.new.columns.items in
    let end : ℕ = get_or part.places.now part.last 0 in
    ok-at c.push_part.result
    (λ (done : Bool). done ≡ true → ReadsPart layout.fields.now (map now layout.names.now) part.text.now old new part.rows end)
    (λ (done : Bool). done ≡ true → ReadsKept layout.fields.now (map now layout.names.now) c.args.kept.now part.text.now old new part.rows end)
    (λ done reads e. reads-all layout.fields.now (map now layout.names.now) c.args.kept.now part.text.now old new part.rows end (reads e))
    c.push_part.ensures

pub returns : goal.returns
returns c =
    let now : Bor (List ℕ) → List ℕ = λ f. f.now in
    let part = c.args.part in
    let layout = c.args.layout.now in
    let old = c.args.columns.now.items in
    let new = c.push_plain.new.columns.items in
    ok-at c.push_plain.result
    (λ (done : Bool). done ≡ true → KeepsPart c.args.kept.now part layout.fields.now layout.places.items old new)
    (λ (done : Bool). done ≡ true → ReadsKept layout.fields.now (map now layout.names.now) c.args.kept.now part.text.now old new part.rows (get_or part.places.now part.last 0))
    (λ done keeps e. reads-kept c.args.kept.now part c.requires.fits.part layout c.requires.fits.layout c.requires.fits.width old new c.requires.fits.sorts (keeps e) c.requires.some)
    c.push_plain.ensures
