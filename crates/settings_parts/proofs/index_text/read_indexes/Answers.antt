use Rattle.std.proofs.Common.{map, ap, sym, ◌∙◌}
use Rattle.std.proofs.lemmas.Result.{err_from_is_err_and}
use Rattle.serde_json.specs.View.{view}
use Rattle.json_keys.specs.Faults.{below}
use Rattle.settings_parts.specs.Indexes.{INDEX_KEY, RAW_KEY, indexed, raw_places}
use Rattle.json_keys.proofs.Answered.{second_refuses, second_of_two}
use Rattle.settings_parts.proofs.index_text.read_indexes.Goals as goal

pub returns-in_err-check_raw : goal.returns-in_err-check_raw
returns-in_err-check_raw c =
    let p = err_from_is_err_and c.from_residual-in_err-check_raw.result c.from_residual-in_err-check_raw.ensures.1 in
    let fields = c.args.fields.all.now in
    let s = indexed fields c.args.table (view c.args.json.now) in
    let raw = map view c.in_ok-settings.raw.now in
    let same = ap (λ t. raw_places fields t c.as_str.result.now raw) c.in_ok-settings.ensures.settings
    ∙ ap (λ path. raw_places fields s path raw) (c.as_str.ensures ∙ c.in_ok-path.ensures)
    ∙ ap (raw_places fields s (below INDEX_KEY RAW_KEY)) c.in_ok-settings.ensures.raw in
    rw (p.1, p.2) (second_refuses _ _ _ _ c.in_err-check_raw.field-0.0 c.in_ok-settings.ensures.ok same c.in_err-check_raw.ensures)

pub returns : goal.returns
returns c =
    let fields = c.args.fields.all.now in
    let s = indexed fields c.args.table (view c.args.json.now) in
    let raw = map view c.in_ok-settings.raw.now in
    let same = ap (λ t. raw_places fields t c.as_str.result.now raw) c.in_ok-settings.ensures.settings
    ∙ ap (λ path. raw_places fields s path raw) (c.as_str.ensures ∙ c.in_ok-path.ensures)
    ∙ ap (raw_places fields s (below INDEX_KEY RAW_KEY)) c.in_ok-settings.ensures.raw in (
      sym (second_of_two _ _ c.in_ok-settings.ensures.ok) ∙ sym same ∙ c.in_ok-check_raw.ensures,
      c.in_ok-settings.ensures.settings,
    )
