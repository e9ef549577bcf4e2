use Rattle.std.proofs.Common.{◌==◌, length, sym, ap, ◌∙◌}
use Rattle.serde_json.specs.View.{view}
use Rattle.serde_json.proofs.Views.{view-Array}
use Rattle.json_keys.specs.Json.{is_empty}
use Rattle.json_keys.proofs.Items.{is_no_items-items_view}
use Rattle.json_keys.proofs.json.+empty.Goals as goal

pub is_empty-returns-in-Array : goal.is_empty-returns-in-Array
is_empty-returns-in-Array t c =
    c.is_empty-in-Array.ensures ∙ ap (λ vs. length vs == 0) c.as_slice.ensures.value ∙ sym (is_no_items-items_view c.in-Array.items.items) ∙ sym (ap is_empty (ap view c.in-Array.is ∙ view-Array c.in-Array.items))
