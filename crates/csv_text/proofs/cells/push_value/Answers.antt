use Rattle.std.proofs.Common.{◌≡◌, ◌∙◌, ◌<◌, ◌++◌, ◌∷◌, ℕ, ℤ, List, [], OnOk, length, map, pos, sym, ap, subst, arith, get_or}
use Rattle.std.proofs.lemmas.Option.{get_or_from_slice_get}
use Rattle.csv.specs.Writing.{default_writer, field_text}
use Rattle.values.specs.declared.value.Value.{Value}
use Rattle.values.specs.declared.value.Value.TheVariants.{Text, Whole}
use Rattle.values.specs.Printed.{text_of}
use Rattle.csv_text.proofs.cells.push_value.Goals as goal

-- values that are all texts and all numbers are none
none_of : (values : List Value) (texts : List (List ℕ)) (numbers : List ℤ) (id : ℕ) → values ≡ map Text texts → values ≡ map Whole numbers → ¬ (id < length values)
none_of values [] numbers id t n lt = let none : length values ≡ 0 = ap length t in absurd (omega (arith, lt, none))
none_of values (x ∷ texts) [] id t n lt = let none : length values ≡ 0 = ap length n in absurd (omega (arith, lt, none))
none_of values (x ∷ texts) (y ∷ numbers) id t n lt =
    let clash : Text x ∷ map Text texts ≡ Whole y ∷ map Whole numbers = sym t ∙ n in
    absurd cc

pub unreachable-requires : goal.unreachable-requires
unreachable-requires c =
    let (texts, t) = c.in_default.ensures in
    let (numbers, n) = c.in-None.ensures in
    none_of c.args.dictionary.now.values texts numbers c.args.id t n c.requires

pub returns : goal.returns
returns c =
    let value : Value = get_or c.args.dictionary.now.values c.args.id (Whole (pos 0)) in
    let is : value ≡ Text c.in-Some-text_at.value.now = get_or_from_slice_get c.args.dictionary.now.values c.args.id (Text c.in-Some-text_at.value.now) (Whole (pos 0)) c.in-Some-text_at.ensures in
    subst (λ bytes. OnOk c.push_field.result (c.push_field.new.text.items ≡ c.args.text.now.items ++ field_text default_writer bytes))
    (c.as_bytes.ensures.value ∙ ap text_of (sym is)) c.push_field.ensures
