use Rattle.std.proofs.Common.{◌≡◌, ◌∙◌, ◌<◌, ◌++◌, drop, length, map, sym, ap, arith, subst}
use Rattle.std.proofs.lemmas.List.{length-append}
use Rattle.data_types.specs.declared.kind.FieldKind.TheVariants as kind
use Rattle.values.specs.declared.value.Value.TheVariants.{Text}
use Rattle.value_ids.specs.Blocks.{texts_in}
use Rattle.dictionary.specs.Reading.{IsBody, NoBody}
use Rattle.dictionary.specs.Spelling.{counted}
use Rattle.dictionary.specs.declared.fault.DictFault.TheVariants.{BadDictionary}
use Rattle.dictionary.proofs.Bytes.{length-counted}
use Rattle.dictionary.proofs.Spells.{found, no_spelling, refused, rest_is, too_many, too_short}
use Rattle.dictionary.proofs.check.check_texts.Goals as goal

pub returns-in_default : goal.returns-in_default
returns-in_default c =
    refused kind.Text c.args.bytes.items BadDictionary (λ _. too_short kind.Text c.args.bytes.items (subst (λ b. length b < 4) c.deref.ensures.value c.in_default.ensures))

pub returns-then-count-gt-MOST_VALUES : goal.returns-then-count-gt-MOST_VALUES
returns-then-count-gt-MOST_VALUES c =
    refused kind.Text c.args.bytes.items BadDictionary
    (λ _. too_many kind.Text c.in-Some.count c.args.bytes.items c.in-Some.field-0-1.now c.in-Some.ensures.0 (sym c.deref.ensures.value ∙ c.in-Some.ensures.1) c.if-count-gt-MOST_VALUES.true)

pub read_texts-requires-clause-front : goal.read_texts-requires-clause-front
read_texts-requires-clause-front c =
    omega (arith, ap length c.deref-2.ensures.value, ap length c.deref.ensures.value, ap length c.in-Some.ensures.1, length-append (counted c.in-Some.count) c.in-Some.field-0-1.now, length-counted c.in-Some.count)

pub returns-in-Ok : goal.returns-in-Ok
returns-in-Ok c =
    let bytes = c.args.bytes.items in
    let count = c.in-Some.count in
    let rest = c.in-Some.field-0-1.now in
    let parts = c.in-Ok.parts.items in
    let front : bytes ≡ counted count ++ rest = sym c.deref.ensures.value ∙ c.in-Some.ensures.1 in
    let body : drop 4 c.deref-2.result.now ≡ rest = ap (drop 4) c.deref-2.ensures.value ∙ sym (rest_is count bytes rest front) in
    let are : map Text (texts_in c.deref-2.result.now parts) ≡ c.of_block.result =
    ap (λ b. map Text (texts_in b parts)) c.deref-2.ensures.value ∙ sym (c.of_block.ensures ∙ ap (map Text) c.new.ensures) in
    found kind.Text count bytes rest c.of_block.result front
    (subst (IsBody kind.Text count rest) are (subst (λ b. IsBody kind.Text count b (map Text (texts_in c.deref-2.result.now parts))) body c.in-Ok.ensures.ok))

pub returns-in-Err : goal.returns-in-Err
returns-in-Err c =
    let bytes = c.args.bytes.items in
    let count = c.in-Some.count in
    let rest = c.in-Some.field-0-1.now in
    let front : bytes ≡ counted count ++ rest = sym c.deref.ensures.value ∙ c.in-Some.ensures.1 in
    let body : drop 4 c.deref-2.result.now ≡ rest = ap (drop 4) c.deref-2.ensures.value ∙ sym (rest_is count bytes rest front) in
    refused kind.Text bytes c.in-Err.fault (λ e. no_spelling kind.Text count bytes rest c.in-Some.ensures.0 front (subst (NoBody kind.Text count) body (c.in-Err.ensures.bad e)))
