use Rattle.dictionary.specs.declared.fault.DictFault.TheVariants.{BadDictionary}
use Rattle.dictionary.proofs.Spells.{no_spelling, refused, too_many, too_short}
use Rattle.dictionary.proofs.check.check_numbers.Goals as goal

pub returns-in_default : goal.returns-in_default
returns-in_default c = refused c.args.kind c.args.bytes.now BadDictionary (λ _. too_short c.args.kind c.args.bytes.now c.in_default.ensures)

pub returns-then-count-gt-MOST_VALUES : goal.returns-then-count-gt-MOST_VALUES
returns-then-count-gt-MOST_VALUES c =
    refused c.args.kind c.args.bytes.now BadDictionary (λ _. too_many c.args.kind c.in-Some.count c.args.bytes.now c.in-Some.body.now c.in-Some.ensures.0 c.in-Some.ensures.1 c.if-count-gt-MOST_VALUES.true)

pub returns-in-Err : goal.returns-in-Err
returns-in-Err c =
    refused c.args.kind c.args.bytes.now c.in-Err.fault (λ e. no_spelling c.args.kind c.in-Some.count c.args.bytes.now c.in-Some.body.now c.in-Some.ensures.0 c.in-Some.ensures.1 (c.in-Err.ensures.bad e))
