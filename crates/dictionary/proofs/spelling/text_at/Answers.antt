use Rattle.dictionary.proofs.ListedLemmas.{no_text_at, text_is_at, text_short}
use Rattle.dictionary.proofs.spelling.text_at.Goals as goal

pub returns-in-Some-clause-text : goal.returns-in-Some-clause-text
returns-in-Some-clause-text c = text_is_at c.args.values.now c.args.at c.in-Some.text.now c.in-Some.ensures.place

pub returns-in-Some-clause-short : goal.returns-in-Some-clause-short
returns-in-Some-clause-short c =
    text_short c.args.values.now c.args.at c.in-Some.text.now c.requires.fit c.requires.within (text_is_at c.args.values.now c.args.at c.in-Some.text.now c.in-Some.ensures.place)

pub returns-in-None-clause-text : goal.returns-in-None-clause-text
returns-in-None-clause-text c = no_text_at c.args.values.now c.args.at c.in-None.ensures.place c.requires.within
