use Rattle.std.proofs.Common.{◌∙◌, ◌<◌, ℕ, get_or, length, ap, sym, arith, pos}
use Rattle.std.proofs.lemmas.Result.{IfOk-weaker}
use Rattle.values.specs.declared.value.Value.TheVariants.{Whole}
use Rattle.coded_columns.specs.Coded.{table_of}
use Rattle.coded_columns.proofs.SlotLemmas.{slots-refined, slots-unread}
use Rattle.coded_columns.proofs.slots.refine_by_field.Goals as goal

pub returns-in-None : goal.returns-in-None
returns-in-None c = λ groups st. slots-unread (table_of c.args.placed.segment.now).columns groups c.args.group c.args.placed.places.now c.args.slots.now c.args.firsts.items c.in-None.ensures st

pub returns-in-Some : goal.returns-in-Some
returns-in-Some c =
    let column = c.in-Some.column in
    let of = c.in-Some.ensures in
    let ids = column.ids.now in
    let places = c.args.placed.places.now in
    let within = λ (k : ℕ) (lt : k < length places). c.args.placed.within k 0 lt in
    IfOk-weaker c.refine.result _ _ (λ more ranked groups st.
    slots-refined (table_of c.args.placed.segment.now).columns groups c.args.group places c.args.slots.now c.args.firsts.items c.refine.new.slots more.items ids c.count-width.result st ranked c.refine.auto.slots
    (λ k lt. omega (arith, of.ids.below (get_or places k 0) 0 (omega (arith, within k lt, of.ids.count)), c.count-width.ensures.count))
    (λ j k j_lt k_lt e. of.each (get_or places j 0) (within j j_lt) ∙ ap (λ id. get_or column.dictionary.now.values id (Whole (pos 0))) e ∙ sym (of.each (get_or places k 0) (within k k_lt))))
    c.refine.ensures
