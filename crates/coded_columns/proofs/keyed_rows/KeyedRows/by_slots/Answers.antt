use Rattle.std.proofs.Common.{◌≡◌, ◌∙◌, ◌+◌, ℕ, List, length, map, get_or, refl, ap, subst, arith}
use Rattle.std.proofs.lemmas.Bool.Decides.{nat_tests}
use Rattle.coded_columns.specs.Keyed.{HoldAggs, rows_in}
use Rattle.coded_columns.specs.Slots.{AreSlots}
use Rattle.coded_columns.specs.Coded.{table_of}
use Rattle.coded_columns.proofs.KeyedSteps.{none-hold, slots-hold}
use Rattle.coded_columns.proofs.keyed_rows.KeyedRows.by_slots.Goals as goal

pub returns-then-is_empty : goal.returns-then-is_empty
returns-then-is_empty c =
    let none : length c.args.placed.places.now ≡ 0 = grind (arith, nat_tests) in
    none-hold c.args.placed.segment.now c.args.groups.now c.args.aggs.now c.args.placed.places.now _ none c.new-firsts.ensures.items c.in_ok-aggs.ensures

pub returns : goal.returns
returns c =
    let slots : List ℕ = c.in_ok-slots.slots.items in
    let firsts : List ℕ = c.in_ok-slots.firsts.items in
    let places : List ℕ = c.args.placed.places.now in
    let slots_are : c.in_ok-slots.field-0.slots.items ≡ slots = cc in
    let firsts_are : c.in_ok-slots.field-0.firsts.items ≡ firsts = cc in
    let st : AreSlots (table_of c.args.placed.segment.now).columns c.args.groups.now places slots firsts =
    subst (λ (l : List ℕ). AreSlots (table_of c.args.placed.segment.now).columns c.args.groups.now places l firsts) slots_are
    (subst (λ (l : List ℕ). AreSlots (table_of c.args.placed.segment.now).columns c.args.groups.now places c.in_ok-slots.field-0.slots.items l) firsts_are c.in_ok-slots.ensures) in
    let states : HoldAggs (length firsts) slots (rows_in c.args.placed) c.args.aggs.now c.in_ok-states.states.items =
    subst (λ (n : ℕ). HoldAggs n slots (rows_in c.args.placed) c.args.aggs.now c.in_ok-states.states.items) (omega (arith, c.len.ensures, c.in_ok-slots.field-0.firsts.ok.0, ap length firsts_are))
    (subst (λ (l : List ℕ). HoldAggs c.len.result l (rows_in c.args.placed) c.args.aggs.now c.in_ok-states.states.items) (c.deref.ensures.value ∙ slots_are) c.in_ok-states.ensures) in
    slots-hold c.args.placed.segment.now c.args.groups.now c.args.aggs.now places slots firsts _ st c.args.placed.within refl
    (c.in_ok-firsts.ensures ∙ ap (λ (l : List ℕ). map (λ first. get_or places first 0 + 1) l) (c.deref-2.ensures.value ∙ firsts_are)) states
