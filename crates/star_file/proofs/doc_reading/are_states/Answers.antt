use Rattle.std.proofs.Common.{◌≡◌, ◌+◌, ◌-◌, [], ◌∷◌, ◌++◌, get_or, take, drop, arith, ap, sym, ◌∙◌, refl}
use Rattle.agg_laws.specs.declared.aggregate_kind.AggKind.TheVariants as kinds
use Rattle.agg_laws.specs.Kind.{width_of}
use Rattle.star_file.proofs.DocSteps as steps
use Rattle.star_file.proofs.SpelledSteps.{all_states}
use Rattle.star_file.proofs.doc_reading.are_states.Goals as goal

pub loop-i-init : goal.loop-i-init
loop-i-init c = record {
  at = refl;
  states = record { states = []; kinds_are = refl; stored = tt; bytes_are = refl };
}

pub overflow_add-end : goal.overflow_add-end
overflow_add-end c =
    let w = steps.widths_take c.args.kinds.now c.loop-i.i c.loop-i-test.true in
    let b = steps.widths_bound c.args.kinds.now in
    omega (arith, w, b, c.loop-i.invariant.at, c.width.ensures, c.requires.at_most)

pub between-requires-clause-within : goal.between-requires-clause-within
between-requires-clause-within c =
    let w = steps.widths_take c.args.kinds.now c.loop-i.i c.loop-i-test.true in
    omega (arith, w, c.loop-i.invariant.at, c.width.ensures, c.requires.width)

pub take-requires : goal.take-requires
take-requires c = omega (arith, c.between.ensures.lengths, c.width.ensures)

pub returns-in-Err : goal.returns-in-Err
returns-in-Err c = λ s.
    let ks = c.args.kinds.now in
    let i = c.loop-i.i in
    let at = c.loop-i.at in
    let there = steps.state_there ks s.states c.args.bytes.now i at kinds.Count s.kinds_are s.stored
    s.bytes_are c.loop-i-test.true c.loop-i.invariant.at in
    let w : c.loop-i.at + c.width.result - c.loop-i.at ≡ width_of (get_or ks i kinds.Count) =
    omega (arith, c.width.ensures) in
    let again = c.take.ensures.again there.v there.kind_is there.stored
    (there.is ∙ sym (c.between.ensures.part ∙ ap (λ n. take n (drop at c.args.bytes.now)) w)) in
    cc (again, c.in-Err.is)

pub loop-i-preserved : goal.loop-i-preserved
loop-i-preserved c =
    let ks = c.args.kinds.now in
    let i = c.loop-i.i in
    let at = c.loop-i.at in
    let v = c.in-Ok.field-0 in
    let found = c.in-Ok.ensures.found in
    let so = c.loop-i.invariant.states in
    let new = so.states ++ v ∷ [] in
    let w : c.loop-i.at + c.width.result - c.loop-i.at ≡ c.width.result = omega arith in
    record {
      at = (λ j. c.loop-i.invariant.at j + c.width.ensures j)
          ∙ steps.widths_more ks i kinds.Count c.loop-i-test.true;
      states = record {
        states = new;
        kinds_are = steps.kinds_more so.states new v ks i kinds.Count c.loop-i-test.true
            so.kinds_are found.0 refl;
        stored = steps.stored_more so.states new v so.stored found.1 refl;
        bytes_are = steps.states_more c.args.bytes.now so.states new v at c.width.result
            so.bytes_are
            (found.2 ∙ c.between.ensures.part ∙ ap (λ n. take n (drop at c.args.bytes.now)) w) refl;
      };
    }

pub returns : goal.returns
returns c = all_states c.args.kinds.now c.args.bytes.now c.loop-i.i c.loop-i.at (omega arith)
    c.requires.width c.loop-i.invariant.at c.loop-i.invariant.states
