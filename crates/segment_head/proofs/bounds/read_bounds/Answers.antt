use Rattle.std.proofs.Common.{◌∙◌, length, sym}
use Rattle.std.proofs.lemmas.Bool.{eq-eqb, eqb-true, false≢true}
use Rattle.segment_file.specs.Bounds.{IsBound, NoBound}
use Rattle.segment_file.proofs.BoundReads.{at_nothing, at_some, bounds_end, bounds_more, bounds_over, no_greatest, no_least}
use Rattle.segment_head.proofs.bounds.read_bounds.Goals as goal

pub returns-in_default-2 : goal.returns-in_default-2
returns-in_default-2 c =
    let f = c.field-item.result in
    let first : IsBound f.kind c.loop-field.rest.now c.in-Some.least c.in-Some.following.now = at_some c.in_ok-least.field-0 (c.in-Some.least, c.in-Some.following) _ _ c.in-Some.is c.in_ok-least.ensures in
    let none : NoBound f.kind c.in-Some.following.now = at_nothing c.in_ok-greatest.field-0 _ _ c.in_default-2.is c.in_ok-greatest.ensures in
    no_greatest c.args.fields.now c.args.bytes.now c.loop-field.field-index f c.loop-field.bounds.items c.in-Some.least c.loop-field.rest.now c.in-Some.following.now c.loop-field-test.true c.field-item.is first none c.loop-field.invariant

pub loop-field-preserved : goal.loop-field-preserved
loop-field-preserved c =
    let f = c.field-item.result in
    let first : IsBound f.kind c.loop-field.rest.now c.in-Some.least c.in-Some.following.now = at_some c.in_ok-least.field-0 (c.in-Some.least, c.in-Some.following) _ _ c.in-Some.is c.in_ok-least.ensures in
    let second : IsBound f.kind c.in-Some.following.now c.in-Some-2.greatest c.in-Some-2.after.now = at_some c.in_ok-greatest.field-0 (c.in-Some-2.greatest, c.in-Some-2.after) _ _ c.in-Some-2.is c.in_ok-greatest.ensures in
    bounds_more c.args.fields.now c.args.bytes.now c.loop-field.field-index f c.loop-field.bounds.items c.push.new.self.items c.in-Some.least c.in-Some-2.greatest c.loop-field.rest.now c.in-Some.following.now c.in-Some-2.after.now
    c.loop-field-test.true c.field-item.is first second c.in_ok-push.ensures.items c.loop-field.invariant

pub returns-in_default : goal.returns-in_default
returns-in_default c =
    let f = c.field-item.result in
    let none : NoBound f.kind c.loop-field.rest.now = at_nothing c.in_ok-least.field-0 _ _ c.in_default.is c.in_ok-least.ensures in
    no_least c.args.fields.now c.args.bytes.now c.loop-field.field-index f c.loop-field.bounds.items c.loop-field.rest.now c.loop-field-test.true c.field-item.is none c.loop-field.invariant

pub returns-then-is_empty : goal.returns-then-is_empty
returns-then-is_empty c =
    let rest = c.loop-field.rest.now in
    bounds_end c.args.fields.now c.args.bytes.now c.loop-field.field-index c.loop-field.bounds.items rest c.loop-field-test.false (eqb-true (length rest) 0 (sym c.if-is_empty.ensures)) c.loop-field.invariant

pub returns-else-is_empty : goal.returns-else-is_empty
returns-else-is_empty c =
    let rest = c.loop-field.rest.now in
    bounds_over c.args.fields.now c.args.bytes.now c.loop-field.field-index c.loop-field.bounds.items rest c.loop-field-test.false (λ e. false≢true (c.if-is_empty.ensures ∙ eq-eqb (length rest) 0 e)) c.loop-field.invariant
