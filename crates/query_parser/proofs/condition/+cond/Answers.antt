use Rattle.std.proofs.Common.{◌≡◌, true, ap, ◌∙◌, rules, arith}
use Rattle.std.proofs.lemmas.Grind.{common_steps}
use Rattle.query_tokens.specs.declared.token.Kind.TheVariants.{And, Or}
use Rattle.query_parser.specs.Reading.{separated_from, sees}
use Rattle.query_parser.specs.Cond as spec
use Rattle.query_tokens.specs.Stream.{kind}
use Rattle.query_parser.specs.Shrinks.{factor_shrinks, conjunction_shrinks}
use Rattle.query_parser.proofs.Factors.{factor_test, factor_refuse}
use Rattle.query_parser.proofs.Turns.{turns_more, turns_on, turns_less, deeper}
use Rattle.query_parser.proofs.condition.+cond.Goals as goal

pub conjunction-returns-in_err-member : goal.conjunction-returns-in_err-member
unfolding separated_from spec.conjunction
conjunction-returns-in_err-member g t c =
    let b = g.C.Condition in
    let e = turns_more And (spec.factor b.leaf b.joints c.args.depth) c.args.tokens.now c.turns.found c.turns.tokens c.turns.invariant in
    first_of (search rules, grind (arith, common_steps))

pub conjunction-returns-then-not-eat : goal.conjunction-returns-then-not-eat
unfolding separated_from spec.conjunction
conjunction-returns-then-not-eat g t c =
    let b = g.C.Condition in
    let e = turns_more And (spec.factor b.leaf b.joints c.args.depth) c.args.tokens.now c.turns.found c.turns.tokens c.turns.invariant in
    first_of (search rules, grind (arith, common_steps))

pub conjunction-turns-smaller : goal.conjunction-turns-smaller
conjunction-turns-smaller g t c =
    let b = g.C.Condition in
    let shorter = factor_shrinks b.leaf b.joints g.met.C.Condition.takes c.args.depth in
    let less = turns_less And c.turns.tokens c.factor.new.tokens (shorter c.turns.tokens c.factor.new.tokens c.in_ok-member.member c.in_ok-member.ensures) in
    first_of (search rules, grind (arith, common_steps))

pub conjunction-turns-preserved : goal.conjunction-turns-preserved
conjunction-turns-preserved g t c =
    let b = g.C.Condition in
    let shorter = factor_shrinks b.leaf b.joints g.met.C.Condition.takes c.args.depth in
    let more : sees And c.factor.new.tokens ≡ true = first_of (search rules, grind (arith, common_steps)) in
    let t = turns_on And (spec.factor b.leaf b.joints c.args.depth) c.args.tokens.now c.turns.found c.turns.tokens c.factor.new.tokens c.in_ok-member.member
    (shorter c.turns.tokens c.factor.new.tokens c.in_ok-member.member c.in_ok-member.ensures) c.turns.invariant c.in_ok-member.ensures more in
    rw (c.in_ok-push.ensures.ok, c.eat.ensures.after) t

pub cond-returns-in_err-member : goal.cond-returns-in_err-member
unfolding separated_from spec.cond
cond-returns-in_err-member g t c =
    let b = g.C.Condition in
    let e = turns_more Or (spec.conjunction b.joints (spec.factor b.leaf b.joints c.args.depth)) c.args.tokens.now c.turns.found c.turns.tokens c.turns.invariant in
    first_of (search rules, grind (arith, common_steps))

pub cond-returns-then-not-eat : goal.cond-returns-then-not-eat
unfolding separated_from spec.cond
cond-returns-then-not-eat g t c =
    let b = g.C.Condition in
    let e = turns_more Or (spec.conjunction b.joints (spec.factor b.leaf b.joints c.args.depth)) c.args.tokens.now c.turns.found c.turns.tokens c.turns.invariant in
    first_of (search rules, grind (arith, common_steps))

pub cond-turns-smaller : goal.cond-turns-smaller
cond-turns-smaller g t c =
    let b = g.C.Condition in
    let shorter = conjunction_shrinks b.joints (spec.factor b.leaf b.joints c.args.depth) (factor_shrinks b.leaf b.joints g.met.C.Condition.takes c.args.depth) in
    let less = turns_less Or c.turns.tokens c.conjunction.new.tokens (shorter c.turns.tokens c.conjunction.new.tokens c.in_ok-member.member c.in_ok-member.ensures) in
    first_of (search rules, grind (arith, common_steps))

pub cond-turns-preserved : goal.cond-turns-preserved
cond-turns-preserved g t c =
    let b = g.C.Condition in
    let shorter = conjunction_shrinks b.joints (spec.factor b.leaf b.joints c.args.depth) (factor_shrinks b.leaf b.joints g.met.C.Condition.takes c.args.depth) in
    let more : sees Or c.conjunction.new.tokens ≡ true = first_of (search rules, grind (arith, common_steps)) in
    let t = turns_on Or (spec.conjunction b.joints (spec.factor b.leaf b.joints c.args.depth)) c.args.tokens.now c.turns.found c.turns.tokens c.conjunction.new.tokens c.in_ok-member.member
    (shorter c.turns.tokens c.conjunction.new.tokens c.in_ok-member.member c.in_ok-member.ensures) c.turns.invariant c.in_ok-member.ensures more in
    rw (c.in_ok-push.ensures.ok, c.eat.ensures.after) t

pub factor-returns-then-depth-eq0 : goal.factor-returns-then-depth-eq0
unfolding spec.factor
factor-returns-then-depth-eq0 g t c =
    let b = g.C.Condition in
    let e : c.args.depth ≡ 0 = omega arith in
    let f = ap (λ n. spec.factor b.leaf b.joints n c.args.tokens.now) e in
    first_of (search rules, grind (arith, common_steps))

pub factor-returns-then-depth-eq0-2 : goal.factor-returns-then-depth-eq0-2
unfolding spec.factor
factor-returns-then-depth-eq0-2 g t c =
    let b = g.C.Condition in
    let e : c.args.depth ≡ 0 = omega arith in
    let f = ap (λ n. spec.factor b.leaf b.joints n c.args.tokens.now) e in
    first_of (search rules, grind (arith, common_steps))

pub factor-returns-in_err-inner-in-Not : goal.factor-returns-in_err-inner-in-Not
unfolding spec.factor
factor-returns-in_err-inner-in-Not g t c =
    let b = g.C.Condition in
    let e = deeper (λ n. spec.factor b.leaf b.joints n c.args.tokens.now) c.args.depth (omega arith) in
    first_of (search rules, grind (arith, common_steps))

pub factor-returns-in_err-inner-in-LParen : goal.factor-returns-in_err-inner-in-LParen
unfolding spec.factor
factor-returns-in_err-inner-in-LParen g t c =
    let b = g.C.Condition in
    let e = deeper (λ n. spec.factor b.leaf b.joints n c.args.tokens.now) c.args.depth (omega arith) in
    first_of (search rules, grind (arith, common_steps))

pub factor-returns-in_err-expect-in-LParen : goal.factor-returns-in_err-expect-in-LParen
unfolding spec.factor
factor-returns-in_err-expect-in-LParen g t c =
    let b = g.C.Condition in
    let e = deeper (λ n. spec.factor b.leaf b.joints n c.args.tokens.now) c.args.depth (omega arith) in
    first_of (search rules, grind (arith, common_steps))

pub factor-returns-in_ok-not-in-Not : goal.factor-returns-in_ok-not-in-Not
unfolding spec.factor
factor-returns-in_ok-not-in-Not g t c =
    let b = g.C.Condition in
    let e = deeper (λ n. spec.factor b.leaf b.joints n c.args.tokens.now) c.args.depth (omega arith) in
    first_of (search rules, grind (arith, common_steps))

pub factor-returns-in_ok-expect-in-LParen : goal.factor-returns-in_ok-expect-in-LParen
unfolding spec.factor
factor-returns-in_ok-expect-in-LParen g t c =
    let b = g.C.Condition in
    let e = deeper (λ n. spec.factor b.leaf b.joints n c.args.tokens.now) c.args.depth (omega arith) in
    first_of (search rules, grind (arith, common_steps))

pub factor-returns-in-Name : goal.factor-returns-in-Name
factor-returns-in-Name g t c =
    let b = g.C.Condition in
    let e = factor_test b.leaf b.joints c.args.depth c.args.tokens.now (grind arith) in
    rw e c.read_test.ensures

pub factor-returns-in_default : goal.factor-returns-in_default
factor-returns-in_default g t c =
    let b = g.C.Condition in
    let same : c.peek.result ≡ kind c.args.tokens.now = c.peek.ensures in
    let e = factor_refuse b.leaf b.joints c.args.depth c.args.tokens.now (λ h. c.in_default.not-Name (same ∙ h)) (λ h. c.in_default.not-LParen (same ∙ h)) (λ h. c.in_default.not-Not (same ∙ h)) in
    λ _. rw c.refuse.ensures e
