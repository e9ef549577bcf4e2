use Rattle.std.proofs.Common.{◌≡◌, ◌∙◌, ◌+◌, ◌-◌, ℕ, List, length, set, take, ap, sym, arith}
use Rattle.std.proofs.Math.ListN.{length-set}
use Rattle.std.proofs.lemmas.List.{get_or-set_other, get_or-set_same, take_all}
use Rattle.coded_columns.specs.Keys.{key_at}
use Rattle.coded_columns.proofs.KeyIdSteps.{id-first, id-put, key-last}
use Rattle.coded_columns.proofs.key_ids.put_digits.Goals as goal

pub loop-left-init : goal.loop-left-init
loop-left-init c = record {
  within = omega arith;
  rest = λ row lt e. ap (λ (l : List ℕ). key_at c.args.segment.now l row) (take_all (length c.args.groups.now) c.args.groups.now (omega arith)) ∙ e;
  put = λ row lt e j le j_lt. absurd (omega (arith, le, j_lt));
}

pub loop-left-preserved : goal.loop-left-preserved
loop-left-preserved c =
    let segment = c.args.segment.now in
    let groups : List ℕ = c.args.groups.now in
    let inv = c.loop-left.invariant in
    let left : ℕ = c.loop-left.left in
    let i : ℕ = left - 1 in
    let next : left ≡ i + 1 = omega (arith, c.loop-left-test.true) in
    record {
      within = omega (arith, inv.within);
      rest = λ row lt e.
          sym (c.put_last-rest.ensures.rest row (key_at segment (take i groups) row) lt (key-last segment groups row left i c.loop-left.rest next inv.within (inv.rest row lt e)));
      put = λ row lt e.
          id-put segment groups row left i c.loop-left.ids c.put_last-rest.new.ids next
          (c.put_last-rest.ensures.own row (key_at segment (take i groups) row) lt (key-last segment groups row left i c.loop-left.rest next inv.within (inv.rest row lt e)))
          c.put_last-rest.ensures.others (inv.put row lt e);
    }

pub returns-then-left-eq0 : goal.returns-then-left-eq0
returns-then-left-eq0 c = λ row lt e. record {
  count = omega (arith, c.loop-left.auto.ids, c.requires.same);
  each = λ j j_lt. c.loop-left.invariant.put row lt e j (omega (arith, c.if-left-eq0.true)) j_lt;
}

pub bounds-ids-0 : goal.bounds-ids-0
bounds-ids-0 c = omega (arith, c.loop-left.invariant.within, c.if-left-eq0.false, c.loop-left.auto.ids, c.requires.same)

pub returns : goal.returns
returns c = λ row lt e.
    let segment = c.args.segment.now in
    let groups : List ℕ = c.args.groups.now in
    let inv = c.loop-left.invariant in
    let left : ℕ = c.loop-left.left in
    let rest : ℕ = c.loop-left.rest in
    let ids : List ℕ = c.loop-left.ids in
    let one : left ≡ 1 = omega (arith, c.loop-left-test.false, c.if-left-eq0.false) in
    let many : length ids ≡ length groups = omega (arith, c.loop-left.auto.ids, c.requires.same) in
    id-first segment groups row left rest ids (set ids 0 rest) one inv.within (inv.rest row lt e)
    (get_or-set_same ids 0 rest 0 (omega (arith, one, inv.within, many)))
    (λ j ne. get_or-set_other ids 0 j rest 0 ne) (inv.put row lt e) (length-set ids 0 rest ∙ many)
