use Rattle.std.proofs.Common.{◌<◌, ◌∙◌, sym, ap₂, arith}
use Rattle.std.specs.Cmp.Lexicographic.{slice_cmp}
use Rattle.std.specs.Ordering.{nat_cmp}
use Rattle.dictionary.proofs.KeyLemmas.{greater-by-head, less-by-head}
use Rattle.dictionary.specs.Keys.{head}
use Rattle.dictionary.proofs.keyed.KeyedOrd.cmp.Goals as goal

pub returns-then-self-other : goal.returns-then-self-other
returns-then-self-other c =
    let a = c.self.inside.text.now in
    let b = c.other.inside.text.now in
    let less : head 16 a < head 16 b = omega (arith, c.self.invariant.is, c.other.invariant.is, c.if-self-other.true) in
    sym (ap₂ (slice_cmp nat_cmp) (sym c.self.view_is) (sym c.other.view_is) ∙ less-by-head 16 a b c.self.invariant.bytes c.other.invariant.bytes less)

pub returns-then-other-self : goal.returns-then-other-self
returns-then-other-self c =
    let a = c.self.inside.text.now in
    let b = c.other.inside.text.now in
    let less : head 16 b < head 16 a = omega (arith, c.self.invariant.is, c.other.invariant.is, c.if-other-self.true) in
    sym (ap₂ (slice_cmp nat_cmp) (sym c.self.view_is) (sym c.other.view_is) ∙ greater-by-head 16 a b c.self.invariant.bytes c.other.invariant.bytes less)
