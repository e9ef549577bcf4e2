use Rattle.table_schema.specs.declared.query.Conjunct.{Conjunct}
use Rattle.text_scan.specs.Named.{IsTestMarked}
use Rattle.text_scan.proofs.NamedLemmas.{Below}
use Rattle.text_scan.proofs.named.mark_conjuncts.Given as goal

abbrev pub invariant-conjuncts : goal.invariant-conjuncts
invariant-conjuncts l = Below Conjunct (IsTestMarked l.marks) l.conjuncts l.i
