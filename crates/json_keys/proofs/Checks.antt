-- Checks that found nothing.
use Rattle.std.proofs.Common.{◌≡◌, Bool, true, false, ◌&&◌, None, refl, ap, ◌∙◌}
use Rattle.json_keys.specs.declared.fault.KeyKind.{KeyKind}
use Rattle.table_schema.specs.Names.{Text}
use Rattle.json_keys.specs.Faults.{fault_unless, fault_if}

pub unless_none : (b : Bool) (kind : KeyKind) (path : Text) → fault_unless b kind path ≡ None → b ≡ true
unless_none true kind path e = refl
unless_none false kind path e = absurd (cc)

pub if_none : (b : Bool) (kind : KeyKind) (path : Text) → fault_if b kind path ≡ None → b ≡ false
if_none true kind path e = absurd (cc)
if_none false kind path e = refl

pub both_true : (a b : Bool) → a ≡ true → b ≡ true → (a && b) ≡ true
both_true a b p q = ap (λ x. x && b) p ∙ q
