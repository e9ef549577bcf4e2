-- What a call answers, where the checks before it found nothing.
use Rattle.std.proofs.Common.{◌≡◌, ℕ, ◌≤◌, nat_le, cond, true, length, map, arith, rules, tests, List, Some, None, Result, refl, sym, ap, ◌∙◌, subst}
use Rattle.serde_json.specs.Data.{Data}
use Rattle.serde_json.specs.View.{view}
use Rattle.serde_json.specs.declared.value.Value.{Value}
use Rattle.json_keys.specs.declared.fault.KeyKind.{KeyKind}
use Rattle.json_keys.specs.declared.fault.TextFault.{TextFault}
use Rattle.json_keys.specs.declared.fault.TextFault.TheVariants.{At}
use Rattle.table_schema.specs.Names.{Text}
use Rattle.json_keys.specs.Faults.{Finding, fault_unless, Gives, Refuses}
use Rattle.json_keys.proofs.Places.{length-map}
use Rattle.table_schema.specs.Firsts.{or_else}

pub or_else-none : (f : Finding) → or_else f None ≡ f
or_else-none None = refl
or_else-none (Some fault) = refl

-- two checks, of which the first found nothing
pub second_of_two : (a b : Finding) → a ≡ None → b ≡ or_else a (or_else b None)
second_of_two a b none = sym (ap (λ f. or_else f (or_else b None)) none ∙ or_else-none b)

-- three checks, of which the first two found nothing
pub third_of_three : (a b f : Finding) → a ≡ None → b ≡ None → f ≡ or_else a (or_else b (or_else f None))
third_of_three a b f none also = sym (ap (λ g. or_else g (or_else b (or_else f None))) none ∙ ap (λ g. or_else g (or_else f None)) also ∙ or_else-none f)

pub Gives-same : {A : Type 0} (f g : Finding) (u v : A) (r : Result A TextFault) → f ≡ g → u ≡ v → Gives f u r → Gives g v r
Gives-same f g u v r same equal gives = subst (λ h. Gives h v r) same (subst (λ w. Gives f w r) equal gives)

pub fault_unless-le : (n m : ℕ) (kind : KeyKind) (path : Text) → n ≤ m → fault_unless (nat_le n m) kind path ≡ None
fault_unless-le n m kind path le =
    let passes : nat_le n m ≡ true = search (rules, tests) in
    ap (λ b. cond b None (Some (At kind path))) passes

-- an array has no more items than the values that it is read from
pub fault_unless-few : (vs : List Value) (ds : List Data) (m : ℕ) (kind : KeyKind) (path : Text) → map view vs ≡ ds → length vs ≤ m → fault_unless (nat_le (length ds) m) kind path ≡ None
fault_unless-few vs ds m kind path same le = fault_unless-le (length ds) m kind path (omega (arith, ap length same, length-map view vs))

pub second_refuses : (a b c rest : Finding) (e : TextFault) → a ≡ None → c ≡ b → Refuses c e → Refuses (or_else a (or_else b rest)) e
second_refuses a b c rest e none same refuses = λ other. ap (λ f. or_else f (or_else b rest)) none ∙ ap (λ g. or_else g rest) (sym same ∙ refuses other)
