-- Aggregates are the same where they are equal.
use Rattle.std.proofs.Common.{◌≡◌, ℕ, Bool, true, false, ◌&&◌, Option, Some, None, refl, ap, ◌∙◌}
use Rattle.std.proofs.lemmas.Bool.{eqb-true, eq-eqb}
use Rattle.agg_laws.specs.declared.aggregate_kind.AggKind.{AggKind}
use Rattle.agg_laws.specs.declared.aggregate_kind.AggKind.TheVariants.{Count, Sum, Least, Greatest, Average}
use Rattle.table_schema.specs.declared.query.Agg.{Agg}
use Rattle.table_schema.specs.Aggs.{same_function, same_column, same_agg}

not_true : false ≡ true → ⊥
not_true e = cc

own_function : (k : AggKind) → same_function k k ≡ true
own_function Count = refl
own_function Sum = refl
own_function Least = refl
own_function Greatest = refl
own_function Average = refl

own_column : (c : Option ℕ) → same_column c c ≡ true
own_column None = refl
own_column (Some c) = eq-eqb c c refl

pub own_agg : (a : Agg) → same_agg a a ≡ true
own_agg a = ap (λ b. b && same_column a.column a.column) (own_function a.kind) ∙ own_column a.column

function_is : (j k : AggKind) → same_function j k ≡ true → j ≡ k
function_is Count Count e = refl
function_is Count Sum e = absurd (not_true e)
function_is Count Least e = absurd (not_true e)
function_is Count Greatest e = absurd (not_true e)
function_is Count Average e = absurd (not_true e)
function_is Sum Count e = absurd (not_true e)
function_is Sum Sum e = refl
function_is Sum Least e = absurd (not_true e)
function_is Sum Greatest e = absurd (not_true e)
function_is Sum Average e = absurd (not_true e)
function_is Least Count e = absurd (not_true e)
function_is Least Sum e = absurd (not_true e)
function_is Least Least e = refl
function_is Least Greatest e = absurd (not_true e)
function_is Least Average e = absurd (not_true e)
function_is Greatest Count e = absurd (not_true e)
function_is Greatest Sum e = absurd (not_true e)
function_is Greatest Least e = absurd (not_true e)
function_is Greatest Greatest e = refl
function_is Greatest Average e = absurd (not_true e)
function_is Average Count e = absurd (not_true e)
function_is Average Sum e = absurd (not_true e)
function_is Average Least e = absurd (not_true e)
function_is Average Greatest e = absurd (not_true e)
function_is Average Average e = refl

column_is : (c d : Option ℕ) → same_column c d ≡ true → c ≡ d
column_is None None e = refl
column_is None (Some d) e = absurd (not_true e)
column_is (Some c) None e = absurd (not_true e)
column_is (Some c) (Some d) e = ap Some (eqb-true c d e)

both : (a b : Bool) → (a && b) ≡ true → (a ≡ true) × (b ≡ true)
both true b e = (refl, e)
both false b e = absurd (not_true e)

pub agg_is : (a b : Agg) → same_agg a b ≡ true → a ≡ b
agg_is a b e =
    let parts = both (same_function a.kind b.kind) (same_column a.column b.column) e in
    ap (λ k. record { kind = k; column = a.column }) (function_is a.kind b.kind parts.0)
    ∙ ap (λ c. record { kind = b.kind; column = c }) (column_is a.column b.column parts.1)
