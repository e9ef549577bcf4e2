-- The name of a file that is kept open.
use Rattle.std.proofs.Common.{◌≡◌, ◌≢◌, ℕ, List, Option, None, Some, refl}
use Rattle.std.specs.Prelude.{MatchOption}
use Rattle.std.specs.Option.{ForSome}
use Rattle.host_devices.specs.Names.{AreEnds}

-- what is kept has a name that fits the ends of it
pub kept_named : {X : Type 0} (kept : Option X) (name_of : X → List ℕ) (name : List ℕ) (size first last : ℕ) → kept ≢ None → ForSome kept (λ k. AreEnds (name_of k) size first last)
    → ((bytes : List ℕ) → AreEnds bytes size first last → bytes ≡ name) → MatchOption kept ⊥ (λ k. name_of k ≡ name)
kept_named None name_of name size first last some known fits = absurd (some refl)
kept_named (Some k) name_of name size first last some known fits = fits (name_of k) (known k refl)
