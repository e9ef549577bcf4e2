-- What is told of a device.
use Rattle.std.specs.Prelude.{◌≡◌, ◌↔◌, Option, Some, None}
use Rattle.outside.specs.Files.{Files}

never : {A B : Type 0} (x : A) → Some x ≡ None → B
never x e = cc

-- a device that tells both tells both
pub tells_both : (held parts : Files) → (Some held ≡ None) ↔ (Some parts ≡ None)
tells_both held parts = (never held, never parts)

-- a device that tells neither tells neither
pub tells_neither : (◌≡◌ {A = Option Files} None None) ↔ (◌≡◌ {A = Option Files} None None)
tells_neither = (λ e. e, λ e. e)
