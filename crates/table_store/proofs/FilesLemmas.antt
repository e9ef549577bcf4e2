-- Told files by their names.
use Rattle.std.proofs.Common.{◌≡◌, ◌≢◌, ℕ, false, List, Option, Some, None, refl}
use Rattle.std.specs.FinMap as map
use Rattle.std.specs.Ordering.{eq_by_cmp, is_eq}
use Rattle.std.specs.declared.cmp.Ordering.TheVariants.{Less, Equal, Greater}
use Rattle.outside.specs.Files.{Files, Has, IsLengthOf, name_order}

pub same_name : (x y : List ℕ) → name_order x y ≡ Equal → x ≡ y
same_name = map.slice_cmp-IsAntisymmetric map.nat_cmp-IsAntisymmetric

pub other_name : (q name : List ℕ) → q ≢ name → eq_by_cmp name_order q name ≡ false
other_name q name ne = elim (name_order q name) as (λ r. name_order q name ≡ r → is_eq r ≡ false) [ Less ↦ λ e. refl | Equal ↦ λ e. absurd (ne (same_name q name e)) | Greater ↦ λ e. refl ] refl

-- a file that has a length is there
pub long_there : (held : Option Files) (name : List ℕ) (n : ℕ) → IsLengthOf held name n → Has held name
long_there None name n there = tt
long_there (Some files) name n (bytes, got, lengths) = (bytes, got)
