-- Segments where they stand, one after the other.
use Rattle.std.proofs.Common.{◌≡◌, ◌∙◌, ◌+◌, ℕ, zero, suc, true, List, [], ◌∷◌, drop, length, map, slice_get, Option, Some, None, refl, ap, arith}
use Rattle.std.specs.Prelude.{is_some}
use Rattle.std.specs.List.{AllByRecursion}
use Rattle.std.proofs.lemmas.Bool.{false≢true}
use Rattle.segment_head.specs.Stored.{names_of}
use Rattle.segment_head.specs.declared.stored.Stored.{Stored}
use Rattle.cursors.specs.Added.{stored_in}

-- each of some files is there
abbrev pub AreThere : List (Option (List ℕ)) → Type 0
AreThere files = AllByRecursion (λ file. is_some file ≡ true) files

pub there_at : (files : List (Option (List ℕ))) (at : ℕ) → AreThere files → slice_get files at ≡ Some None → ⊥
there_at [] at all got = absurd cc
there_at (None ∷ files) zero all got = absurd (false≢true all.0)
there_at (Some file ∷ files) zero all got = absurd cc
there_at (file ∷ files) (suc at) all got = there_at files at all.1 got

pub stored_next : (names : List (List ℕ)) (files : List (Option (List ℕ))) (at : ℕ) (name file : List ℕ) → slice_get names at ≡ Some name → slice_get files at ≡ Some (Some file)
    → stored_in (drop at names) (drop at files) ≡ record { file = file; name = name } ∷ stored_in (drop (suc at) names) (drop (suc at) files)
stored_next [] files at name file got has = absurd cc
stored_next (n ∷ names) [] at name file got has = absurd cc
stored_next (n ∷ names) (None ∷ files) zero name file got has = absurd cc
stored_next (n ∷ names) (Some f ∷ files) zero name file got has =
    let same : n ≡ name = cc in
    let one : f ≡ file = cc in
    λ i. record { file = one i; name = same i } ∷ stored_in names files
stored_next (n ∷ names) (f ∷ files) (suc at) name file got has = stored_next names files at name file got has

-- as many segments as names, and each has its name
pub stored_names : (names : List (List ℕ)) (files : List (Option (List ℕ))) → length files ≡ length names → AreThere files → names_of (stored_in names files) ≡ names
stored_names [] files same all = refl
stored_names (n ∷ names) [] same all = absurd cc
stored_names (n ∷ names) (None ∷ files) same all = absurd (false≢true all.0)
stored_names (n ∷ names) (Some f ∷ files) same all = ap (λ l. n ∷ l) (stored_names names files (omega (arith, same)) all.1)
