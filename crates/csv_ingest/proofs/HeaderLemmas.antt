-- The names of a header in order.
use Rattle.std.proofs.Common.{◌≡◌, ◌∙◌, ◌<◌, ◌≤◌, ◌+◌, ◌-◌, ◌++◌, ℕ, List, [], ◌∷◌, length, take, drop, map, get_or, Result, Ok, Err, ap, arith}
use Rattle.std.specs.List.{enumerate_from}
use Rattle.std.proofs.lemmas.List.{get_or-map, length-map, take-map}
use Rattle.csv_row.specs.declared.fault.CsvFault.TheVariants.{At}
use Rattle.csv_row.specs.declared.fault.CsvKind.{CsvKind}
use Rattle.csv_row.specs.InOrder.{all_or_first, after}
use Rattle.csv_ingest.specs.Rows.{header_of, name_at}
use Rattle.csv_row.specs.Row.{placed}
use Rattle.csv_row.proofs.InOrder.{after-none}
use Rattle.csv_ingest.proofs.StepLemmas.{step-one, step-fault, step-end}

-- the names of a header, read up to a place
abbrev pub NamesTo : {A X : Type 0} → (List (List ℕ) → List ℕ → Result A CsvKind) → (X → List ℕ) → List X → ℕ → List A → Type 0
NamesTo reading f xs i done = header_of reading (map f xs) ≡ after done (all_or_first (map (name_at reading (map f xs)) (enumerate_from (1 + i) (drop i (map f xs)))))

module _ {A X : Type 0} (reading : List (List ℕ) → List ℕ → Result A CsvKind) (f : X → List ℕ) (xs : List X) (i : ℕ) (d : X) (lt : i < length xs) (done : List A) where
  within : i < length (map f xs)
  within = omega (arith, lt, length-map xs f)

  at_place : name_at reading (map f xs) (1 + i, get_or (map f xs) i []) ≡ placed 0 (1 + i) (reading (map f (take i xs)) (f (get_or xs i d)))
  at_place =
      let e : 1 + i - 1 ≡ i = omega arith in
      ap (λ k. placed 0 (1 + i) (reading (take k (map f xs)) (get_or (map f xs) i []))) e
      ∙ ap (λ ns. placed 0 (1 + i) (reading ns (get_or (map f xs) i []))) (take-map f i xs)
      ∙ ap (λ n. placed 0 (1 + i) (reading (map f (take i xs)) n)) (get_or-map f xs i d [] lt)

  pub names-more : (a : A) → reading (map f (take i xs)) (f (get_or xs i d)) ≡ Ok a → NamesTo reading f xs i done → NamesTo reading f xs (i + 1) (done ++ a ∷ [])
  names-more a ok so_far = step-one (name_at reading (map f xs)) 1 i (map f xs) [] done a (header_of reading (map f xs)) within (at_place ∙ ap (placed 0 (1 + i)) ok) so_far

  -- the same, whatever the names were
  pub names-on : (a : A) → reading (map f (take i xs)) (f (get_or xs i d)) ≡ Ok a → NamesTo reading f xs i done → (all : List A) × NamesTo reading f xs (i + 1) all
  names-on a ok so_far = (done ++ a ∷ [], names-more a ok so_far)

  pub names-fault : (kind : CsvKind) → reading (map f (take i xs)) (f (get_or xs i d)) ≡ Err kind → NamesTo reading f xs i done → header_of reading (map f xs) ≡ Err (At kind 0 (1 + i))
  names-fault kind bad so_far = step-fault (name_at reading (map f xs)) 1 i (map f xs) [] done (At kind 0 (1 + i)) (header_of reading (map f xs)) within (at_place ∙ ap (placed 0 (1 + i)) bad) so_far

pub names-begin : {A X : Type 0} (reading : List (List ℕ) → List ℕ → Result A CsvKind) (f : X → List ℕ) (xs : List X) → NamesTo reading f xs 0 []
names-begin reading f xs = after-none (header_of reading (map f xs))

pub names-end : {A X : Type 0} (reading : List (List ℕ) → List ℕ → Result A CsvKind) (f : X → List ℕ) (xs : List X) (i : ℕ) (done : List A) → length xs ≤ i → NamesTo reading f xs i done → header_of reading (map f xs) ≡ Ok done
names-end reading f xs i done le so_far = step-end (name_at reading (map f xs)) 1 i (map f xs) done (header_of reading (map f xs)) (omega (arith, le, length-map xs f)) so_far
