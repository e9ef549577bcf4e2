-- What a loop makes of the elements of a list, one after the other.
use Rattle.std.proofs.Common.{◌≡◌, ◌∙◌, ◌<◌, ◌≤◌, ◌+◌, ℕ, List, [], ◌∷◌, ◌++◌, length, map, get_or, take, Option, Some, sym, ap}
use Rattle.std.proofs.lemmas.List.{map-append, take_all, take_more}
use Rattle.segment_file.specs.Names.{file_of}

-- the file of a segment of this name where it is live
abbrev pub live_file : List ℕ → Option (List ℕ)
live_file name = Some (file_of name)

module _ {X Y : Type 0} (f : X → Y) (xs : List X) (at : ℕ) where
  pub map_step : (x : X) (y : Y) (out new : List Y) → at < length xs → x ≡ get_or xs at x → y ≡ f x → new ≡ out ++ y ∷ [] → out ≡ map f (take at xs) → new ≡ map f (take (at + 1) xs)
  map_step x y out new lt is made kept so_far =
      kept
      ∙ (λ i. so_far i ++ (made ∙ ap f is) i ∷ [])
      ∙ sym (ap (map f) (take_more xs at x lt) ∙ map-append f (take at xs) (get_or xs at x ∷ []))

  pub map_stop : (out : List Y) → length xs ≤ at → out ≡ map f (take at xs) → out ≡ map f xs
  map_stop out over so_far = so_far ∙ ap (map f) (take_all at xs over)
