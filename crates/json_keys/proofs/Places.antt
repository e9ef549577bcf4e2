-- A walk over the items of an array, place by place.
use Rattle.std.proofs.Common.{◌≡◌, ℕ, suc, length-take, ◌+◌, ◌<◌, List, [], ◌∷◌, ◌++◌, length, get_or, take, drop, map, None, refl, sym, ap, ◌∙◌, arith}
use Rattle.std.proofs.lemmas.List.{take_more, drop_more}
use Rattle.json_keys.specs.declared.fault.TextFault.{TextFault}
use Rattle.json_keys.specs.Faults.{Finding, Refuses}
use Rattle.table_schema.specs.Firsts.{or_else, by_place}

pub map-append : {X Y : Type 0} (f : X → Y) (xs ys : List X) → map f (xs ++ ys) ≡ map f xs ++ map f ys
map-append f [] ys = refl
map-append f (x ∷ xs) ys = ap (λ zs. f x ∷ zs) (map-append f xs ys)

-- what is done after one more item
pub done_more : {X Y : Type 0} (f : X → Y) (xs : List X) (i : ℕ) (x : X) → i < length xs → x ≡ get_or xs i x → map f (take (i + 1) xs) ≡ map f (take i xs) ++ f x ∷ []
done_more f xs i x within is = ap (map f) (take_more xs i x within) ∙ map-append f (take i xs) (get_or xs i x ∷ []) ∙ ap (λ y. map f (take i xs) ++ f y ∷ []) (sym is)

-- what is left before one item
pub left_more : {X Y : Type 0} (f : X → Y) (xs : List X) (i : ℕ) (x : X) → i < length xs → x ≡ get_or xs i x → map f (drop i xs) ≡ f x ∷ map f (drop (i + 1) xs)
left_more f xs i x within is = ap (map f) (drop_more xs i x within) ∙ ap (λ y. f y ∷ map f (drop (i + 1) xs)) (sym is)

pub by_place-more : {X A : Type 0} (f : X → A) (check : List A → A → Finding) (xs : List X) (i : ℕ) (x : X) → i < length xs → x ≡ get_or xs i x
    → by_place check (map f (take i xs)) (map f (drop i xs))
    ≡ or_else (check (map f (take i xs)) (f x)) (by_place check (map f (take (i + 1) xs)) (map f (drop (i + 1) xs)))
by_place-more f check xs i x within is =
    ap (by_place check (map f (take i xs))) (left_more f xs i x within is)
    ∙ ap (λ before. or_else (check (map f (take i xs)) (f x)) (by_place check before (map f (drop (i + 1) xs)))) (sym (done_more f xs i x within is))

pub length-map : {X Y : Type 0} (f : X → Y) (xs : List X) → length (map f xs) ≡ length xs
length-map f [] = refl
length-map f (x ∷ xs) = ap suc (length-map f xs)

-- the number of items before a place is the place
pub places_done : {X Y : Type 0} (f : X → Y) (xs : List X) (i : ℕ) → i < length xs → length (map f (take i xs)) ≡ i
places_done f xs i within = length-map f (take i xs) ∙ omega (arith, length-take i xs)

-- one place of a walk, at which the check finds `here`
module _ {X A : Type 0} (f : X → A) (check : List A → A → Finding) (xs : List X) (i : ℕ) (x : X) (within : i < length xs) (is : x ≡ get_or xs i x)
    (walk : by_place check (map f (take i xs)) (map f (drop i xs)) ≡ by_place check [] (map f xs))
    (here : Finding) (same : here ≡ check (map f (take i xs)) (f x)) where
  step : by_place check [] (map f xs) ≡ or_else here (by_place check (map f (take (i + 1) xs)) (map f (drop (i + 1) xs)))
  step = sym walk ∙ by_place-more f check xs i x within is ∙ ap (λ g. or_else g (by_place check (map f (take (i + 1) xs)) (map f (drop (i + 1) xs)))) (sym same)

  pub refused_here : (e : TextFault) → Refuses here e → Refuses (by_place check [] (map f xs)) e
  refused_here e refuses = λ other. step ∙ ap (λ g. or_else g (by_place check (map f (take (i + 1) xs)) (map f (drop (i + 1) xs)))) (refuses other)

  pub passed_here : here ≡ None → by_place check (map f (take (i + 1) xs)) (map f (drop (i + 1) xs)) ≡ by_place check [] (map f xs)
  passed_here passes = sym (step ∙ ap (λ g. or_else g (by_place check (map f (take (i + 1) xs)) (map f (drop (i + 1) xs)))) passes)
