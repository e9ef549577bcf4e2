-- Lists that a loop writes item by item from another list.
use Rattle.std.proofs.Common.{◌≡◌, ℕ, ◌+◌, ◌<◌, ◌≤◌, List, [], ◌∷◌, ◌++◌, length, get_or, map, take}
use Rattle.std.proofs.Common.{drop, sym, ap, ◌∙◌, arith, append_assoc, length-append, length-drop}
use Rattle.std.proofs.lemmas.List.{take_more, take_all, map_more, length-take, get_or_append_left}
use Rattle.std.proofs.lemmas.List.{get_or-drop}

-- one item more of a list that is copied
pub copied_more : {A : Type 0} (front xs out new : List A) (i : ℕ) (d : A) → i < length xs
    → out ≡ front ++ take i xs → d ≡ get_or xs i d → new ≡ out ++ (d ∷ [])
    → new ≡ front ++ take (i + 1) xs
copied_more front xs out new i d lt is at more =
    more ∙ ap (λ x. out ++ (x ∷ [])) at ∙ ap (λ l. l ++ (get_or xs i d ∷ [])) is
    ∙ append_assoc front (take i xs) (get_or xs i d ∷ [])
    ∙ ap (λ l. front ++ l) (sym (take_more xs i d lt))

pub copied_all : {A : Type 0} (front xs out : List A) (i : ℕ) → length xs ≤ i
    → out ≡ front ++ take i xs → out ≡ front ++ xs
copied_all front xs out i all is = is ∙ ap (λ l. front ++ l) (take_all i xs all)

-- all items up to a number, at the end of the loop
pub copied_ended : {A : Type 0} (front xs out : List A) (i n : ℕ) → i ≤ n → n ≤ i
    → out ≡ front ++ take i xs → out ≡ front ++ take n xs
copied_ended front xs out i n low high is =
    let e : i ≡ n = omega arith in is ∙ ap (λ k. front ++ take k xs) e

-- there is room for one item more
pub copied_fits : {A : Type 0} (front xs out : List A) (i n had has : ℕ) → i < n
    → length front + n ≤ had → had ≤ has → out ≡ front ++ take i xs → length out + 1 ≤ has
copied_fits front xs out i n had has lt fits more is =
    let lengths : length out ≡ length (front ++ take i xs) = ap length is in
    omega (arith, lengths, length-append front (take i xs), length-take i xs)

-- an item of the front is still there
pub still_there : {A : Type 0} (front xs out : List A) (k : ℕ) → k < length front
    → out ≡ front ++ xs → k < length out
still_there front xs out k lt is =
    let lengths : length out ≡ length (front ++ xs) = ap length is in
    omega (arith, lengths, length-append front xs)

-- one item more of a list that is there already and is copied to its end
pub repeated_more : {A : Type 0} (front out new : List A) (from i : ℕ) (d : A)
    → from + i < length front → out ≡ front ++ take i (drop from front)
    → d ≡ get_or out (from + i) d → new ≡ out ++ (d ∷ [])
    → new ≡ front ++ take (i + 1) (drop from front)
repeated_more front out new from i d lt is at more =
    let l = length-drop from front in
    let item : d ≡ get_or (drop from front) i d =
    at ∙ ap (λ o. get_or o (from + i) d) is
    ∙ get_or_append_left front (take i (drop from front)) d (from + i) lt
    ∙ sym (get_or-drop from front i d) in
    copied_more front (drop from front) out new i d (omega (arith, l, lt)) is item more

-- one item more of a list whose items are computed one by one
pub mapped_more : {A B : Type 0} (f : A → B) (xs : List A) (out new : List B) (i : ℕ) (d : A) (y : B)
    → i < length xs → out ≡ map f (take i xs) → y ≡ f (get_or xs i d) → new ≡ out ++ (y ∷ [])
    → new ≡ map f (take (i + 1) xs)
mapped_more f xs out new i d y lt is at more =
    more ∙ ap (λ x. out ++ (x ∷ [])) at
    ∙ ap (λ l. l ++ (f (get_or xs i d) ∷ [])) is ∙ sym (map_more f xs i d lt)

pub mapped_all : {A B : Type 0} (f : A → B) (xs : List A) (out : List B) (i : ℕ) → length xs ≤ i
    → out ≡ map f (take i xs) → out ≡ map f xs
mapped_all f xs out i all is = is ∙ ap (map f) (take_all i xs all)
