-- Segments by their places in a list, and those that a store publishes.
use Rattle.std.proofs.Common.{◌≡◌, ◌∙◌, ◌<◌, ℕ, zero, suc, List, [], ◌∷◌, length, map, get_or, refl, sym, ap, arith}
use Rattle.std.specs.List.{Contains}
use Rattle.std.proofs.Math.ListN.{get_or-map}
use Rattle.std.proofs.lemmas.List.{length-map}
use Rattle.segment_head.specs.Stored.{live, names_of, segment_at}
use Rattle.segment_head.specs.declared.stored.Stored.{Stored}

any_default : {A : Type 0} (xs : List A) (i : ℕ) (d e : A) → i < length xs → get_or xs i d ≡ get_or xs i e
any_default [] i d e lt = absurd (omega (arith, lt))
any_default (x ∷ xs) zero d e lt = refl
any_default (x ∷ xs) (suc i) d e lt = any_default xs i d e (omega (arith, lt))

-- the segment that was read at a place
pub is_at : (stored : List Stored) (i : ℕ) (segment : Stored) → i < length stored → segment ≡ get_or stored i segment → segment ≡ segment_at stored i
is_at stored i segment lt is = is ∙ any_default stored i segment (live []) lt

-- it is among them
pub among : (stored : List Stored) (i : ℕ) → i < length stored → Contains stored (segment_at stored i)
among stored i lt = (i, lt, any_default stored i (segment_at stored i) (live []) lt)

-- ---- those that a store publishes

pub live_at : (names : List (List ℕ)) (i : ℕ) → segment_at (map live names) i ≡ live (get_or names i [])
live_at names i = get_or-map live names i []

pub live_count : (names : List (List ℕ)) → length (map live names) ≡ length names
live_count names = length-map names live

-- each has a name that is among the names
pub live_among : (names : List (List ℕ)) (segment : Stored) → Contains (map live names) segment → (name : List ℕ) × Contains names name × (segment ≡ live name)
live_among names segment (i, lt, at) =
    let inside : i < length names = omega (arith, lt, live_count names) in
    (get_or names i [], (i, inside, any_default names i (get_or names i []) [] inside), sym at ∙ any_default (map live names) i segment (live []) lt ∙ live_at names i)

pub names_live : (names : List (List ℕ)) → names_of (map live names) ≡ names
names_live [] = refl
names_live (name ∷ names) = ap (λ l. name ∷ l) (names_live names)
