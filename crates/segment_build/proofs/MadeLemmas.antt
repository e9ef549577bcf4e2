-- Lists of sections as they are made, and the bytes of each.
use Rattle.std.proofs.Common.{◌≡◌, ◌∙◌, ◌<◌, ◌+◌, Bool, true, false, ℕ, List, [], ◌∷◌, ◌++◌, length, map, take, get_or, append_assoc, append-nil, sym, ap, refl}
use Rattle.std.proofs.lemmas.List.{length-map, map-append, take_more}
use Rattle.std.proofs.lemmas.List.Folds.{concat-append}
use Rattle.std.specs.List.{concat}
use Rattle.segment_build.specs.declared.section.MadeSection.{MadeSection}
use Rattle.segment_build.specs.Made.{each_bytes, section_bytes}
use Rattle.segment_build.specs.Sections.{only}

-- one more section
pub each_more : (old new : List MadeSection) (s : MadeSection) (b : List ℕ) → new ≡ old ++ s ∷ [] → section_bytes s ≡ b
    → each_bytes new ≡ each_bytes old ++ b ∷ []
each_more old new s b is same =
    ap each_bytes is ∙ map-append section_bytes old (s ∷ []) ∙ ap (λ x. each_bytes old ++ x ∷ []) same

-- one more, where it is wanted
pub pushed_only : (is : Bool) (old new : List (List ℕ)) (b : List ℕ) → is ≡ true → new ≡ old ++ b ∷ [] → new ≡ old ++ only is b
pushed_only true old new b holds more = more
pushed_only false old new b holds more = absurd cc

-- sections that were appended kind by kind
pub appended : {X : Type 0} (old ds ns fs rs ls gs ss : List X) (b : X)
    → (((((((old ++ b ∷ []) ++ ds) ++ ns) ++ fs) ++ rs) ++ ls) ++ gs) ++ ss
    ≡ old ++ b ∷ ((ds ++ ns) ++ ((fs ++ (rs ++ (ls ++ gs))) ++ ss))
appended [] ds ns fs rs ls gs ss b =
    let X = ds ++ ns in
    let inner : ((fs ++ rs) ++ ls) ++ gs ≡ fs ++ (rs ++ (ls ++ gs)) =
    ap (λ x. x ++ gs) (append_assoc fs rs ls) ∙ append_assoc fs (rs ++ ls) gs ∙ ap (λ x. fs ++ x) (append_assoc rs ls gs) in
    let all : (((X ++ fs) ++ rs) ++ ls) ++ gs ≡ X ++ (fs ++ (rs ++ (ls ++ gs))) =
    ap (λ x. (x ++ ls) ++ gs) (append_assoc X fs rs) ∙ ap (λ x. x ++ gs) (append_assoc X (fs ++ rs) ls)
    ∙ append_assoc X ((fs ++ rs) ++ ls) gs ∙ ap (λ x. X ++ x) inner in
    ap (λ x. b ∷ (x ++ ss)) all ∙ ap (λ x. b ∷ x) (append_assoc X (fs ++ (rs ++ (ls ++ gs))) ss)
appended (o ∷ old) ds ns fs rs ls gs ss b = ap (λ x. o ∷ x) (appended old ds ns fs rs ls gs ss b)

-- the sections by their kinds, one kind after the other
pub each_in_order : (old ds ns fs rs ls gs ss : List MadeSection) (b : MadeSection) (new : List MadeSection)
    → new ≡ old ++ b ∷ ((ds ++ ns) ++ ((fs ++ (rs ++ (ls ++ gs))) ++ ss))
    → each_bytes new ≡ each_bytes old ++ (section_bytes b ∷ ((each_bytes ds ++ each_bytes ns)
    ++ ((each_bytes fs ++ (each_bytes rs ++ (each_bytes ls ++ each_bytes gs))) ++ each_bytes ss)))
each_in_order old ds ns fs rs ls gs ss b new is =
    let f : MadeSection → List ℕ = section_bytes in
    let last : each_bytes (rs ++ (ls ++ gs)) ≡ each_bytes rs ++ (each_bytes ls ++ each_bytes gs) =
    map-append f rs (ls ++ gs) ∙ ap (λ x. each_bytes rs ++ x) (map-append f ls gs) in
    let raw : each_bytes (fs ++ (rs ++ (ls ++ gs))) ≡ each_bytes fs ++ (each_bytes rs ++ (each_bytes ls ++ each_bytes gs)) =
    map-append f fs (rs ++ (ls ++ gs)) ∙ ap (λ x. each_bytes fs ++ x) last in
    let tail : each_bytes ((fs ++ (rs ++ (ls ++ gs))) ++ ss) ≡ (each_bytes fs ++ (each_bytes rs ++ (each_bytes ls ++ each_bytes gs))) ++ each_bytes ss =
    map-append f (fs ++ (rs ++ (ls ++ gs))) ss ∙ ap (λ x. x ++ each_bytes ss) raw in
    let rest : each_bytes ((ds ++ ns) ++ ((fs ++ (rs ++ (ls ++ gs))) ++ ss))
    ≡ (each_bytes ds ++ each_bytes ns) ++ ((each_bytes fs ++ (each_bytes rs ++ (each_bytes ls ++ each_bytes gs))) ++ each_bytes ss) =
    map-append f (ds ++ ns) ((fs ++ (rs ++ (ls ++ gs))) ++ ss) ∙ (λ i. map-append f ds ns i ++ tail i) in
    ap each_bytes is ∙ map-append f old (b ∷ ((ds ++ ns) ++ ((fs ++ (rs ++ (ls ++ gs))) ++ ss)))
    ∙ ap (λ x. each_bytes old ++ section_bytes b ∷ x) rest

-- one more section of a list
pub each_taken : (sections : List MadeSection) (at : ℕ) (s : MadeSection) → at < length sections → s ≡ get_or sections at s
    → each_bytes (take (at + 1) sections) ≡ each_bytes (take at sections) ++ section_bytes s ∷ []
each_taken sections at s lt is =
    each_more (take at sections) (take (at + 1) sections) s (section_bytes s)
    (take_more sections at s lt ∙ ap (λ x. take at sections ++ x ∷ []) (sym is)) refl

-- its bytes are appended
pub bytes_appended : (sections : List MadeSection) (at : ℕ) (s : MadeSection) (start old new : List ℕ) → at < length sections → s ≡ get_or sections at s
    → old ≡ start ++ concat (each_bytes (take at sections)) → new ≡ old ++ section_bytes s → new ≡ start ++ concat (each_bytes (take (at + 1) sections))
bytes_appended sections at s start old new lt is so_far more =
    let before : List (List ℕ) = each_bytes (take at sections) in
    more ∙ ap (λ x. x ++ section_bytes s) so_far ∙ append_assoc start (concat before) (section_bytes s)
    ∙ ap (λ x. start ++ x) (ap (λ x. concat before ++ x) (sym (append-nil (section_bytes s))) ∙ sym (concat-append before (section_bytes s ∷ []))
    ∙ ap concat (sym (each_taken sections at s lt is)))

-- its size is one more
pub sizes_more : (sections : List MadeSection) (at : ℕ) (s : MadeSection) (size : ℕ) (old new : List ℕ) → at < length sections → s ≡ get_or sections at s
    → size ≡ length (section_bytes s) → old ≡ map length (each_bytes (take at sections)) → new ≡ old ++ size ∷ []
    → new ≡ map length (each_bytes (take (at + 1) sections))
sizes_more sections at s size old new lt is long so_far more =
    more ∙ (λ i. so_far i ++ long i ∷ [])
    ∙ sym (map-append length (each_bytes (take at sections)) (section_bytes s ∷ []))
    ∙ ap (map length) (sym (each_taken sections at s lt is))

pub each_count : (sections : List MadeSection) (n : ℕ) → length (each_bytes sections) ≡ n → length sections ≡ n
each_count sections n is = sym (length-map sections section_bytes) ∙ is
