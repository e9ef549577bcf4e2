-- The names of kept files are no others' of a store.
use Rattle.std.proofs.Common.{◌≡◌, ◌∙◌, ◌+◌, ℕ, List, ◌++◌, length, get_or, sym, ap, arith}
use Rattle.std.specs.Prelude.{codes}
use Rattle.std.proofs.lemmas.List.{get_or-append-add, length-append}
use Rattle.segment_file.specs.Names.{file_of}
use Rattle.table_store.specs.Kept.{IsKeptName}
use Rattle.table_store.specs.TableFile.{table_name}

-- a segment's file is no kept one
pub live_name : (name : List ℕ) → ¬ IsKeptName (file_of name)
live_name name (front, e) =
    let at : length name + 3 ≡ length front + 4 = omega (arith, ap length e, length-append name (codes ".seg"), length-append front (codes ".kept")) in
    let here : get_or (name ++ codes ".seg") (length name + 3) 0 ≡ 103 = get_or-append-add name (codes ".seg") 3 0 in
    let there : get_or (front ++ codes ".kept") (length front + 4) 0 ≡ 116 = get_or-append-add front (codes ".kept") 4 0 in
    let g : ℕ = 103 in
    let t : ℕ = 116 in
    let same : g ≡ t = sym here ∙ ap (λ n. get_or (name ++ codes ".seg") n 0) at ∙ ap (λ bytes. get_or bytes (length front + 4) 0) e ∙ there in
    absurd (omega arith)

-- nor is the table's
pub table_live : ¬ IsKeptName table_name
table_live (front, e) =
    let none : length front + 0 ≡ 0 = omega (arith, ap length e, length-append front (codes ".kept")) in
    let there : get_or (front ++ codes ".kept") (length front + 0) 0 ≡ 46 = get_or-append-add front (codes ".kept") 0 0 in
    let t : ℕ = 116 in
    let dot : ℕ = 46 in
    let same : t ≡ dot = ap (λ bytes. get_or bytes 0 0) e ∙ ap (λ n. get_or (front ++ codes ".kept") n 0) (sym none) ∙ there in
    absurd (omega arith)
