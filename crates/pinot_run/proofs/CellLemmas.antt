-- The last cell of what `stats` prints is the number of documents that were looked at.
use Rattle.std.proofs.Common.{◌≡◌, ◌∙◌, ◌+◌, ◌<◌, ◌==◌, ◌++◌, ◌/◌, ◌%◌, ℕ, zero, suc, Bool, true, false, List, [], ◌∷◌, refl, sym, ap, arith, append_assoc, append-nil, nat_lt}
use Rattle.std.specs.Prelude.{if◌then◌else◌}
use Rattle.std.specs.Fmt.{decimal, digit_glyph, digits, digits_onto}
use Rattle.std.specs.List.{AllByRecursion}
use Rattle.std.proofs.lemmas.Bool.{ne_eqb}
use Rattle.command_model.specs.Generated.{cell_with, last_cell}

cells_then : (cell xs ys : List ℕ) → last_cell cell (xs ++ ys) ≡ last_cell (last_cell cell xs) ys
cells_then cell [] ys = refl
cells_then cell (x ∷ xs) ys = cells_then (cell_with cell x) xs ys

-- a byte that stays in its cell
abbrev Stays : ℕ → Type 0
Stays byte = ((byte == 44) ≡ false) × ((byte == 10) ≡ false)

own_cell : (cell ds : List ℕ) → AllByRecursion Stays ds → last_cell cell (ds ++ (10 ∷ [])) ≡ cell ++ ds
own_cell cell [] all = sym (append-nil cell)
own_cell cell (d ∷ ds) all = ap (λ c. last_cell c (ds ++ (10 ∷ []))) (kept (d == 44) (d == 10) all.0.0 all.0.1) ∙ own_cell (cell ++ d ∷ []) ds all.1 ∙ append_assoc cell (d ∷ []) ds
  where
    kept : (a b : Bool) → a ≡ false → b ≡ false → (if a then [] else if b then cell else cell ++ d ∷ []) ≡ cell ++ d ∷ []
    kept true b is_a is_b = absurd cc
    kept false true is_a is_b = absurd cc
    kept false false is_a is_b = refl

digit_stays : (d : ℕ) → d < 10 → Stays (digit_glyph false d)
digit_stays d lt = by (nat_lt d 10) refl
  where
    by : (b : Bool) → nat_lt d 10 ≡ b → Stays (if b then 48 + d else 87 + d)
    by true is = (ne_eqb (48 + d) 44 (λ e. omega (arith, e)), ne_eqb (48 + d) 10 (λ e. omega (arith, e)))
    by false is = (ne_eqb (87 + d) 44 (λ e. omega (arith, e)), ne_eqb (87 + d) 10 (λ e. omega (arith, e)))

onto_stays : (k n : ℕ) (acc : List ℕ) → AllByRecursion Stays acc → AllByRecursion Stays (digits_onto k 10 false n acc)
onto_stays zero n acc all = all
onto_stays (suc k) n acc all = by (n / 10 == 0) (onto_stays k (n / 10) (digit_glyph false (n % 10) ∷ acc) (here, all))
  where
    here : Stays (digit_glyph false (n % 10))
    here = digit_stays (n % 10) (omega arith)

    by : (b : Bool) → AllByRecursion Stays (digits_onto k 10 false (n / 10) (digit_glyph false (n % 10) ∷ acc)) → AllByRecursion Stays (if b then digit_glyph false (n % 10) ∷ acc else digits_onto k 10 false (n / 10) (digit_glyph false (n % 10) ∷ acc))
    by true more = (here, all)
    by false more = more

decimal_stays : (n : ℕ) → AllByRecursion Stays (decimal n)
unfolding digits
decimal_stays n = onto_stays 64 n [] tt

-- what ends in a number after a comma, and a line end
pub last_number : (xs : List ℕ) (n : ℕ) → last_cell [] (xs ++ (44 ∷ (decimal n ++ (10 ∷ [])))) ≡ decimal n
last_number xs n = cells_then [] xs (44 ∷ (decimal n ++ (10 ∷ []))) ∙ own_cell [] (decimal n) (decimal_stays n)
