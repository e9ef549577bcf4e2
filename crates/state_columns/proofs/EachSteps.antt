-- Columns changed one by one.
use Rattle.std.proofs.Common.{◌≡◌, ℕ, zero, suc, ◌+◌, ◌<◌, ◌≤◌, List, [], ◌∷◌, map, length, get_or}
use Rattle.std.proofs.Common.{set, refl, ap, ◌∙◌, arith, ℤ}
use Rattle.std.proofs.lemmas.List.{get_or-map, length-map}
use Rattle.agg_laws.specs.declared.states.AggState.{AggState}
use Rattle.agg_laws.specs.declared.aggregate_kind.AggKind.{AggKind}
use Rattle.agg_laws.specs.States.{state_of, merged}
use Rattle.agg_laws.specs.Rows.{row_of, merged_rows}
use Rattle.state_columns.specs.Columns.{Column, state_at, each, kinds_in, row_at, widened}
use Rattle.state_columns.specs.Columns.{AreColumns, AreWider}

-- the first n columns are changed
abbrev pub stepped : (Column → AggState → Column) → ℕ → List Column → List AggState → List Column
stepped f zero cs vs = cs
stepped f (suc n) [] vs = []
stepped f (suc n) (c ∷ cs) [] = c ∷ cs
stepped f (suc n) (c ∷ cs) (v ∷ vs) = f c v ∷ stepped f n cs vs

pub stepped_length : (f : Column → AggState → Column) (n : ℕ) (cs : List Column)
    (vs : List AggState) → length (stepped f n cs vs) ≡ length cs
stepped_length f zero cs vs = refl
stepped_length f (suc n) [] vs = refl
stepped_length f (suc n) (c ∷ cs) [] = refl
stepped_length f (suc n) (c ∷ cs) (v ∷ vs) = ap suc (stepped_length f n cs vs)

stepped_at : (f : Column → AggState → Column) (n : ℕ) (cs : List Column) (vs : List AggState)
    (i : ℕ) (d : Column) → n ≤ i → get_or (stepped f n cs vs) i d ≡ get_or cs i d
stepped_at f zero cs vs i d h = refl
stepped_at f (suc n) [] vs i d h = refl
stepped_at f (suc n) (c ∷ cs) [] i d h = refl
stepped_at f (suc n) (c ∷ cs) (v ∷ vs) zero d h = absurd (omega arith)
stepped_at f (suc n) (c ∷ cs) (v ∷ vs) (suc i) d h = stepped_at f n cs vs i d (omega arith)

stepped_more : (f : Column → AggState → Column) (n : ℕ) (cs : List Column) (vs : List AggState)
    (d : Column) (e : AggState) → n < length cs → length cs ≡ length vs
    → set (stepped f n cs vs) n (f (get_or cs n d) (get_or vs n e)) ≡ stepped f (suc n) cs vs
stepped_more f zero [] vs d e h l = absurd (omega arith)
stepped_more f zero (c ∷ cs) [] d e h l = absurd (omega arith)
stepped_more f zero (c ∷ cs) (v ∷ vs) d e h l = refl
stepped_more f (suc n) [] vs d e h l = absurd (omega arith)
stepped_more f (suc n) (c ∷ cs) [] d e h l = absurd (omega arith)
stepped_more f (suc n) (c ∷ cs) (v ∷ vs) d e h l =
    ap (λ t. f c v ∷ t) (stepped_more f n cs vs d e (omega arith) (omega arith))

pub stepped_all : (f : Column → AggState → Column) (n : ℕ) (cs : List Column) (vs : List AggState)
    → n ≡ length cs → length cs ≡ length vs → stepped f n cs vs ≡ each f cs vs
stepped_all f zero [] vs h l = refl
stepped_all f (suc n) [] vs h l = refl
stepped_all f zero (c ∷ cs) vs h l = absurd (omega arith)
stepped_all f (suc n) (c ∷ cs) [] h l = absurd (omega arith)
stepped_all f (suc n) (c ∷ cs) (v ∷ vs) h l =
    ap (λ t. f c v ∷ t) (stepped_all f n cs vs (omega arith) (omega arith))

-- the loop has come to a column
module _ (f : Column → AggState → Column) (i : ℕ) (cs old : List Column) (vs : List AggState)
    (is : cs ≡ stepped f i old vs) (lt : i < length old) (d : Column) where
  pub own : get_or cs i d ≡ get_or old i d
  own = ap (λ l. get_or l i d) is ∙ stepped_at f i old vs i d (omega arith)

  pub next : (e v : AggState) (new : Column) → length old ≡ length vs → v ≡ get_or vs i e → new
      ≡ f (get_or cs i d) v → set cs i new ≡ stepped f (i + 1) old vs
  next e v new l h made =
      (λ j. set (is j) i ((made ∙ (λ k. f (own k) (h k))) j))
      ∙ stepped_more f i old vs d e lt l
      ∙ (let n : suc i ≡ i + 1 = omega arith in ap (λ m. stepped f m old vs) n)

-- what is known of each column
pub long_at : (n s : ℕ) (cs : List Column) (i : ℕ) (d : Column) → AreColumns n s cs
    → i < length cs → length (get_or cs i d).states ≡ n
long_at n s [] i d h lt = absurd (omega arith)
long_at n s (c ∷ cs) zero d h lt = h.0
long_at n s (c ∷ cs) (suc i) d h lt = long_at n s cs i d h.2 (omega arith)

pub room_at : (n s : ℕ) (cs : List Column) (i : ℕ) (d : Column) → AreColumns n s cs
    → i < length cs → s ≤ (get_or cs i d).spare
room_at n s [] i d h lt = absurd (omega arith)
room_at n s (c ∷ cs) zero d h lt = h.1
room_at n s (c ∷ cs) (suc i) d h lt = room_at n s cs i d h.2 (omega arith)

pub length-kinds_in : (cs : List Column) → length (kinds_in cs) ≡ length cs
length-kinds_in cs = length-map cs (λ c. c.kind)

pub length-row_at : (cs : List Column) (p : ℕ) → length (row_at cs p) ≡ length cs
length-row_at cs p = length-map cs (λ c. state_at c p)

-- the states in a place, column by column
pub row_item : (cs : List Column) (p i : ℕ) (d : Column) (e : AggState) → i < length cs
    → get_or (row_at cs p) i e ≡ state_at (get_or cs i d) p
row_item cs p i d e lt = get_or-map (λ c. state_at c p) cs i d e lt

pub kind_item : (cs : List Column) (i : ℕ) (d : Column) (e : AggKind) → i < length cs
    → get_or (kinds_in cs) i e ≡ (get_or cs i d).kind
kind_item cs i d e lt = get_or-map (λ c. c.kind) cs i d e lt

pub value_item : (ks : List AggKind) (xs : List ℤ) (i : ℕ) (k : AggKind) (x : ℤ) (d : AggState)
    → length xs ≡ length ks → i < length ks
    → get_or (row_of ks (xs ∷ [])) i d ≡ state_of (get_or ks i k) (get_or xs i x ∷ [])
value_item [] xs i k x d l lt = absurd (omega arith)
value_item (c ∷ ks) [] i k x d l lt = absurd (omega arith)
value_item (c ∷ ks) (y ∷ xs) zero k x d l lt = refl
value_item (c ∷ ks) (y ∷ xs) (suc i) k x d l lt =
    value_item ks xs i k x d (omega arith) (omega arith)

pub merged_item : (vs ws : List AggState) (i : ℕ) (d e f : AggState) → length vs ≡ length ws
    → i < length vs → get_or (merged_rows vs ws) i d ≡ merged (get_or vs i e) (get_or ws i f)
merged_item [] ws i d e f l lt = absurd (omega arith)
merged_item (v ∷ vs) [] i d e f l lt = absurd (omega arith)
merged_item (v ∷ vs) (w ∷ ws) zero d e f l lt = refl
merged_item (v ∷ vs) (w ∷ ws) (suc i) d e f l lt =
    merged_item vs ws i d e f (omega arith) (omega arith)

pub length-merged : (vs ws : List AggState) → length vs ≡ length ws → length (merged_rows vs ws)
    ≡ length vs
length-merged [] ws l = refl
length-merged (v ∷ vs) [] l = absurd (omega arith)
length-merged (v ∷ vs) (w ∷ ws) l = ap suc (length-merged vs ws (omega arith))

-- the first n columns are given more room
abbrev pub widened_first : ℕ → ℕ → List Column → List Column
widened_first more zero cs = cs
widened_first more (suc n) [] = []
widened_first more (suc n) (c ∷ cs) = widened more c ∷ widened_first more n cs

pub widened_length : (more n : ℕ) (cs : List Column) → length (widened_first more n cs) ≡ length cs
widened_length more zero cs = refl
widened_length more (suc n) [] = refl
widened_length more (suc n) (c ∷ cs) = ap suc (widened_length more n cs)

pub widened_more : (more n : ℕ) (cs : List Column) (d : Column) → n < length cs
    → set (widened_first more n cs) n (widened more (get_or (widened_first more n cs) n d))
    ≡ widened_first more (n + 1) cs
widened_more more zero [] d h = absurd (omega arith)
widened_more more zero (c ∷ cs) d h = refl
widened_more more (suc n) [] d h = absurd (omega arith)
widened_more more (suc n) (c ∷ cs) d h = ap (λ t. widened more c ∷ t)
    (widened_more more n cs d (omega arith))
    ∙ (let e : suc (n + 1) ≡ suc n + 1 = omega arith in ap (λ m. widened_first more m (c ∷ cs)) e)

pub widened_all : (more n : ℕ) (cs : List Column) → n ≡ length cs → widened_first more n cs
    ≡ map (widened more) cs
widened_all more zero [] h = refl
widened_all more (suc n) [] h = refl
widened_all more zero (c ∷ cs) h = absurd (omega arith)
widened_all more (suc n) (c ∷ cs) h = ap (λ t. widened more c ∷ t) (widened_all more n cs (omega
    arith))

same_wider : (cs : List Column) → AreWider cs cs
same_wider [] = tt
same_wider (c ∷ cs) = (refl, refl, omega arith, same_wider cs)

pub first_wider : (more n : ℕ) (cs : List Column) → AreWider cs (widened_first more n cs)
first_wider more zero cs = same_wider cs
first_wider more (suc n) [] = tt
first_wider more (suc n) (c ∷ cs) = (refl, refl, omega arith, first_wider more n cs)

-- what was in a place is put there again
pub put_back_same : (cs : List Column) (i : ℕ) (d : Column) → set cs i (get_or cs i d) ≡ cs
put_back_same [] i d = refl
put_back_same (c ∷ cs) zero d = refl
put_back_same (c ∷ cs) (suc i) d = ap (λ t. c ∷ t) (put_back_same cs i d)
