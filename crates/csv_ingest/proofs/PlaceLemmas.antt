-- Places by the bits of a mask.
use Rattle.std.proofs.Common.{◌≡◌, ◌∙◌, ◌<◌, ◌≤◌, ◌+◌, ◌-◌, ◌*◌, ◌/◌, ◌%◌, ◌^◌, ◌++◌, ℕ, suc, Bool, true, false, not, cond, List, [], ◌∷◌, length, map, take, drop, get_or, refl, sym, ap, ap₂, subst, arith, bit_and, append-nil, append_assoc, map-id, take-add, Fits, w8}
use Rattle.std.proofs.lemmas.Nat.{and_le_r, and_mod, and_shr}
use Rattle.std.proofs.lemmas.Simd.{trailing_mask_l, map-map, mask_l-mod, length-chunk, get_or-chunk}
use Rattle.std.proofs.lemmas.List.{length-drop, length-map, length-take, take-append-drop, take_more}
use Rattle.std.proofs.lemmas.Bool.{agree_below, agree_below_at}
use lib.Lanes.{chunk, zip2, top}
use lib.Count.{count_trailing_zeros}
use Rattle.std.specs.List.{prefix_len}
use Rattle.std.specs.Simd.Lanes.{mask_l}
use Rattle.std.specs.Int.Bits.{and_self, and_zero_l, and_zero_r}
use Rattle.csv_ingest.specs.Parts.{AreMarks}
use Rattle.csv_ingest.specs.Places.{is_separator, places}

-- the places of the bits of a mask that are set
abbrev pub set_places : ℕ → List Bool → List ℕ
set_places at [] = []
set_places at (bit ∷ bits) = cond bit (at ∷ set_places (at + 1) bits) (set_places (at + 1) bits)

-- the bits without the first one that is set
abbrev pub without_first : List Bool → List Bool
without_first [] = []
without_first (bit ∷ bits) = false ∷ cond bit bits (without_first bits)

set_map : (p : ℕ → Bool) (xs : List ℕ) (at : ℕ) → set_places at (map p xs) ≡ places p at xs
set_map p [] at = refl
set_map p (x ∷ xs) at = ap (λ l. cond (p x) (at ∷ l) l) (set_map p xs (at + 1))

none_set : (bits : List Bool) (at : ℕ) → mask_l bits ≡ 0 → set_places at bits ≡ []
none_set [] at none = refl
none_set (true ∷ bits) at none = absurd (omega (arith, none))
none_set (false ∷ bits) at none = none_set bits (at + 1) (omega (arith, none))

-- a number without its lowest one
odd_without : (m : ℕ) → bit_and (1 + 2 * m) (1 + 2 * m - 1) ≡ 0 + 2 * m
odd_without m =
    let n = 1 + 2 * m in
    let own : n / 2 ≡ m = omega arith in
    let less : (n - 1) / 2 ≡ m = omega arith in
    let even : (n - 1) % 2 ≡ 0 = omega arith in
    let half : bit_and n (n - 1) / 2 ≡ m = and_shr n (n - 1) 1 ∙ ap₂ bit_and own less ∙ and_self m in
    let low : bit_and n (n - 1) % 2 ≡ 0 = and_mod n (n - 1) 1 ∙ ap (bit_and (n % 2)) even ∙ and_zero_r (n % 2) in
    omega (arith, half, low)

even_without : (m k : ℕ) → 0 < m → bit_and m (m - 1) ≡ k → bit_and (0 + 2 * m) (0 + 2 * m - 1) ≡ 0 + 2 * k
even_without m k some is =
    let n = 0 + 2 * m in
    let own : n / 2 ≡ m = omega arith in
    let less : (n - 1) / 2 ≡ m - 1 = omega (arith, some) in
    let even : n % 2 ≡ 0 = omega arith in
    let half : bit_and n (n - 1) / 2 ≡ k = and_shr n (n - 1) 1 ∙ ap₂ bit_and own less ∙ is in
    let low : bit_and n (n - 1) % 2 ≡ 0 = and_mod n (n - 1) 1 ∙ ap (λ x. bit_and x ((n - 1) % 2)) even ∙ and_zero_l ((n - 1) % 2) in
    omega (arith, half, low)

-- the first bit that is set
record IsFirst (bits : List Bool) (at j : ℕ) : Type 0 where
  pub within : j < length bits
  pub there : set_places at bits ≡ (at + j) ∷ set_places at (without_first bits)
  pub rest : bit_and (mask_l bits) (mask_l bits - 1) ≡ mask_l (without_first bits)

first_set : (bits : List Bool) (at : ℕ) → 0 < mask_l bits → IsFirst bits at (prefix_len not bits)
first_set [] at some = absurd (omega (arith, some))
first_set (true ∷ bits) at some =
    let here : at ≡ at + 0 = omega arith in
    record {
      within = omega arith;
      there = ap (λ a. a ∷ set_places (at + 1) bits) here;
      rest = odd_without (mask_l bits);
    }
first_set (false ∷ bits) at some =
    let more : 0 < mask_l bits = omega (arith, some) in
    let f = first_set bits (at + 1) more in
    let j = prefix_len not bits in
    let next : at + 1 + j ≡ at + (1 + j) = omega arith in
    record {
      within = let w = f.within in omega (arith, w);
      there = f.there ∙ ap (λ a. a ∷ set_places (at + 1) (without_first bits)) next;
      rest = even_without (mask_l bits) (mask_l (without_first bits)) more f.rest;
    }

length_without : (bits : List Bool) → length (without_first bits) ≡ length bits
length_without [] = refl
length_without (true ∷ bits) = refl
length_without (false ∷ bits) = ap suc (length_without bits)

pub places-append : (p : ℕ → Bool) (xs ys : List ℕ) (at : ℕ) → places p at (xs ++ ys) ≡ places p at xs ++ places p (at + length xs) ys
places-append p [] ys at = let here : at ≡ at + 0 = omega arith in ap (λ a. places p a ys) here
places-append p (x ∷ xs) ys at = by_test (p x) refl (rest (places-append p xs ys (at + 1)))
  where
    left : List ℕ
    left = places p (at + 1) (xs ++ ys)

    right : List ℕ
    right = places p (at + 1) xs

    last : List ℕ
    last = places p (at + length (x ∷ xs)) ys

    rest : left ≡ right ++ places p (at + 1 + length xs) ys → left ≡ right ++ last
    rest e = let there : at + 1 + length xs ≡ at + length (x ∷ xs) = omega arith in e ∙ ap (λ a. right ++ places p a ys) there

    by_test : (b : Bool) → p x ≡ b → left ≡ right ++ last → places p at ((x ∷ xs) ++ ys) ≡ places p at (x ∷ xs) ++ last
    by_test true e more = ap (λ b. cond b (at ∷ left) left) e ∙ ap (λ l. at ∷ l) more ∙ sym (ap (λ b. cond b (at ∷ right) right ++ last) e)
    by_test false e more = ap (λ b. cond b (at ∷ left) left) e ∙ more ∙ sym (ap (λ b. cond b (at ∷ right) right ++ last) e)

-- the places in the first bytes of a text are the first of all
pub first-marks : (text out : List ℕ) (n : ℕ) → out ≡ places is_separator 0 (take n text) → AreMarks text out
first-marks text out n is = record {
  more = places is_separator (0 + length (take n text)) (drop n text);
  all = ap (places is_separator 0) (sym (take-append-drop n text)) ∙ places-append is_separator (take n text) (drop n text) 0
      ∙ ap (λ l. l ++ places is_separator (0 + length (take n text)) (drop n text)) (sym is);
}

-- ---- the bits of one block

-- what is done while the bits are taken, from the lowest on: these are left
pub record Taken (p : ℕ → Bool) (block : List ℕ) (at left : ℕ) (start out : List ℕ) : Type 0 where
  pub bits : List Bool
  pub few : length bits ≤ 64
  pub mask : left ≡ mask_l bits
  pub done : out ++ set_places at bits ≡ start ++ places p at block

pub none_taken : (p : ℕ → Bool) (block : List ℕ) (at left : ℕ) (start : List ℕ) → length block ≤ 64 → left ≡ mask_l (map p block) → Taken p block at left start start
none_taken p block at left start few is = record {
  bits = map p block;
  few = omega (arith, few, length-map block p);
  mask = is;
  done = ap (λ l. start ++ l) (set_map p block at);
}

pub all_taken : (p : ℕ → Bool) (block : List ℕ) (at : ℕ) (start out : List ℕ) → Taken p block at 0 start out → out ≡ start ++ places p at block
all_taken p block at start out t = sym (append-nil out) ∙ ap (λ l. out ++ l) (sym (none_set t.bits at (sym t.mask))) ∙ t.done

pub one_taken : (p : ℕ → Bool) (block : List ℕ) (at left j : ℕ) (start out : List ℕ) → 0 < left → j ≡ count_trailing_zeros 64 left
    → Taken p block at left start out → (j < 64) × Taken p block at (bit_and left (left - 1)) start (out ++ (at + j) ∷ [])
one_taken p block at left j start out some is t = (
  let w = f.within in omega (arith, w, t.few),
  record {
    bits = without_first t.bits;
    few = omega (arith, t.few, length_without t.bits);
    mask = ap (λ n. bit_and n (n - 1)) t.mask ∙ f.rest;
    done = append_assoc out ((at + j) ∷ []) (set_places at (without_first t.bits)) ∙ ap (λ l. out ++ l) (sym f.there) ∙ t.done;
  },
)
  where
    there : 0 < mask_l t.bits
    there = subst (λ m. 0 < m) t.mask some

    same : map (λ b. b) t.bits ≡ t.bits
    same = map-id t.bits

    j_is : prefix_len not t.bits ≡ j
    j_is = sym (is ∙ ap (count_trailing_zeros 64) (t.mask ∙ ap mask_l (sym same)) ∙ trailing_mask_l (λ b. b) 64 t.bits t.few (subst (λ m. 0 < mask_l m) (sym same) there))

    f : IsFirst t.bits at j
    f = subst (IsFirst t.bits at) j_is (first_set t.bits at there)

pub less_left : (left : ℕ) → 0 < left → bit_and left (left - 1) < left
less_left left some = omega (arith, and_le_r left (left - 1), some)

-- ---- all blocks

length_taken : (at : ℕ) (text : List ℕ) → at ≤ length text → length (take at text) ≡ at
length_taken at text le = let e = length-take at text in omega (arith, e, le)

pub block_length : (text : List ℕ) (at : ℕ) → at + 64 ≤ length text → length (take 64 (drop at text)) ≡ 64
block_length text at room = let e = length-drop at text in length_taken 64 (drop at text) (omega (arith, e, room))

pub block_more : (p : ℕ → Bool) (text : List ℕ) (at : ℕ) → at + 64 ≤ length text → places p 0 (take (at + 64) text) ≡ places p 0 (take at text) ++ places p at (take 64 (drop at text))
block_more p text at room =
    let long = length_taken at text (omega (arith, room)) in
    let start : 0 + length (take at text) ≡ at = omega (arith, long) in
    ap (λ l. places p 0 l) (take-add at 64 text) ∙ places-append p (take at text) (take 64 (drop at text)) 0
    ∙ ap (λ k. places p 0 (take at text) ++ places p k (take 64 (drop at text))) start

pub byte_more : (p : ℕ → Bool) (text : List ℕ) (at : ℕ) → at < length text → places p 0 (take (at + 1) text) ≡ places p 0 (take at text) ++ places p at (get_or text at 0 ∷ [])
byte_more p text at lt =
    let long = length_taken at text (omega (arith, lt)) in
    let start : 0 + length (take at text) ≡ at = omega (arith, long) in
    ap (λ l. places p 0 l) (take_more text at 0 lt) ∙ places-append p (take at text) (get_or text at 0 ∷ []) 0
    ∙ ap (λ k. places p 0 (take at text) ++ places p k (get_or text at 0 ∷ [])) start

-- ---- the mask of a load

map_same : (f g : ℕ → Bool) (xs : List ℕ) → ((k : ℕ) → k < length xs → f (get_or xs k 0) ≡ g (get_or xs k 0)) → map f xs ≡ map g xs
map_same f g [] h = refl
map_same f g (x ∷ xs) h = ap₂ ◌∷◌ (h 0 (omega arith)) (map_same f g xs (λ k lt. h (suc k) (omega (arith, lt))))

pub mask_is : (q : ℕ → Bool) (d : List ℕ) (i n : ℕ) (z : List ℕ) → i + n ≤ length d → n ≤ 64 → ((k : ℕ) → Fits w8 (get_or d k 0)) → (f : ℕ → ℕ) → z ≡ map f (chunk i n d)
    → agree_below (λ x. top 7 (f x)) q 256 ≡ true → mask_l (map (top 7) z) % 2 ^ 64 ≡ mask_l (map q (chunk i n d))
mask_is q d i n z room few fits f lanes all =
    let v = chunk i n d in
    let long = length-chunk i n d room in
    ap (λ l. mask_l l % 2 ^ 64) (ap (map (top 7)) lanes ∙ map-map (top 7) f v)
    ∙ mask_l-mod (map (λ x. top 7 (f x)) v) 64 (omega (arith, length-map v (λ x. top 7 (f x)), long, few))
    ∙ ap mask_l (map_same (λ x. top 7 (f x)) q v (λ k lt.
    agree_below_at (λ x. top 7 (f x)) q 256 (get_or v k 0) all
    (let at : get_or v k 0 ≡ get_or d (i + k) 0 = get_or-chunk i n d k 0 (omega (arith, lt, long)) in let b = (fits (i + k)).fits in omega (arith, at, b))))

zip2-map : (h : ℕ → ℕ → ℕ) (f g : ℕ → ℕ) (xs : List ℕ) → zip2 h (map f xs) (map g xs) ≡ map (λ x. h (f x) (g x)) xs
zip2-map h f g [] = refl
zip2-map h f g (x ∷ xs) = ap (λ r. h (f x) (g x) ∷ r) (zip2-map h f g xs)

-- an operation on two vectors that were computed lane by lane from v
pub joined : (h : ℕ → ℕ → ℕ) (f g : ℕ → ℕ) (v : List ℕ) {a b : List ℕ} → a ≡ map f v → b ≡ map g v → zip2 h a b ≡ map (λ x. h (f x) (g x)) v
joined h f g v p q = ap₂ (zip2 h) p q ∙ zip2-map h f g v
