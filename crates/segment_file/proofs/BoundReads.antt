-- The bytes of bounds are read in one way, and those of dictionaries are bounds of their fields.
use Rattle.std.proofs.Common.{◌≡◌, ◌≢◌, ◌∙◌, ◌<◌, ◌≤◌, ◌+◌, ◌^◌, ℕ, ℤ, true, false, List, [], ◌∷◌, ◌++◌, length, get_or, take, drop, refl, sym, ap, subst, arith, append_assoc, append-nil, length-take, Option, Some, None, MatchOption, zero, suc, All}
use Rattle.std.proofs.Math.Seq.{take-append_seam}
use Rattle.std.proofs.lemmas.Bool.{false≢true}
use Rattle.std.proofs.lemmas.Grind.{flat_map-append}
use Rattle.std.proofs.lemmas.List.{drop_more, length-append, length-drop, take_all, take_more, take-append-drop}
use Rattle.std.proofs.lemmas.Nat.{be_bytes_2, from_be_bytes-to_be_bytes_2}
use Rattle.std.specs.Int.{w16, from_be_bytes}
use Rattle.std.specs.List.{AllZip, range_with_len}
use Rattle.std.specs.Str.{IsUtf8}
use Rattle.data_types.specs.declared.kind.FieldKind.{FieldKind}
use Rattle.data_types.specs.declared.kind.FieldKind.TheVariants as kind
use Rattle.values.specs.declared.value.Value.{Value}
use Rattle.values.specs.declared.value.Value.TheVariants.{Whole, Text}
use Rattle.values.specs.Kinds.{fits}
use Rattle.data_types.specs.Numbers.{is_in_range}
use Rattle.dictionary.specs.Spelling.{number_bytes}
use Rattle.dictionary.proofs.Bytes.{AreBytes, same_fronts, same_rests, take_small}
use Rattle.dictionary.proofs.Numbers.{fits_long, length-number, no_text, number_once}
use Rattle.table_schema.specs.declared.field.Field.{Field}
use Rattle.segment_file.specs.declared.bounds.Ends.{Ends}
use Rattle.segment_file.specs.Bounds.{AreBounds, IsBound, MayBound, MayEnd, NoBound, bound_bytes, bounds_bytes, pair_bytes, bounds_of, ends_of, bounded}
use Rattle.segment_file.specs.Front.{short}
use Rattle.segment_file.proofs.BoundLemmas.{fits_short}
use Rattle.std.proofs.lemmas.List.Elements.{All-get_or}
use Rattle.std.proofs.lemmas.Option.{slice_get-get_or}
use Rattle.table_schema.specs.declared.table.Table.{Table}
use Rattle.value_ids.specs.Dictionary.{Distinct, Fits, IsUnicode}
use Rattle.segment_file.specs.Image.{kind_at, kind_or}
use Rattle.segment_file.specs.Rules.{AreSpelled}
use Rattle.data_types.specs.declared.kind.FieldKind.TheVariants.{Long}
use Rattle.segment_file.specs.Parts.{columns_of}

pub zip_push : {A B : Type 0} (R : A → B → Type 0) (xs : List A) (ys : List B) (x : A) (y : B) → AllZip R xs ys → R x y → AllZip R (xs ++ x ∷ []) (ys ++ y ∷ [])
zip_push R [] [] x y all one = (one, tt)
zip_push R [] (b ∷ ys) x y all one = absurd all
zip_push R (a ∷ xs) [] x y all one = absurd all
zip_push R (a ∷ xs) (b ∷ ys) x y all one = (all.0, zip_push R xs ys x y all.1 one)

-- ---- two bytes

pub length-short : (n : ℕ) → length (short n) ≡ 2
unfolding short
length-short n = refl

short_back : (n : ℕ) → n < 2 ^ 16 → from_be_bytes w16 (short n) ≡ n
unfolding short
short_back n lt = from_be_bytes-to_be_bytes_2 n lt

short_read : (bytes : List ℕ) (n : ℕ) → AreBytes bytes → 2 ≤ length bytes → n ≡ from_be_bytes w16 (take 2 bytes) → short n ≡ take 2 bytes
unfolding short
short_read bytes n small long is = be_bytes_2 (take 2 bytes) n (omega (arith, length-take 2 bytes)) (take_small 2 bytes small) is

pub short_whole : (bytes rest : List ℕ) (n : ℕ) → AreBytes bytes → 2 ≤ length bytes → n ≡ from_be_bytes w16 (take 2 bytes) → rest ≡ drop 2 bytes → bytes ≡ short n ++ rest
short_whole bytes rest n small long is following = sym (take-append-drop 2 bytes) ∙ (λ i. sym (short_read bytes n small long is) i ++ sym following i)

same_short : (m n : ℕ) → length (short m) ≡ length (short n)
same_short m n = length-short m ∙ sym (length-short n)

short_once : (m n : ℕ) (x y : List ℕ) → m < 2 ^ 16 → n < 2 ^ 16 → short m ++ x ≡ short n ++ y → m ≡ n
short_once m n x y lm ln e = sym (short_back m lm) ∙ ap (from_be_bytes w16) (same_fronts (short m) (short n) x y (same_short m n) e) ∙ short_back n ln

-- ---- a number

in_range : (k : FieldKind) (z : ℤ) → k ≢ kind.Text → fits k (Whole z) ≡ true → is_in_range k z ≡ true
in_range kind.Int z other fit = fit
in_range kind.Long z other fit = fit
in_range kind.Text z other fit = absurd (other refl)

pub no_eight : (k : FieldKind) (bytes : List ℕ) → k ≢ kind.Text → length bytes < 8 → NoBound k bytes
no_eight k bytes other at_most (Whole z) rest is = omega (arith, at_most, ap length is.spelled, length-append (number_bytes (Whole z)) rest, length-number z)
no_eight k bytes other at_most (Text t) rest is = no_text k t other is.may.fit

number_front : (bytes chunk following : List ℕ) (z : ℤ) → number_bytes (Whole z) ≡ chunk → chunk ≡ take 8 bytes → following ≡ drop 8 bytes → bytes ≡ number_bytes (Whole z) ++ following
number_front bytes chunk following z spelled front back = sym (take-append-drop 8 bytes) ∙ (λ i. sym (spelled ∙ front) i ++ sym back i)

pub out_of_range : (k : FieldKind) (bytes chunk following : List ℕ) (z : ℤ) → k ≢ kind.Text → number_bytes (Whole z) ≡ chunk → chunk ≡ take 8 bytes → following ≡ drop 8 bytes → is_in_range kind.Long z ≡ true → is_in_range k z ≡ false → NoBound k bytes
out_of_range k bytes chunk following z other spelled front back long out (Text t) rest is = no_text k t other is.may.fit
out_of_range k bytes chunk following z other spelled front back long out (Whole y) rest is =
    let both : number_bytes (Whole z) ++ following ≡ number_bytes (Whole y) ++ rest = sym (number_front bytes chunk following z spelled front back) ∙ is.spelled in
    let same : number_bytes (Whole z) ≡ number_bytes (Whole y) = same_fronts (number_bytes (Whole z)) (number_bytes (Whole y)) following rest (length-number z ∙ sym (length-number y)) both in
    let number : z ≡ y = number_once z y long (fits_long k y is.may.fit) same in
    false≢true (sym out ∙ ap (is_in_range k) number ∙ in_range k y other is.may.fit)

-- ---- a text

text_following : (n : ℕ) (t rest after : List ℕ) → n < 2 ^ 16 → length t ≤ 512 → short n ++ after ≡ bound_bytes (Text t) ++ rest → (n ≡ length t) × (after ≡ t ++ rest)
text_following n t rest after fit at_most e =
    let both : short n ++ after ≡ short (length t) ++ (t ++ rest) = e ∙ append_assoc (short (length t)) t rest in
    (short_once n (length t) after (t ++ rest) fit (omega arith) both, same_rests (short n) (short (length t)) after (t ++ rest) (same_short n (length t)) both)

no_whole : (z : ℤ) → fits kind.Text (Whole z) ≡ true → ⊥
no_whole z e = false≢true e

pub no_length : (bytes : List ℕ) → length bytes < 2 → NoBound kind.Text bytes
no_length bytes at_most (Whole z) rest is = no_whole z is.may.fit
no_length bytes at_most (Text t) rest is =
    omega (arith, at_most, ap length is.spelled, length-append (short (length t) ++ t) rest, length-append (short (length t)) t, length-short (length t))

pub too_long : (bytes after : List ℕ) (n : ℕ) → n < 2 ^ 16 → bytes ≡ short n ++ after → 512 < n → NoBound kind.Text bytes
too_long bytes after n fit spelled long (Whole z) rest is = no_whole z is.may.fit
too_long bytes after n fit spelled long (Text t) rest is =
    let at_most = fits_short kind.Text (Text t) is.may.fit in
    omega (arith, long, at_most, (text_following n t rest after fit at_most (sym spelled ∙ is.spelled)).0)

pub cut_off : (bytes after : List ℕ) (n : ℕ) → n < 2 ^ 16 → bytes ≡ short n ++ after → length after < n → NoBound kind.Text bytes
cut_off bytes after n fit spelled at_most (Whole z) rest is = no_whole z is.may.fit
cut_off bytes after n fit spelled at_most (Text t) rest is =
    let both = text_following n t rest after fit (fits_short kind.Text (Text t) is.may.fit) (sym spelled ∙ is.spelled) in
    omega (arith, at_most, both.0, ap length both.1, length-append t rest)

pub not_unicode : (bytes after front : List ℕ) (n : ℕ) → n < 2 ^ 16 → bytes ≡ short n ++ after → front ≡ take n after → ¬ IsUtf8 front → NoBound kind.Text bytes
not_unicode bytes after front n fit spelled cut other (Whole z) rest is = no_whole z is.may.fit
not_unicode bytes after front n fit spelled cut other (Text t) rest is =
    let both = text_following n t rest after fit (fits_short kind.Text (Text t) is.may.fit) (sym spelled ∙ is.spelled) in
    let text : front ≡ t = cut ∙ (λ i. take (both.0 i) (both.1 i)) ∙ take-append_seam t rest in
    other (subst IsUtf8 (sym text) is.may.unicode)

-- ---- bounds

two_kinds : (k : FieldKind) (z : ℤ) (t : List ℕ) → fits k (Whole z) ≡ true → fits k (Text t) ≡ true → ⊥
two_kinds kind.Int z t number text = false≢true text
two_kinds kind.Long z t number text = false≢true text
two_kinds kind.Text z t number text = false≢true number

bound_following : (k : FieldKind) (v w : Value) (x y : List ℕ) → MayBound k v → MayBound k w → bound_bytes v ++ x ≡ bound_bytes w ++ y → x ≡ y
bound_following k (Whole a) (Whole b) x y first second e = same_rests (number_bytes (Whole a)) (number_bytes (Whole b)) x y (length-number a ∙ sym (length-number b)) e
bound_following k (Whole a) (Text t) x y first second e = absurd (two_kinds k a t first.fit second.fit)
bound_following k (Text t) (Whole a) x y first second e = absurd (two_kinds k a t second.fit first.fit)
bound_following k (Text s) (Text t) x y first second e =
    let at_most = fits_short k (Text s) first.fit in
    let whole : short (length s) ++ (s ++ x) ≡ bound_bytes (Text t) ++ y = sym (append_assoc (short (length s)) s x) ∙ e in
    let both = text_following (length s) t y (s ++ x) (omega (arith, at_most)) (fits_short k (Text t) second.fit) whole in
    same_rests s t x y both.0 both.1

bound_once : (k : FieldKind) (v w : Value) (x y : List ℕ) → MayBound k v → MayBound k w → bound_bytes v ++ x ≡ bound_bytes w ++ y → v ≡ w
bound_once k (Whole a) (Whole b) x y first second e =
    ap Whole (number_once a b (fits_long k a first.fit) (fits_long k b second.fit) (same_fronts (number_bytes (Whole a)) (number_bytes (Whole b)) x y (length-number a ∙ sym (length-number b)) e))
bound_once k (Whole a) (Text t) x y first second e = absurd (two_kinds k a t first.fit second.fit)
bound_once k (Text t) (Whole a) x y first second e = absurd (two_kinds k a t second.fit first.fit)
bound_once k (Text s) (Text t) x y first second e =
    let at_most = fits_short k (Text s) first.fit in
    let whole : short (length s) ++ (s ++ x) ≡ bound_bytes (Text t) ++ y = sym (append_assoc (short (length s)) s x) ∙ e in
    let both = text_following (length s) t y (s ++ x) (omega (arith, at_most)) (fits_short k (Text t) second.fit) whole in
    ap Text (same_fronts s t x y both.0 both.1)

-- bytes are the bounds of fields in one way
pub bounds_once : (fields : List Field) (xs ys : List Ends) → AllZip MayEnd fields xs → AllZip MayEnd fields ys → bounds_bytes xs ≡ bounds_bytes ys → xs ≡ ys
bounds_once [] [] [] all others e = refl
bounds_once [] [] (y ∷ ys) all others e = absurd others
bounds_once [] (x ∷ xs) ys all others e = absurd all
bounds_once (f ∷ fs) [] ys all others e = absurd all
bounds_once (f ∷ fs) (x ∷ xs) [] all others e = absurd others
bounds_once (f ∷ fs) (x ∷ xs) (y ∷ ys) all others e =
    let first : List ℕ = bound_bytes x.greatest ++ bounds_bytes xs in
    let second : List ℕ = bound_bytes y.greatest ++ bounds_bytes ys in
    let whole : bound_bytes x.least ++ first ≡ bound_bytes y.least ++ second = sym (append_assoc (bound_bytes x.least) (bound_bytes x.greatest) (bounds_bytes xs)) ∙ e ∙ append_assoc (bound_bytes y.least) (bound_bytes y.greatest) (bounds_bytes ys) in
    let least : x.least ≡ y.least = bound_once f.kind x.least y.least first second all.0.0 others.0.0 whole in
    let following : first ≡ second = bound_following f.kind x.least y.least first second all.0.0 others.0.0 whole in
    let greatest : x.greatest ≡ y.greatest = bound_once f.kind x.greatest y.greatest (bounds_bytes xs) (bounds_bytes ys) all.0.1 others.0.1 following in
    let more : xs ≡ ys = bounds_once fs xs ys all.1 others.1 (bound_following f.kind x.greatest y.greatest (bounds_bytes xs) (bounds_bytes ys) all.0.1 others.0.1 following) in
    (λ i. record { least = least i; greatest = greatest i } ∷ more i)

-- the bounds of the first so many fields were read, and any bounds of all fields go on with the rest
pub record BoundsRead (fields : List Field) (bytes : List ℕ) (at : ℕ) (bounds : List Ends) (rest : List ℕ) : Type 0 where
  pub each : AllZip MayEnd (take at fields) bounds
  pub spelled : bytes ≡ bounds_bytes bounds ++ rest
  pub left : (all : List Ends) → AreBounds fields bytes all → (more : List Ends) × AllZip MayEnd (drop at fields) more × (rest ≡ bounds_bytes more)

pub bounds_begin : (fields : List Field) (bytes : List ℕ) (bounds : List Ends) → bounds ≡ [] → BoundsRead fields bytes 0 bounds bytes
bounds_begin fields bytes bounds none =
    subst (λ bs. BoundsRead fields bytes 0 bs bytes) (sym none) (record { each = tt; spelled = refl; left = λ all are. (all, are.each, are.spelled) })

-- the pair of the next field
next_pair : (f : Field) (fs : List Field) (more : List Ends) (least greatest : Value) (rest following after : List ℕ) → AllZip MayEnd (f ∷ fs) more → rest ≡ bounds_bytes more → IsBound f.kind rest least following → IsBound f.kind following greatest after
    → (others : List Ends) × AllZip MayEnd fs others × (after ≡ bounds_bytes others)
next_pair f fs [] least greatest rest following after all e first second = absurd all
next_pair f fs (ends ∷ others) least greatest rest following after all e first second =
    let tail : List ℕ = bound_bytes ends.greatest ++ bounds_bytes others in
    let one : following ≡ tail = bound_following f.kind least ends.least following tail first.may all.0.0 (sym first.spelled ∙ e ∙ append_assoc (bound_bytes ends.least) (bound_bytes ends.greatest) (bounds_bytes others)) in
    (others, all.1, bound_following f.kind greatest ends.greatest after (bounds_bytes others) second.may all.0.1 (sym second.spelled ∙ one))

no_first : (f : Field) (fs : List Field) (more : List Ends) (rest : List ℕ) → AllZip MayEnd (f ∷ fs) more → rest ≡ bounds_bytes more → NoBound f.kind rest → ⊥
no_first f fs [] rest all e none = absurd all
no_first f fs (ends ∷ others) rest all e none =
    none ends.least (bound_bytes ends.greatest ++ bounds_bytes others) (record { may = all.0.0; spelled = e ∙ append_assoc (bound_bytes ends.least) (bound_bytes ends.greatest) (bounds_bytes others) })

no_second : (f : Field) (fs : List Field) (more : List Ends) (least : Value) (rest following : List ℕ) → AllZip MayEnd (f ∷ fs) more → rest ≡ bounds_bytes more → IsBound f.kind rest least following → NoBound f.kind following → ⊥
no_second f fs [] least rest following all e first none = absurd all
no_second f fs (ends ∷ others) least rest following all e first none =
    let tail : List ℕ = bound_bytes ends.greatest ++ bounds_bytes others in
    let one : following ≡ tail = bound_following f.kind least ends.least following tail first.may all.0.0 (sym first.spelled ∙ e ∙ append_assoc (bound_bytes ends.least) (bound_bytes ends.greatest) (bounds_bytes others)) in
    none ends.greatest (bounds_bytes others) (record { may = all.0.1; spelled = one })

-- the fields that are left begin with this one
ahead : (fields : List Field) (at : ℕ) (f : Field) → at < length fields → f ≡ get_or fields at f → drop at fields ≡ f ∷ drop (at + 1) fields
ahead fields at f lt is = drop_more fields at f lt ∙ ap (λ g. g ∷ drop (at + 1) fields) (sym is)

pub bounds_more : (fields : List Field) (bytes : List ℕ) (at : ℕ) (f : Field) (bounds new : List Ends) (least greatest : Value) (rest following after : List ℕ) → at < length fields → f ≡ get_or fields at f
    → IsBound f.kind rest least following → IsBound f.kind following greatest after → new ≡ bounds ++ record { least = least; greatest = greatest } ∷ []
    → BoundsRead fields bytes at bounds rest → BoundsRead fields bytes (at + 1) new after
bounds_more fields bytes at f bounds new least greatest rest following after lt is first second pushed so_far =
    let ends : Ends = record { least = least; greatest = greatest } in
    let fields_are : take (at + 1) fields ≡ take at fields ++ f ∷ [] = take_more fields at f lt ∙ ap (λ g. take at fields ++ g ∷ []) (sym is) in
    let pair : rest ≡ pair_bytes ends ++ after = first.spelled ∙ ap (λ b. bound_bytes least ++ b) second.spelled ∙ sym (append_assoc (bound_bytes least) (bound_bytes greatest) after) in
    subst (λ bs. BoundsRead fields bytes (at + 1) bs after) (sym pushed)
    (record {
      each = subst (λ fs. AllZip MayEnd fs (bounds ++ ends ∷ [])) (sym fields_are) (zip_push MayEnd (take at fields) bounds f ends so_far.each (first.may, second.may));
      spelled =
          so_far.spelled
          ∙ ap (λ b. bounds_bytes bounds ++ b) pair
          ∙ sym (append_assoc (bounds_bytes bounds) (pair_bytes ends) after)
          ∙ ap (λ b. (bounds_bytes bounds ++ b) ++ after) (sym (append-nil (pair_bytes ends)))
          ∙ ap (λ b. b ++ after) (sym (flat_map-append pair_bytes bounds (ends ∷ [])));
      left = λ all are.
          let (more, zip, e) = so_far.left all are in
          next_pair f (drop (at + 1) fields) more least greatest rest following after (subst (λ fs. AllZip MayEnd fs more) (ahead fields at f lt is) zip) e first second;
    })

pub no_least : (fields : List Field) (bytes : List ℕ) (at : ℕ) (f : Field) (bounds : List Ends) (rest : List ℕ) → at < length fields → f ≡ get_or fields at f → NoBound f.kind rest → BoundsRead fields bytes at bounds rest → (all : List Ends) → ¬ AreBounds fields bytes all
no_least fields bytes at f bounds rest lt is none so_far all are =
    let (more, zip, e) = so_far.left all are in
    no_first f (drop (at + 1) fields) more rest (subst (λ fs. AllZip MayEnd fs more) (ahead fields at f lt is) zip) e none

pub no_greatest : (fields : List Field) (bytes : List ℕ) (at : ℕ) (f : Field) (bounds : List Ends) (least : Value) (rest following : List ℕ) → at < length fields → f ≡ get_or fields at f → IsBound f.kind rest least following → NoBound f.kind following
    → BoundsRead fields bytes at bounds rest → (all : List Ends) → ¬ AreBounds fields bytes all
no_greatest fields bytes at f bounds least rest following lt is first none so_far all are =
    let (more, zip, e) = so_far.left all are in
    no_second f (drop (at + 1) fields) more least rest following (subst (λ fs. AllZip MayEnd fs more) (ahead fields at f lt is) zip) e first none

empty : {X : Type 0} (xs : List X) → length xs ≡ 0 → xs ≡ []
empty [] e = refl
empty (x ∷ xs) e = absurd (omega arith)

pub bounds_end : (fields : List Field) (bytes : List ℕ) (at : ℕ) (bounds : List Ends) (rest : List ℕ) → length fields ≤ at → length rest ≡ 0 → BoundsRead fields bytes at bounds rest → AreBounds fields bytes bounds
bounds_end fields bytes at bounds rest over none so_far =
    record {
      each = subst (λ fs. AllZip MayEnd fs bounds) (take_all at fields over) so_far.each;
      spelled = so_far.spelled ∙ ap (λ b. bounds_bytes bounds ++ b) (empty rest none) ∙ append-nil (bounds_bytes bounds);
    }

none_more : (more : List Ends) → AllZip MayEnd [] more → more ≡ []
none_more [] zip = refl
none_more (ends ∷ more) zip = absurd zip

pub bounds_over : (fields : List Field) (bytes : List ℕ) (at : ℕ) (bounds : List Ends) (rest : List ℕ) → length fields ≤ at → length rest ≢ 0 → BoundsRead fields bytes at bounds rest → (all : List Ends) → ¬ AreBounds fields bytes all
bounds_over fields bytes at bounds rest over some so_far all are =
    let (more, zip, e) = so_far.left all are in
    let no_fields : drop at fields ≡ [] = empty (drop at fields) (omega (arith, length-drop at fields, over)) in
    let none : more ≡ [] = none_more more (subst (λ fs. AllZip MayEnd fs more) no_fields zip) in
    some (ap length (e ∙ ap bounds_bytes none))

-- ---- what an option has to show

pub at_some : {X : Type 0} (r : Option X) (x : X) (P : Type 0) (Q : X → Type 0) → r ≡ Some x → MatchOption r P Q → Q x
at_some r x P Q e all = subst (λ o. MatchOption o P Q) e all

pub at_nothing : {X : Type 0} (r : Option X) (P : Type 0) (Q : X → Type 0) → r ≡ None → MatchOption r P Q → P
at_nothing r P Q e all = subst (λ o. MatchOption o P Q) e all

-- ---- the bounds of dictionaries

-- a column of some values has a pair
ends_more : (f : Field) (fs : List Field) (values : List Value) (rest : List Ends) → 0 < length values → All (Fits f.kind) values → All IsUnicode values → AllZip MayEnd fs rest → AllZip MayEnd (f ∷ fs) (ends_of values ++ rest)
ends_more f fs [] rest some fit unicode zip = absurd (omega arith)
ends_more f fs (v ∷ vs) rest some fit unicode zip =
    let last : length vs < length (v ∷ vs) = omega arith in (
      (
        record { fit = fit 0 v (omega arith); unicode = unicode 0 v (omega arith) },
        record { fit = All-get_or (Fits f.kind) (v ∷ vs) (length vs) v last fit; unicode = All-get_or IsUnicode (v ∷ vs) (length vs) v last unicode },
      ),
      zip,
    )

ends_each : (table : Table) (rows : ℕ) (heads : List (List ℕ)) (a : ℕ) (fs : List Field) (ds : List Distinct) → 0 < rows → ((i : ℕ) (f : Field) → i < length fs → kind_at table (a + i) ≡ (get_or fs i f).kind) → AreSpelled table rows heads (range_with_len a (length fs)) ds → AllZip MayEnd fs (bounds_of ds)
ends_each table rows heads a [] [] some kinds all = tt
ends_each table rows heads a [] (d ∷ ds) some kinds all = absurd all
ends_each table rows heads a (f ∷ fs) [] some kinds all = absurd all
ends_each table rows heads a (f ∷ fs) (d ∷ ds) some kinds all =
    let first : a + 0 ≡ a = omega arith in
    let kind : d.kind ≡ f.kind = all.0.kind_is ∙ ap (kind_at table) (sym first) ∙ kinds 0 f (omega arith) in
    let later : (i : ℕ) (g : Field) → i < length fs → kind_at table (a + 1 + i) ≡ (get_or fs i g).kind = λ i g lt.
    (let e : a + 1 + i ≡ a + suc i = omega arith in ap (kind_at table) e ∙ kinds (suc i) g (omega arith)) in
    ends_more f fs d.values (bounds_of ds) (all.0.some some) (subst (λ k. All (Fits k) d.values) kind all.0.stands.fit) all.0.stands.unicode (ends_each table rows heads (a + 1) fs ds some later all.1)

no_ends : (values : List Value) → length values ≤ 0 → ends_of values ≡ []
no_ends [] at_most = refl
no_ends (v ∷ vs) at_most = absurd (omega arith)

no_bounds : (table : Table) (heads : List (List ℕ)) (columns : List ℕ) (ds : List Distinct) → AreSpelled table 0 heads columns ds → bounds_of ds ≡ []
no_bounds table heads [] [] all = refl
no_bounds table heads [] (d ∷ ds) all = absurd all
no_bounds table heads (c ∷ cs) [] all = absurd all
no_bounds table heads (c ∷ cs) (d ∷ ds) all = (λ i. no_ends d.values all.0.at_most i ++ no_bounds table heads cs ds all.1 i)

bounds_each : (table : Table) (rows : ℕ) (heads : List (List ℕ)) (ds : List Distinct) → AreSpelled table rows heads (columns_of table) ds → AllZip MayEnd (bounded rows table.schema.fields) (bounds_of ds)
bounds_each table zero heads ds all = subst (AllZip MayEnd []) (sym (no_bounds table heads (columns_of table) ds all)) tt
bounds_each table (suc rows) heads ds all =
    let fields : List Field = table.schema.fields in
    let kinds : (i : ℕ) (f : Field) → i < length fields → kind_at table (0 + i) ≡ (get_or fields i f).kind = λ i f lt.
    (let e : 0 + i ≡ i = omega arith in ap (kind_at table) e ∙ ap kind_or (slice_get-get_or fields i f lt)) in
    ends_each table (suc rows) heads 0 fields ds (omega arith) kinds all

-- bytes that are the bounds of dictionaries are bounds of the fields
pub bounds_there : (table : Table) (rows : ℕ) (heads : List (List ℕ)) (first : List ℕ) (ds : List Distinct) → AreSpelled table rows heads (columns_of table) ds → first ≡ bounds_bytes (bounds_of ds) → AreBounds (bounded rows table.schema.fields) first (bounds_of ds)
bounds_there table rows heads first ds all is = record { each = bounds_each table rows heads ds all; spelled = is }
