-- The first line of a text, as the machine of `csv` reads it, where it has no quotes.
use Rattle.std.proofs.Common.{◌≡◌, ◌∙◌, ◌<◌, ◌+◌, ◌++◌, ◌==◌, ◌⊎◌, inl, inr, ℕ, suc, List, [], ◌∷◌, length, take, drop, Bool, true, false, Some, refl, sym, ap, arith, add-one, get_or, append_assoc, ap₂}
use Rattle.std.proofs.Math.Seq.{drop-cons}
use Rattle.std.proofs.lemmas.Bool.Decides.{nat_tests}
use Rattle.std.proofs.lemmas.List.{length-take-le, take_more}
use Rattle.std.specs.List.{list_all}
use Rattle.csv.specs.Machine.{next_record}
use Rattle.csv.specs.Reading.{default_config, records_from, records_next, strip_bom}
use Rattle.csv.specs.declared.parser.State.{State}
use Rattle.csv.specs.declared.parser.State.TheVariants as st
use Rattle.csv_ingest.specs.Lines.{AtLineEnd, IsHeaderEnd, is_bare}
use Rattle.csv_ingest.specs.Reading.{TextReader, records_left}
use Rattle.csv_ingest.proofs.MarkedLines.{after-return, and-left, and-right, parts, passed}

bare-byte : (b : ℕ) → is_bare b ≡ true → ((b == 34) ≡ false) × ((b == 13) ≡ false) × ((b == 10) ≡ false) × ((b == 0xEF) ≡ false)
bare-byte b bare = (grind (arith, nat_tests), grind (arith, nat_tests), grind (arith, nat_tests), grind (arith, nat_tests))

-- the cells of a line's rest
abbrev Ends : State → List (List ℕ) → List ℕ → List ℕ → Type 0
Ends s fields field line = (cells : List (List ℕ)) × ((rest : List ℕ) → next_record default_config s fields field (line ++ 10 ∷ rest) ≡ Some (cells, st.StartRecord, rest))
    × ((rest : List ℕ) → next_record default_config s fields field (line ++ 13 ∷ rest) ≡ Some (cells, st.AfterCr, rest))

abbrev IsIn : State → Type 0
IsIn s = (s ≡ st.InField) ⊎ (s ≡ st.StartField)

ends-now : (s : State) → IsIn s → (fields : List (List ℕ)) (field rest : List ℕ) → next_record default_config s fields field (10 ∷ rest) ≡ Some (fields ++ field ∷ [], st.StartRecord, rest)
unfolding next_record
ends-now s (inl e) fields field rest = rw e refl
ends-now s (inr e) fields field rest = rw e refl

ends-return : (s : State) → IsIn s → (fields : List (List ℕ)) (field rest : List ℕ) → next_record default_config s fields field (13 ∷ rest) ≡ Some (fields ++ field ∷ [], st.AfterCr, rest)
unfolding next_record
ends-return s (inl e) fields field rest = rw e refl
ends-return s (inr e) fields field rest = rw e refl

a-comma : (s : State) → IsIn s → (fields : List (List ℕ)) (field : List ℕ) (b : ℕ) (rest : List ℕ) → (b == 44) ≡ true → is_bare b ≡ true
    → next_record default_config s fields field (b ∷ rest) ≡ next_record default_config st.StartField (fields ++ field ∷ []) [] rest
unfolding next_record
a-comma s (inl e) fields field b rest comma bare = rw e (rw comma refl)
a-comma s (inr e) fields field b rest comma bare = let (quote, cr, lf, mark) = bare-byte b bare in rw e (rw (quote, comma) refl)

a-byte : (s : State) → IsIn s → (fields : List (List ℕ)) (field : List ℕ) (b : ℕ) (rest : List ℕ) → (b == 44) ≡ false → is_bare b ≡ true
    → next_record default_config s fields field (b ∷ rest) ≡ next_record default_config st.InField fields (field ++ b ∷ []) rest
unfolding next_record
a-byte s (inl e) fields field b rest comma bare = let (quote, cr, lf, mark) = bare-byte b bare in rw e (rw (comma, cr, lf) refl)
a-byte s (inr e) fields field b rest comma bare = let (quote, cr, lf, mark) = bare-byte b bare in rw e (rw (quote, comma, cr, lf) refl)

next-byte : (is_comma : Bool) (s : State) → IsIn s → (fields : List (List ℕ)) (field : List ℕ) (b : ℕ) (line : List ℕ) → (b == 44) ≡ is_comma → is_bare b ≡ true
    → Ends st.StartField (fields ++ field ∷ []) [] line → Ends st.InField fields (field ++ b ∷ []) line → Ends s fields field (b ∷ line)
next-byte true s inside fields field b line comma bare (cells, feed, return) other =
    (cells, λ rest. a-comma s inside fields field b (line ++ 10 ∷ rest) comma bare ∙ feed rest, λ rest. a-comma s inside fields field b (line ++ 13 ∷ rest) comma bare ∙ return rest)
next-byte false s inside fields field b line comma bare other (cells, feed, return) =
    (cells, λ rest. a-byte s inside fields field b (line ++ 10 ∷ rest) comma bare ∙ feed rest, λ rest. a-byte s inside fields field b (line ++ 13 ∷ rest) comma bare ∙ return rest)

rest-ends : (s : State) → IsIn s → (fields : List (List ℕ)) (field line : List ℕ) → list_all is_bare line ≡ true → Ends s fields field line
rest-ends s inside fields field [] bare = (fields ++ field ∷ [], ends-now s inside fields field, ends-return s inside fields field)
rest-ends s inside fields field (b ∷ line) bare =
    let more = and-right (is_bare b) (list_all is_bare line) bare in
    next-byte (b == 44) s inside fields field b line refl (and-left (is_bare b) (list_all is_bare line) bare)
    (rest-ends st.StartField (inr refl) (fields ++ field ∷ []) [] line more) (rest-ends st.InField (inl refl) fields (field ++ b ∷ []) line more)

-- the first byte of a record starts its first field
first-byte : (b : ℕ) (rest : List ℕ) → is_bare b ≡ true → next_record default_config st.StartRecord [] [] (b ∷ rest) ≡ next_record default_config st.StartField [] [] (b ∷ rest)
unfolding next_record
first-byte b rest bare = let (quote, cr, lf, mark) = bare-byte b bare in rw (cr, lf) refl

line-cells : (line : List ℕ) → 0 < length line → list_all is_bare line ≡ true → Ends st.StartRecord [] [] line
line-cells [] some bare = absurd (omega (arith, some))
line-cells (b ∷ line) some bare =
    let one = and-left (is_bare b) (list_all is_bare line) bare in
    let (cells, feed, return) = rest-ends st.StartField (inr refl) [] [] (b ∷ line) bare in
    (cells, λ rest. first-byte b (line ++ 10 ∷ rest) one ∙ feed rest, λ rest. first-byte b (line ++ 13 ∷ rest) one ∙ return rest)

no-mark : (b : ℕ) (rest : List ℕ) → (b == 0xEF) ≡ false → strip_bom (b ∷ rest) ≡ b ∷ rest
unfolding strip_bom
no-mark b [] e = refl
no-mark b (c ∷ []) e = refl
no-mark b (c ∷ d ∷ rest) e = rw e refl

-- a text that starts with a line's end has no mark
pub end-unmarked : (text : List ℕ) → AtLineEnd text → strip_bom text ≡ text
end-unmarked text (rest, is) = ap strip_bom is ∙ no-mark 10 rest refl ∙ sym is

starts-bare : (line rest : List ℕ) → 0 < length line → list_all is_bare line ≡ true → strip_bom (line ++ rest) ≡ line ++ rest
starts-bare [] rest some bare = absurd (omega (arith, some))
starts-bare (b ∷ line) rest some bare = let (quote, cr, lf, mark) = bare-byte b (and-left (is_bare b) (list_all is_bare line) bare) in no-mark b (line ++ rest) mark

-- the first line alone has the first record of the text
pub record FirstLine (text : List ℕ) (end : ℕ) : Type 0 where
  pub cells : List (List ℕ)
  pub unmarked : strip_bom (take (end + 1) text) ≡ take (end + 1) text
  pub at_end : AtLineEnd (drop end text)
  pub alone : records_from default_config 1 st.StartRecord (take (end + 1) text) ≡ cells ∷ []
  pub whole : (n : ℕ) → records_from default_config (n + 1) st.StartRecord text ≡ cells ∷ records_from default_config n st.StartRecord (drop end text)

nothing : (s : State) (text : List ℕ) → records_from default_config 0 s text ≡ []
unfolding records_from
nothing s text = refl

one-state : (n : ℕ) (text : List ℕ) (cells : List (List ℕ)) (state : State) (rest : List ℕ) → next_record default_config st.StartRecord [] [] text ≡ Some (cells, state, rest)
    → records_from default_config (n + 1) st.StartRecord text ≡ cells ∷ records_from default_config n state rest
unfolding records_from
one-state n text cells state rest e = rw add-one (ap (records_next (records_from default_config n)) e)

module _ (text line rest : List ℕ) (end : ℕ) (some : 0 < length line) (bare : list_all is_bare line ≡ true) (left : drop end text ≡ 10 ∷ rest) where
  by-feed : text ≡ line ++ 10 ∷ rest → take (end + 1) text ≡ line ++ 10 ∷ [] → FirstLine text end
  by-feed all alone =
      let (cells, feed, return) = line-cells line some bare in
      record {
        cells = cells;
        unmarked = ap strip_bom alone ∙ starts-bare line (10 ∷ []) some bare ∙ sym alone;
        at_end = (rest, left);
        alone = ap (records_from default_config 1 st.StartRecord) alone ∙ one-state 0 (line ++ 10 ∷ []) cells st.StartRecord [] (feed []) ∙ ap (λ records. cells ∷ records) (nothing st.StartRecord []);
        whole = λ n.
            ap (records_from default_config (n + 1) st.StartRecord) all ∙ one-state n (line ++ 10 ∷ rest) cells st.StartRecord rest (feed rest)
            ∙ ap (λ records. cells ∷ records) (sym (ap (records_from default_config n st.StartRecord) left ∙ passed n rest));
      }

  by-return : text ≡ line ++ 13 ∷ 10 ∷ rest → take (end + 1) text ≡ line ++ 13 ∷ 10 ∷ [] → FirstLine text end
  by-return all alone =
      let (cells, feed, return) = line-cells line some bare in
      record {
        cells = cells;
        unmarked = ap strip_bom alone ∙ starts-bare line (13 ∷ 10 ∷ []) some bare ∙ sym alone;
        at_end = (rest, left);
        alone = ap (records_from default_config 1 st.StartRecord) alone ∙ one-state 0 (line ++ 13 ∷ 10 ∷ []) cells st.AfterCr (10 ∷ []) (return (10 ∷ [])) ∙ ap (λ records. cells ∷ records) (nothing st.AfterCr (10 ∷ []));
        whole = λ n.
            ap (records_from default_config (n + 1) st.StartRecord) all ∙ one-state n (line ++ 13 ∷ 10 ∷ rest) cells st.AfterCr (10 ∷ rest) (return (10 ∷ rest))
            ∙ ap (λ records. cells ∷ records) (after-return n rest ∙ ap (records_from default_config n st.StartRecord) (sym left));
      }

first_by : (text : List ℕ) (end len : ℕ) → 0 < len → list_all is_bare (take len text) ≡ true → end < length text → get_or text end 0 ≡ 10 → (end ≡ len) ⊎ ((end ≡ len + 1) × (get_or text len 0 ≡ 13)) → FirstLine text end
first_by text end len some bare within feed (inl here) =
    let line : List ℕ = take len text in
    let rest : List ℕ = drop (suc end) text in
    let size : 0 < length line = omega (arith, length-take-le len text (omega (arith, within, here)), some) in
    let before : take end text ≡ line = ap (λ k. take k text) here in
    by-feed text line rest end size bare (drop-cons text end 0 within ∙ ap (λ b. b ∷ rest) feed)
    (parts text end 10 within feed ∙ ap (λ front. front ++ 10 ∷ rest) before)
    (take_more text end 0 within ∙ ap₂ (λ front b. front ++ b ∷ []) before feed)
first_by text end len some bare within feed (inr (next, return)) =
    let line : List ℕ = take len text in
    let rest : List ℕ = drop (suc end) text in
    let lt : len < length text = omega (arith, within, next) in
    let size : 0 < length line = omega (arith, length-take-le len text (omega (arith, lt)), some) in
    let place : suc len ≡ end = omega (arith, next) in
    let left : drop end text ≡ 10 ∷ rest = drop-cons text end 0 within ∙ ap (λ b. b ∷ rest) feed in
    let before : take end text ≡ line ++ 13 ∷ [] = ap (λ k. take k text) next ∙ take_more text len 0 lt ∙ ap (λ b. line ++ b ∷ []) return in
    by-return text line rest end size bare left
    (parts text len 13 lt return ∙ ap (λ xs. line ++ 13 ∷ xs) (ap (λ k. drop k text) place ∙ left))
    (take_more text end 0 within ∙ ap₂ (λ front b. front ++ b ∷ []) before feed ∙ append_assoc line (13 ∷ []) (10 ∷ []))

pub first-line : (text : List ℕ) (end : ℕ) → IsHeaderEnd text end → FirstLine text end
first-line text end h = first_by text end h.len h.some h.bare h.feed.within h.feed.line_feed h.feed.here

same_first : (cells fields : List (List ℕ)) (more : List (List (List ℕ))) → cells ∷ [] ≡ fields ∷ more → cells ≡ fields
same_first cells fields more e = cc

none_first : (cells : List (List ℕ)) → cells ∷ [] ≡ [] → ⊥
none_first cells e = cc

module _ (text : List ℕ) (end : ℕ) (h : IsHeaderEnd text end) (reader : TextReader) (left : (n : ℕ) → records_left n reader (strip_bom (take (end + 1) text)) ≡ records_from default_config n st.StartRecord (strip_bom (take (end + 1) text))) where
  only : (l : FirstLine text end) → l.cells ∷ [] ≡ records_left 1 reader (strip_bom (take (end + 1) text))
  only l = sym l.alone ∙ ap (records_from default_config 1 st.StartRecord) (sym l.unmarked) ∙ sym (left 1)

  -- what a reader of the first line alone gives is the first record of the text
  pub header-read : (fields : List (List ℕ)) (more : List (List (List ℕ))) → records_left 1 reader (strip_bom (take (end + 1) text)) ≡ fields ∷ more → (n : ℕ)
      → records_from default_config (n + 1) st.StartRecord text ≡ fields ∷ records_from default_config n st.StartRecord (drop end text)
  header-read fields more e n =
      let l = first-line text end h in
      l.whole n ∙ ap (λ f. f ∷ records_from default_config n st.StartRecord (drop end text)) (same_first l.cells fields more (only l ∙ e))

  pub header-there : records_left 1 reader (strip_bom (take (end + 1) text)) ≡ [] → ⊥
  header-there e = let l = first-line text end h in none_first l.cells (only l ∙ e)
