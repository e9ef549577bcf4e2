-- The words of a line of `serve`.
use Rattle.std.specs.Prelude.{ℕ, List, [], ◌∷◌, Option, Some, None, codes, if◌then◌else◌}
use Rattle.std.specs.Str.{bytes_eq}
use Rattle.segment_file.specs.Names.{is_segment_name}

-- what the words of a line of `serve` ask for: a cursor is opened for a query's text, answers its
-- next segment or all that are left, or is closed; a segment is built, dropped, or gets other rows
pub data ServeLine : Type 0 where
  Open : (cursor sql : List ℕ) → ServeLine
  Step : (cursor : List ℕ) → ServeLine
  Fetch : (cursor : List ℕ) → ServeLine
  Close : (cursor : List ℕ) → ServeLine
  Build : (name csv : List ℕ) → ServeLine
  Drop : (name : List ℕ) → ServeLine
  Replace : (name csv : List ℕ) → ServeLine

-- two words, of which the second is a name
abbrev pub of_name : List ℕ → List ℕ → Option ServeLine
of_name verb name =
    if bytes_eq verb (codes "step") then Some (Step name)
    else if bytes_eq verb (codes "fetch") then Some (Fetch name)
    else if bytes_eq verb (codes "close") then Some (Close name)
    else if bytes_eq verb (codes "drop") then Some (Drop name)
    else None

-- three words, of which the second is a name
abbrev pub of_text : List ℕ → List ℕ → List ℕ → Option ServeLine
of_text verb name text =
    if bytes_eq verb (codes "open") then Some (Open name text)
    else if bytes_eq verb (codes "build") then Some (Build name text)
    else if bytes_eq verb (codes "replace") then Some (Replace name text)
    else None

-- what these words ask for, if they ask for anything; cursors are named as segments are
abbrev pub serve_line_of : List (List ℕ) → Option ServeLine
serve_line_of (verb ∷ name ∷ []) = if is_segment_name name then of_name verb name else None
serve_line_of (verb ∷ name ∷ text ∷ []) = if is_segment_name name then of_text verb name text
    else None
serve_line_of words = None
