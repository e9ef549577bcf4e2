-- The lines of a file of lines, run one after another.
use Rattle.std.proofs.Common.{◌≡◌, ◌≢◌, ◌⊎◌, ◌∙◌, ◌+◌, ◌≤◌, ◌<◌, inl, inr, ℕ, Bool, true, false, cond, List, [], ◌∷◌, Option, Some, None, Result, Ok, Err, length, refl, sym, ap, subst, arith, ◌==◌}
use Rattle.std.specs.Prelude.{MatchResult}
use Rattle.std.specs.List.{onto_first, slice_split}
use Rattle.std.specs.Str.Lines.{lines, lines_of_parts}
use Rattle.std.proofs.lemmas.Bool.Decides.{nat_tests}
use Rattle.std.proofs.lemmas.Iterator.{YieldsList}
use denote.Ref.{Bor}
use Rattle.outside.specs.Seen.{Heard}
use Rattle.command_words.specs.Notes.{is_fault}
use Rattle.command_words.specs.declared.status.Status.{Status}
use Rattle.command_words.specs.declared.status.Status.TheVariants as status
use Rattle.command_model.specs.Profile.{script_limit}
use Rattle.command_model.specs.World.{Stage}
use Rattle.serve_lines.specs.Kept.{Kept}
use Rattle.pinot_run.specs.Script.{GivesMark}
use Rattle.pinot_run.specs.Serve.{EndsHere, LeadsOn, RunsNumbered, ServesLine}
use Rattle.pinot_run.specs.Text.{has_bytes}

-- ---- how many lines there are

onto_same : (x : ℕ) (b : Bool) (parts : List (List ℕ)) (n : ℕ) → length parts ≤ n → length (cond b ([] ∷ parts) (onto_first x parts)) ≤ n + 1
onto_same x true parts n le = omega (arith, le)
onto_same x false [] n le = omega (arith, le)
onto_same x false (part ∷ parts) n le = omega (arith, le)

split_at_most : (p : ℕ → Bool) (xs : List ℕ) → length (slice_split p xs) ≤ length xs + 1
split_at_most p [] = omega arith
split_at_most p (x ∷ xs) = one_more _ x xs (onto_same x (p x) (slice_split p xs) (length xs + 1) (split_at_most p xs))
  where
    one_more : (n x : ℕ) (xs : List ℕ) → n ≤ length xs + 1 + 1 → n ≤ length (x ∷ xs) + 1
    one_more n x xs le = omega (arith, le)

parts_at_most : (parts : List (List ℕ)) → length (lines_of_parts parts) ≤ length parts
parts_at_most [] = omega arith
parts_at_most (x ∷ []) = by (length x == 0)
  where
    by : (b : Bool) → length (cond b [] (x ∷ [])) ≤ 1
    by true = omega arith
    by false = omega arith
parts_at_most (x ∷ y ∷ more) = let le = parts_at_most (y ∷ more) in omega (arith, le)

-- a text has at most one line more than bytes
pub lines_at_most : (text : List ℕ) → length (lines text) ≤ length text + 1
lines_at_most text =
    let a = parts_at_most (slice_split (λ b. b == 10) text) in
    let b = split_at_most (λ b. b == 10) text in
    omega (arith, a, b)

-- so the number of a line of a short text is a small one
pub number_small : (number : ℕ) (text : List ℕ) → number ≤ length (lines text) → length text ≤ script_limit → number < 4294967296
number_small number text le short = small number (length (lines text)) (length text) le (lines_at_most text) short
  where
    small : (n l t : ℕ) → n ≤ l → l ≤ t + 1 → t ≤ 16777216 → n < 4294967296
    small n l t a b c = omega (arith, a, b, c)

-- ---- one line

pub none_there : (line : List ℕ) → length line ≡ 0 → has_bytes line ≡ false
none_there line is = grind (arith, nat_tests, is)

pub some_there : (line : List ℕ) → 1 ≤ length line → has_bytes line ≡ true
some_there line le = grind (arith, nat_tests, le)

-- after the mark a line leads on, or it was the last
pub mark_led : (number : ℕ) (line : List ℕ) (old between : Stage Kept) (said : Status) → ServesLine number line old said between → is_fault said ≡ false → (result : Result (Unit {0}) Status) (out notes : Heard) → GivesMark said between.out out between.notes notes result
    → MatchResult result (λ _. LeadsOn ServesLine number line old (record { devices = between.devices; out = out; notes = notes; kept = between.kept }))
    (λ ended. EndsHere ServesLine number line old ended (record { devices = between.devices; out = out; notes = notes; kept = between.kept }))
mark_led number line old between said does fine (Ok done) out notes (whole, faults, same) =
    record { said = said; between = between; does = does; fine = fine; marked = record { devices = refl; kept = refl; notes = same; out = whole; faults = faults } }
mark_led number line old between said does fine (Err ended) out notes (is, prefix, failed, later, noted) =
    record { said = said; between = between; does = does; stops = inr (fine, is, record { devices = refl; kept = refl; prefix = prefix; failed = failed; later = later; noted = noted }) }

-- ---- the lines that are left

-- the lines that an iterator has left, numbered on from here, are all of them, run from the start
pub record NumbersLeft {S : Type 0} (steps : S → Option (Bor (List ℕ)) → S → Type 0) (all : List (List ℕ)) (start now : Stage Kept) (number : ℕ) (left : S) : Type 0 where
  pub rest : List (List ℕ)
  pub yields : YieldsList steps (λ x. x.now) left rest
  pub many : number + length rest ≤ length all
  pub runs : (ended : Result (Unit {0}) Status) (new : Stage Kept) → RunsNumbered ServesLine (number + 1) rest now ended new → RunsNumbered ServesLine 1 all start ended new

module _ {S : Type 0} (steps : S → Option (Bor (List ℕ)) → S → Type 0) (all : List (List ℕ)) (start now : Stage Kept) (number : ℕ) (s : S) where
  -- the line that comes is the first of them
  abbrev Next : Bor (List ℕ) → S → Type 0
  Next x t = (more : List (List ℕ)) × YieldsList steps (λ x. x.now) t more × (number + 1 + length more ≤ length all)
      × ((ended : Result (Unit {0}) Status) (new : Stage Kept) → RunsNumbered ServesLine (number + 1) (x.now ∷ more) now ended new → RunsNumbered ServesLine 1 all start ended new)

  first_by : (rest : List (List ℕ)) (x : Bor (List ℕ)) (t : S) → YieldsList steps (λ x. x.now) s rest → steps s (Some x) t → number + length rest ≤ length all
      → ((ended : Result (Unit {0}) Status) (new : Stage Kept) → RunsNumbered ServesLine (number + 1) rest now ended new → RunsNumbered ServesLine 1 all start ended new) → Next x t
  first_by [] x t yields step many runs = absurd (yields.runs x t step)
  first_by (line ∷ more) x t yields step many runs =
      let came = yields.runs.1 x t step in
      (more, record { runs = came.1 }, omega (arith, many), subst (λ l. (ended : Result (Unit {0}) Status) (new : Stage Kept) → RunsNumbered ServesLine (number + 1) (l ∷ more) now ended new → RunsNumbered ServesLine 1 all start ended new) (sym came.0) runs)

  first : (x : Bor (List ℕ)) (t : S) → NumbersLeft steps all start now number s → steps s (Some x) t → Next x t
  first x t l step = first_by l.rest x t l.yields step l.many l.runs

  -- there are so many lines at least
  pub more_lines : (x : Bor (List ℕ)) (t : S) → NumbersLeft steps all start now number s → steps s (Some x) t → number + 1 ≤ length all
  more_lines x t l step = let n = first x t l step in let le = n.2 in omega (arith, le)

  -- an empty line is passed over
  pub number_empty : (x : Bor (List ℕ)) (t : S) → NumbersLeft steps all start now number s → steps s (Some x) t → has_bytes x.now ≡ false → NumbersLeft steps all start now (number + 1) t
  number_empty x t l step is =
      let (more, yields, many, runs) = first x t l step in
      record { rest = more; yields = yields; many = many; runs = λ ended new r. runs ended new (inl (is, r)) }

  -- another was run
  pub number_run : (x : Bor (List ℕ)) (t : S) (next : Stage Kept) → NumbersLeft steps all start now number s → steps s (Some x) t → has_bytes x.now ≡ true → LeadsOn ServesLine (number + 1) x.now now next → NumbersLeft steps all start next (number + 1) t
  number_run x t next l step is leads =
      let (more, yields, many, runs) = first x t l step in
      record { rest = more; yields = yields; many = many; runs = λ ended new r. runs ended new (inr (inr (is, next, leads, r))) }

  -- or was the last
  pub number_last : (x : Bor (List ℕ)) (t : S) (why : Status) (new : Stage Kept) → NumbersLeft steps all start now number s → steps s (Some x) t → has_bytes x.now ≡ true → EndsHere ServesLine (number + 1) x.now now why new → RunsNumbered ServesLine 1 all start (Err why) new
  number_last x t why new l step is ends =
      let (more, yields, many, runs) = first x t l step in
      runs (Err why) new (inr (inl (is, why, refl, ends)))

  -- none is left
  none_by : (rest : List (List ℕ)) (t : S) → YieldsList steps (λ x. x.now) s rest → steps s None t → ((ended : Result (Unit {0}) Status) (new : Stage Kept) → RunsNumbered ServesLine (number + 1) rest now ended new → RunsNumbered ServesLine 1 all start ended new) → RunsNumbered ServesLine 1 all start (Ok tt) now
  none_by [] t yields step runs = runs (Ok tt) now (refl, refl)
  none_by (line ∷ more) t yields step runs = absurd (yields.runs.0 t step)

  pub numbers_done : (t : S) → NumbersLeft steps all start now number s → steps s None t → RunsNumbered ServesLine 1 all start (Ok tt) now
  numbers_done t l step = none_by l.rest t l.yields step l.runs
