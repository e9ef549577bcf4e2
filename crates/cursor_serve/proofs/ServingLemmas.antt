-- What is kept of no cursors.
use Rattle.std.proofs.Common.{◌≡◌, ℕ, List, [], Some, None, Option, sym, subst, ap}
use Rattle.std.specs.Prelude.{is_some}
use Rattle.std.specs.FinMap as finite
use Rattle.std.specs.List.{IsDistinct}
use Rattle.outside.specs.Files.{name_order}
use Rattle.cursor_serve.specs.Machine.{Cursor, started}
use Rattle.cursor_serve.specs.ServingStands.{BothKept, StartStands}
use Rattle.cursor_serve.proofs.NumberedLemmas.{starts_numbered}
use Rattle.cursor_serve.proofs.SoundLemmas.{no_cursor, starts_sound}

pub start_stands : StartStands
unfolding IsDistinct
start_stands files texts table lists accepted live none = record {
  accepted = accepted;
  sound = starts_sound lists;
  numbered = starts_numbered lists;
  cursors = λ name. subst (λ (o : Option Cursor). BothKept (started lists) o None) (sym (finite.get-empty name_order name)) tt;
  answered = λ name cursor got. no_cursor name cursor got;
  lists = λ name cursor got. no_cursor name cursor got;
  live = live;
  kept = λ file is. ap is_some (none file is);
  apart = tt;
}
